use Rattle.std.proofs.Common.{◌≡◌, ◌∷◌, ◌++◌, map, take}
use Rattle.std.specs.List.{join_with_byte}
use Rattle.group_history.specs.Map.{Bytes}
use Rattle.push_body.specs.Rows.{row_text}
use Rattle.client_desk.proofs.printing.print_row_list.Given as goal

abbrev pub invariant-loop-row : goal.invariant-loop-row
invariant-loop-row l = record {
  first : Bytes × Bytes;
  all : l.fn.rows ≡ first ∷ l.rest;
  written : l.out.items ≡ l.fn.out.items ++ join_with_byte 44 (map row_text (first ∷ take l.row-index l.rest));
}
