use Rattle.std.proofs.Common.{◌≡◌, ◌∷◌, ◌++◌, map, take}
use Rattle.std.specs.List.{join_with_byte}
use Rattle.row_changes.specs.declared.changes.RowChange.{RowChange}
use Rattle.row_changes.specs.Texts.{change_text}
use Rattle.row_changes.proofs.printing.print_change_list.Given as goal

abbrev pub invariant-loop-change : goal.invariant-loop-change
invariant-loop-change l = record {
  first : RowChange;
  all : l.fn.changes ≡ first ∷ l.rest;
  written : l.out.items ≡ l.fn.out.items ++ join_with_byte 44 (map change_text (first ∷ take l.change-index l.rest));
}
