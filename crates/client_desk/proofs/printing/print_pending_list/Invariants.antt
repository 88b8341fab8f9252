use Rattle.std.proofs.Common.{◌≡◌, ◌∷◌, ◌++◌, map, take}
use Rattle.std.specs.List.{join_with_byte}
use Rattle.group_history.specs.declared.mutations.MutationFields.{MutationFields as Mutation}
use Rattle.push_body.specs.Rows.{pending_row}
use Rattle.client_desk.proofs.printing.print_pending_list.Given as goal

abbrev pub invariant-loop-mutation : goal.invariant-loop-mutation
invariant-loop-mutation l = record {
  first : Mutation;
  all : l.fn.pending ≡ first ∷ l.rest;
  written : l.out.items ≡ l.fn.out.items ++ join_with_byte 44 (map pending_row (first ∷ take l.mutation-index l.rest));
}
