use Rattle.std.proofs.Common.{◌≡◌, ◌∙◌, ◌-◌, drop, length, subst}
use Rattle.std.specs.Prelude.{replicate}
use Rattle.std.proofs.lemmas.List.{drop-replicate}
use Rattle.group_history.proofs.texts.packed.Packed.new.Goals as goal

pub invariant_of-result-clause-zeros : goal.invariant_of-result-clause-zeros
invariant_of-result-clause-zeros g c =
    subst (λ s. drop (length s) c.copy_in.new.room ≡ replicate (g.row.N - length s) 0) c.as_bytes.ensures.value
    (c.copy_in.ensures.rest ∙ drop-replicate (length c.as_bytes.result.now) g.row.N 0)
