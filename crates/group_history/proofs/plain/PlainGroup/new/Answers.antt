use Rattle.group_history.proofs.IdLemmas.{new_kept}
use Rattle.group_history.proofs.plain.PlainGroup.new.Goals as goal

pub invariant_of-result : goal.invariant_of-result
invariant_of-result g c = new_kept _ _ _ _ _ c.new-4.ensures c.new.ensures c.new-2.ensures c.new-3.ensures.items
