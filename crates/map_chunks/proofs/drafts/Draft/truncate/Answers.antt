use Rattle.std.proofs.Common.{◌≤◌, length, sym, subst}
use Rattle.map_chunks.specs.Drafts.{AreChildrenBelow, longest}
use Rattle.map_chunks.proofs.DraftLemmas.{ordered-take, few-take}
use Rattle.map_chunks.proofs.drafts.Draft.truncate.Goals as goal

pub invariant_of-self : goal.invariant_of-self
invariant_of-self c = (
  subst (AreChildrenBelow c.self.inside.first) (sym c.truncate.ensures.items)
      (ordered-take c.self.inside.first c.args.len c.self.inside.nodes.items c.self.invariant.0),
  subst (λ l. length l ≤ longest) (sym c.truncate.ensures.items)
      (few-take c.args.len c.self.inside.nodes.items c.self.invariant.1),
)
