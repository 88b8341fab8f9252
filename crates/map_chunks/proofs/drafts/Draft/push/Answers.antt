use Rattle.std.proofs.Common.{◌∙◌, ◌+◌, ◌++◌, ◌∷◌, [], ap, length, sym, subst}
use Rattle.group_history.specs.Naming.{children}
use Rattle.map_chunks.specs.Drafts.{Drafted, AreBelow, AreChildrenBelow}
use Rattle.map_chunks.proofs.DraftLemmas.{ordered-more, few-more}
use Rattle.map_chunks.proofs.drafts.Draft.push.Goals as goal

pub invariant_of-self-2 : goal.invariant_of-self-2
invariant_of-self-2 c =
    let room = subst (λ (d : Drafted). AreBelow (d.first + length d.nodes) (children c.args.node))
    (sym c.self.view_is) c.requires.children in
    let kept = c.in_ok-push.ensures.items ∙ ap (λ w. w ++ (c.args.node ∷ [])) c.make_room.ensures in (
      subst (AreChildrenBelow c.self.inside.first) (sym kept)
          (ordered-more c.self.inside.first c.self.inside.nodes.items c.args.node c.self.invariant.0 room),
      few-more c.self.inside.nodes.items c.push.new.self.items c.args.node c.len.result c.self.invariant.1
          (c.len.ensures ∙ sym (ap (λ (d : Drafted). length d.nodes) c.self.view_is)) c.if-len-eq-LONGEST.false kept,
    )
