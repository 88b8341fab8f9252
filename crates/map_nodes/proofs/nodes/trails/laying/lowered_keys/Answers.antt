use Rattle.std.proofs.Common.{◌∙◌, ap, arith, length, set, subst, sym}
use Rattle.std.specs.Arc.{arc_value}
use Rattle.group_history.specs.Rows.{AreKeys}
use Rattle.map_chunks.proofs.AnswerLemmas.{if_ok_so}
use Rattle.map_nodes.proofs.nodes.trails.laying.lowered_keys.Goals as goal

pub set-requires-clause-within : goal.set-requires-clause-within
set-requires-clause-within c =
    omega (arith, c.requires.filled, ap length (c.make_room.ensures.texts ∙ c.shared-keys.ensures))

pub into_keys-requires : goal.into_keys-requires
into_keys-requires c =
    subst AreKeys (sym (c.set.ensures.texts ∙ ap (λ w. set w 0 c.in_ok-new.field-0) (c.make_room.ensures.texts
    ∙ c.shared-keys.ensures) ∙ ap (set (arc_value c.args.firsts) 0) c.in_ok-new.ensures)) c.requires.keys

pub returns : goal.returns
returns c =
    if_ok_so c.into_keys.result c.into_keys.ensures (λ keys made. made ∙ c.set.ensures.texts
    ∙ ap (λ w. set w 0 c.in_ok-new.field-0) (c.make_room.ensures.texts ∙ c.shared-keys.ensures)
    ∙ ap (set (arc_value c.args.firsts) 0) c.in_ok-new.ensures)
