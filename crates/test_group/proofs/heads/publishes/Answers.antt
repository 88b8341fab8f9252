use Rattle.std.proofs.Common.{◌<◌, sym, subst}
use Rattle.group_history.specs.Refs.{stamp_of}
use Rattle.group_history.specs.declared.changes.Change.{Change}
use Rattle.head_word.specs.Books.{drawn, IsChangeFrom}
use Rattle.test_group.specs.Trials.{no_mutators}
use Rattle.test_group.proofs.FirstPulls.{bare_follows}
use Rattle.test_group.proofs.heads.publishes.Goals as goal

pub publish-requires-clause-follows : goal.publish-requires-clause-follows
publish-requires-clause-follows c =
    subst (λ (w : Change). IsChangeFrom no_mutators (drawn c.args.mark.now.log) c.new.result c.args.new w)
    (sym c.in_ok-change.ensures.change)
    (bare_follows c.args.mark.now.log c.args.cookie.now c.new.result c.args.new c.legal.ensures.opened.1
    c.new.ensures.stamp (subst (λ k. k < stamp_of c.args.new) (sym c.new.ensures.stamp) c.requires.later)
    c.in_ok-change.ensures.above c.requires.drawn)
