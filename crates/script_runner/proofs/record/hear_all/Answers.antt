use Rattle.std.proofs.Common.{◌∙◌, ap, arith, subst, sym, take}
use Rattle.std.proofs.lemmas.List.{take_all}
use Rattle.std.specs.List.{All}
use Rattle.script_runner.specs.Inside.Records.{HasSeen, IsSitting}
use Rattle.script_runner.proofs.Gathering.{heard, still_covers, unlearnt}
use Rattle.script_runner.proofs.Turns.{all-more}
use Rattle.script_runner.proofs.record.hear_all.Goals as goal

pub loop-other-init : goal.loop-other-init
loop-other-init g c = record {
  learnt = unlearnt c.args.turn.now c.requires.sits;
  seen = λ k d below. absurd (omega (below, arith));
}

pub loop-other-preserved : goal.loop-other-preserved
loop-other-preserved g c =
    let l = c.loop-other in
    let sits = subst IsSitting (sym c.other-item.is)
    (c.requires.all l.other-index c.other-item.result c.loop-other-test.true) in
    let h = heard c.args.turn.now l.turn c.hear.new.turn c.other-item.result l.invariant.learnt sits c.hear.ensures in
    record {
      learnt = h.0;
      seen = all-more (HasSeen c.hear.new.turn) c.args.others.now l.other-index c.other-item.result
          c.loop-other-test.true
          c.other-item.is (still_covers l.turn c.hear.new.turn (take l.other-index c.args.others.now) h.1
          l.invariant.seen)
          h.2;
    }

pub hear-requires : goal.hear-requires
hear-requires g c = (
  c.type_bounds.sync-M,
  ap (λ t. t.client.place.group) c.other-item.is ∙ c.requires.group c.loop-other.other-index c.other-item.result
      c.loop-other-test.true ∙ sym c.loop-other.invariant.learnt.group,
)

pub returns-clause-seen : goal.returns-clause-seen
returns-clause-seen g c =
    subst (λ ts. All (HasSeen c.loop-other.turn) ts)
    (take_all c.loop-other.other-index c.args.others.now c.loop-other-test.false) c.loop-other.invariant.seen
