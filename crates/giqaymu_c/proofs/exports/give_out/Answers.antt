use Rattle.std.proofs.Common.{◌-◌, ◌+◌, inr, length, sym, subst, ◌∙◌, arith}
use Rattle.std.specs.Prelude.{slice_set}
use Rattle.std.proofs.lemmas.List.{length-set}
use Rattle.giqaymu_c.specs.Exports.{AreNewHandles}
use Rattle.giqaymu_c.proofs.Giving.{gave_next, gave_none, more_new, still_new}
use Rattle.giqaymu_c.proofs.exports.give_out.Goals as goal

pub loop-at-preserved : goal.loop-at-preserved
loop-at-preserved c = record {
  count = length-set c.loop-at.places c.loop-at.at c.put.new.place ∙ c.loop-at.invariant.count;
  given = λ group commit terms is.
      let was = c.loop-at.invariant.given group commit terms is in
      let left = length c.args.places.now - c.loop-at.at in
      let did = c.act-next.ensures in
      let both = gave_next group commit terms left c.loop-at.first c.act-next.result.0 c.act-next.result.1
      c.act-next.result.2 (omega (arith, c.loop-at-test.true, c.loop-at.invariant.count)) was.0 did.0
      did.1 did.2 c.if-reply-ne0.false in (
        still_new group commit terms (left - 1) (length c.args.places.now - (c.loop-at.at + 1)) c.act-next.result.0
            (omega arith) both.0,
        subst (λ h. AreNewHandles group commit terms (c.loop-at.at + 1) (slice_set c.loop-at.places c.loop-at.at h))
            (sym c.put.ensures) (more_new group commit terms c.loop-at.at c.loop-at.places c.act-next.result.1
            (omega (arith, c.loop-at-test.true, c.loop-at.invariant.count)) was.1 both.1),
      );
}

pub returns-then-reply-ne0-clause-given : goal.returns-then-reply-ne0-clause-given
returns-then-reply-ne0-clause-given c = λ group commit terms is.
    let was = c.loop-at.invariant.given group commit terms is in
    let left = length c.args.places.now - c.loop-at.at in
    let did = c.act-next.ensures in
    inr (gave_none group commit terms left c.loop-at.first c.act-next.result.0 c.act-next.result.1 c.act-next.result.2
    (omega (arith, c.loop-at-test.true, c.loop-at.invariant.count)) was.0 did.0 did.1 did.2
    c.if-reply-ne0.true)
