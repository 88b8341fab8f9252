use Rattle.std.proofs.Common.{◌∙◌, ◌≡◌, arith, ap, length, slice_index_or, subst, sym}
use Rattle.script_runner.specs.Inside.Records.{AreConfirmed}
use Rattle.script_runner.proofs.Gathering.{confirmed_more}
use Rattle.script_runner.proofs.record.confirm_all.Goals as goal

pub loop-i-preserved : goal.loop-i-preserved
loop-i-preserved g c =
    let l = c.loop-i in let turn = slice_index_or l.turns l.i c.index-turns-i.result in record {
      confirmed = confirmed_more c.args.other.now c.args.turns.now l.turns l.i turn c.hear.new.turn
          c.loop-i-test.true c.requires.sits c.requires.all l.invariant.confirmed
          (ap (λ t. slice_index_or l.turns l.i t) c.index-turns-i.is) c.hear.ensures;
    }

pub hear-requires : goal.hear-requires
hear-requires g c =
    let l = c.loop-i in let turn = c.index-turns-i.result in (
      c.type_bounds.sync-M,
      sym (ap (λ t. t.client.place.group) (l.invariant.confirmed.rest l.i turn (omega arith) c.loop-i-test.true)
          ∙ c.requires.group l.i turn c.loop-i-test.true),
    )

pub returns : goal.returns
returns g c =
    let l = c.loop-i in
    let whole : l.i ≡ length c.args.turns.now = omega (l.auto.i-end, c.loop-i-test.false, arith) in
    subst (λ n. AreConfirmed n c.args.other.now c.args.turns.now l.turns) whole l.invariant.confirmed
