use Rattle.std.proofs.Common.{◌≡◌, ap, arith, length, slice_index_or, subst}
use Rattle.script_runner.specs.Inside.Records.{HaveReadThrough}
use Rattle.script_runner.proofs.Closing.{manned_at, through_more}
use Rattle.script_runner.proofs.record.read_all_through.Goals as goal

pub loop-i-preserved : goal.loop-i-preserved
loop-i-preserved g c =
    let l = c.loop-i in let turn = slice_index_or l.turns l.i c.index-turns-i.result in record {
      through = through_more c.args.turns.now l.turns l.i turn c.read_through.new.turn c.loop-i-test.true
          l.invariant.through (ap (λ t. slice_index_or l.turns l.i t) c.index-turns-i.is) c.read_through.ensures;
    }

pub read_through-requires : goal.read_through-requires
read_through-requires g c =
    let l = c.loop-i in let turn = slice_index_or l.turns l.i c.index-turns-i.result in (
      c.type_bounds.sync-M,
      manned_at c.args.turns.now l.turns l.i turn c.loop-i-test.true c.requires l.invariant.through
          (ap (λ t. slice_index_or l.turns l.i t) c.index-turns-i.is),
    )

pub returns : goal.returns
returns g c =
    let l = c.loop-i in
    let whole : l.i ≡ length c.args.turns.now = omega (l.auto.i-end, c.loop-i-test.false, arith) in
    subst (λ n. HaveReadThrough n c.args.turns.now l.turns) whole l.invariant.through
