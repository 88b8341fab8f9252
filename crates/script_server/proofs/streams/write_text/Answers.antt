use Rattle.std.proofs.Common.{take}
use Rattle.script_server.proofs.Served.{appends_kept, on_err, some_on, some_written, within_on}
use Rattle.script_server.proofs.streams.write_text.Goals as goal

pub loop-preserved : goal.loop-preserved
loop-preserved g c =
    let l = c.loop in let text = c.args.text.now in
    record {
      within = within_on text l.done c.in_ok-done.field-0 l.invariant.within c.in_ok-done.ensures.within;
      written = some_on (g.W.Write.contents c.args.out.now) (g.W.Write.contents l.out)
          (g.W.Write.contents c.write_some.new.out) text l.done c.in_ok-done.field-0 l.invariant.written
          c.in_ok-done.ensures.some;
    }

pub returns-in_err-done-clause-cut : goal.returns-in_err-done-clause-cut
returns-in_err-done-clause-cut g c =
    let old = g.W.Write.contents c.args.out.now in let l = c.loop in
    on_err c.from_residual.result (some_written old (g.W.Write.contents c.write_some.new.out) c.args.text.now l.done
    (appends_kept old (g.W.Write.contents l.out) (g.W.Write.contents c.write_some.new.out) (take l.done c.args.text.now)
    l.invariant.written c.in_err-done.ensures.none))

pub returns-clause-cut : goal.returns-clause-cut
returns-clause-cut g c =
    some_written (g.W.Write.contents c.args.out.now) (g.W.Write.contents c.loop.out) c.args.text.now c.loop.done
    c.loop.invariant.written
