use Rattle.std.proofs.Common.{◌++◌, ◌∙◌, Err, ap, subst, sym}
use Rattle.std.proofs.lemmas.List.{take-map}
use Rattle.std.proofs.lemmas.Result.{err_from_is_err_and}
use Rattle.std.specs.List.{concat}
use Rattle.script_runner.specs.Phases.{AreWritten}
use Rattle.script_runner.specs.Runs.{IsRunWant}
use Rattle.script_parser.specs.Scripts.{phase_said}
use Rattle.script_runner.specs.Inside.Players.{players_of}
use Rattle.script_runner.specs.Inside.Turns.{turn_texts}
use Rattle.script_runner.proofs.Turns.{appends-kept, appends-twice, phase-more}
use Rattle.script_runner.proofs.runner.run_phases.Goals as goal

pub loop-phase-preserved : goal.loop-phase-preserved
loop-phase-preserved g c =
    let l = c.loop-phase in let so_far = l.invariant.written in let new = c.write_phase.new.turns in
    record {
      written = (
        so_far.0 ++ concat (turn_texts new),
        phase-more g.M.Means.means (players_of c.args.turns.now) (players_of l.turns) (players_of new)
            c.args.phases.now l.phase-index so_far.0 c.phase-item.result (turn_texts new) c.loop-phase-test.true
            c.phase-item.is so_far.1 c.in_ok-write_phase.ensures.phase,
        appends-twice (g.W.Write.contents c.args.out.now) (g.W.Write.contents l.out)
            (g.W.Write.contents c.write_phase.new.out) so_far.0
            (concat (turn_texts new)) so_far.2 c.in_ok-write_phase.ensures.text,
      );
      len = c.write_phase.ensures.count ∙ l.invariant.len;
      one = λ b all. c.write_phase.ensures.group b (l.invariant.one b all);
    }

pub write_phase-requires-clause-one : goal.write_phase-requires-clause-one
write_phase-requires-clause-one g c b m =
    (c.requires.one.0, c.loop-phase.invariant.one c.requires.one.0 c.requires.one.1)

pub returns-in_err-write_phase-clause-want : goal.returns-in_err-write_phase-clause-want
returns-in_err-write_phase-clause-want g c want =
    let l = c.loop-phase in let so_far = l.invariant.written in
    let p = err_from_is_err_and c.from_residual.result c.from_residual.ensures.1 in
    let lacked = subst IsRunWant (p.1 ∙ ap (λ e. Err e) p.2) want in (
      l.phase-index,
      so_far.0,
      players_of l.turns,
      subst (λ w. AreWritten g.M.Means.means (players_of c.args.turns.now) w so_far.0 (players_of l.turns))
          (sym (take-map phase_said l.phase-index c.args.phases.now)) so_far.1,
      appends-kept (g.W.Write.contents c.args.out.now) (g.W.Write.contents l.out)
          (g.W.Write.contents c.write_phase.new.out) so_far.0 so_far.2 (c.in_err-write_phase.ensures.want lacked),
    )

pub returns-in_err-write_phase-clause-group : goal.returns-in_err-write_phase-clause-group
returns-in_err-write_phase-clause-group g c = λ b all. c.write_phase.ensures.group b (c.loop-phase.invariant.one b all)
