use Rattle.std.proofs.Common.{◌∙◌, Err, OnOk, ap, length, subst, sym}
use Rattle.std.proofs.lemmas.Result.{err_from_is_err_and}
use Rattle.script_runner.specs.Runs.{BlamesNoScript, HasPlayed, IsRunWant, seats_for}
use Rattle.script_runner.specs.Inside.Players.{players_of}
use Rattle.script_runner.proofs.Gathering.{manned_of}
use Rattle.script_runner.proofs.Openings.{closed_seated, enough, has_run, has_stopped, of_one, one_found}
use Rattle.script_runner.proofs.runner.run_shared.Goals as goal

pub run_phases-requires-clause-lines : goal.run_phases-requires-clause-lines
run_phases-requires-clause-lines g c b m =
    enough c.in_ok-turns.turns.items c.args.script.now c.in_ok-turns.ensures.new c.deref_mut-turns.result.now
    c.deref.result.now c.deref_mut-turns.ensures.value c.deref.ensures.value c.requires

pub run_phases-requires-clause-one : goal.run_phases-requires-clause-one
run_phases-requires-clause-one g c b m =
    of_one c.in_ok-turns.turns.items c.args.script.now c.in_ok-turns.ensures.new c.deref_mut-turns.result.now
    c.deref_mut-turns.ensures.value

pub gather-requires-clause-one : goal.gather-requires-clause-one
gather-requires-clause-one g c κs =
    let one = of_one c.in_ok-turns.turns.items c.args.script.now c.in_ok-turns.ensures.new c.deref_mut-turns.result.now
    c.deref_mut-turns.ensures.value in
    (one.0, c.in_ok-run_phases.ensures.group one.0 one.1)

pub gather-requires-clause-all : goal.gather-requires-clause-all
gather-requires-clause-all g c κs =
    let turns = c.in_ok-turns.turns.items in let new = c.in_ok-turns.ensures.new in
    manned_of (seats_for (length (players_of turns))) new.commit c.run_phases.new.turns
    (closed_seated turns c.args.script.now new c.deref_mut-turns.result.now c.run_phases.new.turns
    c.deref.result.now _ _
    c.deref_mut-turns.ensures.value c.in_ok-run_phases.ensures.written)

pub returns-in_err-run_phases : goal.returns-in_err-run_phases
returns-in_err-run_phases g c =
    let turns = c.in_ok-turns.turns.items in let script = c.args.script.now in let new = c.in_ok-turns.ensures.new in
    let from = c.from_residual-in_err-run_phases in let p = err_from_is_err_and from.result from.ensures.1 in
    let same = p.1 ∙ ap (λ e. Err e) p.2 in
    record {
      written = λ said is. subst (λ r. OnOk r (HasPlayed said (g.W.Write.contents c.args.out.now)
          (g.W.Write.contents c.run_phases.new.out))) (sym same) tt;
      want = λ said is want. has_stopped turns script new c.deref_mut-turns.result.now c.deref.result.now said _ _
          c.deref_mut-turns.ensures.value c.deref.ensures.value is
          (c.in_err-run_phases.ensures.want (subst IsRunWant same want));
      fault = subst BlamesNoScript (sym same) c.in_err-run_phases.ensures.fault;
    }

pub returns : goal.returns
returns g c =
    let turns = c.in_ok-turns.turns.items in let script = c.args.script.now in let new = c.in_ok-turns.ensures.new in
    let slice = c.deref_mut-turns.result.now in let phases = c.deref.result.now in let closed =
    c.run_phases.new.turns in
    let ran = c.in_ok-run_phases.ensures.written in record {
      written = λ said is. has_run turns script new slice phases (players_of closed) said _ _
          c.deref_mut-turns.ensures.value
          c.deref.ensures.value is ran
          (one_found turns script new slice closed phases _ _ c.deref_mut-turns.ensures.value ran c.gather.ensures);
      want = λ said is want. absurd want;
      fault = tt;
    }
