use denote.Exit.{no}
use denote.Param.{param}
use denote.Param.Send.{arg_send, param_send}
use denote.Param.SendFields.{as_row_send}
use Rattle.std.proofs.Common.{rules, ℕ, ◌<◌, subst, length, slice_index_or}
use Rattle.script_runner.specs.contracts.phase.ClientTurn as turn_type
use Rattle.script_runner.specs.declared.phase.ClientTurn.{ClientTurn}
use Rattle.script_parser.specs.Scripts.{lines_at}
use Rattle.script_runner.specs.Inside.Turns.{IsClientTurn}
use Rattle.script_runner.proofs.Sending.{turn_send}
use Rattle.script_runner.proofs.Turns.{lent, phase, still_one}
use Rattle.script_runner.proofs.phase.run_phase.Goals as goal

pub for_each_mut-requires-clause-accepts : goal.for_each_mut-requires-clause-accepts
for_each_mut-requires-clause-accepts g c b m i p below is = (
  lent c.args.turns.now c.in_ok-sights.sights.items i p.now c.in_ok-sights.ensures.there c.requires.one below is,
  (search rules, search rules, search rules, search rules),
)

pub returns : goal.returns
returns g c =
    let means = g.M.Means.means in
    let old = c.args.turns.now in let new = c.for_each_mut.new.s in let said = c.args.phase.now in
    let sights = c.in_ok-sights.sights.items in
    let turns : (i : ℕ) (d : ClientTurn _) → i < length old
    → IsClientTurn means sights (lines_at said.parts.items i) (slice_index_or old i d).client
    (slice_index_or new i d) = λ i d below.
    let w = (c.for_each_mut.ensures i d below).1 in
    subst (λ x. IsClientTurn means sights (lines_at said.parts.items i) x.client
    (slice_index_or new i d)) w.argument_is
    (subst (λ y. IsClientTurn means sights (lines_at said.parts.items i) w.argument.now.client y) w.left w.call) in
    record {
      phase = λ printed. phase means sights old new said c.in_ok-sights.ensures.seen c.for_each_mut.auto.s
          c.requires.lines turns printed;
      group = still_one means sights old new said c.for_each_mut.auto.s turns;
      count = c.for_each_mut.auto.s;
    }

pub for_each_mut-requires-send-T : goal.for_each_mut-requires-send-T
for_each_mut-requires-send-T g c κs within =
    let M = param 2 g.row.M in
    param_send _ _ (arg_send _ no (turn_type.the_row M g.M.Mutators g.M.Means)
    (as_row_send (turn_type.the_field M g.M.Mutators g.M.Means)
    (turn_send M g.M.Mutators g.M.Means c.type_bounds.send-M c.type_bounds.sync-M)))
