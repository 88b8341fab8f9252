use Rattle.std.proofs.Common.{◌∙◌, ap, map}
use Rattle.std.specs.Arc.{arc_value}
use Rattle.script_parser.specs.Scripts.{client_said}
use Rattle.script_runner.proofs.Openings.{all_opened, enough_in}
use Rattle.script_runner.proofs.runner.open_script.Goals as goal

pub returns-clause-new : goal.returns-clause-new
returns-clause-new g c =
    all_opened g.M.Means.means (arc_value c.in_ok-group.group) c.args.header.now c.in_ok-group.seats.free
    c.in_ok-turns.turns.items c.in_ok-group.ensures.identity c.in_ok-group.ensures.free c.in_ok-group.ensures.opening
    (c.in_ok-turns.ensures.lines ∙ ap (map client_said) c.deref.ensures.value) c.in_ok-turns.ensures.new

pub open_clients-requires-clause-free : goal.open_clients-requires-clause-free
open_clients-requires-clause-free g c κs within =
    enough_in c.args.header.now c.in_ok-group.seats.free c.deref.result.now c.deref.ensures.value
    c.in_ok-group.ensures.free
