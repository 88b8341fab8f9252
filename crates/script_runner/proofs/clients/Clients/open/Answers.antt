use Rattle.std.proofs.Common.{ap, map, ◌∙◌, length, subst, sym}
use Rattle.std.specs.Arc.{arc_value}
use Rattle.script_parser.specs.Scripts.{client_said}
use Rattle.script_runner.specs.Inside.Turns.{AreOf}
use Rattle.script_runner.proofs.Grouping.{are_of}
use Rattle.script_runner.proofs.Openings.{all_opened, enough_in, seated_on}
use Rattle.script_runner.proofs.clients.Clients.open.Goals as goal

pub invariant_of-result : goal.invariant_of-result
invariant_of-result g c =
    let group = arc_value c.in-Ok.group in let free = c.in-Ok.seats.free in let turns = c.in_ok-turns.turns.items in
    let new = seated_on g.M.Means.means group c.args.header.now free turns c.in-Ok.ensures.free c.in-Ok.ensures.opening
    c.in_ok-turns.ensures.new in
    let of = are_of g.M.Means.means group (length free) c.in-Ok.ensures.opening.0 turns new in
    record {
      of_group = of;
      seen_there = c.in_ok-sights.ensures.there group (subst (AreOf group) (sym c.deref-2.ensures.value) of);
      seen_here = λ known is. absurd (cc is);
    }

pub returns-clause-new : goal.returns-clause-new
returns-clause-new g c =
    all_opened g.M.Means.means (arc_value c.in-Ok.group) c.args.header.now c.in-Ok.seats.free
    c.in_ok-turns.turns.items c.in-Ok.ensures.identity c.in-Ok.ensures.free c.in-Ok.ensures.opening
    (c.in_ok-turns.ensures.lines ∙ ap (map client_said) c.deref.ensures.value) c.in_ok-turns.ensures.new

pub open_clients-requires-clause-free : goal.open_clients-requires-clause-free
open_clients-requires-clause-free g c κs within =
    enough_in c.args.header.now c.in-Ok.seats.free c.deref.result.now c.deref.ensures.value c.in-Ok.ensures.free
