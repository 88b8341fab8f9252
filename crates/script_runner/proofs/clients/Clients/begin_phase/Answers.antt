use Rattle.std.proofs.Common.{subst, sym}
use Rattle.std.specs.Arc.{arc_value}
use Rattle.script_runner.specs.Inside.Turns.{AreOf}
use Rattle.script_runner.proofs.clients.Clients.begin_phase.Goals as goal

pub invariant_of-self : goal.invariant_of-self
invariant_of-self g c =
    let was = c.args.self.now in
    record {
      of_group = was.of_group;
      seen_there = c.in_ok-self.ensures.there (arc_value was.group)
          (subst (AreOf (arc_value was.group)) (sym c.deref.ensures.value) was.of_group);
      seen_here = was.seen_here;
    }
