use Rattle.std.proofs.Common.{subst, sym}
use Rattle.std.specs.Prelude.{vec_len}
use Rattle.rebase.specs.Clients.{Grouped}
use Rattle.script_runner.specs.Runs.{seats_for}
use Rattle.script_runner.specs.Inside.Players.{AreLeftOf}
use Rattle.script_runner.proofs.runner.open_group.Goals as goal

pub returns-clause-opening : goal.returns-clause-opening
returns-clause-opening g c =
    let o = c.in-Ok.ensures.opening in let free = c.in-Ok.seats.free in (
      o.commit,
      subst (λ (h : Grouped). AreLeftOf h (seats_for (vec_len c.args.header.now.clients)) o.commit free)
          (sym c.in_ok-group.ensures.ok)
          (subst (λ n. AreLeftOf c.in-Ok.group n o.commit free) c.in_ok-config.ensures.seats o.marks),
    )
