use Rattle.std.proofs.Common.{rules, sym, subst}
use Rattle.std.proofs.lemmas.List.Elements.{All-push}
use Rattle.commit_graph.specs.Seats.{IsSeatOf}
use Rattle.rebase.specs.Clients.{AreSeatsOf}
use Rattle.rebase.proofs.seats.Seats.back.Goals as goal

pub returns-clause-free : goal.returns-clause-free
returns-clause-free g c = search rules

pub returns-clause-group : goal.returns-clause-group
returns-clause-group g c group all one =
    subst (AreSeatsOf group) (sym (returns-clause-free g c))
    (All-push (IsSeatOf group) c.args.self.now.free c.args.seat all one)
