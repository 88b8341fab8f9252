use Rattle.std.proofs.Common.{length, subst, sym}
use Rattle.std.specs.List.{All}
use Rattle.script_runner.specs.Answering.{players_in}
use Rattle.script_runner.specs.Inside.Records.{IsManned}
use Rattle.script_runner.proofs.Gathering.{manned_of}
use Rattle.script_runner.proofs.Steady.{settled_all}
use Rattle.script_runner.proofs.clients.Clients.settle.Goals as goal

pub gather-requires-clause-all : goal.gather-requires-clause-all
gather-requires-clause-all g c b m =
    let self = c.args.self in
    subst (λ ts. All IsManned ts) (sym c.deref_mut.ensures.value)
    (manned_of (length (players_in self)) c.requires.commit self.turns.items c.requires.seated)

pub returns : goal.returns
returns g c =
    settled_all g.M.Means.means c.args.self.turns.items c.deref_mut.result.now c.args.self.seen
    c.deref_mut.ensures.value c.requires c.gather.ensures
