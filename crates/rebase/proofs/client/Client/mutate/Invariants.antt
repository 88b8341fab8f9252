use Rattle.std.proofs.Common.{◌≡◌, ◌+◌, None, Some}
use Rattle.group_history.specs.declared.changes.Change.TheVariants.{Mutated}
use Rattle.group_history.specs.State.{made}
use Rattle.linearized.specs.Answered.{own_moves}
use Rattle.commit_graph.specs.Seats.{IsSameSeat}
use Rattle.change_tries.specs.Leaving.{FreesAnew}
use Rattle.rebase.specs.Clients.{IsSameClient}
use Rattle.rebase.proofs.client.Client.mutate.Given as goal

-- others were in the way each time
abbrev pub invariant-loop-turn : goal.invariant-loop-turn
invariant-loop-turn g l = record {
  client : IsSameClient l.initial.self l.self;
  last : l.self.last ≡ l.initial.self.last;
  seat : IsSameSeat l.initial.self.seat l.self.seat;
  gave : g.S.Slots.reused → FreesAnew
      (Some (Mutated (made l.initial.self.id (l.initial.self.last + 1) l.name l.args l.time)))
      l.initial.self.seat l.self.seat None;
  own : own_moves l.self.seat.mark ≡ own_moves l.initial.self.seat.mark;
}
