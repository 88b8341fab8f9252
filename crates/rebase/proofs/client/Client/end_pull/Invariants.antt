use Rattle.std.proofs.Common.{◌≡◌, None}
use Rattle.linearized.specs.Answered.{own_moves}
use Rattle.commit_graph.specs.Seats.{HasLooked, IsSameSeat}
use Rattle.pull_patch.specs.Grammar.{answer_to}
use Rattle.rebase.specs.Asking.{change_wanted}
use Rattle.change_tries.specs.Leaving.{FreesAnew}
use Rattle.rebase.specs.Clients.{IsSameClient}
use Rattle.rebase.proofs.client.Client.end_pull.Given as goal

-- others were in the way each time
abbrev pub invariant-loop-turn : goal.invariant-loop-turn
invariant-loop-turn g l = record {
  client : IsSameClient l.initial.self l.self;
  last : l.self.last ≡ l.initial.self.last;
  seat : IsSameSeat l.initial.self.seat l.self.seat;
  gave : g.S.Slots.reused → FreesAnew (change_wanted l.ticket.cookie (answer_to l.body)) l.initial.self.seat l.self.seat
      None;
  own : own_moves l.self.seat.mark ≡ own_moves l.initial.self.seat.mark;
  looked : change_wanted l.ticket.cookie (answer_to l.body) ≡ None
      → HasLooked g.S.Slots.reused l.initial.self.seat l.self.seat;
}
