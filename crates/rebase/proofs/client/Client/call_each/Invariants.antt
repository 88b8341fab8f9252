use Rattle.std.proofs.Common.{◌≡◌, ◌≤◌, map, take, length}
use Rattle.rebase.specs.Calls.{AreAnswered, caller_of}
use Rattle.rebase.specs.Clients.{AfterChange}
use Rattle.change_tries.specs.Missing.{map_ok}
use Rattle.rebase.specs.Replies.{reply_seen}
use Rattle.rebase.proofs.client.Client.call_each.Given as goal

abbrev pub invariant-loop-call : goal.invariant-loop-call
invariant-loop-call g l = record {
  answered : AreAnswered g.M.Means.means g.S.Slots.reused l.tries
      (caller_of l.fn.self) l.fn.self.seat (take l.call-index l.calls) (map (map_ok reply_seen) l.replies.items)
      l.self.seat (caller_of l.self);
  acts : AfterChange g.S.Slots.reused l.fn.self l.self;
  room : length l.calls ≤ l.replies.cap;
  count : length l.replies.items ≡ l.call-index;
}
