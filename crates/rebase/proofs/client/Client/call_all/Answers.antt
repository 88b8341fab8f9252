use Rattle.std.proofs.Common.{map, subst}
use Rattle.head_word.specs.Marks.{Known}
use Rattle.group_history.specs.Record.{after}
use Rattle.head_word.specs.Books.{record_of}
use Rattle.change_tries.specs.Missing.{map_ok}
use Rattle.rebase.specs.Calls.{AreAnswered, AreReplies, Caller, IsAlone, caller_of}
use Rattle.rebase.specs.Replies.{reply_seen}
use Rattle.rebase.proofs.CallLemmas.{alone_replies, caller_stays}
use Rattle.rebase.proofs.client.Client.call_all.Goals as goal

pub returns-clause-answers : goal.returns-clause-answers
returns-clause-answers g c =
    let means = g.M.Means.means in let reused = g.S.Slots.reused in
    let old = c.args.self.now in let rested = c.unpin.new.self in let new = c.call_each.new.self in
    let rs = map (map_ok reply_seen) c.call_each.new.replies.items in let stays = c.unpin.ensures.stays in
    let who = caller_stays old rested stays.0.client stays.1 in (
      rested.seat,
      stays.0.looked,
      c.unpin.ensures.mark,
      subst (λ (d : Caller). AreAnswered means reused c.args.tries d rested.seat c.args.calls.now rs new.seat
          (caller_of new)) who c.call_each.ensures.answers,
    )

pub returns-clause-replies : goal.returns-clause-replies
returns-clause-replies g c alone =
    let means = g.M.Means.means in let reused = g.S.Slots.reused in
    let old = c.args.self.now in let rested = c.unpin.new.self in let new = c.call_each.new.self in
    let rs = map (map_ok reply_seen) c.call_each.new.replies.items in let stays = c.unpin.ensures.stays in
    let who = caller_stays old rested stays.0.client stays.1 in
    let answered = subst (λ (d : Caller). AreAnswered means reused c.args.tries d
    rested.seat c.args.calls.now rs new.seat (caller_of new)) who c.call_each.ensures.answers in
    subst (λ (m : Known). IsAlone m new.seat.mark → AreReplies means (caller_of old) (after (record_of m.log))
    c.args.calls.now rs (after (record_of new.seat.mark.log)) (caller_of new)) c.unpin.ensures.mark
    (alone_replies means reused c.args.tries (caller_of old) rested.seat
    c.args.calls.now rs new.seat (caller_of new) answered) alone
