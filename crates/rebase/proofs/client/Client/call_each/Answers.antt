use Rattle.std.proofs.Common.{◌+◌, ℕ, arith, is_ok, sym, subst, ap, ◌∙◌, length, map, take, ◌∷◌, [], length-append}
use Rattle.map_chunks.proofs.ListLemmas.{succeeded}
use Rattle.commit_graph.proofs.Seating.{seat-trans}
use Rattle.change_tries.specs.Missing.{map_ok}
use Rattle.change_tries.specs.Leaving.{Frees}
use Rattle.rebase.specs.Calls.{AreAnswered, Caller, IsMade, caller_of, change_for, change_of}
use Rattle.rebase.specs.Replies.{reply_seen}
use Rattle.rebase.proofs.CallLemmas.{caller_moves, turn, why_told}
use Rattle.rebase.proofs.Causing.{spared_told}
use Rattle.rebase.proofs.client.Client.call_each.Goals as goal

pub loop-call-preserved : goal.loop-call-preserved
loop-call-preserved g c =
    let means = g.M.Means.means in let reused = g.S.Slots.reused in
    let l = c.loop-call in let old = c.args.self.now in let mid = l.self in
    let new = c.make_call-reply.new.self in
    let reply = map_ok reply_seen c.make_call-reply.result in
    let e = c.make_call-reply.ensures in let i = l.invariant in
    let n = succeeded (is_ok c.push.result) _ _ _
    (c.push.ensures.succeeds (omega (arith, i.room, i.count, l.replies.ok.0, c.loop-call-test.true)))
    c.push.ensures.items in
    let made : IsMade means reused c.args.tries (caller_of mid) c.call-item.result reply mid.seat new.seat = record {
      seat = e.acts.seat;
      answer = e.answer;
      refused = λ reading. why_told reply_seen _ c.make_call-reply.result (e.err reading);
      looked = λ reading. (e.looks reading).looked;
      cause = why_told reply_seen _ c.make_call-reply.result e.cause;
      frees = λ changing r. subst (λ (n : ℕ). Frees (change_for (caller_of mid) c.call-item.result) n mid.seat new.seat
          (change_of (caller_of mid) c.call-item.result reply)) (sym (spared_told reply_seen c.make_call-reply.result))
          (e.frees changing r);
    } in
    record {
      answered = subst (λ (d : Caller). AreAnswered means reused c.args.tries (caller_of old) old.seat
          (take (l.call-index + 1) c.args.calls.now) (map (map_ok reply_seen) c.push.new.self.items) new.seat d)
          (caller_moves mid new reply e.acts.client e.last)
          (turn means reused c.args.tries (caller_of old) (caller_of mid) old.seat mid.seat new.seat
          c.args.calls.now l.call-index c.call-item.result l.replies.items c.push.new.self.items
          c.make_call-reply.result c.loop-call-test.true c.call-item.is i.answered made n);
      acts = record {
        client = (e.acts.client.0 ∙ i.acts.client.0, e.acts.client.1 ∙ i.acts.client.1);
        seat = seat-trans old.seat mid.seat new.seat i.acts.seat e.acts.seat;
        rests = e.acts.rests;
      };
      room = omega (arith, i.room, c.push.ensures.capacity);
      count = omega (
        arith,
        i.count,
        ap length n,
        length-append l.replies.items (c.make_call-reply.result ∷ []),
      );
    }
