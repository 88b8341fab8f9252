use Rattle.std.proofs.Common.{◌∙◌, Ok, Some, ap, refl, subst, sym}
use Rattle.group_history.specs.declared.changes.Change.TheVariants.{Mutated}
use Rattle.group_history.specs.State.{State, last_id}
use Rattle.push_body.specs.Bodies.{push_text}
use Rattle.pull_patch.specs.Grammar.{answer_to}
use Rattle.linearized.specs.Answered.{no_change}
use Rattle.linearized.specs.Changes.{change_made, change_read}
use Rattle.rebase.specs.Asking.{change_wanted}
use Rattle.rebase.specs.Calls.{asked_mutation, caller_of, change_for, change_of, ended_in, id_in}
use Rattle.rebase.specs.declared.calls.Call.{Call}
use Rattle.change_tries.specs.Leaving.{Frees, spared}
use Rattle.change_tries.specs.Missing.{map_ok}
use Rattle.rebase.specs.Queries.{asked, asked_at}
use Rattle.rebase.specs.Replies.{body, ended, id, reply_seen, ticket}
use Rattle.rebase.specs.declared.calls.Call.TheVariants as call
use Rattle.rebase.specs.declared.calls.CallReply.TheVariants as reply
use Rattle.rebase.proofs.CallLemmas.{call_told, ended_shown, ended_told, id_shown, mapped, mutated_told, query_told}
use Rattle.rebase.proofs.Causing.{frees_told, spared_told}
use Rattle.rebase.proofs.client.Client.make_call.Goals as goal

pub returns-in-Mutate-clause-answer : goal.returns-in-Mutate-clause-answer
returns-in-Mutate-clause-answer g c =
    let old = c.args.self.now in
    mutated_told g.M.Means.means c.args.tries old.seat.mark c.try_mutate.new.self.seat.mark
    (caller_of old) c.args.call c.in-Mutate.m c.try_mutate.result
    (map_ok reply_seen c.map-in-Mutate.result) c.in-Mutate.is
    (mapped reply.Id id c.try_mutate.result c.map-in-Mutate.result (λ n. refl) c.map-in-Mutate.ensures.cases)
    c.try_mutate.ensures.answer

pub returns-in-EndPull-clause-answer : goal.returns-in-EndPull-clause-answer
returns-in-EndPull-clause-answer g c =
    let old = c.args.self.now in
    ended_told g.M.Means.means c.args.tries old.seat.mark c.try_end_pull.new.self.seat.mark
    (caller_of old) c.args.call c.in-EndPull.ticket c.in-EndPull.body
    c.try_end_pull.result (map_ok reply_seen c.map-in-EndPull.result) c.in-EndPull.is
    (mapped reply.Ended ended c.try_end_pull.result c.map-in-EndPull.result (λ e. refl) c.map-in-EndPull.ensures.cases)
    c.try_end_pull.ensures.answer

pub returns-in-Mutate-clause-frees : goal.returns-in-Mutate-clause-frees
returns-in-Mutate-clause-frees g c changing r =
    let old = c.args.self.now in let new = c.try_mutate.new.self in let x = asked_mutation
    (caller_of old) c.in-Mutate.m in
    let told = mapped reply.Id id c.try_mutate.result c.map-in-Mutate.result
    (λ n. refl) c.map-in-Mutate.ensures.cases in
    subst (λ n. Frees (change_for (caller_of old) c.args.call) n old.seat new.seat
    (change_of (caller_of old) c.args.call (map_ok reply_seen c.map-in-Mutate.result)))
    (spared_told reply_seen c.map-in-Mutate.result)
    (subst (λ (z : Call). Frees (change_for (caller_of old) z) (spared (map_ok reply_seen c.map-in-Mutate.result))
    old.seat
    new.seat (change_of (caller_of old) z (map_ok reply_seen c.map-in-Mutate.result))) (sym c.in-Mutate.is)
    (frees_told id (Some (Mutated x)) old.seat new.seat c.try_mutate.result (map_ok reply_seen c.map-in-Mutate.result)
    (change_made x c.try_mutate.result) (change_made x (map_ok id_in (map_ok reply_seen c.map-in-Mutate.result))) told
    (ap (change_made x) (sym (ap (map_ok id_in) told ∙ id_shown c.try_mutate.result))) (c.try_mutate.ensures.frees r)))

pub returns-in-EndPull-clause-frees : goal.returns-in-EndPull-clause-frees
returns-in-EndPull-clause-frees g c changing r =
    let old = c.args.self.now in let new = c.try_end_pull.new.self in
    let k = c.in-EndPull.ticket.now.cookie in let a = answer_to c.in-EndPull.body.now in
    let told = mapped reply.Ended ended c.try_end_pull.result c.map-in-EndPull.result (λ e. refl)
    c.map-in-EndPull.ensures.cases in
    subst (λ n. Frees (change_for (caller_of old) c.args.call) n old.seat new.seat
    (change_of (caller_of old) c.args.call (map_ok reply_seen c.map-in-EndPull.result)))
    (spared_told reply_seen c.map-in-EndPull.result)
    (subst (λ (z : Call). Frees (change_for (caller_of old) z) (spared (map_ok reply_seen c.map-in-EndPull.result))
    old.seat
    new.seat (change_of (caller_of old) z (map_ok reply_seen c.map-in-EndPull.result))) (sym c.in-EndPull.is)
    (frees_told ended (change_wanted k a) old.seat new.seat c.try_end_pull.result
    (map_ok reply_seen c.map-in-EndPull.result) (change_read k a c.try_end_pull.result)
    (change_read k a (map_ok ended_in (map_ok reply_seen c.map-in-EndPull.result))) told
    (ap (change_read k a) (sym (ap (map_ok ended_in) told ∙ ended_shown c.try_end_pull.result)))
    (c.try_end_pull.ensures.frees r)))

pub returns-in-Refresh-clause-answer : goal.returns-in-Refresh-clause-answer
returns-in-Refresh-clause-answer g c =
    let old = c.args.self.now in
    call_told id g.M.Means.means c.args.tries old.seat.mark c.refresh.new.self.seat.mark
    (caller_of old) c.args.call call.Refresh c.refresh.result
    (map_ok reply_seen c.map.result) no_change (λ (s : State). Ok (last_id s old.id)) c.in-Refresh.is
    (mapped reply.Id id c.refresh.result c.map.result (λ n. refl) c.map.ensures.cases) refl (λ s. refl)
    c.refresh.ensures.answer

pub returns-in-PushBody-clause-answer : goal.returns-in-PushBody-clause-answer
returns-in-PushBody-clause-answer g c =
    let old = c.args.self.now in
    query_told reply.Body (λ b. b.items) body g.M.Means.means c.args.tries old.seat.mark c.push_body.new.self.seat.mark
    (caller_of old) c.args.call call.PushBody c.push_body.result
    c.map-in-PushBody.result (λ s. push_text old.group.identity s.pending) c.in-PushBody.is (λ b. refl)
    c.map-in-PushBody.ensures.cases refl (λ s. refl) c.push_body.ensures.answer

pub returns-in-BeginPull-clause-answer : goal.returns-in-BeginPull-clause-answer
returns-in-BeginPull-clause-answer g c =
    let old = c.args.self.now in
    query_told reply.Ticket asked ticket g.M.Means.means c.args.tries old.seat.mark c.begin_pull.new.self.seat.mark
    (caller_of old) c.args.call call.BeginPull c.begin_pull.result
    c.map-in-BeginPull.result (λ s. asked_at old.group.identity s) c.in-BeginPull.is (λ t. refl)
    c.map-in-BeginPull.ensures.cases refl (λ s. refl) c.begin_pull.ensures.answer
