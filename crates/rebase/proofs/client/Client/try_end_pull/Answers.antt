use Rattle.std.proofs.Common.{◌≡◌, None, Option, Result, Ok, Err, sym, ap, subst, ◌∙◌}
use Rattle.std.specs.Prelude.{IfErr}
use Rattle.group_history.specs.declared.changes.Change.{Change}
use Rattle.group_history.specs.declared.refusals.Refusal.{Refusal}
use Rattle.group_history.specs.declared.responses.Ended.{Ended}
use Rattle.group_history.specs.declared.responses.Response.{Response}
use Rattle.group_history.specs.declared.responses.Response.TheVariants as response
use Rattle.group_history.specs.Answers.{◌>>=◌}
use Rattle.group_history.specs.Pulling.{end_reply}
use Rattle.pull_patch.specs.Grammar.{answer_to}
use Rattle.linearized.specs.Answered.{IsLinearized}
use Rattle.linearized.specs.Changes.{change_read}
use Rattle.head_word.specs.Marks.{Known}
use Rattle.change_tries.specs.Causes.{HasCause}
use Rattle.change_tries.specs.Leaving.{Frees, spared}
use Rattle.rebase.specs.Asking.{change_wanted, end_bytes_reply}
use Rattle.rebase.proofs.Causing.{frees_none}
use Rattle.rebase.proofs.Unread.{unread, unread_cause, unread_changes}
use Rattle.rebase.proofs.client.Client.try_end_pull.Goals as goal

pub returns-in-Err-clause-answer : goal.returns-in-Err-clause-answer
returns-in-Err-clause-answer g c =
    let means = g.M.Means.means in let old = c.args.self.now.seat.mark in let k = c.args.ticket.now.cookie in
    let body = c.args.body.now in
    subst (λ (r : Result Ended Refusal). IsLinearized means c.args.tries old c.refuse.new.self.seat.mark r
    (change_read k (answer_to body)) (λ s. end_bytes_reply s k.text body)) (sym c.refuse.ensures.err)
    (subst (λ (m : Known). IsLinearized means c.args.tries old m (Err c.in-Err.e) (change_read k (answer_to body))
    (λ s. end_bytes_reply s k.text body)) (sym c.refuse.ensures.mark)
    (unread means c.args.tries old k body c.in-Err.e c.in-Err.ensures.legal c.in-Err.ensures.read))

pub returns-in-StateNotFound-clause-answer : goal.returns-in-StateNotFound-clause-answer
returns-in-StateNotFound-clause-answer g c =
    let k = c.args.ticket.now.cookie in
    let read : answer_to c.args.body.now ≡ Ok response.StateNotFound = c.in-Ok.ensures.read
    ∙ ap Ok c.in-StateNotFound.is in
    subst (λ (a : Result Response Refusal). IsLinearized g.M.Means.means c.args.tries c.args.self.now.seat.mark
    c.end_unknown.new.self.seat.mark c.end_unknown.result (λ (reply : Result Ended Refusal). change_read k a reply)
    (λ s. a >>= end_reply s k.text))
    (sym read) (c.end_unknown.ensures.answer k.text)

pub returns-in-VersionNotSupported-clause-answer : goal.returns-in-VersionNotSupported-clause-answer
returns-in-VersionNotSupported-clause-answer g c =
    let k = c.args.ticket.now.cookie in
    let read : answer_to c.args.body.now ≡ Ok
    (response.VersionNotSupported c.in-VersionNotSupported.kind) = c.in-Ok.ensures.read ∙ ap Ok
    c.in-VersionNotSupported.is in
    subst (λ (a : Result Response Refusal). IsLinearized g.M.Means.means c.args.tries c.args.self.now.seat.mark
    c.end_unsupported.new.self.seat.mark c.end_unsupported.result
    (λ (reply : Result Ended Refusal). change_read k a reply) (λ s. a >>= end_reply s k.text))
    (sym read) (c.end_unsupported.ensures.answer k.text)

pub returns-in-Err-clause-cause : goal.returns-in-Err-clause-cause
returns-in-Err-clause-cause g c =
    let means = g.M.Means.means in let reused = g.S.Slots.reused in let old = c.args.self.now in
    let new = c.refuse.new.self in
    let asked = change_wanted c.args.ticket.now.cookie (answer_to c.args.body.now) in
    subst (λ (r : Result Ended Refusal). IfErr r (HasCause means reused old.last asked old.seat new.seat))
    (sym c.refuse.ensures.err)
    (unread_cause means reused old.last asked old.seat new.seat c.args.body.now c.in-Err.e c.in-Err.ensures.read)

pub returns-in-Ok-response-clause-frees : goal.returns-in-Ok-response-clause-frees
returns-in-Ok-response-clause-frees g c r =
    let k = c.args.ticket.now.cookie in let reply = c.end_applied.result in
    let read = c.in-Ok.ensures.read ∙ ap Ok c.in-Ok-response.is in
    subst (λ (a : Result Response Refusal). Frees (change_wanted k a) (spared reply) c.args.self.now.seat
    c.end_applied.new.self.seat (change_read k a reply)) (sym read) (c.end_applied.ensures.frees r)

pub returns-in-StateNotFound-clause-frees : goal.returns-in-StateNotFound-clause-frees
returns-in-StateNotFound-clause-frees g c r =
    let k = c.args.ticket.now.cookie in let reply = c.end_unknown.result in
    let read = c.in-Ok.ensures.read ∙ ap Ok c.in-StateNotFound.is in
    subst (λ (a : Result Response Refusal). Frees (change_wanted k a) (spared reply) c.args.self.now.seat
    c.end_unknown.new.self.seat (change_read k a reply)) (sym read) (c.end_unknown.ensures.frees r)

pub returns-in-Err-clause-frees : goal.returns-in-Err-clause-frees
returns-in-Err-clause-frees g c r =
    let old = c.args.self.now in let new = c.refuse.new.self in
    let k = c.args.ticket.now.cookie in let body = c.args.body.now in let asked = change_wanted k (answer_to body) in
    subst (λ (w : Result Ended Refusal). Frees asked (spared w) old.seat new.seat (change_read k (answer_to body) w))
    (sym c.refuse.ensures.err)
    (subst (λ (o : Option Change). Frees asked 1 old.seat new.seat o)
    (sym (unread_changes k body c.in-Err.e c.in-Err.ensures.read))
    (frees_none g.S.Slots.reused asked 1 old.seat new.seat c.refuse.ensures.stays.0.looked r))

pub returns-in-Ok-response-clause-looked : goal.returns-in-Ok-response-clause-looked
returns-in-Ok-response-clause-looked g c none =
    let k = c.args.ticket.now.cookie in
    absurd (cc (sym none ∙ ap (change_wanted k) (c.in-Ok.ensures.read ∙ ap Ok c.in-Ok-response.is)))

pub returns-in-StateNotFound-clause-looked : goal.returns-in-StateNotFound-clause-looked
returns-in-StateNotFound-clause-looked g c none =
    let k = c.args.ticket.now.cookie in
    absurd (cc (sym none ∙ ap (change_wanted k) (c.in-Ok.ensures.read ∙ ap Ok c.in-StateNotFound.is)))

pub returns-in-VersionNotSupported-clause-looked : goal.returns-in-VersionNotSupported-clause-looked
returns-in-VersionNotSupported-clause-looked g c none = c.end_unsupported.ensures.stays.0.looked

pub returns-in-Err-clause-looked : goal.returns-in-Err-clause-looked
returns-in-Err-clause-looked g c none = c.refuse.ensures.stays.0.looked

pub returns-in-VersionNotSupported-clause-frees : goal.returns-in-VersionNotSupported-clause-frees
returns-in-VersionNotSupported-clause-frees g c r =
    let old = c.args.self.now in let new = c.end_unsupported.new.self in let reply = c.end_unsupported.result in
    let k = c.args.ticket.now.cookie in
    let read : answer_to c.args.body.now ≡ Ok
    (response.VersionNotSupported c.in-VersionNotSupported.kind) = c.in-Ok.ensures.read ∙ ap Ok
    c.in-VersionNotSupported.is in
    subst (λ (a : Result Response Refusal). Frees (change_wanted k a) (spared reply) old.seat new.seat
    (change_read k a reply)) (sym read)
    (frees_none g.S.Slots.reused None (spared reply) old.seat new.seat c.end_unsupported.ensures.stays.0.looked r)
