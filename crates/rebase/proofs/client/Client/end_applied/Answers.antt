use Rattle.std.proofs.Common.{◌≡◌, Result, Some, ap, rules, sym, subst, ◌∙◌}
use Rattle.group_history.specs.declared.changes.Change.TheVariants.{Pulled}
use Rattle.group_history.specs.declared.refusals.Refusal.{Refusal}
use Rattle.group_history.specs.declared.responses.Ended.{Ended}
use Rattle.group_history.specs.declared.responses.Response.TheVariants as response
use Rattle.group_history.specs.Cookies.{Cookie}
use Rattle.group_history.specs.Pulling.{end_reply}
use Rattle.linearized.specs.Answered.{IsLinearized}
use Rattle.linearized.specs.Changes.{change_applied}
use Rattle.change_tries.specs.Changing.{ended_as, is_made}
use Rattle.change_tries.specs.Leaving.{Frees, spared}
use Rattle.change_tries.specs.Proposing.{asked_reply, change_asked}
use Rattle.change_tries.specs.Missing.{map_ok}
use Rattle.rebase.proofs.Causing.{frees_none, frees_told}
use Rattle.rebase.proofs.Telling.{applied_same, pull_told}
use Rattle.rebase.proofs.client.Client.end_applied.Goals as goal

pub returns-in-Ok-clause-answer : goal.returns-in-Ok-clause-answer
returns-in-Ok-clause-answer g c =
    let means = g.M.Means.means in let old = c.args.self.now.seat.mark in let new = c.change-made.new.self.seat.mark in
    let t = c.args.ticket.now in let r = c.args.pull in let last = c.args.self.now.last in
    let clone : c.in-Ok.cookie ≡ t = search rules in
    let made = subst (λ (k : Cookie). IsLinearized means c.args.tries old new (map_ok is_made c.change-made.result)
    (change_asked (Pulled k r)) (λ s. asked_reply means s last (Pulled k r))) clone c.change-made.ensures.answer in
    subst (λ (w : Result Ended Refusal). IsLinearized means c.args.tries old new w (change_applied t r)
    (λ s. end_reply s t.text (response.Ok r))) (sym c.ended_as.ensures)
    (pull_told means c.args.tries old new last t r c.change-made.result made)

pub returns-in-Ok-clause-frees : goal.returns-in-Ok-clause-frees
returns-in-Ok-clause-frees g c r =
    let t = c.args.ticket.now in let p = c.args.pull in
    let old = c.args.self.now in let new = c.change-made.new.self in let made = c.change-made.result in
    let clone : c.in-Ok.cookie ≡ t = search rules in
    let frees = subst (λ (k : Cookie). Frees (Some (Pulled k p)) (spared made) old.seat new.seat
    (change_asked (Pulled k p) (map_ok is_made made))) clone (c.change-made.ensures.frees r) in
    frees_told ended_as (Some (Pulled t p)) old.seat new.seat made c.ended_as.result
    (change_asked (Pulled t p) (map_ok is_made made)) (change_applied t p c.ended_as.result) c.ended_as.ensures
    (applied_same t p made ∙ ap (change_applied t p) (sym c.ended_as.ensures)) frees

pub returns-in-Err-clause-frees : goal.returns-in-Err-clause-frees
returns-in-Err-clause-frees g c r =
    let old = c.args.self.now in let new = c.refuse.new.self in
    let asked = Some (Pulled c.args.ticket.now c.args.pull) in
    subst (λ (w : Result Ended Refusal). Frees asked (spared w) old.seat new.seat
    (change_applied c.args.ticket.now c.args.pull w)) (sym c.refuse.ensures.err)
    (frees_none g.S.Slots.reused asked 1 old.seat new.seat c.refuse.ensures.stays.0.looked r)
