use Rattle.std.proofs.Common.{refl, sym, ap, ◌∙◌, subst}
use Rattle.linearized.specs.Changes.{change_read}
use Rattle.change_tries.specs.Leaving.{FreesAnew}
use Rattle.change_tries.specs.Missing.{map_ok}
use Rattle.pull_patch.specs.Grammar.{answer_to}
use Rattle.rebase.specs.Asking.{change_wanted}
use Rattle.rebase.specs.Calls.{caller_of}
use Rattle.rebase.specs.Replies.{ended}
use Rattle.rebase.specs.declared.calls.Call.TheVariants as changing
use Rattle.rebase.proofs.CallLemmas.{ended_shown, ended_told}
use Rattle.client_desk.specs.declared.faults.CallFault.TheVariants as fault
use Rattle.rebase.specs.declared.tickets.Ticket.{Ticket}
use Rattle.client_desk.specs.Answers.{At, Rule}
use Rattle.client_desk.specs.Kept.{kept_at}
use Rattle.client_desk.specs.Told.{told_alone}
use Rattle.client_desk.specs.Waiting.{IsEndOf, Waits}
use Rattle.client_desk.proofs.Telling.{at_some}
use Rattle.client_desk.proofs.Waits.{by_this, cause_told, ended_replied, last_kept, passing_told}
use Rattle.client_desk.proofs.waiting.Place+Whole+M.end_waiting.Goals as goal

pub returns-in-Some : goal.returns-in-Some
returns-in-Some g c =
    let means = g.M.Means.means in let here = rw c.in-Client.is at c.self.view_is in let e = c.end_pull.ensures in
    let old = c.in-Client.client in let new = c.end_pull.new.self in let r = c.end_pull.result in
    let ticket = c.in-Some.ticket in let body = c.args.body in let made = changing.EndPull ticket body in
    let n = c.args.number in let t = told_alone c.ended_outcome.result in
    let wanted = change_wanted ticket.now.cookie (answer_to body.now) in
    let there = ap (λ ts. kept_at ts n) (sym c.deref.ensures.value) ∙ sym c.in-Some.ensures in
    let rule : Ticket → Rule = λ kept. Waits means (IsEndOf kept body.now) old in
    by_this (λ client b. At (kept_at b.tickets n) fault.NoTicket (λ kept. Waits means (IsEndOf kept body.now) client) b)
    _ c.args.self.now old t _ here refl
    (at_some (kept_at c.self.inside.tickets.items n) fault.NoTicket rule ticket.now _ t _ there (record {
      made = made;
      asked = (refl, refl);
      reply = map_ok ended r;
      next = new;
      answer = ended_told means 0 old.seat.mark new.seat.mark (caller_of old) made ticket body r (map_ok ended r) refl
          refl e.answer;
      lasting = passing_told ended r ∙ e.lasting;
      last = e.acts.1 ∙ sym (last_kept old.last r);
      acts = e.acts.0;
      cause = cause_told ended means (caller_of old) made r old.seat new.seat e.cause;
      frees = subst (FreesAnew wanted old.seat new.seat)
          (sym (ap (change_read ticket.now.cookie (answer_to body.now)) (ended_shown r))) (e.frees tt);
      told = c.ended_outcome.ensures ∙ ended_replied r;
      left = refl;
    }))
