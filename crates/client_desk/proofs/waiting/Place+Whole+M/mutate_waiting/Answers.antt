use Rattle.std.proofs.Common.{◌≡◌, Some, refl, sym, ap, ◌∙◌, subst}
use Rattle.linearized.specs.Changes.{change_made}
use Rattle.group_history.specs.declared.changes.Change.TheVariants.{Mutated}
use Rattle.change_tries.specs.Leaving.{FreesAnew}
use Rattle.change_tries.specs.Missing.{map_ok}
use Rattle.rebase.specs.Calls.{asked_mutation, caller_of}
use Rattle.rebase.specs.Replies.{id}
use Rattle.rebase.specs.declared.calls.Call.TheVariants as changing
use Rattle.rebase.proofs.CallLemmas.{id_shown, mutated_told}
use Rattle.client_desk.specs.Told.{told_alone}
use Rattle.client_desk.specs.Waiting.{Waits}
use Rattle.client_desk.proofs.Waits.{by_this, cause_told, id_replied, last_made, passing_told}
use Rattle.client_desk.proofs.waiting.Place+Whole+M.mutate_waiting.Goals as goal

pub returns : goal.returns
returns g c =
    let means = g.M.Means.means in let here = rw c.in-Client.is at c.self.view_is in let e = c.mutate.ensures in
    let old = c.in-Client.client in let new = c.mutate.new.self in let r = c.mutate.result in
    let made = changing.Mutate c.args.asked in let change = asked_mutation (caller_of old) c.args.asked in
    by_this (Waits means (λ x. x ≡ changing.Mutate c.args.asked)) _ c.args.self.now old (told_alone c.id_outcome.result)
    _ here refl (record {
      made = made;
      asked = refl;
      reply = map_ok id r;
      next = new;
      answer = mutated_told means 0 old.seat.mark new.seat.mark (caller_of old) made c.args.asked r (map_ok id r) refl
          refl e.answer;
      lasting = passing_told id r ∙ e.lasting;
      last = last_made r old.last new.last e.last e.left;
      acts = e.acts;
      cause = cause_told id means (caller_of old) made r old.seat new.seat e.cause;
      frees = subst (FreesAnew (Some (Mutated change)) old.seat new.seat)
          (sym (ap (change_made change) (id_shown r))) (e.frees tt);
      told = c.id_outcome.ensures ∙ id_replied r;
      left = refl;
    })
