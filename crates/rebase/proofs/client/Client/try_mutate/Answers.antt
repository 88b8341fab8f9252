use Rattle.std.proofs.Common.{◌≡◌, ◌+◌, ℕ, Option, Result, Some, sym, subst, ap, ◌∙◌}
use Rattle.group_history.specs.declared.changes.Change.TheVariants.{Mutated}
use Rattle.group_history.specs.declared.mutations.MutationFields.{MutationFields as Mutation}
use Rattle.group_history.specs.declared.refs.Ref.{Ref}
use Rattle.group_history.specs.declared.refusals.Refusal.{Refusal}
use Rattle.group_history.specs.Mutating.{mutate_reply}
use Rattle.group_history.specs.State.{made}
use Rattle.head_word.specs.Marks.{Known}
use Rattle.linearized.specs.Answered.{IsLinearized}
use Rattle.linearized.specs.Changes.{change_made}
use Rattle.change_tries.specs.Leaving.{Frees, spared}
use Rattle.change_tries.specs.Missing.{map_ok}
use Rattle.commit_graph.specs.Seats.{SeatState}
use Rattle.rebase.specs.Clients.{ClientState}
use Rattle.rebase.proofs.Causing.{frees_none, frees_told}
use Rattle.rebase.proofs.Telling.{made_same, next_told}
use Rattle.rebase.proofs.client.Client.try_mutate.Goals as goal

pub returns-clause-answer : goal.returns-clause-answer
returns-clause-answer g c =
    let means = g.M.Means.means in let old = c.args.self.now in let mid = c.change-made.new.self in
    let new = c.keep_next.new.self in let given = c.change-made.result in
    let x = made old.id (old.last + 1) c.args.name.now c.args.args.now c.args.time in
    let so = subst (λ (y : Mutation). IsLinearized means c.args.tries old.seat.mark mid.seat.mark
    (map_ok (λ (at : Option Ref). old.last + 1) given) (change_made y) (λ s. mutate_reply means s old.last y))
    (c.in-Ok.ensures ∙ ap (λ (t : ClientState). made t.id (t.last + 1) c.args.name.now c.args.args.now c.args.time)
    c.self.view_is)
    (next_told means c.args.tries old.seat.mark mid.seat.mark old.last c.in-Ok.mutation given
    c.change-made.ensures.answer) in
    let there = subst (λ (m : Known). IsLinearized means c.args.tries old.seat.mark m
    (map_ok (λ (at : Option Ref). old.last + 1) given) (change_made x) (λ s. mutate_reply means s old.last x))
    (ap (λ (t : SeatState). t.mark) (sym c.keep_next.ensures.seat)) so in
    let reply : c.keep_next.result ≡ map_ok (λ (at : Option Ref). old.last + 1) given = c.keep_next.ensures.id ∙ ap
    (λ (n : ℕ). map_ok (λ (at : Option Ref). n + 1) given) c.change-made.ensures.acts.1 in
    subst (λ (w : Result ℕ Refusal). IsLinearized means c.args.tries old.seat.mark new.seat.mark w (change_made x)
    (λ s. mutate_reply means s old.last x)) (sym reply) there

pub returns-clause-frees : goal.returns-clause-frees
returns-clause-frees g c r =
    let old = c.args.self.now in let mid = c.change-made.new.self in let given = c.change-made.result in
    let x = made old.id (old.last + 1) c.args.name.now c.args.args.now c.args.time in
    let named = c.in-Ok.ensures ∙ ap (λ (t : ClientState). made t.id (t.last + 1) c.args.name.now c.args.args.now
    c.args.time)
    c.self.view_is in
    let frees = subst (λ (y : Mutation). Frees (Some (Mutated y)) (spared given) old.seat mid.seat
    (change_made y (map_ok (λ (at : Option Ref). old.last + 1) given))) named
    (subst (Frees (Some (Mutated c.in-Ok.mutation)) (spared given) old.seat mid.seat)
    (made_same g.M.Means.means c.args.tries old.seat.mark mid.seat.mark old.last c.in-Ok.mutation given
    c.change-made.ensures.answer) (c.change-made.ensures.frees r)) in
    let reply : c.keep_next.result ≡ map_ok (λ (at : Option Ref). old.last + 1) given = c.keep_next.ensures.id ∙ ap
    (λ (n : ℕ). map_ok (λ (at : Option Ref). n + 1) given) c.change-made.ensures.acts.1 in
    subst (λ (s : SeatState). Frees (Some (Mutated x)) (spared c.keep_next.result) old.seat s
    (change_made x c.keep_next.result)) (sym c.keep_next.ensures.seat)
    (frees_told (λ (at : Option Ref). old.last + 1) (Some (Mutated x)) old.seat mid.seat given c.keep_next.result
    (change_made x (map_ok (λ (at : Option Ref). old.last + 1) given)) (change_made x c.keep_next.result) reply
    (ap (change_made x) (sym reply)) frees)

pub returns-in-Err-clause-frees : goal.returns-in-Err-clause-frees
returns-in-Err-clause-frees g c r =
    let old = c.args.self.now in let new = c.refuse.new.self in
    let x = made old.id (old.last + 1) c.args.name.now c.args.args.now c.args.time in
    subst (λ (w : Result ℕ Refusal). Frees (Some (Mutated x)) (spared w) old.seat new.seat (change_made x w))
    (sym c.refuse.ensures.err)
    (frees_none g.S.Slots.reused (Some (Mutated x)) 1 old.seat new.seat c.refuse.ensures.stays.0.looked r)
