use Rattle.std.proofs.Common.{◌≡◌, ◌+◌, ℕ, true, false, None, Option, Some, ap, refl, rules, subst, ◌∙◌}
use Rattle.std.specs.Prelude.{IfOk, IfErr}
use Rattle.group_history.specs.declared.changes.Change.{Change}
use Rattle.group_history.specs.declared.changes.Change.TheVariants.{Mutated}
use Rattle.group_history.specs.declared.mutations.MutationFields.{MutationFields as Mutation}
use Rattle.group_history.specs.Map.{Bytes}
use Rattle.group_history.specs.Mutating.{mutate_reply}
use Rattle.group_history.specs.State.{made}
use Rattle.linearized.specs.Answered.{IsLinearized}
use Rattle.linearized.specs.Changes.{change_made}
use Rattle.rebase.specs.Asking.{is_passing}
use Rattle.commit_graph.proofs.Seating.{seat-self, seat-trans}
use Rattle.change_tries.specs.Causes.{HasCause}
use Rattle.change_tries.specs.Leaving.{Frees, spared}
use Rattle.rebase.proofs.Causing.{cause_anew, frees_anew, frees_loads, frees_self, if_err_then}
use Rattle.rebase.proofs.Lasting.{begun_anew, left_alone, passing_changes, passing_err}
use Rattle.rebase.proofs.client.Client.mutate.Goals as goal

pub returns-then-not-is_passing-clause-answer : goal.returns-then-not-is_passing-clause-answer
returns-then-not-is_passing-clause-answer g c =
    let means = g.M.Means.means in let old = c.args.self.now in let mid = c.loop-turn.self in
    let new = c.try_mutate-reply.new.self in let i = c.loop-turn.invariant in
    let reply = c.try_mutate-reply.result in
    let name = c.args.name.now in let args = c.args.args.now in let time = c.args.time in
    let lasts : is_passing reply ≡ false = search rules in
    let id = subst (λ (client : Bytes). IsLinearized means 1000 mid.seat.mark new.seat.mark reply
    (change_made (made client (mid.last + 1) name args time))
    (λ s. mutate_reply means s mid.last (made client (mid.last + 1) name args time))) i.client.1
    c.try_mutate-reply.ensures.answer in
    let last = subst (λ (n : ℕ). IsLinearized means 1000 mid.seat.mark new.seat.mark reply
    (change_made (made old.id (n + 1) name args time))
    (λ s. mutate_reply means s n (made old.id (n + 1) name args time))) i.last id in
    begun_anew means 1000 0 old.seat.mark mid.seat.mark new.seat.mark reply
    (change_made (made old.id (old.last + 1) name args time))
    (λ s. mutate_reply means s old.last (made old.id (old.last + 1) name args time)) i.seat.later.seen i.seat.later.seat
    i.own lasts last

pub returns-then-not-is_passing-clause-last : goal.returns-then-not-is_passing-clause-last
returns-then-not-is_passing-clause-last g c = subst (λ (n : ℕ). IfOk c.try_mutate-reply.result
    (λ id. (id ≡ n + 1) × (c.try_mutate-reply.new.self.last ≡ id))) c.loop-turn.invariant.last
    c.try_mutate-reply.ensures.last

pub returns-then-not-is_passing-clause-left : goal.returns-then-not-is_passing-clause-left
returns-then-not-is_passing-clause-left g c = subst (λ (n : ℕ). IfErr c.try_mutate-reply.result
    (λ _. c.try_mutate-reply.new.self.last ≡ n)) c.loop-turn.invariant.last c.try_mutate-reply.ensures.left

pub loop-turn-preserved : goal.loop-turn-preserved
loop-turn-preserved g c =
    let old = c.args.self.now in let mid = c.loop-turn.self in let new = c.try_mutate-reply.new.self in
    let i = c.loop-turn.invariant in let e = c.try_mutate-reply.ensures in
    let x = made mid.id (mid.last + 1) c.args.name.now c.args.args.now c.args.time in
    let y = made old.id (old.last + 1) c.args.name.now c.args.args.now c.args.time in
    let same : x ≡ y = ap (λ (client : Bytes). made client (mid.last + 1) c.args.name.now c.args.args.now c.args.time)
    i.client.1 ∙ ap (λ (n : ℕ). made old.id (n + 1) c.args.name.now c.args.args.now c.args.time) i.last in
    let passes : is_passing c.try_mutate-reply.result ≡ true = search rules in record {
      client = (e.acts.client.0 ∙ i.client.0, e.acts.client.1 ∙ i.client.1);
      last = passing_err c.try_mutate-reply.result _ passes e.left ∙ i.last;
      seat = seat-trans old.seat mid.seat new.seat i.seat e.acts.seat;
      own = left_alone g.M.Means.means 1000 mid.seat.mark new.seat.mark c.try_mutate-reply.result (change_made x)
          (λ s. mutate_reply g.M.Means.means s mid.last x) passes (λ _ _. refl) e.answer ∙ i.own;
      gave = λ r. frees_anew (Some (Mutated y)) (spared c.try_mutate-reply.result) old.seat mid.seat new.seat None
          i.seat
          e.acts.seat (i.gave r) (subst (λ (z : Mutation). Frees (Some (Mutated z)) (spared c.try_mutate-reply.result)
          mid.seat new.seat None) same
          (subst (λ (o : Option Change). Frees (Some (Mutated x)) (spared c.try_mutate-reply.result) mid.seat new.seat
          o)
          (passing_changes c.try_mutate-reply.result (change_made x) passes (λ _ _. refl)) (e.frees r)));
    }

pub loop-turn-init : goal.loop-turn-init
loop-turn-init g c = let old = c.args.self.now in record {
  client = (refl, refl);
  last = refl;
  seat = seat-self old.seat;
  gave = λ r. frees_self
      (Some (Mutated (made old.id (old.last + 1) c.args.name.now c.args.args.now c.args.time))) old.seat;
  own = refl;
}

pub returns-then-not-is_passing-clause-cause : goal.returns-then-not-is_passing-clause-cause
returns-then-not-is_passing-clause-cause g c =
    let means = g.M.Means.means in let reused = g.S.Slots.reused in let old = c.args.self.now in
    let mid = c.loop-turn.self in let new = c.try_mutate-reply.new.self in let i = c.loop-turn.invariant in
    let reply = c.try_mutate-reply.result in
    let name = c.args.name.now in let args = c.args.args.now in let time = c.args.time in
    let id = subst (λ (client : Bytes). IfErr reply (HasCause means reused mid.last
    (Some (Mutated (made client (mid.last + 1) name args time))) mid.seat new.seat)) i.client.1
    c.try_mutate-reply.ensures.cause in
    let last = subst (λ (n : ℕ). IfErr reply (HasCause means reused n
    (Some (Mutated (made old.id (n + 1) name args time))) mid.seat new.seat)) i.last id in
    let asked = Some (Mutated (made old.id (old.last + 1) name args time)) in
    if_err_then (HasCause means reused old.last asked mid.seat new.seat)
    (HasCause means reused old.last asked old.seat new.seat) reply last (λ e h.
    cause_anew means reused old.last asked old.seat mid.seat new.seat e i.seat.later.seen i.seat.table
    (λ r. frees_loads asked old.seat mid.seat (i.gave r)) h)

pub returns-then-not-is_passing-clause-frees : goal.returns-then-not-is_passing-clause-frees
returns-then-not-is_passing-clause-frees g c r =
    let old = c.args.self.now in let mid = c.loop-turn.self in let new = c.try_mutate-reply.new.self in
    let i = c.loop-turn.invariant in let reply = c.try_mutate-reply.result in
    let name = c.args.name.now in let args = c.args.args.now in let time = c.args.time in
    let x = made mid.id (mid.last + 1) name args time in let y = made old.id (old.last + 1) name args time in
    let same : x ≡ y = ap (λ (client : Bytes). made client (mid.last + 1) name args time) i.client.1
    ∙ ap (λ (n : ℕ). made old.id (n + 1) name args time) i.last in
    frees_anew (Some (Mutated y)) (spared reply) old.seat mid.seat new.seat (change_made y reply) i.seat
    c.try_mutate-reply.ensures.acts.seat (i.gave r) (subst (λ (z : Mutation). Frees (Some (Mutated z)) (spared reply)
    mid.seat new.seat (change_made z reply)) same (c.try_mutate-reply.ensures.frees r))
