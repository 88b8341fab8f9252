-- How an end of a pull is answered.
use Rattle.std.proofs.Common.{◌≡◌, ◌≢◌, inr, ℕ, ◌+◌, Bool, true, false, true≢false, Result, Ok, Err, refl, sym}
use Rattle.std.proofs.Common.{ap, subst, ◌∙◌}
use Rattle.std.specs.Prelude.{if◌then◌else◌, nat_eq}
use Rattle.std.specs.declared.cmp.Ordering.{Ordering}
use Rattle.std.specs.declared.cmp.Ordering.TheVariants.{Less, Equal, Greater}
use Rattle.group_history.specs.declared.changes.Change.{Change}
use Rattle.group_history.specs.declared.changes.Change.TheVariants.{Mutated, Pulled, Closed}
use Rattle.group_history.specs.declared.refusals.Refusal.{Refusal}
use Rattle.group_history.specs.declared.refusals.Refusal.TheVariants as refusal
use Rattle.group_history.specs.declared.responses.Ended.TheVariants as ended
use Rattle.group_history.specs.declared.responses.Response.TheVariants as response
use Rattle.group_history.specs.Cookies.{order_cmp}
use Rattle.group_history.specs.Map.{Bytes, same_text}
use Rattle.group_history.specs.Meaning.{Meaning, Meanings, meaning_of, unknown, refuses, done}
use Rattle.group_history.specs.Mutating.{by_meaning, mutate_reply, open_reply}
use Rattle.group_history.specs.Pull.{Pull}
use Rattle.group_history.specs.Pulling.{by_order, end_at, end_reply, goes_back, says_nothing}
use Rattle.group_history.specs.State.{State, last_id, view_of}
use Rattle.linearized.specs.Answered.{is_resource_refusal}
use Rattle.linearized.specs.Trying.{IsUnproposed}
use Rattle.change_tries.specs.Missing.{IsStop, map_ok}
use Rattle.change_tries.specs.Proposing.{asked_reply, change_asked, closing_reply, is_applied}

-- at an open one
end_open : (s : State) (ticket : Bytes) (r : Pull) → s.closed ≡ false
    → end_reply s ticket (response.Ok r) ≡ end_at s ticket r
end_open s ticket r is = ap (λ (b : Bool). if b then Err refusal.Closed else end_at s ticket r) is

-- it is never refused for want of something
abbrev pub NeverWants : {X : Type 0} → Result X Refusal → Type 0
NeverWants r = (e : Refusal) → is_resource_refusal e ≡ true → r ≢ Err e

never_ok : {X : Type 0} (x : X) → NeverWants (Ok x)
never_ok x e want = λ h. cc h

never_named : {X : Type 0} (w : Refusal) → is_resource_refusal w ≡ false → NeverWants {X = X} (Err w)
never_named w not e want is = let same : w ≡ e = cc is in absurd (true≢false (sym want
    ∙ (ap is_resource_refusal (sym same) ∙ not)))

never_either : {X : Type 0} (b : Bool) (x y : Result X Refusal) → NeverWants x → NeverWants y
    → NeverWants (let w : Result X Refusal = if b then x else y in w)
never_either true x y one other = one
never_either false x y one other = other

never_told : {X Y : Type 0} (f : X → Y) (r : Result X Refusal) → NeverWants r → NeverWants (map_ok f r)
never_told f (Ok x) never = never_ok (f x)
never_told f (Err w) never = λ e want is. never e want (let same : w ≡ e = cc is in ap Err same)

never_by : (o : Ordering) (s : State) (r : Pull) → NeverWants (by_order o s r)
never_by Less s r = never_named refusal.CookieWentBack refl
never_by Equal s r = never_either (says_nothing s.cookie r) (Ok ended.Same) (Err refusal.CookieNotNew)
    (never_ok ended.Same) (never_named refusal.CookieNotNew refl)
never_by Greater s r = never_either (goes_back s.confirmed r.changes) (Err refusal.IdWentBack) (Ok ended.Applied)
    (never_named refusal.IdWentBack refl) (never_ok ended.Applied)

never_ended : (s : State) (ticket : Bytes) (r : Pull) → NeverWants (end_at s ticket r)
never_ended s ticket r = never_either (same_text s.cookie.text ticket)
    (by_order (order_cmp r.cookie.order s.cookie.order) s r) (Err refusal.Overtaken)
    (never_by (order_cmp r.cookie.order s.cookie.order) s r) (never_named refusal.Overtaken refl)

never_meant : (m : Meaning) (id : ℕ) → NeverWants (by_meaning m id)
never_meant unknown id = never_named refusal.NoMutator refl
never_meant (refuses code) id = never_named (refusal.Refused code) refl
never_meant (done m) id = never_ok id

never_closing : (b : Bool) → NeverWants (closing_reply b)
never_closing true = never_named refusal.Closed refl
never_closing false = never_ok true

-- a right reply is none for want of something
pub never_asked : (means : Meanings) (s : State) (last : ℕ) (c : Change) → NeverWants (asked_reply means s last c)
never_asked means s last (Mutated x) = never_told (λ (id : ℕ). true) (mutate_reply means s last x)
    (never_either s.closed (Err refusal.Closed) (open_reply means s last x) (never_named refusal.Closed refl)
    (never_either (nat_eq (last_id s x.client) last) (by_meaning (meaning_of means x (view_of means s)) (last + 1))
    (Err refusal.Stale) (never_meant (meaning_of means x (view_of means s)) (last + 1))
    (never_named refusal.Stale refl)))
never_asked means s last (Pulled ticket r) = never_told is_applied (end_reply s ticket.text (response.Ok r))
    (never_either s.closed (Err refusal.Closed) (end_at s ticket.text r) (never_named refusal.Closed refl)
    (never_ended s ticket.text r))
never_asked means s last Closed = never_closing s.closed

-- a right refusal is not that of a lost exchange
pub judged_so : (reused : Type 0) (means : Meanings) (s : State) (last : ℕ) (ticket : Bytes) (change : Change)
    (r : Pull) (e : Refusal)
    → s.closed ≡ false → Err e ≡ end_at s ticket r
    → asked_reply means s last change ≡ map_ok is_applied (end_reply s ticket (response.Ok r))
    → IsUnproposed (IsStop reused) (change_asked change) (asked_reply means s last change) e
judged_so reused means s last ticket change r e is judged asks = (
  inr (asks ∙ ap (map_ok is_applied) (end_open s ticket r is ∙ sym judged), refl),
  λ moved. never_ended s ticket r refusal.Moved refl (subst (λ (w : Refusal). end_at s ticket r ≡ Err w) moved
      (sym judged)),
)
