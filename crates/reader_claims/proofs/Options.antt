-- What follows where a call answers nothing, or something.
use Rattle.std.specs.Prelude.{◌≡◌, ℕ, ◌<◌, ◌≤◌, IfSome, IfNone, MatchOption}
use Rattle.std.specs.declared.option.Option.{Option}
use Rattle.std.specs.declared.option.Option.TheVariants.{None, Some}
use Rattle.reader_claims.specs.declared.view.View.{View}
use Rattle.reader_claims.specs.Passes.{FindsNone, KnowsNone, Takes}
use Rattle.reader_claims.specs.Inside.Scans.{Later}
use Rattle.reader_claims.proofs.Scans.{known_now}

pub none_then : {A : Type 0} (r : Option A) (P Q : Type 0) → (P → Q) → IfNone r P → IfNone r Q
none_then None P Q f h = f h
none_then (Some x) P Q f h = tt

-- an answer that is always so
pub some_always : {A : Type 0} (r : Option A) (Q : A → Type 0) → ((x : A) → Q x) → IfSome r Q
some_always None Q f = tt
some_always (Some x) Q f = f x

-- a pass, behind some steps on slots, that took a slot or found none
pub known_passed : (r : Option ℕ) (v u t : View) (first end : ℕ) → Later v u
    → MatchOption r (t.taken ≡ u.taken) (λ i. (i < end) × Takes u t i) → IfSome r (λ i. first ≤ i → FindsNone u t first)
    → IfSome r (λ i. first ≤ i → ∥ KnowsNone v t first ∥₁)
known_passed None v u t first end l took found = tt
known_passed (Some i) v u t first end l took found = λ far. ∣ known_now v u t first i l (found far) far took.1 ∣₁
