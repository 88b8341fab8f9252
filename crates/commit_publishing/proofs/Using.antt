-- What became of slots that were taken for a draft, one after the other.
use Rattle.std.proofs.Common.{◌≡◌, ℕ, List, [], ◌∷◌, ◌++◌, map, refl, sym, ap, subst, ◌∙◌, append_assoc}
use Rattle.std.proofs.Common.{append-nil}
use Rattle.std.specs.Prelude.{reverse}
use Rattle.std.proofs.lemmas.List.{reverse-append, map-append}
use Rattle.group_history.specs.declared.refs.Ref.{Ref}
use Rattle.group_history.specs.Refs.{slot_of}
use Rattle.reader_claims.specs.Deeds as deed
use Rattle.reader_claims.specs.Deeds.{Deed}
use Rattle.reader_claims.specs.Passes.{OnlyTakes}
use Rattle.reader_claims.specs.declared.view.View.{View}
use Rattle.commit_publishing.specs.Retiring.{draft_deeds}
use Rattle.commit_publishing.specs.Inside.Stacks.{Uses}

pub uses_none : (v : View) → Uses v [] [] v
uses_none v = (refl, refl)

-- the newest of deeds of one kind
newest : (f : ℕ → Deed) (xs : List ℕ) (x : ℕ) (before : List Deed)
    → map f (reverse (xs ++ x ∷ [])) ++ before ≡ f x ∷ (map f (reverse xs) ++ before)
newest f xs x before = ap (λ (ys : List ℕ). map f ys ++ before) (reverse-append xs (x ∷ []))

pub uses_settled : (s v u : View) (settled : List ℕ) (x : ℕ) → Uses s settled [] v → v.taken ≡ x ∷ u.taken
    → u.deeds ≡ deed.settled x ∷ v.deeds → Uses s (settled ++ x ∷ []) [] u
uses_settled s v u settled x uses top did = (
  uses.0 ∙ ap (λ (xs : List ℕ). settled ++ xs) top ∙ sym (append_assoc settled (x ∷ []) u.taken),
  did ∙ ap (λ (xs : List Deed). deed.settled x ∷ xs) uses.1 ∙ sym (newest deed.settled settled x s.deeds),
)

pub uses_withdrawn : (s v u : View) (settled withdrawn : List ℕ) (x : ℕ) → Uses s settled withdrawn v
    → v.taken ≡ x ∷ u.taken → u.deeds ≡ deed.withdrew x ∷ v.deeds → Uses s settled (withdrawn ++ x ∷ []) u
uses_withdrawn s v u settled withdrawn x uses top did = (
  uses.0 ∙ ap (λ (xs : List ℕ). settled ++ (withdrawn ++ xs)) top
      ∙ ap (λ (xs : List ℕ). settled ++ xs) (sym (append_assoc withdrawn (x ∷ []) u.taken)),
  did ∙ ap (λ (xs : List Deed). deed.withdrew x ∷ xs) uses.1
      ∙ sym (newest deed.withdrew withdrawn x (map deed.settled (reverse settled) ++ s.deeds)),
)

-- withdrawn first, and then more of them
pub uses_uses : (s v u : View) (settled withdrawn more : List ℕ) → Uses s settled withdrawn v → Uses v [] more u
    → Uses s settled (withdrawn ++ more) u
uses_uses s v u settled withdrawn more a b = (
  a.0 ∙ ap (λ (xs : List ℕ). settled ++ (withdrawn ++ xs)) b.0
      ∙ ap (λ (xs : List ℕ). settled ++ xs) (sym (append_assoc withdrawn more u.taken)),
  let before : List Deed = map deed.settled (reverse settled) ++ s.deeds in
      b.1 ∙ ap (λ (xs : List Deed). map deed.withdrew (reverse more) ++ xs) a.1
      ∙ sym (append_assoc (map deed.withdrew (reverse more)) (map deed.withdrew (reverse withdrawn)) before)
      ∙ ap (λ (xs : List Deed). xs ++ before) (sym (map-append deed.withdrew (reverse more) (reverse withdrawn)))
      ∙ ap (λ (xs : List ℕ). map deed.withdrew xs ++ before) (sym (reverse-append withdrawn more)),
)

-- where none is taken any more, all that were taken and not settled were withdrawn
pub uses_all : (s u : View) (withdrawn : List ℕ) → Uses s [] withdrawn u → u.taken ≡ [] → Uses s [] s.taken u
uses_all s u withdrawn uses none =
    let all : s.taken ≡ withdrawn = uses.0 ∙ ap (λ (xs : List ℕ). withdrawn ++ xs) none ∙ append-nil withdrawn in
    subst (λ (xs : List ℕ). Uses s [] xs u) (sym all) uses

-- slots that were taken since xs, and of which some were settled and the others withdrawn
pub as_drafted : (s u : View) (settled withdrawn : List ℕ) (xs : List Deed) → s.deeds ≡ map deed.took s.taken ++ xs
    → s.taken ≡ settled ++ withdrawn
    → u.deeds ≡ map deed.withdrew (reverse withdrawn) ++ (map deed.settled (reverse settled) ++ s.deeds)
    → u.deeds ≡ draft_deeds settled withdrawn xs
as_drafted s u settled withdrawn xs took all did = did
    ∙ ap (λ (ys : List Deed). map deed.withdrew (reverse withdrawn) ++ (map deed.settled (reverse settled) ++ ys))
    (took ∙ ap (λ (is : List ℕ). map deed.took is ++ xs) all)

-- all were settled
pub all_settled : (s u : View) (settled : List ℕ) (xs : List Deed) → s.deeds ≡ map deed.took s.taken ++ xs
    → Uses s settled [] u → u.taken ≡ [] → u.deeds ≡ draft_deeds settled [] xs
all_settled s u settled xs took uses none = as_drafted s u settled [] xs took
    (uses.0 ∙ ap (λ (is : List ℕ). settled ++ is) none) uses.1

-- slots that were taken, and then all of them withdrawn
pub taken_back : (v w u : View) (taken : List ℕ) → OnlyTakes v w taken → v.taken ≡ [] → Uses w [] w.taken u
    → u.deeds ≡ draft_deeds [] w.taken v.deeds
taken_back v w u taken took none uses =
    let all : w.taken ≡ taken = took.0 ∙ ap (λ (xs : List ℕ). taken ++ xs) none ∙ append-nil taken in
    as_drafted w u [] w.taken v.deeds
    (took.1 ∙ ap (λ (xs : List ℕ). map deed.took xs ++ v.deeds) (sym all)) refl uses.1

pub slots_more : (refs : List Ref) (at : Ref) → map slot_of (refs ++ at ∷ []) ≡ map slot_of refs ++ slot_of at ∷ []
slots_more refs at = map-append slot_of refs (at ∷ [])
