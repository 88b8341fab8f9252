-- Rows that a sink takes, part after part, and the room that is left.
use Rattle.std.proofs.Common.{◌≡◌, ◌≤◌, ◌+◌, ◌-◌, ℕ, zero, suc, true, List, [], ◌∷◌, ◌++◌, Option, Some, None}
use Rattle.std.proofs.Common.{length, length-take, min, take, nat_eq, refl, sym, ap, ◌∙◌, subst, arith, append_assoc}
use Rattle.std.proofs.Common.{Result, Ok, Err}
use Rattle.std.specs.Prelude.{IsErrAnd}
use Rattle.std.proofs.lemmas.Bool.Decides.{nat_tests}
use Rattle.std.proofs.lemmas.List.{append-nil, length-append, take-take}
use Rattle.std.proofs.lemmas.List.Elements.{filter-append}
use Rattle.std.proofs.Math.Seq.{take-nil}
use Rattle.group_history.specs.declared.scans.Scan.{Scan}
use Rattle.group_history.specs.Rows.{Rows}
use Rattle.group_history.specs.Scans.{is_in, limited}
use Rattle.map_chunks.specs.Scanning.{scanned, taken, left, is_full, Took, Gave}
use Rattle.map_chunks.specs.Sinks.{HasMore, HasStill, HasBegun}

-- ROOM

take-more : {A : Type 0} (n : ℕ) (xs ys : List A) → take n xs ++ take (n - length (take n xs)) ys ≡ take n (xs ++ ys)
take-more zero xs ys = refl
take-more (suc n) [] ys = let e : suc n - 0 ≡ suc n = omega arith in ap (λ m. take m ys) e
take-more (suc n) (x ∷ xs) ys =
    let e : suc n - suc (length (take n xs)) ≡ n - length (take n xs) = omega arith in
    ap (λ w. x ∷ w) (ap (λ m. take n xs ++ take m ys) e ∙ take-more n xs ys)

-- what is taken of a part, and behind it what there is still room for
limited-more : {A : Type 0} (room : Option ℕ) (xs ys : List A)
    → limited room xs ++ limited (left room (length (limited room xs))) ys ≡ limited room (xs ++ ys)
limited-more None xs ys = refl
limited-more (Some n) xs ys = take-more n xs ys

pub limited-nil : {A : Type 0} (room : Option ℕ) → limited {A = A} room [] ≡ []
limited-nil None = refl
limited-nil (Some n) = take-nil n

pub limited-full : {A : Type 0} (room : Option ℕ) (ys : List A) → is_full room ≡ true → limited room ys ≡ []
limited-full None ys f = absurd cc
limited-full (Some zero) ys f = refl
limited-full (Some (suc n)) ys f = absurd (let g : nat_eq (suc n) 0 ≡ true = f in grind (arith, nat_tests))

pub take-all : {A : Type 0} (n : ℕ) (xs : List A) → length xs ≤ n → take n xs ≡ xs
take-all zero [] h = refl
take-all zero (x ∷ xs) h = absurd (omega arith)
take-all (suc n) [] h = refl
take-all (suc n) (x ∷ xs) h = ap (λ w. x ∷ w) (take-all n xs (omega arith))

left-none : (room : Option ℕ) → room ≡ left room 0
left-none None = refl
left-none (Some n) = ap (λ m. Some m) (omega arith)

left-twice : (room : Option ℕ) (a b : ℕ) → left (left room a) b ≡ left room (a + b)
left-twice None a b = refl
left-twice (Some n) a b = ap (λ m. Some m) (omega arith)

-- WHAT A SINK TOOK

pub took_none : {S : Type 0} (has : S → Rows → Type 0) (s : S) (room : Option ℕ) (rows : Rows) → rows ≡ []
    → Took has s s room room rows
took_none has s room rows e = subst (Took has s s room room) (sym e) (record {
  rows = λ xs h. subst (has s) (sym (append-nil xs)) h;
  room = left-none room;
})

took_more : {S : Type 0} (has : S → Rows → Type 0) (old mid new : S) (room between after : Option ℕ) (xs ys : Rows)
    → Took has old mid room between xs → Took has mid new between after ys → Took has old new room after (xs ++ ys)
took_more has old mid new room between after xs ys p q = record {
  rows = λ zs h. subst (has new) (append_assoc zs xs ys) (q.rows (zs ++ xs) (p.rows zs h));
  room = q.room ∙ ap (λ r. left r (length ys)) p.room ∙ left-twice room (length xs) (length ys) ∙ ap (left room)
      (sym (length-append xs ys));
}

taken-more : (scan : Scan) (room : Option ℕ) (a b : Rows)
    → taken scan room a ++ taken scan (left room (length (taken scan room a))) b ≡ taken scan room (a ++ b)
taken-more scan room a b = limited-more room (scanned scan a) (scanned scan b) ∙ ap (limited room)
    (sym (filter-append (λ e. is_in scan e.0) a b))

-- a part behind a part
pub took_part : {S : Type 0} (has : S → Rows → Type 0) (old mid new : S) (scan : Scan) (room between after : Option ℕ)
    (a b : Rows) → Took has old mid room between (taken scan room a)
    → Took has mid new between after (taken scan between b) → Took has old new room after (taken scan room (a ++ b))
took_part has old mid new scan room between after a b p q =
    subst (Took has old new room after)
    (ap (λ r. taken scan room a ++ taken scan r b) p.room ∙ taken-more scan room a b)
    (took_more has old mid new room between after (taken scan room a) (taken scan between b) p q)

-- rows that were taken one by one, as many as there was room for
pub took_by : {S : Type 0} (has : S → Rows → Type 0) (old new : S) (room after : Option ℕ) (rows : Rows) (n : ℕ)
    → n ≤ length rows → limited room rows ≡ take n rows → after ≡ left room n → HasMore has old new (take n rows)
    → Took has old new room after (limited room rows)
took_by has old new room after rows n l e a h =
    subst (Took has old new room after) (sym e) (record {
      rows = h;
      room = a ∙ ap (left room) (sym (length-take n rows ∙ (let m : min n (length rows) ≡ n = omega arith in m)));
    })

-- A BEGINNING OF WHAT A SINK WAS TO TAKE

-- a beginning of a part is one of all
front_of : {A : Type 0} (n : ℕ) (xs ys : List A) → (m : ℕ) × (take m (xs ++ ys) ≡ take n xs)
front_of zero xs ys = (0, refl)
front_of (suc n) [] ys = (0, refl)
front_of (suc n) (x ∷ xs) ys = let f = front_of n xs ys in (suc f.0, ap (λ w. x ∷ w) f.1)

-- a part, and a beginning of what is behind it, is a beginning of all
past_of : {A : Type 0} (xs ys : List A) (n : ℕ) → (m : ℕ) × (take m (xs ++ ys) ≡ xs ++ take n ys)
past_of [] ys n = (n, refl)
past_of (x ∷ xs) ys n = let p = past_of xs ys n in (suc p.0, ap (λ w. x ∷ w) p.1)

begun_front : {S : Type 0} (has : S → Rows → Type 0) (old new : S) (xs ys : Rows) → HasBegun has old new xs
    → HasBegun has old new (xs ++ ys)
begun_front has old new xs ys b =
    let f = front_of b.0 xs ys in (f.0, subst (HasMore has old new) (sym f.1) b.1)

begun_past : {S : Type 0} (has : S → Rows → Type 0) (old mid new : S) (xs ys : Rows) → HasMore has old mid xs
    → HasBegun has mid new ys → HasBegun has old new (xs ++ ys)
begun_past has old mid new xs ys m b =
    let p = past_of xs ys b.0 in (
      p.0,
      λ zs h. subst (has new) (append_assoc zs xs (take b.0 ys) ∙ ap (λ w. zs ++ w) (sym p.1))
          (b.1 (zs ++ xs) (m zs h)),
    )

-- a part, and a beginning of the one behind it
pub begun_part : {S : Type 0} (has : S → Rows → Type 0) (old mid new : S) (scan : Scan) (room between : Option ℕ)
    (a b c : Rows) → Took has old mid room between (taken scan room a)
    → HasBegun has mid new (taken scan between b) → HasBegun has old new (taken scan room (a ++ (b ++ c)))
begun_part has old mid new scan room between a b c p q =
    subst (HasBegun has old new)
    (ap (λ r. taken scan room a ++ taken scan r (b ++ c)) p.room ∙ taken-more scan room a (b ++ c))
    (begun_past has old mid new (taken scan room a) (taken scan between (b ++ c)) p.rows
    (subst (HasBegun has mid new) (taken-more scan between b c)
    (begun_front has mid new (taken scan between b) _ q)))

-- some of the rows that were taken one by one
pub begun_by : {S : Type 0} (has : S → Rows → Type 0) (old mid new : S) (room : Option ℕ) (rows : Rows) (i n : ℕ)
    → i ≤ n → limited room rows ≡ take n rows → HasMore has old mid (take i rows) → HasStill has mid new
    → HasBegun has old new (limited room rows)
begun_by has old mid new room rows i n l e m s = (
  i,
  λ zs h. subst (λ w. has new (zs ++ w)) (sym (ap (take i) e ∙ take-take i n rows l))
      (s (zs ++ take i rows) (m zs h)),
)

-- what a refused scan gave
pub gave_begun : {S E : Type 0} (has : S → Rows → Type 0) (old new : S) (room : Option ℕ) (r : Result (Option ℕ) E)
    (rows : Rows) (P : E → Type 0) → IsErrAnd r P → HasBegun has old new rows → Gave has old new room r rows
gave_begun has old new room (Ok after) rows P x b = absurd x
gave_begun has old new room (Err e) rows P x b = b
