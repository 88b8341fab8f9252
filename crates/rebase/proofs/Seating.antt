-- Lists from whose ends elements are taken, and the marks of a new group.
use Rattle.std.proofs.Common.{◌≡◌, ◌<◌, ◌⊎◌, ℕ, zero, suc, ◌+◌, ◌-◌, List, [], ◌∷◌, ◌++◌, get_or, length, map}
use Rattle.std.proofs.Common.{Option, Some, refl, sym, ap, subst, ◌∙◌, append_assoc, arith, inl, inr}
use Rattle.std.specs.Prelude.{option_to_list, reverse, IfSome}
use Rattle.std.proofs.lemmas.List.{get_or_append_left, get_or_push, get_or-map, get_or-reverse, length-map}
use Rattle.std.proofs.lemmas.List.{length-reverse, length_push, map-append, map-id, reverse-append, reverse-reverse}
use Rattle.std.specs.List.{All}
use Rattle.std.proofs.lemmas.List.Elements.{All-nil, All-push, All-pop}
use Rattle.logbook.specs.Pages.{Book}
use Rattle.head_word.specs.declared.entry.Entry.{Entry}
use Rattle.head_word.specs.Marks.{Known, known, HasSeat, seated}
use Rattle.commit_graph.specs.Seats.{SeatState}
use Rattle.rebase.specs.Clients.{AreNumbered}
use Rattle.chunk_slots.proofs.Begins.{length_seated}

-- the last element, and those before it
pub popped : {X : Type 0} (P : X → Type 0) (all rest : List X) (last : Option X) (x : X)
    → all ≡ rest ++ option_to_list last → last ≡ Some x → All P all → All P rest × P x × (length all ≡ length rest + 1)
popped P all rest last x is one every =
    let h = All-pop P all rest last is every in (
      h.0,
      subst (λ o. IfSome o P) one h.1,
      ap length (subst (λ o. all ≡ rest ++ option_to_list o) one is) ∙ length_push rest x,
    )

-- a place below the end, or the last one
pub below_or_at : (k n : ℕ) → k < suc n → (k < n) ⊎ (k ≡ n)
below_or_at zero zero less = inr refl
below_or_at zero (suc n) less = inl (omega arith)
below_or_at (suc k) zero less = absurd (omega (arith, less))
below_or_at (suc k) (suc n) less = elim (below_or_at k n (omega (arith, less))) [
  | inl low ↦ inl (omega (arith, low))
  | inr at ↦ inr (ap suc at)
]

-- the marks of a new book have seats
seats_of : (book : Book) (log : List Entry) (n : ℕ) → All (HasSeat book) (seated book log n)
seats_of book log zero = All-nil (HasSeat book)
seats_of book log (suc n) = All-push (HasSeat book) (seated book log n) (known book log (Some n))
    (seats_of book log n) (refl, refl)

-- the marks of a new book's seats are numbered in their order
seated_at : (book : Book) (log : List Entry) (n k : ℕ) (d : Known) → k < n
    → get_or (seated book log n) k d ≡ known book log (Some k)
seated_at book log zero k d less = absurd (omega (arith, less))
seated_at book log (suc n) k d less =
    let front = seated book log n in let last = known book log (Some n) in let long = length_seated book log n in
    elim (below_or_at k n less) [
      | inl low ↦ get_or_append_left front (last ∷ []) d k (omega (low, long, arith)) ∙ seated_at book log n k d low
      | inr at ↦ get_or_push front last d k (long ∙ sym at) ∙ ap (λ i. known book log (Some i)) (sym at)
    ]

-- and so are its seats, of which the last one has the first mark
pub numbered : (book : Book) (log : List Entry) (n : ℕ) (marks : List Known) (seats : List SeatState)
    → marks ≡ seated book log n → marks ≡ reverse (map (λ seat. seat.mark) seats) → AreNumbered book log n seats
numbered book log n marks seats are backwards i d low =
    let own : List Known = map (λ seat. seat.mark) seats in
    let long : length seats ≡ n = sym (ap length (sym are ∙ backwards) ∙ length-reverse own
    ∙ length-map seats (λ seat. seat.mark)) ∙ length_seated book log n in
    let turned : own ≡ reverse (seated book log n) = sym (reverse-reverse own) ∙ ap reverse (sym backwards ∙ are) in
    sym (get_or-map (λ (seat : SeatState). seat.mark) seats i d d.mark low) ∙ ap (λ ms. get_or ms i d.mark) turned
    ∙ get_or-reverse (seated book log n) i d.mark (omega (low, long, length_seated book log n, arith))
    ∙ ap (λ m. get_or (seated book log n) (m - 1 - i) d.mark) (length_seated book log n)
    ∙ seated_at book log n (n - 1 - i) d.mark (omega (low, long, arith))

-- The last one of a list goes to the end of another: so what was there at first is what is left, and the other list
-- backwards.
pub handed_on : {A B V : Type 0} (f : A → V) (g : B → V) (all : List V) (from rest : List A) (last : Option A) (x : A)
    (done more : List B) (y : B) → from ≡ rest ++ option_to_list last → last ≡ Some x → more ≡ done ++ y ∷ []
    → g y ≡ f x → all ≡ map f from ++ reverse (map g done) → all ≡ map f rest ++ reverse (map g more)
handed_on {A} {B} {V} f g all from rest last x done more y is one grown same were =
    let split : from ≡ rest ++ x ∷ [] = subst (λ (o : Option A). from ≡ rest ++ option_to_list o) one is in
    let front : map f from ≡ map f rest ++ f x ∷ [] = ap (map f) split ∙ map-append f rest (x ∷ []) in
    let back : reverse (map g more) ≡ f x ∷ reverse (map g done) =
    ap (λ w. reverse (map g w)) grown ∙ (ap reverse (map-append g done (y ∷ [])) ∙
    (reverse-append (map g done) (g y ∷ [])
    ∙ ap (λ v. v ∷ reverse (map g done)) same)) in
    were ∙ (ap (λ w. w ++ reverse (map g done)) front ∙ (append_assoc (map f rest) (f x ∷ []) (reverse (map g done))
    ∙ ap (λ w. map f rest ++ w) (sym back)))

-- the last mark of a list goes to the end of the seats
pub handed_marks : (all from rest : List Known) (last : Option Known) (x : Known) (done more : List SeatState)
    (y : SeatState)
    → from ≡ rest ++ option_to_list last → last ≡ Some x → more ≡ done ++ y ∷ [] → y.mark ≡ x
    → all ≡ from ++ reverse (map (λ seat. seat.mark) done) → all ≡ rest ++ reverse (map (λ seat. seat.mark) more)
handed_marks all from rest last x done more y is one grown same were =
    let mark : SeatState → Known = λ seat. seat.mark in
    handed_on (λ (m : Known). m) mark all from rest last x done more y is one grown same
    (were ∙ ap (λ w. w ++ reverse (map mark done)) (sym (map-id from))) ∙ ap (λ w. w ++ reverse (map mark more))
    (map-id rest)

pub marks_seated : (book : Book) (log : List Entry) (n : ℕ) (marks : List Known) → marks ≡ seated book log n
    → All (HasSeat book) marks × (length marks ≡ n)
marks_seated book log n marks is = (
  subst (All (HasSeat book)) (sym is) (seats_of book log n),
  ap length is ∙ length_seated book log n,
)
