-- What holds of the numbers of every count.
use Rattle.std.proofs.Common.{◌≡◌, ℕ, suc, ◌+◌, ◌-◌, ◌≤◌, Bool, true, false, List, [], ◌∷◌, length, Option, Some, None}
use Rattle.std.proofs.Common.{IsSome, is_some, nat_lt, if◌then◌else◌, refl, sym, ap, ◌∙◌, subst, arith, true≢false}
use Rattle.std.proofs.lemmas.Bool.{ltb-true, ltb-false}
use Rattle.reader_claims.specs.Counts.{with_slot, slots_counted, all_slots, oldest, pin_counted, pins_counted}
use Rattle.reader_claims.specs.Counts.{CountsSlots}
use Rattle.reader_claims.specs.Counts.{CountsPins, Counts, HasOldest}
use Rattle.reader_claims.specs.declared.view.Sizes.{Sizes}
use Rattle.reader_claims.specs.Seats.{first_reserved}
use Rattle.reader_claims.specs.Words.{slot_at, slot_word, pin_at, pin_word}
use Rattle.reader_claims.specs.declared.counts.SlotCounts.{SlotCounts}
use Rattle.reader_claims.specs.declared.words.Pin.{Pin}
use Rattle.reader_claims.specs.declared.words.Pin.TheVariants.{Absent, Stored, Held}
use Rattle.reader_claims.specs.declared.words.SlotState.{SlotState}
use Rattle.reader_claims.specs.declared.words.SlotState.TheVariants.{Free, Taken, Live, Retired}

next : (n : ℕ) → n + 1 ≡ suc n
next n = omega arith

-- a free slot more
abbrev with_free : Bool → SlotCounts → SlotCounts
with_free b c = if b then record c { ordinary_free = c.ordinary_free + 1 } else record c
    { reserved_free = c.reserved_free + 1 }

free_more : (b : Bool) (c : SlotCounts) → all_slots (with_free b c) ≡ all_slots c + 1
free_more true c = omega arith
free_more false c = omega arith

one_more : (r i : ℕ) (s : SlotState) (c : SlotCounts) → all_slots (with_slot r i s c) ≡ all_slots c + 1
one_more r i Free c = free_more (nat_lt i r) c
one_more r i (Taken j) c = omega arith
one_more r i Live c = omega arith
one_more r i (Retired e) c = omega arith

-- each slot is counted once
pub all_counted : (r : ℕ) (states : List SlotState) → all_slots (slots_counted r states) ≡ length states
all_counted r [] = refl
all_counted r (s ∷ states) = let one = one_more r (length states) s (slots_counted r states) in
    let rest = all_counted r states in omega arith

-- how many are free: of the ordinary ones, and of the others among the first i
abbrev FreeWithin : ℕ → ℕ → SlotCounts → Type 0
FreeWithin r i c = (c.ordinary_free ≤ r) × (c.reserved_free ≤ i - r)

free_within : (r i : ℕ) (b : Bool) (c : SlotCounts) → nat_lt i r ≡ b → c.ordinary_free ≤ i → FreeWithin r i c
    → FreeWithin r (i + 1) (with_free b c)
free_within r i true c is few within = let lt = ltb-true i r is in let a = within.0 in let b = within.1 in
    (omega arith, omega arith)
free_within r i false c is few within = let ge = ltb-false i r is in let a = within.0 in let b = within.1 in
    (omega arith, omega arith)

kept_within : (r i : ℕ) (c : SlotCounts) → FreeWithin r i c → FreeWithin r (i + 1) c
kept_within r i c within = let a = within.0 in let b = within.1 in (omega arith, omega arith)

one_within : (r i : ℕ) (s : SlotState) (c : SlotCounts) → c.ordinary_free ≤ i → FreeWithin r i c
    → FreeWithin r (i + 1) (with_slot r i s c)
one_within r i Free c few within = free_within r i (nat_lt i r) c refl few within
one_within r i (Taken j) c few within = kept_within r i c within
one_within r i Live c few within = kept_within r i c within
one_within r i (Retired e) c few within = kept_within r i c within

all_within : (r : ℕ) (states : List SlotState) → FreeWithin r (length states) (slots_counted r states)
all_within r [] = (omega arith, omega arith)
all_within r (s ∷ states) = let c : SlotCounts = slots_counted r states in let all = all_counted r states in
    subst (λ m. FreeWithin r m (with_slot r (length states) s c)) (next (length states))
    (one_within r (length states) s c (omega arith) (all_within r states))

-- no pin is counted among the slots
abbrev NoPins : SlotCounts → Type 0
NoPins c = (c.pinned_seats ≡ 0) × (c.oldest_pin ≡ None)

free_bare : (b : Bool) (c : SlotCounts) → NoPins c → NoPins (with_free b c)
free_bare true c bare = bare
free_bare false c bare = bare

one_bare : (r i : ℕ) (s : SlotState) (c : SlotCounts) → NoPins c → NoPins (with_slot r i s c)
one_bare r i Free c bare = free_bare (nat_lt i r) c bare
one_bare r i (Taken j) c bare = bare
one_bare r i Live c bare = bare
one_bare r i (Retired e) c bare = bare

pub all_bare : (r : ℕ) (states : List SlotState) → NoPins (slots_counted r states)
all_bare r [] = (refl, refl)
all_bare r (s ∷ states) = one_bare r (length states) s (slots_counted r states) (all_bare r states)

-- with n pins looked at, at most so many are counted, and the slots are as they were
pub record PinsWithin (n : ℕ) (before after : SlotCounts) : Type 0 where
  pub ordinary_free : after.ordinary_free ≡ before.ordinary_free
  pub reserved_free : after.reserved_free ≡ before.reserved_free
  pub all : all_slots after ≡ all_slots before
  pub pinned : after.pinned_seats ≤ n
  pub oldest : HasOldest after

more_within : (n : ℕ) (c d : SlotCounts) → PinsWithin n c d → PinsWithin (n + 1) c d
more_within n c d h = let few = h.pinned in
    record {
      ordinary_free = h.ordinary_free;
      reserved_free = h.reserved_free;
      all = h.all;
      pinned = omega arith;
      oldest = h.oldest;
    }

there : (o : Option ℕ) (e : ℕ) → IsSome (oldest o e)
there None e = refl
there (Some old) e = refl

pin_within : (n e : ℕ) (c d : SlotCounts) → PinsWithin n c d
    → PinsWithin (n + 1) c (record d { pinned_seats = d.pinned_seats + 1; oldest_pin = oldest d.oldest_pin e })
pin_within n e c d h = let few = h.pinned in record {
  ordinary_free = h.ordinary_free;
  reserved_free = h.reserved_free;
  all = h.all;
  pinned = omega arith;
  oldest = (λ is. absurd (true≢false (sym (there d.oldest_pin e) ∙ ap is_some is)), λ is. absurd (omega arith));
}

one_pin : (n : ℕ) (p : Pin) (c d : SlotCounts) → PinsWithin n c d → PinsWithin (n + 1) c (pin_counted p d)
one_pin n Absent c d h = more_within n c d h
one_pin n (Stored e) c d h = pin_within n e c d h
one_pin n (Held e) c d h = pin_within n e c d h

all_pins : (pins : List Pin) (c : SlotCounts) → NoPins c → PinsWithin (length pins) c (pins_counted pins c)
all_pins [] c bare = record {
  ordinary_free = refl;
  reserved_free = refl;
  all = refl;
  pinned = (let p = bare.0 in omega arith);
  oldest = (λ _. bare.0, λ _. bare.1);
}
all_pins (p ∷ pins) c bare = subst (λ m. PinsWithin m c (pin_counted p (pins_counted pins c))) (next (length pins))
    (one_pin (length pins) p c (pins_counted pins c) (all_pins pins c bare))

one_few : (n : ℕ) (p : Pin) (c : SlotCounts) → c.pinned_seats ≤ n → (pin_counted p c).pinned_seats ≤ n + 1
one_few n Absent c few = omega arith
one_few n (Stored e) c few = omega arith
one_few n (Held e) c few = omega arith

pub few_pinned : (pins : List Pin) (c : SlotCounts) → c.pinned_seats ≡ 0
    → (pins_counted pins c).pinned_seats ≤ length pins
few_pinned [] c none = omega arith
few_pinned (p ∷ pins) c none = subst (λ m. (pin_counted p (pins_counted pins c)).pinned_seats ≤ m) (next (length pins))
    (one_few (length pins) p (pins_counted pins c) (few_pinned pins c none))

-- ---- one look more

pub slot_more : (found : ℕ → ℕ → Type 0) (r i place w : ℕ) (s : SlotState) (c d : SlotCounts) → CountsSlots found r i c
    → place ≡ slot_at i → found place w → slot_word s ≡ w → d ≡ with_slot r i s c → CountsSlots found r (i + 1) d
slot_more found r i place w s c d so at here is more = (
  s ∷ so.0,
  (let all = so.1 in omega arith),
  (
    subst (λ n. found (slot_at n) (slot_word s)) (sym so.1)
        (subst (λ n. found n (slot_word s)) at (subst (found place) (sym is) here)),
    so.2,
  ),
  more ∙ ap (with_slot r i s) so.3 ∙ ap (λ n. with_slot r n s (slots_counted r so.0)) (sym so.1),
)

pub pin_more : (found : ℕ → ℕ → Type 0) (i place w : ℕ) (p : Pin) (slots c d : SlotCounts) → CountsPins found i slots c
    → place ≡ pin_at (i + 1) → found place w → pin_word p ≡ w → d ≡ pin_counted p c → CountsPins found (i + 1) slots d
pin_more found i place w p slots c d so at here is more = (
  p ∷ so.0,
  (let all = so.1 in omega arith),
  (
    subst (λ n. found (pin_at (n + 1)) (pin_word p)) (sym so.1)
        (subst (λ n. found n (pin_word p)) at (subst (found place) (sym is) here)),
    so.2,
  ),
  more ∙ ap (pin_counted p) so.3,
)

-- ---- what every count says

pub same_pins : (found : ℕ → ℕ → Type 0) (k : Sizes) (c : SlotCounts) (h : Counts found k c)
    → PinsWithin k.readers h.slots c
same_pins found k c h =
    subst (λ n. PinsWithin n h.slots c) h.of_pins.1 (subst (PinsWithin (length h.of_pins.0) h.slots) (sym h.of_pins.3)
    (all_pins h.of_pins.0 h.slots (subst NoPins (sym h.of_slots.3) (all_bare (first_reserved k) h.of_slots.0))))

pub slots_within : (found : ℕ → ℕ → Type 0) (k : Sizes) (c : SlotCounts) (h : Counts found k c)
    → FreeWithin (first_reserved k) k.slots h.slots
slots_within found k c h = subst (λ n. FreeWithin (first_reserved k) n h.slots) h.of_slots.1
    (subst (FreeWithin (first_reserved k) (length h.of_slots.0)) (sym h.of_slots.3)
    (all_within (first_reserved k) h.of_slots.0))

pub slots_all : (found : ℕ → ℕ → Type 0) (k : Sizes) (c : SlotCounts) (h : Counts found k c)
    → all_slots h.slots ≡ k.slots
slots_all found k c h = ap all_slots h.of_slots.3 ∙ all_counted (first_reserved k) h.of_slots.0 ∙ h.of_slots.1
