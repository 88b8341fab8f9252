-- What a pass over the slots knows.
use Rattle.std.proofs.Common.{◌≡◌, ℕ, zero, suc, ◌+◌, ◌≤◌, ◌≢◌, List, [], ◌∷◌, ◌++◌, refl, sym, ap, ap₂, ◌∙◌, subst}
use Rattle.std.proofs.Common.{arith, append_assoc, map, inl, inr}
use Rattle.std.proofs.lemmas.List.{map-append}
use Rattle.reader_claims.specs.Deeds as deed
use Rattle.reader_claims.specs.Deeds.{Deed}
use mathlib.Core.Logic.{dite}
use native.Mathlib.Decide.{ℕ_discrete, dec_lt}
use Rattle.reader_claims.specs.Words.{slot_word}
use Rattle.reader_claims.specs.Notes.{Note, lost, gave, StandTogether}
use Rattle.reader_claims.specs.Views.{with_taken, with_note, with_look, with_given, promoted, sought}
use Rattle.reader_claims.specs.Views.{ArePinsRead, IsOpen, IsClosed}
use Rattle.reader_claims.specs.Passes as passes
use Rattle.reader_claims.specs.Lists.{In}
use Rattle.reader_claims.specs.Passes.{passed, found, retired_at, Looks, OnlyTakes, Takes, WhyShut, AreShut, FindsNone}
use Rattle.reader_claims.specs.Passes.{FoundNone, KnowsNone}
use Rattle.reader_claims.specs.Seats.{KeepsPin}
use Rattle.reader_claims.proofs.Raising.{keeps_promoted}
use Rattle.reader_claims.specs.Inside.Scans.{Later, HasFoundWord}
use Rattle.reader_claims.specs.declared.view.View.{View}
use Rattle.reader_claims.specs.declared.words.SlotState.{SlotState}
use Rattle.reader_claims.specs.declared.words.SlotState.TheVariants.{Free, Taken, Live, Retired}

-- notes that stand together stay so when more are put in front
together_later : (run f g notes : List Note) → g ≡ notes ++ f → StandTogether run f → StandTogether run g
together_later run f g notes is h = (
  notes ++ h.0,
  h.1,
  is ∙ ap (λ l. notes ++ l) h.2 ∙ sym (append_assoc notes h.0 (run ++ h.1)),
)

-- the newest notes stand together
pub in_front : (run back f : List Note) → f ≡ run ++ back → StandTogether run f
in_front run back f is = ([], back, is)

pub open_later : (r : ℕ) (v u : View) → Later v u → IsOpen v r → IsOpen u r
open_later r v u l h = subst (λ (y : View). IsOpen y r) (sym l.0) h

pub closed_later : (r : ℕ) (v u : View) → Later v u → IsClosed v r → IsClosed u r
closed_later r v u l h = subst (λ (y : View). IsClosed y r) (sym l.0) h

read_later : (v u : View) → Later v u → ArePinsRead v → ArePinsRead u
read_later v u l h = subst (λ (y : View). ArePinsRead y) (sym l.0) h

in_behind : (xs ys : List ℕ) (z : ℕ) → In ys z → In (xs ++ ys) z
in_behind [] ys z h = h
in_behind (x ∷ xs) ys z h = inr (in_behind xs ys z h)

own_later : (v u : View) (i : ℕ) → Later v u → In v.taken i → In u.taken i
own_later v u i l h = subst (λ xs. In xs i) (sym l.3.1.0) (in_behind l.3.0 v.taken i h)

shut_later : (i : ℕ) (v u : View) → Later v u → WhyShut v.taken i v → WhyShut u.taken i u
shut_later i v u l (passes.taken j saw own) = passes.taken j
    (together_later (found i (slot_word (Taken j)) ∷ []) v.notes u.notes l.1.0 l.1.1 saw)
    (λ is. own_later v u i l (own (is ∙ ap (λ (y : View). y.number) l.0)))
shut_later i v u l (passes.live saw) = passes.live
    (together_later (found i (slot_word Live) ∷ []) v.notes u.notes l.1.0 l.1.1 saw)
shut_later i v u l (passes.closed r saw h) = passes.closed r
    (together_later (found i (retired_at r) ∷ []) v.notes u.notes l.1.0 l.1.1 saw) (closed_later r v u l h)
shut_later i v u l (passes.give_lost r x ne run) = passes.give_lost r x ne
    (together_later (lost i (retired_at r) x ∷ (found i (retired_at r) ∷ [])) v.notes u.notes l.1.0 l.1.1 run)
shut_later i v u l (passes.take_lost r x ne run) = passes.take_lost r x ne
    (together_later (found i x ∷ (gave i r ∷ (found i (retired_at r) ∷ []))) v.notes u.notes l.1.0 l.1.1 run)

pub later_self : (v : View) → Later v v
later_self v = (refl, ([], refl), omega arith, ([], (refl, refl)))

later_taken : (v u : View) (i : ℕ) → u ≡ with_taken v i → Later v u
later_taken v u i is = subst (Later v) (sym is) (refl, ([], refl), omega arith, (i ∷ [], (refl, refl)))

pub later_note : (v u : View) (i old w : ℕ) → u ≡ with_note v i old w → Later v u
later_note v u i old w is = subst (Later v) (sym is) (
  refl,
  (lost i old w ∷ [], refl),
  omega arith,
  ([], (refl, refl)),
)

pub later_given : (v u : View) (i r : ℕ) → u ≡ with_given v i r → Later v u
later_given v u i r is = subst (Later v) (sym is) (refl, (gave i r ∷ [], refl), omega arith, ([], (refl, refl)))

-- slots taken one behind the other
pub only_takes : (v u t : View) (xs ys : List ℕ) → OnlyTakes v u xs → OnlyTakes u t ys → OnlyTakes v t (ys ++ xs)
only_takes v u t xs ys a b = (
  b.0 ∙ ap (λ (l : List ℕ). ys ++ l) a.0 ∙ sym (append_assoc ys xs v.taken),
  b.1 ∙ ap (λ (l : List Deed). map deed.took ys ++ l) a.1
      ∙ sym (append_assoc (map deed.took ys) (map deed.took xs) v.deeds)
      ∙ ap (λ (l : List Deed). l ++ v.deeds) (sym (map-append deed.took ys xs)),
)

pub later_later : (v u t : View) → Later v u → Later u t → Later v t
later_later v u t a b = (
  b.0 ∙ ap (λ (y : View). record y { taken = t.taken; notes = t.notes; deeds = t.deeds; floor = t.floor }) a.0,
  (b.1.0 ++ a.1.0, b.1.1 ∙ ap (λ (l : List Note). b.1.0 ++ l) a.1.1 ∙ sym (append_assoc b.1.0 a.1.0 v.notes)),
  (let p = a.2 in let q = b.2 in omega arith),
  (b.3.0 ++ a.3.0, only_takes v u t a.3.0 b.3.0 a.3.1 b.3.1),
)

sought_free : (w : ℕ) → w ≢ 0 → sought w ≡ 0
sought_free zero h = absurd (h refl)
sought_free (suc w) h = refl

pub later_look : (v u : View) (i w : ℕ) → u ≡ with_look v i w → Later v u
later_look v u i w is = later_note v u i (sought w) w is

-- a look that found the slot not free
pub found_by_look : (v u : View) (i w : ℕ) → u ≡ with_look v i w → (w ≡ slot_word (Taken v.number) → In v.taken i)
    → w ≢ 0 → HasFoundWord v i w u
found_by_look v u i w is own h =
    (v, later_self v, refl, is ∙ ap (λ (old : ℕ). with_note v i old w) (sought_free w h), own)

-- a take after a look
pub found_by_take : (v m u : View) (i seen w : ℕ) → m ≡ with_look v i seen → u ≡ with_note m i 0 w
    → (w ≡ slot_word (Taken m.number) → In m.taken i) → HasFoundWord v i w u
found_by_take v m u i seen w look is own = (m, later_look v m i seen look, ap (λ (y : View). y.taken) look, is, own)

-- a slot that was found so is given, and then taken
pub taken_after_give : (v u t x : View) (i w r : ℕ) → HasFoundWord v i w u → t ≡ with_given u i r → (In t.taken i → ⊥)
    → x ≡ with_taken t i → Takes v x i
taken_after_give v u t x i w r had given fresh won = let same : t.taken ≡ v.taken = ap (λ (y : View). y.taken) given
    ∙ ap (λ (y : View). y.taken) had.3 ∙ had.2 in (
      subst (λ l. In l i → ⊥) same fresh,
      ap (λ (y : View). y.taken) won ∙ ap (λ l. i ∷ l) same,
    )

-- a slot that is shut is so from an earlier view on
pub shut_since : (i : ℕ) (v m u : View) → m.taken ≡ v.taken → (u.taken ≡ m.taken) × WhyShut u.taken i u
    → (u.taken ≡ v.taken) × WhyShut u.taken i u
shut_since i v m u same h = (h.0 ∙ same, h.1)

-- a slot that was found neither free nor retired
shut_at_look : (i : ℕ) (v u : View) (state : SlotState) → u.notes ≡ found i (slot_word state) ∷ v.notes
    → (slot_word state ≡ slot_word (Taken u.number) → In u.taken i) → slot_word state ≢ 0
    → ((r : ℕ) → state ≡ Retired r → ⊥) → WhyShut u.taken i u
shut_at_look i v u Free is own some_word not = absurd (some_word refl)
shut_at_look i v u (Taken j) is own some_word not = passes.taken j
    (in_front (found i (slot_word (Taken j)) ∷ []) v.notes u.notes is) (λ e. own (ap (λ q. slot_word (Taken q)) e))
shut_at_look i v u Live is own some_word not = passes.live
    (in_front (found i (slot_word Live) ∷ []) v.notes u.notes is)
shut_at_look i v u (Retired r) is own some_word not = absurd (not r refl)

pub shut_at_once : (i w : ℕ) (v u : View) (state : SlotState) → u ≡ with_note v i 0 w → slot_word state ≡ w
    → (w ≡ slot_word (Taken v.number) → In v.taken i) → w ≢ 0 → ((r : ℕ) → state ≡ Retired r → ⊥)
    → (u.taken ≡ v.taken) × WhyShut u.taken i u
shut_at_once i w v u state is word own some_word not = (
  ap (λ (y : View). y.taken) is,
  shut_at_look i v u state (ap (λ (y : View). y.notes) is ∙ ap (λ q. found i q ∷ v.notes) (sym word))
      (λ e. subst (λ (y : View). In y.taken i) (sym is)
      (own (sym word ∙ e ∙ ap (λ (y : View). slot_word (Taken y.number)) is))) (λ e. some_word (sym word ∙ e)) not,
)

-- it was found retired, and closed
pub shut_as_closed : (i r w : ℕ) (v u : View) → u ≡ with_note v i 0 w → w ≡ retired_at r → IsClosed u r
    → (u.taken ≡ v.taken) × WhyShut u.taken i u
shut_as_closed i r w v u is word h = (
  ap (λ (y : View). y.taken) is,
  passes.closed r (in_front (found i (retired_at r) ∷ []) v.notes u.notes
      (ap (λ (y : View). y.notes) is ∙ ap (λ q. found i q ∷ v.notes) word)) h,
)

-- the give was lost
pub shut_at_give : (i r w x : ℕ) (v u t : View) → u ≡ with_note v i 0 w → w ≡ retired_at r → x ≢ retired_at r
    → t ≡ with_note u i (retired_at r) x → (t.taken ≡ v.taken) × WhyShut t.taken i t
shut_at_give i r w x v u t first word ne second = let both : t
    ≡ with_note (with_note v i 0 w) i (retired_at r) x = second ∙ ap (λ y. with_note y i (retired_at r) x) first in (
      ap (λ (y : View). y.taken) both,
      passes.give_lost r x ne (in_front (lost i (retired_at r) x ∷ (found i (retired_at r) ∷ [])) v.notes t.notes
          (ap (λ (y : View). y.notes) both ∙ ap (λ q. lost i (retired_at r) x ∷ (found i q ∷ v.notes)) word)),
    )

-- the take after the give was lost
pub shut_after_give : (i r w x : ℕ) (v u t z : View) → u ≡ with_note v i 0 w → w ≡ retired_at r → t ≡ with_given u i r
    → x ≢ 0 → z ≡ with_note t i 0 x → (z.taken ≡ v.taken) × WhyShut z.taken i z
shut_after_give i r w x v u t z first word second ne third = let all : z
    ≡ with_note (with_given (with_note v i 0 w) i r) i 0 x = third ∙ ap (λ y. with_note y i 0 x)
    (second ∙ ap (λ y. with_given y i r) first) in (
      ap (λ (y : View). y.taken) all,
      passes.take_lost r x ne (in_front (found i x ∷ (gave i r ∷ (found i (retired_at r) ∷ []))) v.notes z.notes
          (ap (λ (y : View). y.notes) all ∙ ap (λ q. found i x ∷ (gave i r ∷ (found i q ∷ v.notes))) word)),
    )

pub later_tried : (w i : ℕ) (v u : View) → (w ≡ 0 → u ≡ with_taken v i) → (w ≢ 0 → u ≡ with_note v i 0 w) → Later v u
later_tried w i v u won miss = dite (ℕ_discrete w 0) (λ e. later_taken v u i (won e))
    (λ ne. later_note v u i 0 w (miss ne))

-- a give, won or lost
pub later_offered : (w old i r : ℕ) (v u : View) → (w ≡ old → u ≡ with_given v i r)
    → (w ≢ old → u ≡ with_note v i old w)
    → Later v u
later_offered w old i r v u won miss = dite (ℕ_discrete w old) (λ e. later_given v u i r (won e))
    (λ ne. later_note v u i old w (miss ne))

pub taken_offered : (w old i r : ℕ) (v u : View) → (w ≡ old → u ≡ with_given v i r)
    → (w ≢ old → u ≡ with_note v i old w)
    → u.taken ≡ v.taken
taken_offered w old i r v u won miss = dite (ℕ_discrete w old) (λ e. ap (λ (y : View). y.taken) (won e))
    (λ ne. ap (λ (y : View). y.taken) (miss ne))

all_later : (from end : ℕ) (v u : View) → Later v u → AreShut v.taken from end v → AreShut u.taken from end u
all_later from end v u l h i over near = shut_later i v u l (h i over near)

pub all_more : (from end : ℕ) (v u : View) → Later v u → AreShut v.taken from end v → WhyShut u.taken end u
    → AreShut u.taken from (end + 1) u
all_more from end v u l h one i over near = dite (ℕ_discrete i end) (λ e. subst (λ j. WhyShut u.taken j u) (sym e) one)
    (λ ne. shut_later i v u l (h i over (omega arith)))

-- two ranges that meet
all_joined : (from at end : ℕ) (v : View) → AreShut v.taken from at v → AreShut v.taken at end v
    → AreShut v.taken from end v
all_joined from at end v a b i over near = dite (dec_lt i at) (λ lt. a i over lt) (λ ge. b i (omega arith) near)

-- a reading of the epoch and the pins from v to u, and then steps on slots to t
finds_none : (v u t : View) (end : ℕ) → u ≡ passed v u → ArePinsRead u → Later u t → AreShut t.taken 0 end t
    → FindsNone v t end
finds_none v u t end is read l shut = record {
  epoch = (
    ap (λ (y : View). y.epoch_loads) l.0 ∙ ap (λ (y : View). y.epoch_loads) is,
    ap (λ (y : View). y.loaded) l.0 ∙ ap (λ (y : View). y.loaded) is ∙ sym (ap (λ (y : View). y.reached) l.0),
  );
  pins = read_later u t l read;
  slots = shut;
}

-- a whole pass: the ordinary slots in two ranges, and then those to the end
pub passed_over : (v u a b t : View) (begin ordinary end : ℕ) → u ≡ passed v u → ArePinsRead u → Later u a → Later a b
    → Later b t → AreShut a.taken begin ordinary a → AreShut b.taken 0 begin b
    → AreShut t.taken ordinary end t → FindsNone v t end
passed_over v u a b t begin ordinary end is read l m n first second third =
    finds_none v u t end is read (later_later u b t (later_later u a b l m) n)
    (all_joined 0 ordinary end t (all_later 0 ordinary b t n
    (all_joined 0 begin ordinary b second (all_later begin ordinary a b m first))) third)

-- all ordinary slots were shut before the others were looked at
pub passed_ordinary : (v u a b t : View) (begin ordinary : ℕ) → u ≡ passed v u → ArePinsRead u → Later u a → Later a b
    → Later b t → AreShut a.taken begin ordinary a → AreShut b.taken 0 begin b
    → FindsNone v t ordinary
passed_ordinary v u a b t begin ordinary is read l m n first second =
    finds_none v u t ordinary is read (later_later u b t (later_later u a b l m) n)
    (all_later 0 ordinary b t n (all_joined 0 begin ordinary b second (all_later begin ordinary a b m first)))

-- what a pass found stands while slots are taken and given
pub still_none : (v u : View) (end : ℕ) → Later v u → FoundNone v end → FoundNone u end
still_none v u end l h = record {
  epoch = ap (λ (y : View). y.loaded) l.0 ∙ h.epoch ∙ sym (ap (λ (y : View). y.reached) l.0);
  pins = read_later v u l h.pins;
  slots = all_later 0 end v u l h.slots;
  beyond = h.beyond;
  far = h.far;
  own = own_later v u h.beyond l h.own;
}

-- it stood before the steps on slots
pub known_before : (v u : View) (end : ℕ) → Later v u → FoundNone v end → KnowsNone v u end
known_before v u end l h = (still_none v u end l h, inr (ap (λ (y : View). y.epoch_loads) l.0, h))

-- a pass, behind some steps on slots, which took a slot that isn't below the end
pub known_now : (v u t : View) (end i : ℕ) → Later v u → FindsNone u t end → end ≤ i → Takes u t i → KnowsNone v t end
known_now v u t end i l h far takes = (
  record {
    epoch = h.epoch.1;
    pins = h.pins;
    slots = h.slots;
    beyond = i;
    far = far;
    own = subst (λ (xs : List ℕ). In xs i) (sym takes.1) (inl refl);
  },
  inl (h.epoch.0 ∙ ap (λ (n : ℕ). n + 1) (ap (λ (y : View). y.epoch_loads) l.0)),
)

-- what the seat took after it had read the epoch and the pins
pub takes_passed : (v u t : View) → u ≡ passed v u → Later u t → (slots : List ℕ) × OnlyTakes v t slots
takes_passed v u t is l = (
  l.3.0,
  (
    l.3.1.0 ∙ ap (λ (x : List ℕ). l.3.0 ++ x) (ap (λ (y : View). y.taken) is),
    l.3.1.1 ∙ ap (λ (x : List Deed). map deed.took l.3.0 ++ x) (ap (λ (y : View). y.deeds) is),
  ),
)

-- what steps on slots leave, after a reading of the epoch and the pins
pub looks_over : (v u t : View) → u ≡ passed v u → v.reached ≤ u.reached → Later u t → Looks v t
looks_over v u t is rose l = record {
  sizes = ap (λ (y : View). y.sizes) l.0 ∙ ap (λ (y : View). y.sizes) is;
  number = ap (λ (y : View). y.number) l.0 ∙ ap (λ (y : View). y.number) is;
  pin = subst (KeepsPin v.pin) (sym (ap (λ (y : View). y.pin) l.0 ∙ ap (λ (y : View). y.pin) is))
      (keeps_promoted v.pin u.reached);
  stores = ap (λ (y : View). y.stores) l.0 ∙ ap (λ (y : View). y.stores) is;
  settled = ap (λ (y : View). y.settled) l.0 ∙ ap (λ (y : View). y.settled) is;
  withdrawn = ap (λ (y : View). y.withdrawn) l.0 ∙ ap (λ (y : View). y.withdrawn) is;
  retired = ap (λ (y : View). y.retired) l.0 ∙ ap (λ (y : View). y.retired) is;
  raises = ap (λ (y : View). y.raises) l.0 ∙ ap (λ (y : View). y.raises) is;
  loads = let more : t.epoch_loads ≡ v.epoch_loads + 1 = ap (λ (y : View). y.epoch_loads) l.0
      ∙ ap (λ (y : View). y.epoch_loads) is in omega arith;
  reached = let same : t.reached ≡ u.reached = ap (λ (y : View). y.reached) l.0 in omega arith;
  floor = let same : u.floor ≡ v.floor = ap (λ (y : View). y.floor) is in let h = l.2 in omega arith;
  took = takes_passed v u t is l;
}

-- steps on slots before a call that looks at slots
pub later_looks : (v u t : View) → Later v u → Looks u t → Looks v t
later_looks v u t l k = record {
  sizes = k.sizes ∙ ap (λ (y : View). y.sizes) l.0;
  number = k.number ∙ ap (λ (y : View). y.number) l.0;
  pin = subst (λ p. KeepsPin p t.pin) (ap (λ (y : View). y.pin) l.0) k.pin;
  stores = k.stores ∙ ap (λ (y : View). y.stores) l.0;
  settled = k.settled ∙ ap (λ (y : View). y.settled) l.0;
  withdrawn = k.withdrawn ∙ ap (λ (y : View). y.withdrawn) l.0;
  retired = k.retired ∙ ap (λ (y : View). y.retired) l.0;
  raises = k.raises ∙ ap (λ (y : View). y.raises) l.0;
  loads = let same : u.epoch_loads ≡ v.epoch_loads = ap (λ (y : View). y.epoch_loads) l.0 in
      let h = k.loads in omega arith;
  reached = let same : u.reached ≡ v.reached = ap (λ (y : View). y.reached) l.0 in let h = k.reached in omega arith;
  floor = let a = l.2 in let b = k.floor in omega arith;
  took = (k.took.0 ++ l.3.0, only_takes v u t l.3.0 k.took.0 l.3.1 k.took.1);
}

-- a give after a reading of the pins
pub given_passed : (v q u : View) (i r : ℕ) → q ≡ passed v q → u ≡ with_given q i r → u ≡ with_given (passed v u) i r
given_passed v q u i r first second = second ∙ ap (λ y. with_given y i r) first
    ∙ ap₂ (λ a b. with_given (record v {
      pin = promoted v.pin a;
      loaded = a;
      loaded_before = v.loaded;
      epoch_loads = v.epoch_loads + 1;
      reached = a;
      read = b;
      notes = [];
    }) i r) (ap (λ (y : View). y.reached) (sym second))
    (ap (λ (y : View). y.read) (sym second))

-- the same of a give that was lost
pub noted_passed : (v q u : View) (i old x : ℕ) → q ≡ passed v q → u ≡ with_note q i old x
    → u ≡ with_note (passed v u) i old x
noted_passed v q u i old x first second = second ∙ ap (λ y. with_note y i old x) first
    ∙ ap₂ (λ a b. with_note (record v {
      pin = promoted v.pin a;
      loaded = a;
      loaded_before = v.loaded;
      epoch_loads = v.epoch_loads + 1;
      reached = a;
      read = b;
      notes = [];
    }) i old x) (ap (λ (y : View). y.reached) (sym second))
    (ap (λ (y : View). y.read) (sym second))
