-- The laws of the claims table, from what holds of every table that steps lead to.
use Rattle.std.proofs.Common.{◌≡◌, ◌⊎◌, ◌<◌, ◌≤◌, ◌+◌, ℕ, List, get_or, set, arith, refl, ap, ◌∙◌, subst, inl, inr}
use Rattle.std.proofs.Common.{⊎_elim, get_or-set_same, get_or-set_other}
use mathlib.Core.Logic.{dite}
use mathlib.Core.Option.{some}
use native.Mathlib.Decide.{ℕ_discrete}
use lib.ListN.{get_elem?}
use Rattle.reader_claims.specs.declared.view.Sizes.{Sizes}
use Rattle.reader_claims.specs.declared.view.View.{View}
use Rattle.reader_claims.specs.declared.words.SlotState.TheVariants.{Free, Taken, Live, Retired}
use Rattle.reader_claims.specs.Words.{pin_at, slot_at, pin_word, slot_word}
use Rattle.reader_claims.specs.Views.{IsOpen}
use Rattle.reader_claims.specs.Machine as machine
use Rattle.reader_claims.specs.Machine.{Move}
use Rattle.reader_claims.specs.Laws.{Situation, HoldLaw, LearntLaw, OpenLaw, GivenLaw, HeldLaw, RetiredLaw, TakenLaw}
use Rattle.reader_claims.specs.Laws.{TakerLaw, EpochLaw, LiveLaw, StepLaw}
use Rattle.atomic_table.proofs.Lists.{set_here}
use Rattle.reader_claims.proofs.Sound.{Sound}
use Rattle.reader_claims.proofs.Keeps.{below}
use Rattle.reader_claims.proofs.Slotted.{quiet_holds}
use Rattle.reader_claims.proofs.Reaching.{sound, state}

sound_at : (s : Situation) → Sound s.sizes (state s.words s.views)
sound_at s = sound s.sizes s.words s.views s.reached

pub open_law : OpenLaw
open_law s r e open_at h = quiet_holds s.sizes (state s.words s.views)
    (sound_at s) s.one.place s.one.view r s.one.sits open_at.0 open_at.1 s.two.place s.two.view e s.two.sits h

pub given_law : GivenLaw
given_law s e h = (sound_at s).slots.floors s.one.place s.two.place s.one.view s.two.view e s.one.sits s.two.sits h

pub held_law : HeldLaw
held_law s e h = let o = sound_at s in let at = s.one.sits in (
  dite (ℕ_discrete s.one.place 0)
      (λ first. let q = o.pins.pinless s.one.view
      (subst (λ i. get_elem? s.views i ≡ some s.one.view) first at) in absurd (cc))
      (λ later. o.pins.pinned s.one.place s.one.view at (omega arith) ∙ ap pin_word h),
  o.pins.held s.one.place s.one.view e at h,
)

pub learnt_law : LearntLaw
learnt_law s x e noted h = (sound_at s).pins.learnt s.one.place s.two.place s.one.view s.two.view x e s.one.sits
    s.two.sits noted h

pub retired_law : RetiredLaw
retired_law s i r near is = (sound_at s).slots.retired i r near is

pub taken_law : TakenLaw
taken_law s i inside = let o = sound_at s in let a = (o.slots.taken s.one.place i s.one.view s.one.sits inside).1 in
    (a, λ inside'. let b = (o.slots.taken s.two.place i s.two.view s.two.sits inside').1 in omega arith)

pub taker_law : TakerLaw
taker_law s i j near is = let o = sound_at s in let t = o.slots.taker i j near is in (
  (record { place = j; view = t.0; sits = t.1 }, refl, t.2),
  λ inside. let a = (o.slots.taken s.one.place i s.one.view s.one.sits inside).1 in omega arith,
)

pub step_law : StepLaw
step_law s i y w m = (
  machine.stepped s.words s.views s.one.place i y s.one.view w s.reached s.one.sits m,
  set_here s.views s.one.place w (below s.views s.one.place s.one.view s.one.sits),
)

-- the word that a step leaves, where it finds that of a live slot
pub live : (k : Sizes) (ws : List ℕ) (vs : List View) (o : Sound k (state ws vs)) (id slot : ℕ) (v : View)
    → get_elem? vs id ≡ some v
    → (i x y : ℕ) (w : View) → Move v i x y w → i ≡ slot_at slot → x ≡ slot_word Live
    → (y ≡ slot_word Live) ⊎ ((y ≡ slot_word (Retired (v.loaded + 1))) × (v.loaded < v.reached))
live k ws vs o id slot v me i x y w (machine.load_epoch e) at there = absurd (omega arith)
live k ws vs o id slot v me i x y w (machine.store_pin n e some_pin few) at there = absurd (omega arith)
live k ws vs o id slot v me i x y w (machine.clear_pin n some_pin few) at there = absurd (omega arith)
live k ws vs o id slot v me i x y w (machine.load_pin j n some_pin few) at there = absurd (omega arith)
live k ws vs o id slot v me i x y w (machine.raise n some_reader low past) at there = absurd (omega arith)
live k ws vs o id slot v me i x y w (machine.raise_lost n e past miss) at there = absurd (omega arith)
live k ws vs o id slot v me i x y w (machine.take j some_reader room) at there = absurd (omega arith)
live k ws vs o id slot v me i x y w (machine.settle j inside) at there = inl refl
live k ws vs o id slot v me i x y w (machine.withdraw j inside) at there = absurd (omega arith)
live k ws vs o id slot v me i x y w (machine.retire j room past) at there = inr (refl, past)
live k ws vs o id slot v me i x y w (machine.give j r room open_at) at there = absurd (omega arith)
live k ws vs o id slot v me i x y w (machine.lost j old n room miss) at there = inl there
live k ws vs o id slot v me i x y w (machine.miss j n room ne) at there = inl there

pub live_law : LiveLaw
live_law s i y w near there m = live s.sizes s.words s.views (sound_at s) s.one.place i s.one.view s.one.sits
    (slot_at i) (get_or s.words (slot_at i) 0) y w m refl there

-- a step that leaves a retired slot free is a give
freed : (v : View) (slot r : ℕ) (i x y : ℕ) (w : View) → Move v i x y w → i ≡ slot_at slot → x ≡ slot_word (Retired r)
    → y ≡ slot_word Free → IsOpen v r
freed v slot r i x y w (machine.load_epoch e) at there left = absurd (omega arith)
freed v slot r i x y w (machine.store_pin n e some_pin few) at there left = absurd (omega arith)
freed v slot r i x y w (machine.clear_pin n some_pin few) at there left = absurd (omega arith)
freed v slot r i x y w (machine.load_pin j n some_pin few) at there left = absurd (omega arith)
freed v slot r i x y w (machine.raise n some_reader low past) at there left = absurd (omega arith)
freed v slot r i x y w (machine.raise_lost n e past miss) at there left = absurd (omega arith)
freed v slot r i x y w (machine.take j some_reader room) at there left = absurd (omega arith)
freed v slot r i x y w (machine.settle j inside) at there left = absurd (omega arith)
freed v slot r i x y w (machine.withdraw j inside) at there left = absurd (omega arith)
freed v slot r i x y w (machine.retire j room past) at there left = absurd (omega arith)
freed v slot r i x y w (machine.give j r' room open_at) at there left = let same : r' ≡ r = omega arith in
    subst (IsOpen v) same open_at
freed v slot r i x y w (machine.lost j old n room miss) at there left = absurd (omega arith)
freed v slot r i x y w (machine.miss j n room ne) at there left = absurd (omega arith)

pub hold_law : HoldLaw
hold_law s i y w near holds m free = let x : ℕ = get_or s.words (slot_at i) 0 in let v : View = s.one.view in ⊎_elim
    (λ (alive : x ≡ slot_word Live). ⊎_elim (λ (same : y ≡ slot_word Live). omega arith)
    (λ (gone : (y ≡ slot_word (Retired (v.loaded + 1))) × (v.loaded < v.reached)). let g = gone.0 in omega arith)
    (live_law s i y w near alive m))
    (λ (old : (r : ℕ) × (holds.0 < r) × (x ≡ slot_word (Retired r))). let e = old.1 in
    let past = open_law s old.0 holds.0 (freed v i old.0 (slot_at i) x y w m refl old.2 free) holds.1 in
    omega arith) holds.2

-- the number that a step leaves in the epoch's word is not below the one that it finds
pub rises : (k : Sizes) (ws : List ℕ) (vs : List View) (o : Sound k (state ws vs)) (id : ℕ) (v : View)
    → get_elem? vs id ≡ some v → (i x y : ℕ) (w : View) → Move v i x y w → get_or ws i 0 ≡ x
    → get_or ws 0 0 ≤ get_or (set ws i y) 0 0
rises k ws vs o id v me i x y w m at = let long = o.pins.wide in there i x y w m at where
  other : (i y : ℕ) → 0 < i → get_or ws 0 0 ≤ get_or (set ws i y) 0 0
  other i y some_word = let same : get_or (set ws i y) 0 0
      ≡ get_or ws 0 0 = get_or-set_other ws i 0 y 0 (λ e. omega arith) in omega arith

  here : (y : ℕ) → get_or ws 0 0 ≤ y → get_or ws 0 0 ≤ get_or (set ws 0 y) 0 0
  here y le = let long = o.pins.wide in let same : get_or (set ws 0 y) 0 0
      ≡ y = get_or-set_same ws 0 y 0 (omega arith) in omega arith

  there : (i x y : ℕ) (w : View) → Move v i x y w → get_or ws i 0 ≡ x → get_or ws 0 0 ≤ get_or (set ws i y) 0 0
  there i x y w (machine.load_epoch e) at = here e (omega arith)
  there i x y w (machine.store_pin n e some_pin few) at = other (pin_at v.number) (e + 1) (omega arith)
  there i x y w (machine.clear_pin n some_pin few) at = other (pin_at v.number) 0 (omega arith)
  there i x y w (machine.load_pin j n some_pin few) at = other (pin_at j) n (omega arith)
  there i x y w (machine.raise n some_reader low past) at = here (n + 1) (omega arith)
  there i x y w (machine.raise_lost n e past miss) at = here e (omega arith)
  there i x y w (machine.take j some_reader room) at = other (slot_at j) (slot_word (Taken v.number)) (omega arith)
  there i x y w (machine.settle j inside) at = other (slot_at j) 1 (omega arith)
  there i x y w (machine.withdraw j inside) at = other (slot_at j) 0 (omega arith)
  there i x y w (machine.retire j room past) at = other (slot_at j) (slot_word (Retired (v.loaded + 1))) (omega arith)
  there i x y w (machine.give j r room open_at) at = other (slot_at j) 0 (omega arith)
  there i x y w (machine.lost j old n room miss) at = other (slot_at j) n (omega arith)
  there i x y w (machine.miss j n room ne) at = other (slot_at j) n (omega arith)

pub epoch_law : EpochLaw
epoch_law s i y w m = rises s.sizes s.words s.views (sound_at s) s.one.place s.one.view s.one.sits i
    (get_or s.words i 0) y w m refl
