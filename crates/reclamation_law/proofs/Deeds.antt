-- What a step of the claims table does to a slot, to the pin, and to what its seat has under way.
use Rattle.std.proofs.Common.{◌≡◌, ◌⊎◌, ℕ, ◌+◌, ◌<◌, refl, sym, ap, subst, inl, inr, ⊎_elim, arith}
use Rattle.reader_claims.specs.declared.words.Pin.TheVariants.{Held}
use Rattle.reader_claims.specs.declared.words.SlotState.TheVariants.{Free, Taken, Live, Retired}
use Rattle.reader_claims.specs.declared.view.View.{View}
use Rattle.reader_claims.specs.Words.{slot_at, slot_word}
use Rattle.reader_claims.specs.Lists.{In}
use Rattle.reader_claims.specs.Views.{IsOpen, promoted}
use Rattle.reader_claims.specs.Machine as table
use Rattle.reader_claims.specs.Machine.{Move}
use Rattle.reclamation_law.specs.Worlds.{Commit, Among, Try, no_try, under_way, ended, Work}
use Rattle.reclamation_law.specs.Worlds.{slots_of, IsLateTry, IsDrawnIn}
use Rattle.reclamation_law.specs.Events.{deed_of}
use Rattle.reclamation_law.specs.Joined.{May, work_after, with_loaded, try_settled, try_retired}
use Rattle.reclamation_law.specs.Laws.{Reuses, IsRetiring}
use Rattle.reclamation_law.proofs.Rows.{gone, left}

-- A live slot stays so, or the seat retires it, which had it left
abbrev pub Retires : View → Work → ℕ → ℕ → Work → Type 0
Retires v a z y b = (y ≡ slot_word (Retired (v.loaded + 1))) × IsLateTry a.try × In (slots_of a.try) z
    × (In (slots_of b.try) z → ⊥)

pub from_live : (v : View) (a : Work) (z i x y : ℕ) (w : View) (m : Move v i x y w) → May a.try m → i ≡ slot_at z
    → x ≡ slot_word Live
    → (y ≡ slot_word Live) ⊎ Retires v a z y (work_after a m)
from_live v a z i x y w (table.load_epoch e) may at is = absurd (omega arith)
from_live v a z i x y w (table.store_pin n e some_pin few) may at is = absurd (omega arith)
from_live v a z i x y w (table.clear_pin n some_pin few) may at is = absurd (omega arith)
from_live v a z i x y w (table.load_pin j n some_pin few) may at is = absurd (omega arith)
from_live v a z i x y w (table.raise n some_reader low past) may at is = absurd (omega arith)
from_live v a z i x y w (table.raise_lost n e past miss) may at is = absurd (omega arith)
from_live v a z i x y w (table.take j some_reader room) may at is = absurd (omega arith)
from_live v a z i x y w (table.settle j inside) may at is = inl refl
from_live v a z i x y w (table.withdraw j inside) may at is = absurd (omega arith)
from_live v a z i x y w (table.retire j room past) may at is = let same : j ≡ z = omega arith in
    inr (
      refl,
      may.0,
      subst (In (slots_of a.try)) same may.1,
      subst
          (λ q. In (slots_of (try_retired a.try j)) q → ⊥) same (gone a.try j may.0),
    )
from_live v a z i x y w (table.give j r room open_at) may at is = absurd (omega arith)
from_live v a z i x y w (table.lost j old n room miss) may at is = inl is
from_live v a z i x y w (table.miss j n room ne) may at is = inl is

-- a retired slot stays so, or the seat gives it
pub from_retired : (v : View) (z r i x y : ℕ) (w : View) (m : Move v i x y w) → i ≡ slot_at z
    → x ≡ slot_word (Retired r)
    → (y ≡ slot_word (Retired r)) ⊎ IsOpen v r
from_retired v z r i x y w (table.load_epoch e) at is = absurd (omega arith)
from_retired v z r i x y w (table.store_pin n e some_pin few) at is = absurd (omega arith)
from_retired v z r i x y w (table.clear_pin n some_pin few) at is = absurd (omega arith)
from_retired v z r i x y w (table.load_pin j n some_pin few) at is = absurd (omega arith)
from_retired v z r i x y w (table.raise n some_reader low past) at is = absurd (omega arith)
from_retired v z r i x y w (table.raise_lost n e past miss) at is = absurd (omega arith)
from_retired v z r i x y w (table.take j some_reader room) at is = absurd (omega arith)
from_retired v z r i x y w (table.settle j inside) at is = absurd (omega arith)
from_retired v z r i x y w (table.withdraw j inside) at is = absurd (omega arith)
from_retired v z r i x y w (table.retire j room past) at is = absurd (omega arith)
from_retired v z r i x y w (table.give j s room open_at) at is = let same : s ≡ r = omega arith in
    inr (subst (IsOpen v) same open_at)
from_retired v z r i x y w (table.lost j old n room miss) at is = inl is
from_retired v z r i x y w (table.miss j n room ne) at is = inl is

-- the slot was the seat's own, and is live
abbrev pub Settles : View → ℕ → ℕ → ℕ → ℕ → Type 0
Settles v z i x y = In v.taken z × (i ≡ slot_at z) × (x ≡ slot_word (Taken v.number)) × (y ≡ slot_word Live)

more : (t : Try) (j z : ℕ) → In (slots_of (try_settled t j)) z → (z ≡ j) ⊎ In (slots_of t) z
more no_try j z h = inr h
more (under_way settled drawn) j z h = h
more (ended left loaded) j z h = inr h

same_slots : (t : Try) (z : ℕ) → In (slots_of (with_loaded t)) z → In (slots_of t) z
same_slots no_try z h = h
same_slots (under_way settled drawn) z h = h
same_slots (ended left loaded) z h = h

-- the slots of a try are those from before, and one that was settled
pub slots_from : (v : View) (a : Work) (z i x y : ℕ) (w : View) (m : Move v i x y w)
    → In (slots_of (work_after a m).try) z
    → In (slots_of a.try) z ⊎ Settles v z i x y
slots_from v a z i x y w (table.load_epoch e) h = inl (same_slots a.try z h)
slots_from v a z i x y w (table.store_pin n e some_pin few) h = inl h
slots_from v a z i x y w (table.clear_pin n some_pin few) h = inl h
slots_from v a z i x y w (table.load_pin j n some_pin few) h = inl h
slots_from v a z i x y w (table.raise n some_reader low past) h = inl h
slots_from v a z i x y w (table.raise_lost n e past miss) h = inl h
slots_from v a z i x y w (table.take j some_reader room) h = inl h
slots_from v a z i x y w (table.settle j inside) h = ⊎_elim
    (λ (e : z ≡ j). inr (subst (In v.taken) (sym e) inside, omega arith, refl, refl))
    (λ (g : In (slots_of a.try) z). inl g) (more a.try j z h)
slots_from v a z i x y w (table.withdraw j inside) h = inl h
slots_from v a z i x y w (table.retire j room past) h = inl (left a.try j z h)
slots_from v a z i x y w (table.give j r room open_at) h = inl h
slots_from v a z i x y w (table.lost j old n room miss) h = inl h
slots_from v a z i x y w (table.miss j n room ne) h = inl h

-- a seat has no more commits than before, and where it has one a held pin stays
abbrev pub Keeps : View → Work → View → Commit → Type 0
Keeps v a w c = Among a.commits c × ((e : ℕ) → v.pin ≡ Held e → w.pin ≡ Held e)

pub commits_from : (v : View) (a : Work) (c : Commit) (i x y : ℕ) (w : View) (m : Move v i x y w)
    → Among (work_after a m).commits c
    → Keeps v a w c
commits_from v a c i x y w (table.load_epoch e) h = (h, λ n is. ap (λ p. promoted p e) is)
commits_from v a c i x y w (table.store_pin n e some_pin few) h = absurd h
commits_from v a c i x y w (table.clear_pin n some_pin few) h = absurd h
commits_from v a c i x y w (table.load_pin j n some_pin few) h = (h, λ n is. is)
commits_from v a c i x y w (table.raise n some_reader low past) h = (h, λ n is. is)
commits_from v a c i x y w (table.raise_lost n e past miss) h = (h, λ n is. is)
commits_from v a c i x y w (table.take j some_reader room) h = (h, λ n is. is)
commits_from v a c i x y w (table.settle j inside) h = (h, λ n is. is)
commits_from v a c i x y w (table.withdraw j inside) h = (h, λ n is. is)
commits_from v a c i x y w (table.retire j room past) h = (h, λ n is. is)
commits_from v a c i x y w (table.give j r room open_at) h = (h, λ n is. is)
commits_from v a c i x y w (table.lost j old n room miss) h = (h, λ n is. is)
commits_from v a c i x y w (table.miss j n room ne) h = (h, λ n is. is)

late_settled : (t : Try) (j : ℕ) → IsLateTry (try_settled t j) → IsLateTry t
late_settled no_try j h = h
late_settled (under_way settled drawn) j h = h
late_settled (ended left loaded) j h = h

late_retired : (t : Try) (j : ℕ) → IsLateTry (try_retired t j) → IsLateTry t
late_retired no_try j h = h
late_retired (under_way settled drawn) j h = h
late_retired (ended left loaded) j h = h

-- that the epoch was loaded after a try was so before, or it was loaded now
pub late_from : (v : View) (a : Work) (i x y : ℕ) (w : View) (m : Move v i x y w) → IsLateTry (work_after a m).try
    → ((i ≡ 0) × (w.loaded ≡ x)) ⊎ (IsLateTry a.try × (w.loaded ≡ v.loaded))
late_from v a i x y w (table.load_epoch e) h = inl (refl, refl)
late_from v a i x y w (table.store_pin n e some_pin few) h = inr (h, refl)
late_from v a i x y w (table.clear_pin n some_pin few) h = inr (h, refl)
late_from v a i x y w (table.load_pin j n some_pin few) h = inr (h, refl)
late_from v a i x y w (table.raise n some_reader low past) h = inr (h, refl)
late_from v a i x y w (table.raise_lost n e past miss) h = inr (h, refl)
late_from v a i x y w (table.take j some_reader room) h = inr (h, refl)
late_from v a i x y w (table.settle j inside) h = inr (late_settled a.try j h, refl)
late_from v a i x y w (table.withdraw j inside) h = inr (h, refl)
late_from v a i x y w (table.retire j room past) h = inr (late_retired a.try j h, refl)
late_from v a i x y w (table.give j r room open_at) h = inr (h, refl)
late_from v a i x y w (table.lost j old n room miss) h = inr (h, refl)
late_from v a i x y w (table.miss j n room ne) h = inr (h, refl)

drawn_loaded : (t : Try) (q : ℕ) → IsDrawnIn (with_loaded t) q → IsDrawnIn t q
drawn_loaded no_try q h = h
drawn_loaded (under_way settled drawn) q h = h
drawn_loaded (ended left loaded) q h = h

drawn_settled : (t : Try) (j q : ℕ) → IsDrawnIn (try_settled t j) q → IsDrawnIn t q
drawn_settled no_try j q h = h
drawn_settled (under_way settled drawn) j q h = h
drawn_settled (ended left loaded) j q h = h

drawn_retired : (t : Try) (j q : ℕ) → IsDrawnIn (try_retired t j) q → IsDrawnIn t q
drawn_retired no_try j q h = h
drawn_retired (under_way settled drawn) j q h = h
drawn_retired (ended left loaded) j q h = h

pub drawn_from : (v : View) (a : Work) (q i x y : ℕ) (w : View) (m : Move v i x y w) → IsDrawnIn (work_after a m).try q
    → IsDrawnIn a.try q
drawn_from v a q i x y w (table.load_epoch e) h = drawn_loaded a.try q h
drawn_from v a q i x y w (table.store_pin n e some_pin few) h = h
drawn_from v a q i x y w (table.clear_pin n some_pin few) h = h
drawn_from v a q i x y w (table.load_pin j n some_pin few) h = h
drawn_from v a q i x y w (table.raise n some_reader low past) h = h
drawn_from v a q i x y w (table.raise_lost n e past miss) h = h
drawn_from v a q i x y w (table.take j some_reader room) h = h
drawn_from v a q i x y w (table.settle j inside) h = drawn_settled a.try j q h
drawn_from v a q i x y w (table.withdraw j inside) h = h
drawn_from v a q i x y w (table.retire j room past) h = drawn_retired a.try j q h
drawn_from v a q i x y w (table.give j r room open_at) h = h
drawn_from v a q i x y w (table.lost j old n room miss) h = h
drawn_from v a q i x y w (table.miss j n room ne) h = h

-- a step that gives, withdraws or takes the slot finds it free, or taken, or retired and open
pub data Found (v : View) (x : ℕ) : Type 0 where
  free : x ≡ slot_word Free → Found v x
  taken : x ≡ slot_word (Taken v.number) → Found v x
  open_at : (r : ℕ) → x ≡ slot_word (Retired r) → IsOpen v r → Found v x

pub found : (v : View) (z i x y : ℕ) (w : View) (m : Move v i x y w) → Reuses (deed_of m) z
    → (i ≡ slot_at z) × Found v x
found v z i x y w (table.load_epoch e) h = absurd h
found v z i x y w (table.store_pin n e some_pin few) h = absurd h
found v z i x y w (table.clear_pin n some_pin few) h = absurd h
found v z i x y w (table.load_pin j n some_pin few) h = absurd h
found v z i x y w (table.raise n some_reader low past) h = absurd h
found v z i x y w (table.raise_lost n e past miss) h = absurd h
found v z i x y w (table.take j some_reader room) h = (omega arith, free refl)
found v z i x y w (table.settle j inside) h = absurd h
found v z i x y w (table.withdraw j inside) h = (omega arith, taken refl)
found v z i x y w (table.retire j room past) h = absurd h
found v z i x y w (table.give j r room now) h = (omega arith, open_at r refl now)
found v z i x y w (table.lost j old n room miss) h = absurd h
found v z i x y w (table.miss j n room ne) h = absurd h

-- who retires a slot has seen the epoch above the number that it loaded
pub raised : (v : View) (i x y : ℕ) (w : View) (m : Move v i x y w) → IsRetiring (deed_of m) → v.loaded < v.reached
raised v i x y w (table.load_epoch e) h = absurd h
raised v i x y w (table.store_pin n e some_pin few) h = absurd h
raised v i x y w (table.clear_pin n some_pin few) h = absurd h
raised v i x y w (table.load_pin j n some_pin few) h = absurd h
raised v i x y w (table.raise n some_reader low past) h = absurd h
raised v i x y w (table.raise_lost n e past miss) h = absurd h
raised v i x y w (table.take j some_reader room) h = absurd h
raised v i x y w (table.settle j inside) h = absurd h
raised v i x y w (table.withdraw j inside) h = absurd h
raised v i x y w (table.retire j room past) h = past
raised v i x y w (table.give j r room now) h = absurd h
raised v i x y w (table.lost j old n room miss) h = absurd h
raised v i x y w (table.miss j n room ne) h = absurd h
