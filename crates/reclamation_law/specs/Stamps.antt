-- The joined machine with the stamps of what lies in its slots, and of what commits look for there. A seat places
-- something only in a slot that it has taken, and settles only what it has filled. In a slot of the commit before it a
-- new commit looks for what that one looked for, and in each other slot for what its publisher placed there.
use Rattle.std.specs.Prelude.{◌≡◌, ℕ, List, [], ◌∷◌, Bool, true, false, cond, ◌==◌}
use mathlib.Core.Option.{some}
use lib.ListN.{get_elem?}
use Rattle.group_history.specs.Refs.{stamp_of}
use Rattle.head_word.specs.Books.{last_move}
use Rattle.reader_claims.specs.declared.view.Sizes.{Sizes}
use Rattle.reader_claims.specs.declared.view.View.{View}
use Rattle.reader_claims.specs.Lists.{In}
use Rattle.reclamation_law.specs.Worlds.{Commit, World}
use Rattle.reclamation_law.specs.Events.{WorldDeed, takes, settles, publishes, Event}
use Rattle.reclamation_law.specs.Joined.{JoinedSteps, Opens}
use Rattle.reclamation_law.specs.Laws.{IsLoaded}

-- A world, and the stamps
pub record Stock : Type 0 where
  pub world : World
  -- by slot: the stamp of what was placed there last
  pub lies : ℕ → ℕ
  -- by slot: whether something was placed there since it was taken
  pub filled : ℕ → Bool
  -- by seat and slot: the stamp of what the seat placed there last
  pub mine : ℕ → ℕ → ℕ
  -- by the stamp of a commit, and a slot that it reaches: the stamp that it looks for there
  pub wanted : ℕ → ℕ → ℕ

pub data Happening : Type 0 where
  happens : Event → Happening
  places : (seat slot stamp : ℕ) → Happening

-- the function, but for what it says at i
abbrev pub at : {A : Type 0} → (ℕ → A) → ℕ → A → ℕ → A
at f i a j = cond (j == i) a (f j)

-- whether the number is in the list
abbrev pub has : List ℕ → ℕ → Bool
has [] z = false
has (x ∷ xs) z = cond (z == x) true (has xs z)

-- a seat settles only what it has filled
abbrev pub IsFilled : Stock → WorldDeed → Type 0
IsFilled s (settles slot) = s.filled slot ≡ true
IsFilled s other = Unit {0}

-- a slot that is taken is empty
abbrev pub filled_after : Stock → WorldDeed → ℕ → Bool
filled_after s (takes slot) = at s.filled slot false
filled_after s other = s.filled

-- what a new commit looks for
abbrev pub wanted_by : Stock → ℕ → ℕ → ℕ
wanted_by s seat z = cond (has s.world.reached z) (s.wanted (stamp_of (last_move s.world.log)) z) (s.mine seat z)

abbrev pub wanted_after : Stock → ℕ → WorldDeed → ℕ → ℕ → ℕ
wanted_after s seat (publishes new change) = at s.wanted (stamp_of new.at) (wanted_by s seat)
wanted_after s seat other = s.wanted

-- after an event of the machine
abbrev pub after_deed : Stock → World → ℕ → WorldDeed → Stock
after_deed s t seat deed = record s { world = t; filled = filled_after s deed; wanted = wanted_after s seat deed }

-- after the seat placed something in the slot z, under the stamp q
abbrev pub after_place : Stock → ℕ → ℕ → ℕ → Stock
after_place s id z q = record s {
  lies = at s.lies z q;
  filled = at s.filled z true;
  mine = at s.mine id (at (s.mine id) z q);
}

pub data Goes (s : Stock) : Happening → Stock → Type 0 where
  happen : (e : Event) (t : World) → JoinedSteps s.world e t → IsFilled s e.deed
      → Goes s (happens e) (after_deed s t e.seat e.deed)
  place : (id z q : ℕ) (v : View) → get_elem? s.world.views id ≡ some v → In v.taken z
      → Goes s (places id z q) (after_place s id z q)

abbrev pub GoesOn : Stock → List Happening → Stock → Type 0
GoesOn s [] t = s ≡ t
GoesOn s (h ∷ hs) t = (u : Stock) × Goes s h u × GoesOn u hs t

-- The opening commit looks for what lies there
pub record BeginsStock (k : Sizes) (s : Stock) : Type 0 where
  pub opens : Opens k s.world
  pub right : (z : ℕ) → In s.world.reached z → s.lies z ≡ s.wanted (stamp_of (last_move s.world.log)) z

-- A reader never meets a foreign stamp: in each slot of a commit that a seat loaded under the pin that it still holds
-- lies what the commit looks for
abbrev pub StampLaw : Type 0
StampLaw = (k : Sizes) (s t : Stock) (hs : List Happening) (j z : ℕ) (c : Commit)
    → BeginsStock k s → GoesOn s hs t → IsLoaded t.world j c → In c.slots z → t.lies z ≡ t.wanted (stamp_of c.at) z
