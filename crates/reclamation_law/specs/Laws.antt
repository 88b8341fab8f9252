-- What holds in the joined machine, after every list of events.
use Rattle.std.specs.Prelude.{◌≡◌, ℕ, ◌^◌, ◌<◌, ◌≤◌, ◌⊎◌, List, [], ◌∷◌, ◌++◌, cond, ◌==◌, slice_index}
use mathlib.Core.Option.{some}
use lib.ListN.{get_elem?}
use Rattle.group_history.specs.Refs.{max_seats}
use Rattle.reader_claims.specs.declared.words.SlotState.TheVariants.{Live}
use Rattle.reader_claims.specs.declared.view.Sizes.{Sizes}
use Rattle.reader_claims.specs.declared.view.View.{View}
use Rattle.reader_claims.specs.Words.{slot_at, slot_word}
use Rattle.reader_claims.specs.Lists.{In}
use Rattle.reader_claims.specs.Machine.{Reached}
use Rattle.reader_claims.specs.Laws.{Holds}
use Rattle.reclamation_law.specs.Worlds.{Commit, Among, Work, World}
use Rattle.reclamation_law.specs.Events.{WorldDeed, loads_epoch, raises, takes, settles, withdraws}
use Rattle.reclamation_law.specs.Events.{retires, gives, begins}
use Rattle.reclamation_law.specs.Events.{loses, gives_up, Event}
use Rattle.reclamation_law.specs.Joined.{JoinedSteps, Runs, Opens}

-- the commit is one that the seat j loaded under the pin that it still holds
abbrev pub IsLoaded : World → ℕ → Commit → Type 0
IsLoaded s j c = (a : Work) × (get_elem? s.works j ≡ some a) × Among a.commits c

-- the head reaches the slot, or a commit that some seat loaded under the pin that it still holds
abbrev pub IsReached : World → ℕ → Type 0
IsReached s z = In s.reached z ⊎ ((j : ℕ) × (c : Commit) × IsLoaded s j c × In c.slots z)

-- the deed gives, withdraws or takes the slot
abbrev pub Reuses : WorldDeed → ℕ → Type 0
Reuses (takes slot) z = z ≡ slot
Reuses (withdraws slot) z = z ≡ slot
Reuses (gives slot) z = z ≡ slot
Reuses other z = ⊥

-- the deed retires a slot
abbrev pub IsRetiring : WorldDeed → Type 0
IsRetiring (retires slot) = Unit {0}
IsRetiring other = ⊥

-- No slot that the head reaches, or that a commit loaded under a pin still held reaches, is ever given, withdrawn or
-- taken
abbrev pub JoinedLaw : Type 0
JoinedLaw = (k : Sizes) (s t u : World) (es : List Event) (e : Event) (z : ℕ)
    → Opens k s → Runs s es t → JoinedSteps t e u → IsReached t z → Reuses e.deed z → ⊥

-- The slots that the head reaches are live
abbrev pub HeadLaw : Type 0
HeadLaw = (k : Sizes) (s t : World) (es : List Event) (z : ℕ) → Opens k s → Runs s es t → In t.reached z
    → (z < k.slots) × (slice_index t.words (slot_at z) ≡ slot_word Live)

-- A seat has a commit only while it holds a pin, and holds each slot of it, as the claims table says it: live, or
-- retired above the pin
abbrev pub JoinedHoldLaw : Type 0
JoinedHoldLaw = (k : Sizes) (s t : World) (es : List Event) (j z : ℕ) (c : Commit) → Opens k s → Runs s es t
    → IsLoaded t j c → In c.slots z
    → (v : View) × (get_elem? t.views j ≡ some v) × Holds t.words v z

-- A seat that loaded the epoch at its highest number retires nothing
abbrev pub HighestLaw : Type 0
HighestLaw = (k : Sizes) (s t u : World) (es : List Event) (e : Event) (v : View) → Opens k s
    → Runs s es t → JoinedSteps t e u
    → get_elem? t.views e.seat ≡ some v → IsRetiring e.deed → v.loaded < 2 ^ 60

-- Where the claims table's own steps lead to a table, they lead to each that events make of it. So its laws hold in the
-- joined machine
abbrev pub TableLaw : Type 0
TableLaw = (k : Sizes) (s t : World) (es : List Event) → Reached k s.words s.views → Runs s es t
    → Reached k t.words t.views

-- For any number of readers from 1 on, and whatever slots the opening commit reaches, the machine can open so that they
-- lead to its table
abbrev pub OpeningLaw : Type 0
OpeningLaw = (k : Sizes) (zs : List ℕ) → 0 < k.readers → k.readers ≤ max_seats → ((z : ℕ) → In zs z → z < k.slots)
    → (s : World) × Opens k s × Reached k s.words s.views × (s.reached ≡ zs)

-- From such an opening there are events by which a slot that the opening commit reaches is dropped, retired, given, and
-- taken again. So the law does not hold for want of steps
abbrev pub TurnLaw : Type 0
TurnLaw = (k : Sizes) × (s t u : World) × (es : List Event) × (e : Event) × (z : ℕ)
    × Opens k s × Reached k s.words s.views × Runs s es t × JoinedSteps t e u × In s.reached z × (e.deed ≡ takes z)

-- what the seat j does in these events, in order
abbrev pub done_by : ℕ → List Event → List WorldDeed
done_by j [] = []
done_by j (e ∷ es) = cond (e.seat == j) (e.deed ∷ done_by j es) (done_by j es)

-- From such an opening there are events too by which a seat takes a slot and settles it in a try, loses the exchange of
-- the head, or gives the try up, and retires the slot, with nothing else of that seat between; and the slot is given,
-- and taken again. So what a lost try settled does not stay live for want of steps
abbrev pub LostTurnLaw : Type 0
LostTurnLaw = (d : WorldDeed) → (d ≡ loses) ⊎ (d ≡ gives_up)
    → (k : Sizes) × (s t u : World) × (es : List Event) × (e : Event) × (j n z : ℕ) × (before later : List WorldDeed)
    × Opens k s × Reached k s.words s.views × Runs s es t × JoinedSteps t e u × (In s.reached z → ⊥)
    × (done_by j es ≡ before ++ begins ∷ takes z ∷ settles z ∷ d ∷ loads_epoch ∷ raises n ∷ retires z ∷ later)
    × (e.deed ≡ takes z)
