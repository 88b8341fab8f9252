-- What the calls tell: of a pin, of a raise, of one slot, and of a search among all slots. In each v is what the seat
-- knew before the call, and u what it knows after it.
use Rattle.std.specs.Prelude.{◌≡◌, ◌≢◌, ℕ, ◌+◌, ◌^◌, ◌<◌, ◌≤◌, ◌⊎◌, List, [], ◌∷◌, ◌++◌, map}
use Rattle.reader_claims.specs.declared.words.Pin.TheVariants.{Absent, Held}
use Rattle.reader_claims.specs.declared.words.SlotState.TheVariants.{Free, Taken, Live, Retired}
use Rattle.reader_claims.specs.declared.view.View.{View}
use Rattle.reader_claims.specs.Words.{slot_word}
use Rattle.reader_claims.specs.Lists.{In}
use Rattle.reader_claims.specs.Notes.{Note, lost, gave, StandTogether}
use Rattle.reader_claims.specs.Deeds as deed
use Rattle.reader_claims.specs.Seats.{KeepsPin}
use Rattle.reader_claims.specs.Views.{promoted, with_retired, with_missed, with_given, with_note, ArePinsRead}
use Rattle.reader_claims.specs.Views.{IsOpen, IsClosed}

-- after a pin: the epoch was read as e, stored, and read as e again
abbrev pub pinned : View → ℕ → View
pinned v e = record v {
  pin = Held e;
  stores = v.stores + 1;
  loaded = e;
  loaded_before = e;
  epoch_loads = v.epoch_loads + 2;
  reached = e;
  read = [];
  notes = [];
  settled = [];
}

-- after a pin that was taken away again: the epoch was read as a, stored, and then read as b
abbrev pub unpinned : View → ℕ → ℕ → View
unpinned v a b = record v {
  pin = Absent;
  stores = v.stores + 2;
  loaded = b;
  loaded_before = a;
  epoch_loads = v.epoch_loads + 2;
  reached = b;
  read = [];
  notes = [];
  settled = [];
}

-- the pin is held at e, which both loads read
abbrev pub IsPinnedAt : View → View → ℕ → Type 0
IsPinnedAt v u e = (u ≡ pinned v e) × (v.reached ≤ e) × (e ≤ 2 ^ 60)

-- the pin is absent, and the second load read more than the first: others raised the epoch
abbrev pub IsUnpinned : View → View → Type 0
IsUnpinned v u = (u ≡ unpinned v u.loaded_before u.loaded) × (v.reached ≤ u.loaded_before)
    × (u.loaded_before < u.loaded)

-- nothing was done to the epoch, or it was raised, once, to what the seat has reached by now
abbrev pub RaisesOnce : View → View → Type 0
RaisesOnce v u = ((u.raises ≡ v.raises) × (u.deeds ≡ v.deeds))
    ⊎ ((u.raises ≡ v.raises + 1) × (u.deeds ≡ deed.raised u.reached ∷ v.deeds))

-- A call that raises the epoch loads it, and raises it once at most. It leaves the pin and the slots, and what the seat
-- has reached never falls
pub record Raises (v u : View) : Type 0 where
  pub sizes : u.sizes ≡ v.sizes
  pub number : u.number ≡ v.number
  pub pin : KeepsPin v.pin u.pin
  pub stores : u.stores ≡ v.stores
  pub taken : u.taken ≡ v.taken
  pub settled : u.settled ≡ v.settled
  pub withdrawn : u.withdrawn ≡ v.withdrawn
  pub retired : u.retired ≡ v.retired
  pub epoch_loads : u.epoch_loads ≡ v.epoch_loads + 1
  pub raises : RaisesOnce v u
  pub reached : v.reached ≤ u.reached
  pub floor : u.floor ≡ v.floor

-- the seat retired the slot i at r, or found it not live
abbrev pub IsRetired : View → View → ℕ → ℕ → Type 0
IsRetired v u i r = (u ≡ with_retired v i r) ⊎ ((w : ℕ) × (w ≢ slot_word Live) × (u ≡ with_missed v i w))

-- but for what it retired and noted, u is v
abbrev pub IsButRetired : View → View → Type 0
IsButRetired v u = u ≡ record v { retired = u.retired; notes = u.notes; deeds = u.deeds }

-- the epoch was read once, and then pins: but for that u is v
abbrev pub passed : View → View → View
passed v u = record v {
  pin = promoted v.pin u.reached;
  loaded = u.reached;
  loaded_before = v.loaded;
  epoch_loads = v.epoch_loads + 1;
  reached = u.reached;
  read = u.read;
  notes = [];
}

-- the pins were read, and the slot i was given at some r at which they left it open
abbrev pub IsGiven : View → View → ℕ → Type 0
IsGiven v u i = (r : ℕ) × IsOpen u r × (u ≡ with_given (passed v u) i r)

-- the pins were read, and nothing was given; where the seat tried to give the slot i, another one had changed it
abbrev pub IsNotGiven : View → View → ℕ → Type 0
IsNotGiven v u i = (u ≡ passed v u) ⊎ ((r x : ℕ) × (x ≢ slot_word (Retired r))
    × (u ≡ with_note (passed v u) i (slot_word (Retired r)) x))

-- the seat took these slots, the last one first, and did nothing else to slots or the epoch, but that it may have given
-- some
abbrev pub OnlyTakes : View → View → List ℕ → Type 0
OnlyTakes v u slots = (u.taken ≡ slots ++ v.taken) × (u.deeds ≡ map deed.took slots ++ v.deeds)

-- A call that looks at slots may take one and give some. It stores no pin, raises nothing, and settles, withdraws and
-- retires no slot, so it shuts none by itself. What the seat has reached never falls
pub record Looks (v u : View) : Type 0 where
  pub sizes : u.sizes ≡ v.sizes
  pub number : u.number ≡ v.number
  pub pin : KeepsPin v.pin u.pin
  pub stores : u.stores ≡ v.stores
  pub settled : u.settled ≡ v.settled
  pub withdrawn : u.withdrawn ≡ v.withdrawn
  pub retired : u.retired ≡ v.retired
  pub raises : u.raises ≡ v.raises
  pub loads : v.epoch_loads ≤ u.epoch_loads
  pub reached : v.reached ≤ u.reached
  pub floor : v.floor ≤ u.floor
  pub took : (slots : List ℕ) × OnlyTakes v u slots

-- the slot i, which the seat did not have, is its own
abbrev pub Takes : View → View → ℕ → Type 0
Takes v u i = (In v.taken i → ⊥) × (u.taken ≡ i ∷ v.taken)

-- the slot i was sought as free, and the word w was there
abbrev pub found : ℕ → ℕ → Note
found i w = lost i (slot_word Free) w

-- the word of a slot retired at r
abbrev pub retired_at : ℕ → ℕ
retired_at r = slot_word (Retired r)

-- the seat found the slot i so since it last read the epoch
abbrev pub Saw : View → ℕ → ℕ → Type 0
Saw v i w = StandTogether (found i w ∷ []) v.notes

-- Why the slot i could not be had; those that the seat had itself are among `own`. Notes have the newest in front, and
-- between those that stand together the seat noted nothing else
pub data WhyShut (own : List ℕ) (i : ℕ) (v : View) : Type 0 where
  taken : (j : ℕ) → Saw v i (slot_word (Taken j)) → (j ≡ v.number → In own i) → WhyShut own i v
  live : Saw v i (slot_word Live) → WhyShut own i v
  -- it was retired, and may not be given
  closed : (r : ℕ) → Saw v i (retired_at r) → IsClosed v r → WhyShut own i v
  -- it was retired, and when the seat was to give it another seat had changed it
  give_lost : (r x : ℕ) → x ≢ retired_at r
      → StandTogether (lost i (retired_at r) x ∷ (found i (retired_at r) ∷ [])) v.notes → WhyShut own i v
  -- it was retired, the seat gave it, and when the seat was to take it another seat had changed it
  take_lost : (r x : ℕ) → x ≢ slot_word Free
      → StandTogether (found i x ∷ (gave i r ∷ (found i (retired_at r) ∷ []))) v.notes → WhyShut own i v

-- no slot of those from from and below end could be had
abbrev pub AreShut : List ℕ → ℕ → ℕ → View → Type 0
AreShut own from end v = (i : ℕ) → from ≤ i → i < end → WhyShut own i v

-- from v to u the epoch was read, once, and since then each pin, and each slot below end was found shut
pub record FindsNone (v u : View) (end : ℕ) : Type 0 where
  pub epoch : (u.epoch_loads ≡ v.epoch_loads + 1) × (u.loaded ≡ u.reached)
  pub pins : ArePinsRead u
  pub slots : AreShut u.taken 0 end u

-- Since the seat last read the epoch it read each pin, and found each slot below end shut. Those that it had itself it
-- has still, and it has one that is not below end: that one it took where it had found no other.
pub record FoundNone (v : View) (end : ℕ) : Type 0 where
  pub epoch : v.loaded ≡ v.reached
  pub pins : ArePinsRead v
  pub slots : AreShut v.taken 0 end v
  pub beyond : ℕ
  pub far : end ≤ beyond
  pub own : In v.taken beyond

-- No slot below end could be had: from v to u the epoch was read, once, and then it was found so; or it was found so
-- before v already, and the epoch wasn't read anew.
abbrev pub KnowsNone : View → View → ℕ → Type 0
KnowsNone v u end = FoundNone u end
    × ((u.epoch_loads ≡ v.epoch_loads + 1) ⊎ ((u.epoch_loads ≡ v.epoch_loads) × FoundNone v end))
