-- What a seat knows, and how each step changes it.
use Rattle.std.specs.Prelude.{◌≡◌, ℕ, zero, suc, ◌+◌, ◌<◌, ◌≤◌, ◌⊎◌, [], ◌∷◌, max, cond, ◌==◌}
use Rattle.reader_claims.specs.declared.words.Pin.{Pin}
use Rattle.reader_claims.specs.declared.words.Pin.TheVariants.{Absent, Stored, Held}
use Rattle.reader_claims.specs.declared.words.SlotState.TheVariants.{Live}
use Rattle.reader_claims.specs.declared.view.Sizes.{Sizes}
use Rattle.reader_claims.specs.declared.view.View.{View}
use Rattle.reader_claims.specs.Lists.{Noted, without}
use Rattle.reader_claims.specs.Notes.{lost, gave}
use Rattle.reader_claims.specs.Deeds as deed
use Rattle.reader_claims.specs.Words.{slot_word}

-- the seat of the reader j, before its first step
abbrev pub reader : Sizes → ℕ → View
reader k j = record {
  sizes = k;
  number = j;
  next = 0;
  pin = Absent;
  stores = 0;
  loaded = 0;
  loaded_before = 0;
  epoch_loads = 0;
  reached = 0;
  raises = 0;
  read = [];
  taken = [];
  settled = [];
  withdrawn = [];
  retired = [];
  notes = [];
  deeds = [];
  floor = 0;
}

-- the seat that makes those of the readers, with the number that the next one gets
abbrev pub dealer : Sizes → ℕ → View
dealer k n = record {
  sizes = k;
  number = 0;
  next = n;
  pin = Absent;
  stores = 0;
  loaded = 0;
  loaded_before = 0;
  epoch_loads = 0;
  reached = 0;
  raises = 0;
  read = [];
  taken = [];
  settled = [];
  withdrawn = [];
  retired = [];
  notes = [];
  deeds = [];
  floor = 0;
}

-- a stored pin becomes held where the epoch is read as its number
abbrev pub promoted : Pin → ℕ → Pin
promoted Absent e = Absent
promoted (Stored n) e = cond (n == e) (Held n) (Stored n)
promoted (Held n) e = Held n

-- the epoch was read as e
abbrev pub with_epoch : View → ℕ → View
with_epoch v e = record v {
  pin = promoted v.pin e;
  loaded = e;
  loaded_before = v.loaded;
  epoch_loads = v.epoch_loads + 1;
  reached = e;
  read = [];  -- what was read before counts no more
  notes = [];
}

-- the own pin was stored, or taken away
abbrev pub with_pin : View → Pin → View
with_pin v p = record v { pin = p; stores = v.stores + 1; settled = [] }

-- the pin of the reader j was read, and its word is w
abbrev pub with_read : View → ℕ → ℕ → View
with_read v j w = record v { read = (j, w) ∷ v.read }

-- after a raise, won or lost, the epoch is at least e
abbrev pub with_raise : View → ℕ → View
with_raise v e = record v { reached = e; raises = v.raises + 1; read = []; deeds = deed.raised e ∷ v.deeds }

-- the slot i was taken
abbrev pub with_taken : View → ℕ → View
with_taken v i = record v { taken = i ∷ v.taken; deeds = deed.took i ∷ v.deeds }

-- the taken slot i became live
abbrev pub with_settled : View → ℕ → View
with_settled v i = record v {
  taken = without i v.taken;
  settled = i ∷ v.settled;
  deeds = deed.settled i ∷ v.deeds;
}

-- the taken slot i became free again
abbrev pub with_withdrawn : View → ℕ → View
with_withdrawn v i = record v {
  taken = without i v.taken;
  withdrawn = i ∷ v.withdrawn;
  deeds = deed.withdrew i ∷ v.deeds;
}

-- the slot i was retired at r
abbrev pub with_retired : View → ℕ → ℕ → View
with_retired v i r = record v { retired = (i, r) ∷ v.retired; deeds = deed.retired i r ∷ v.deeds }

-- the slot i was to be retired, and w was there, which is not that of a live slot
abbrev pub with_missed : View → ℕ → ℕ → View
with_missed v i w = record v { notes = lost i (slot_word Live) w ∷ v.notes; deeds = deed.missed i ∷ v.deeds }

-- the slot i was given, which had been retired at r
abbrev pub with_given : View → ℕ → ℕ → View
with_given v i r = record v { notes = gave i r ∷ v.notes; floor = max v.floor r }

-- an exchange was lost: the slot i was sought at the word old, and w was there
abbrev pub with_note : View → ℕ → ℕ → ℕ → View
with_note v i old w = record v { notes = lost i old w ∷ v.notes }

-- the word that a look which finds this one is noted to have sought: a free slot, or another word where it is free
abbrev pub sought : ℕ → ℕ
sought zero = 1
sought (suc w) = 0

-- the slot i was looked at, and w was there: this is noted as a take that found w
abbrev pub with_look : View → ℕ → ℕ → View
with_look v i w = with_note v i (sought w) w

-- the pin of each reader was read since the epoch was last read or raised past
abbrev pub ArePinsRead : View → Type 0
ArePinsRead v = (j : ℕ) → 0 < j → j ≤ v.sizes.readers → (w : ℕ) × Noted v.read j w

-- each pin was read as absent or at least r
abbrev pub NoneBelow : View → ℕ → Type 0
NoneBelow v r = (j : ℕ) → 0 < j → j ≤ v.sizes.readers → (w : ℕ) × Noted v.read j w × ((w ≡ 0) ⊎ (r < w))

-- some pin was read as below r
abbrev pub SomeBelow : View → ℕ → Type 0
SomeBelow v r = (j : ℕ) × (0 < j) × (j ≤ v.sizes.readers) × ((w : ℕ) × Noted v.read j w × (0 < w) × (w ≤ r))

-- a slot that was retired at r may be given
abbrev pub IsOpen : View → ℕ → Type 0
IsOpen v r = (r ≤ v.reached) × NoneBelow v r

-- it may not: r is above the epoch read, or a pin was read below r
abbrev pub IsClosed : View → ℕ → Type 0
IsClosed v r = (v.reached < r) ⊎ SomeBelow v r
