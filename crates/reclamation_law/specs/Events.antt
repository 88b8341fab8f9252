-- What a seat of the joined machine does, as plain data. An event is one step of one seat. A step on the claims table
-- is one by which the calls of that table are specified, and `deed_of` says which deed it is.
use Rattle.std.specs.Prelude.{ℕ, List}
use Rattle.group_history.specs.declared.changes.Change.{Change}
use Rattle.group_history.specs.declared.nodes.Node.{Node}
use Rattle.group_history.specs.declared.nodes.Child.{Child}
use Rattle.reader_claims.specs.declared.view.View.{View}
use Rattle.reader_claims.specs.Machine as table
use Rattle.reader_claims.specs.Machine.{Move}
use Rattle.reclamation_law.specs.Worlds.{Commit}

pub data WorldDeed : Type 0 where
  loads_epoch : WorldDeed
  stores_pin : (e : ℕ) → WorldDeed
  clears_pin : WorldDeed
  loads_pin : (j : ℕ) → WorldDeed
  -- an exchange of the epoch, won or lost
  raises : (n : ℕ) → WorldDeed
  takes : (slot : ℕ) → WorldDeed
  settles : (slot : ℕ) → WorldDeed
  withdraws : (slot : ℕ) → WorldDeed
  retires : (slot : ℕ) → WorldDeed
  gives : (slot : ℕ) → WorldDeed
  -- an exchange of the slot that was lost
  misses : (slot : ℕ) → WorldDeed
  -- looks at what lies in the slot
  looks : (slot : ℕ) → WorldDeed
  loads_head : WorldDeed
  -- a load of the draft word, or an exchange of it that was lost
  loads_drafts : WorldDeed
  begins : WorldDeed
  -- stamps for these nodes, by an exchange of the draft word
  draws : (contents : List (Node Child)) → WorldDeed
  -- an exchange of the head word to this commit, won
  publishes : (new : Commit) (change : Change) → WorldDeed
  -- one that was lost
  loses : WorldDeed
  gives_up : WorldDeed

pub record Event : Type 0 where
  pub seat : ℕ
  pub deed : WorldDeed

-- the deed that a step of the claims table is
abbrev pub deed_of : {v : View} {i x y : ℕ} {w : View} → Move v i x y w → WorldDeed
deed_of (table.load_epoch e) = loads_epoch
deed_of (table.store_pin x e some_pin few) = stores_pin e
deed_of (table.clear_pin x some_pin few) = clears_pin
deed_of (table.load_pin j x some_pin few) = loads_pin j
deed_of (table.raise n some_reader low past) = raises n
deed_of (table.raise_lost n x past miss) = raises n
deed_of (table.take i some_reader room) = takes i
deed_of (table.settle i inside) = settles i
deed_of (table.withdraw i inside) = withdraws i
deed_of (table.retire i room past) = retires i
deed_of (table.give i r room open_at) = gives i
deed_of (table.lost i old x room miss) = misses i
deed_of (table.miss i x room ne) = misses i
