-- The slots that a draft has taken, as a stack.
use Rattle.std.specs.Prelude.{◌≡◌, ℕ, ◌<◌, List, [], ◌∷◌, ◌++◌, map, reverse}
use Rattle.std.specs.List.{All}
use Rattle.group_history.specs.declared.refs.Ref.{Ref}
use Rattle.group_history.specs.Refs.{slot_of}
use Rattle.reader_claims.specs.declared.view.View.{View}
use Rattle.reader_claims.specs.Deeds as deed
use Rattle.reader_claims.specs.Lists.{In}
use Rattle.reader_claims.specs.Passes.{AreShut}
use Rattle.reader_claims.specs.Views.{ArePinsRead}
use Rattle.commit_publishing.specs.Placed.{LieBelow}

-- each number stands there once
abbrev pub AreOnce : List ℕ → Type 0
AreOnce [] = Unit {0}
AreOnce (x ∷ xs) = (In xs x → ⊥) × AreOnce xs

-- The seat has taken just these slots, in this order: the last one stands first in what it knows
abbrev pub HasTaken : View → List ℕ → Type 0
HasTaken v slots = (v.taken ≡ reverse slots) × AreOnce v.taken

-- Of the slots taken at v those of `settled` were settled, one after the other, and then those of `withdrawn`
-- withdrawn. The others are taken still, and nothing else was done.
abbrev pub Uses : View → List ℕ → List ℕ → View → Type 0
Uses v settled withdrawn u = (v.taken ≡ settled ++ (withdrawn ++ u.taken))
    × (u.deeds ≡ map deed.withdrew (reverse withdrawn) ++ (map deed.settled (reverse settled) ++ v.deeds))

-- whenever a seat that came to know v had used its slots for just the old references, it had used them for the new ones
-- when it came to know u, and had withdrawn those of `back`
abbrev pub UsesMore : View → List Ref → View → List Ref → List ℕ → Type 0
UsesMore v old u new back = (s : View) → Uses s (map slot_of old) [] v → Uses s (map slot_of new) back u

-- but for slots withdrawn u is v
abbrev pub IsButWithdrawn : View → View → Type 0
IsButWithdrawn v u = u ≡ record v { taken = u.taken; withdrawn = u.withdrawn; deeds = u.deeds }

-- since v the epoch was loaded, and then each pin was read, and each slot below end found shut
abbrev pub PassedOver : View → View → ℕ → Type 0
PassedOver v u end = (v.epoch_loads < u.epoch_loads) × (u.loaded ≡ u.reached) × ArePinsRead u × AreShut u.taken 0 end u

-- each of the slots is below the end
abbrev pub AreLower : ℕ → List ℕ → Type 0
AreLower end slots = All (λ i. i < end) slots

-- Where the slots were below an end, and the nodes lay below it, so are those that are left, and so do the nodes then.
abbrev pub StayBelow : List ℕ → List Ref → List ℕ → List Ref → Type 0
StayBelow slots refs left more = (end : ℕ) → AreLower end slots → LieBelow end refs
    → AreLower end left × LieBelow end more
