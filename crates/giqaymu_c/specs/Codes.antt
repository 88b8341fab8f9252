-- Codes of the ghost data that a place has. There is nothing to believe here.
use Rattle.std.specs.Prelude.{ℕ, ◌≡◌, ◌⊎◌, List, Option, refl}
use mathlib.Core.Logic.{inl, inr}
use Rattle.std.specs.Coded.{Coded, code_by, codes}
use Rattle.group_history.specs.contracts.changes.Change as change
use Rattle.group_history.specs.contracts.mutations.Mutation as mutation
use Rattle.group_history.specs.contracts.mutations.Reason as reason
use Rattle.group_history.specs.Map.{Entries}
use Rattle.group_history.specs.Meaning.{Meaning, unknown, refuses, done}
use Rattle.group_history.specs.State.{entries_coded}
use Rattle.head_word.specs.contracts.entry.Entry as entry
use Rattle.giqaymu_c.specs.Own.{Run}
use Rattle.giqaymu_c.specs.Spots.{SpotState}

pub state_coded : Coded SpotState
state_coded =
    Prim.hlevel (codes, entry.the_row.coded, change.the_row.coded, mutation.the_row.coded, entries_coded)

pub spot_coded : Coded (Option SpotState)
spot_coded = Prim.hlevel (codes, state_coded)

abbrev parts : Meaning → Unit {0} ⊎ (ℕ ⊎ Entries)
parts unknown = inl tt
parts (refuses code) = inr (inl code)
parts (done map) = inr (inr map)

abbrev whole : Unit {0} ⊎ (ℕ ⊎ Entries) → Meaning
whole (inl _) = unknown
whole (inr (inl code)) = refuses code
whole (inr (inr map)) = done map

whole_parts : (m : Meaning) → whole (parts m) ≡ m
whole_parts unknown = refl
whole_parts (refuses code) = refl
whole_parts (done map) = refl

meaning_coded : Coded Meaning
meaning_coded = code_by (Unit {0} ⊎ (ℕ ⊎ Entries)) (Prim.hlevel (codes, entries_coded)) parts whole whole_parts

pub runs_coded : Coded (List Run)
runs_coded = Prim.hlevel (codes, reason.the_row.coded, meaning_coded, entries_coded)
