-- What memory a place of a host has.
use Rattle.std.specs.Prelude.{ℕ, Bool, zero, suc, List, [], Option, Some, None}
use Rattle.std.specs.Box.Ownership.{box_owns}
use Rattle.std.specs.contracts.marker.Brand as Brand
use Rattle.std.specs.Global.{Global}
use Rattle.std.specs.contracts.impls.GlobalAllocator.TheImpl.{ghosts}
use Rattle.group_history.specs.Map.{Bytes}
use Rattle.giqaymu_c.specs.contracts.spots.OpenPlace as OpenPlace
use Rattle.giqaymu_c.specs.Jobs.{meant_at}
use Rattle.giqaymu_c.specs.Own.{Run}
use Rattle.giqaymu_c.specs.Spots.{SpotState}
use base.Fml.{Fml, ffalse, ftrue}
use denote.Exit.{no}
use denote.Param.{arg, param}
use denote.RattleType.{RattleType}
use denote.RawPtr.{Ptr}
use mir.Syntax.{ty_struct, tnil}

-- the allocator of the heap; each of its values is this one
abbrev pub heap : Global
heap = record { memory = record { seal = tt } }

-- a box of a value at the pointer, where the flag is not 0; else nothing
abbrev pub held_owns : (R : RattleType) → ℕ → Ptr → Option R.Denot → Fml
held_owns R zero at None = ftrue
held_owns R zero at (Some x) = ffalse
held_owns R (suc k) at None = ffalse
held_owns R (suc k) at (Some x) = box_owns (ghosts.dealloc_token heap) R at x

-- the marker that names mutators, as a call passes it
abbrev pub marker : RattleType
marker = arg (ty_struct [] tnil) no Brand.the_row

-- a spot of a group whose rules this text says, and whose host's own mutators have these runs
abbrev pub spot_row : Bytes → Bool → List Run → RattleType
spot_row text asks own = OpenPlace.the_row (param 0 marker) (record { meant = meant_at text asks own })

-- what a place has
abbrev pub place_owns : Bytes → Bool → List Run → ℕ → Ptr → Option SpotState → Fml
place_owns text asks own flag at spot = held_owns (spot_row text asks own) flag at spot
