-- Numbers of refusals are above -100.
use Rattle.std.proofs.Common.{◌<◌, arith}
use Rattle.group_history.specs.declared.refusals.Refusal.{Refusal}
use Rattle.group_history.specs.declared.refusals.Refusal.TheVariants as refusal
use Rattle.group_history.specs.Refusals.{refusal_place}

pub refusal_place_low : (e : Refusal) → refusal_place e < 99
-- by tools/refusals: low cases of group
refusal_place_low refusal.NoMemory = omega arith
refusal_place_low refusal.Moved = omega arith
refusal_place_low refusal.Busy = omega arith
refusal_place_low refusal.Gone = omega arith
refusal_place_low refusal.Full = omega arith
refusal_place_low refusal.Stamps = omega arith
refusal_place_low refusal.Stale = omega arith
refusal_place_low refusal.NoMutator = omega arith
refusal_place_low (refusal.Refused it) = omega arith
refusal_place_low refusal.NotJson = omega arith
refusal_place_low refusal.BadShape = omega arith
refusal_place_low refusal.NotWhole = omega arith
refusal_place_low refusal.Overtaken = omega arith
refusal_place_low refusal.CookieWentBack = omega arith
refusal_place_low refusal.CookieNotNew = omega arith
refusal_place_low refusal.IdWentBack = omega arith
refusal_place_low refusal.StateNotFound = omega arith
refusal_place_low (refusal.VersionNotSupported it) = omega arith
refusal_place_low refusal.NoSeat = omega arith
refusal_place_low refusal.Closed = omega arith

-- tools/refusals: end
