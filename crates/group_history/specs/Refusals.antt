-- The names and numbers by which refusals are told.
use Rattle.std.specs.Prelude.{ℕ, ℤ, negsuc, codes}
use Rattle.group_history.specs.declared.refusals.Refusal.{Refusal}
use Rattle.group_history.specs.declared.refusals.Refusal.TheVariants as refusal
use Rattle.group_history.specs.Map.{Bytes}

-- the name of a refusal; what it carries is told beside it
abbrev pub refusal_name : Refusal → Bytes
-- by tools/refusals: name cases of group
refusal_name refusal.NoMemory = codes "NoMemory"
refusal_name refusal.Moved = codes "Moved"
refusal_name refusal.Busy = codes "Busy"
refusal_name refusal.Gone = codes "Gone"
refusal_name refusal.Full = codes "Full"
refusal_name refusal.Stamps = codes "Stamps"
refusal_name refusal.Stale = codes "Stale"
refusal_name refusal.NoMutator = codes "NoMutator"
refusal_name (refusal.Refused it) = codes "Refused"
refusal_name refusal.NotJson = codes "NotJson"
refusal_name refusal.BadShape = codes "BadShape"
refusal_name refusal.NotWhole = codes "NotWhole"
refusal_name refusal.Overtaken = codes "Overtaken"
refusal_name refusal.CookieWentBack = codes "CookieWentBack"
refusal_name refusal.CookieNotNew = codes "CookieNotNew"
refusal_name refusal.IdWentBack = codes "IdWentBack"
refusal_name refusal.StateNotFound = codes "StateNotFound"
refusal_name (refusal.VersionNotSupported it) = codes "VersionNotSupported"
refusal_name refusal.NoSeat = codes "NoSeat"
refusal_name refusal.Closed = codes "Closed"

-- tools/refusals: end

-- how many numbers below -1 it is
abbrev pub refusal_place : Refusal → ℕ
-- by tools/refusals: place cases of group
refusal_place refusal.NoMemory = 0
refusal_place refusal.Moved = 1
refusal_place refusal.Busy = 2
refusal_place refusal.Gone = 3
refusal_place refusal.Full = 4
refusal_place refusal.Stamps = 5
refusal_place refusal.Stale = 6
refusal_place refusal.NoMutator = 7
refusal_place (refusal.Refused it) = 8
refusal_place refusal.NotJson = 9
refusal_place refusal.BadShape = 10
refusal_place refusal.NotWhole = 11
refusal_place refusal.Overtaken = 12
refusal_place refusal.CookieWentBack = 13
refusal_place refusal.CookieNotNew = 14
refusal_place refusal.IdWentBack = 15
refusal_place refusal.StateNotFound = 16
refusal_place (refusal.VersionNotSupported it) = 17
refusal_place refusal.NoSeat = 18
refusal_place refusal.Closed = 19

-- tools/refusals: end

-- its number
abbrev pub refusal_number : Refusal → ℤ
refusal_number e = negsuc (refusal_place e)
