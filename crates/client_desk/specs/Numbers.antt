-- What a call came to, as numbers.
use Rattle.std.specs.Prelude.{ℕ, Bool, true, false, ℤ, pos, negsuc}
use Rattle.group_history.specs.declared.refusals.Refusal.{Refusal}
use Rattle.group_history.specs.declared.refusals.Refusal.TheVariants as refusal
use Rattle.group_history.specs.declared.responses.VersionKind.{VersionKind}
use Rattle.group_history.specs.declared.responses.VersionKind.TheVariants as kind
use Rattle.group_history.specs.Refusals.{refusal_number}
use Rattle.client_desk.specs.declared.faults.CallFault.{CallFault}
use Rattle.client_desk.specs.declared.faults.CallFault.TheVariants as fault
use Rattle.client_desk.specs.declared.outcomes.Outcome.{Outcome}
use Rattle.client_desk.specs.declared.outcomes.Outcome.TheVariants as outcome

-- The number of a refusal is the group's; a mutator's code and the kind of a version are told beside it.
abbrev pub kind_number : VersionKind → ℕ
kind_number kind.Push = 1
kind_number kind.Pull = 2
kind_number kind.Schema = 3
kind_number kind.Unknown = 0

abbrev pub refusal_code : Refusal → ℕ
refusal_code (refusal.Refused code) = code
refusal_code (refusal.VersionNotSupported kind) = kind_number kind
refusal_code e = 0

-- how many numbers below -1 that of a fault is
abbrev pub fault_place : CallFault → ℕ
-- by tools/refusals: place cases of faults
fault_place fault.NotUtf8 = 100
fault_place fault.BadUuid = 101
fault_place fault.OutOfRange = 102
fault_place fault.NoTicket = 103
fault_place fault.NoWatch = 104
fault_place fault.BadRules = 105
fault_place fault.InUse = 106
fault_place fault.Asks = 107
fault_place fault.NoClient = 108
fault_place fault.NoPlace = 109
fault_place fault.NotAsked = 110
fault_place fault.Reads = 111
fault_place fault.NotRead = 112

-- tools/refusals: end

abbrev pub fault_number : CallFault → ℤ
fault_number e = negsuc (fault_place e)

abbrev pub bool_number : Bool → ℤ
bool_number true = pos 2
bool_number false = pos 0

-- what a call came to: 0 or above where it was done
abbrev pub outcome_number : Outcome → ℤ
outcome_number outcome.Done = pos 0
outcome_number (outcome.Number n) = pos 0
outcome_number outcome.Nothing = pos 1
outcome_number (outcome.Is is) = bool_number is
outcome_number outcome.Asked = pos 3
outcome_number (outcome.Refused e) = refusal_number e
outcome_number (outcome.Faulty e) = fault_number e

-- the number that it tells, and the code of a refusal
abbrev pub outcome_value : Outcome → ℕ
outcome_value (outcome.Number n) = n
outcome_value other = 0

abbrev pub outcome_code : Outcome → ℕ
outcome_code (outcome.Refused e) = refusal_code e
outcome_code other = 0
