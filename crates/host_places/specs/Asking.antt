-- What the bytes and numbers of a host say.
use Rattle.std.specs.Prelude.{ℕ, ◌≡◌, ◌⊎◌, ◌-◌, ◌^◌, ◌==◌, nat_le, if◌then◌else◌, List, Option, Some, None, Result}
use Rattle.std.specs.Prelude.{Ok, Err}
use Rattle.std.specs.Str.{is_utf8}
use Rattle.uuid.specs.Text.{parsed}
use Rattle.group_history.specs.declared.mutators.Ran.{Ran}
use Rattle.group_history.specs.declared.mutators.Ran.TheVariants as ran
use Rattle.group_history.specs.declared.refusals.Refusal.{Refusal}
use Rattle.group_history.specs.declared.refusals.Refusal.TheVariants.{NoMemory}
use Rattle.group_history.specs.declared.scans.Scan.{Scan}
use Rattle.group_history.specs.declared.scans.Start.{Start}
use Rattle.group_history.specs.declared.scans.Start.TheVariants.{Any, At, After}
use Rattle.group_history.specs.Answers.{◌>>=◌}
use Rattle.group_history.specs.Json.{json_text}
use Rattle.group_history.specs.Map.{Bytes}
use Rattle.pull_patch.specs.declared.writes.Write.{Write}
use Rattle.pull_patch.specs.Writes.{writes_in}
use Rattle.client_desk.specs.declared.outcomes.Outcome.{Outcome}
use Rattle.client_desk.specs.declared.outcomes.Outcome.TheVariants.{Faulty, Refused}
use Rattle.client_desk.specs.declared.faults.CallFault.TheVariants.{BadUuid, NotUtf8, OutOfRange}

-- what was read, as it is seen
abbrev pub map_said : {A B : Type 0} → (A → B) → Result A Outcome → Result B Outcome
map_said f (Ok x) = Ok (f x)
map_said f (Err e) = Err e

-- What was read is what is said. Memory may be refused in place of any answer.
abbrev pub IsSaid : {X : Type 0} → Result X Outcome → Result X Outcome → Type 0
IsSaid (Ok x) right = right ≡ Ok x
IsSaid (Err e) right = (e ≡ Refused NoMemory) ⊎ (right ≡ Err e)

-- a text, by its bytes
abbrev pub text_said : Bytes → Result Bytes Outcome
text_said bytes = if is_utf8 bytes then Ok bytes else Err (Faulty NotUtf8)

-- an ID, by the text of a UUID (RFC 9562): its hyphenated text in small letters
abbrev pub or_bad_uuid : Option Bytes → Result Bytes Outcome
or_bad_uuid None = Err (Faulty BadUuid)
or_bad_uuid (Some uuid) = Ok uuid

abbrev pub uuid_in : Result Bytes Outcome → Result Bytes Outcome
uuid_in (Ok text) = or_bad_uuid (parsed text)
uuid_in (Err e) = Err (Faulty BadUuid)

abbrev pub uuid_given : Bytes → Result Bytes Outcome
uuid_given bytes = uuid_in (text_said bytes)

-- JSON, with the refusals of JSON
abbrev pub or_refused : {X : Type 0} → Result X Refusal → Result X Outcome
or_refused (Ok x) = Ok x
or_refused (Err e) = Err (Refused e)

abbrev pub json_given : Bytes → Result Bytes Outcome
json_given bytes = or_refused (json_text bytes)

-- where a scan begins: 0 anywhere, 1 at the key that the bytes are, 2 after it
abbrev pub start_given : ℕ → Bytes → Result Start Outcome
start_given kind bytes =
    if kind == 0 then Ok Any
    else (if kind == 1 then text_said bytes >>= (λ key. Ok (At key))
    else (if kind == 2 then text_said bytes >>= (λ key. Ok (After key))
    else Err (Faulty OutOfRange)))

-- how many rows at the most; the largest number is no limit
abbrev pub limit_given : ℕ → Option ℕ
limit_given n = if n == 2 ^ 64 - 1 then None else Some n

-- a scan
abbrev pub scan_given : Bytes → ℕ → Bytes → ℕ → Result Scan Outcome
scan_given prefix kind start limit =
    text_said prefix >>= (λ p. start_given kind start
    >>= (λ s. Ok (record { prefix = p; start = s; limit = limit_given limit })))

-- a mutator's name and its arguments
abbrev pub mutation_given : Bytes → Bytes → Result (Bytes × Bytes) Outcome
mutation_given name args = text_said name >>= (λ n. json_given args >>= (λ json. Ok (n, json)))

-- a key and a value for it
abbrev pub put_said : Bytes → Bytes → Result (Bytes × Bytes) Outcome
put_said key value = text_said key >>= (λ k. json_given value >>= (λ json. Ok (k, json)))

-- writes, with the refusals of a list of writes
abbrev pub writes_said : Bytes → Result (List Write) Outcome
writes_said bytes = or_refused (writes_in bytes)

-- how a run ended: 0 done, 1 refused with a code, which has 32 bits, 2 unknown
abbrev pub code_given : ℕ → Result Ran Outcome
code_given code = if nat_le code (2 ^ 32 - 1) then Ok (ran.Refused code) else Err (Faulty OutOfRange)

abbrev pub ran_said : ℕ → ℕ → Result Ran Outcome
ran_said kind code =
    if kind == 0 then Ok ran.Done
    else (if kind == 1 then code_given code
    else (if kind == 2 then Ok ran.Unknown
    else Err (Faulty OutOfRange)))
