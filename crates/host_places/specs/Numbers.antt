-- How calls are asked for by numbers.
use Rattle.std.specs.Prelude.{ℕ, ◌≡◌, ◌⊎◌, ◌<◌, ⊤, Bool, ◌||◌, ◌==◌, if◌then◌else◌, Option, Result, Ok, Err}
use Rattle.group_history.specs.declared.mutators.Ran.{Ran}
use Rattle.group_history.specs.declared.refusals.Refusal.TheVariants.{NoMemory}
use Rattle.group_history.specs.Map.{Bytes}
use Rattle.group_history.specs.Meaning.{Meanings}
use Rattle.rebase.specs.Running.{UnderWay}
use Rattle.client_desk.specs.declared.calls.DeskCall.{DeskCall}
use Rattle.client_desk.specs.declared.calls.DeskCall.TheVariants as call
use Rattle.client_desk.specs.declared.calls.Keep.TheVariants.{AtNext}
use Rattle.client_desk.specs.declared.faults.CallFault.TheVariants.{OutOfRange}
use Rattle.client_desk.specs.declared.outcomes.Outcome.{Outcome}
use Rattle.client_desk.specs.declared.outcomes.Outcome.TheVariants.{Faulty, Refused}
use Rattle.client_desk.specs.Answers.{Rule, TellsOutcome}
use Rattle.client_desk.specs.Calls.{MayAnswer}
use Rattle.client_desk.specs.Numbers.{outcome_value}
use Rattle.client_desk.specs.Runs.{IsRunTold}
use Rattle.host_places.specs.declared.numbered.Numbered.{Numbered}
use Rattle.host_places.specs.Asking.{mutation_given, put_said, ran_said, scan_given, text_said, uuid_given, writes_said}

-- The numbers of a call: which one it is, then what it is given. What it doesn't use is not looked at.
abbrev pub IsCall : DeskCall → ℕ → ℕ → ℕ → Bytes → Bytes → Type 0
IsCall (call.Sit id) what m n a b = (what ≡ 0) × (uuid_given a ≡ Ok id.now)
IsCall call.Leave what m n a b = what ≡ 1
IsCall (call.Get key) what m n a b = (what ≡ 2) × (text_said a ≡ Ok key.now)
IsCall (call.Has key) what m n a b = (what ≡ 3) × (text_said a ≡ Ok key.now)
IsCall (call.Scan scan) what m n a b = (what ≡ 4) × (scan_given a m b n ≡ Ok scan.now)
IsCall call.Pending what m n a b = what ≡ 5
IsCall call.Cookie what m n a b = what ≡ 6
IsCall call.Closed what m n a b = what ≡ 7
IsCall call.Refresh what m n a b = what ≡ 8
IsCall (call.Push skip) what m n a b = (what ≡ 9) × (skip ≡ m)
IsCall (call.Begin keep) what m n a b = (what ≡ 10) × (keep ≡ AtNext)
IsCall (call.Forget t) what m n a b = (what ≡ 11) × (t ≡ m)
IsCall (call.End t body) what m n a b = (what ≡ 12) × (t ≡ m) × (body.now ≡ a)
IsCall (call.Mutate x) what m n a b = (what ≡ 13) × (mutation_given a b ≡ Ok (x.name.now, x.args.now)) × (x.time ≡ n)
IsCall (call.Watch keep scan) what m n a b = (what ≡ 14) × (keep ≡ AtNext) × (scan_given a m b n ≡ Ok scan.now)
IsCall (call.Poll w) what m n a b = (what ≡ 15) × (w ≡ m)
IsCall call.AskedName what m n a b = what ≡ 16
IsCall call.AskedArgs what m n a b = what ≡ 17
IsCall (call.DraftGet key) what m n a b = (what ≡ 18) × (text_said a ≡ Ok key.now)
IsCall (call.DraftHas key) what m n a b = (what ≡ 19) × (text_said a ≡ Ok key.now)
IsCall (call.DraftScan scan) what m n a b = (what ≡ 20) × (scan_given a m b n ≡ Ok scan.now)
IsCall (call.DraftPut key value) what m n a b = (what ≡ 21) × (put_said a b ≡ Ok (key.now, value.now))
IsCall (call.DraftDel key) what m n a b = (what ≡ 22) × (text_said a ≡ Ok key.now)
IsCall (call.Ran ran) what m n a b = (what ≡ 23) × (ran_said m n ≡ Ok ran)
IsCall call.GiveUp what m n a b = what ≡ 24
IsCall call.Slots what m n a b = what ≡ 25
IsCall call.BeginRead what m n a b = what ≡ 26
IsCall call.EndRead what m n a b = what ≡ 27
IsCall call.Moment what m n a b = what ≡ 28
IsCall (call.PulledGet key) what m n a b = (what ≡ 29) × (text_said a ≡ Ok key.now)
IsCall (call.PulledScan scan) what m n a b = (what ≡ 30) × (scan_given a m b n ≡ Ok scan.now)
IsCall (call.Unwatch w) what m n a b = (what ≡ 31) × (w ≡ m)
IsCall call.AskedRun what m n a b = what ≡ 32
IsCall (call.PollChanges w) what m n a b = (what ≡ 33) × (w ≡ m)
IsCall (call.DraftWrites writes) what m n a b = (what ≡ 34) × (writes_said a ≡ Ok writes.now)
IsCall other what m n a b = ⊥

-- a call that has a key, and one that has a scan
abbrev pub HasKey : ℕ → Type 0
HasKey what = (what ≡ 2) ⊎ (what ≡ 3) ⊎ (what ≡ 18) ⊎ (what ≡ 19) ⊎ (what ≡ 22) ⊎ (what ≡ 29)

abbrev pub HasScan : ℕ → Type 0
HasScan what = (what ≡ 4) ⊎ (what ≡ 14) ⊎ (what ≡ 20) ⊎ (what ≡ 30)

-- what the call is given says nothing, and this is told; or there is no such call
abbrev pub SaysNothing : ℕ → ℕ → ℕ → Bytes → Bytes → Outcome → Type 0
SaysNothing what m n a b e =
    ((what ≡ 0) × (uuid_given a ≡ Err e)) ⊎ (HasKey what × (text_said a ≡ Err e))
    ⊎ (HasScan what × (scan_given a m b n ≡ Err e)) ⊎ ((what ≡ 13) × (mutation_given a b ≡ Err e))
    ⊎ ((what ≡ 21) × (put_said a b ≡ Err e)) ⊎ ((what ≡ 23) × (ran_said m n ≡ Err e))
    ⊎ ((what ≡ 34) × (writes_said a ≡ Err e)) ⊎ ((34 < what) × (e ≡ Faulty OutOfRange))

-- memory is taken for what it is given
abbrev pub IsCopiedCall : ℕ → Type 0
IsCopiedCall what = HasScan what ⊎ (what ≡ 13) ⊎ (what ≡ 21) ⊎ (what ≡ 34)

-- The call of these numbers is answered, if what it is given says something; memory may be refused for that.
abbrev pub MayAnswerNumbers : (Bytes → Bool) → Meanings → Numbered → Rule
MayAnswerNumbers has means x before t after =
    ((c : DeskCall) × IsCall c x.what x.m x.n x.a.now x.b.now × MayAnswer has means c before t after)
    ⊎ ((e : Outcome) × SaysNothing x.what x.m x.n x.a.now x.b.now e × TellsOutcome e before t after)
    ⊎ (IsCopiedCall x.what × TellsOutcome (Refused NoMemory) before t after)

-- the queries, by their numbers: get, has, scan, pending, cookie, closed, push, and get and scan of the pulled map
abbrev pub is_query_number : ℕ → Bool
is_query_number what = (what == 2) || (what == 3) || (what == 4) || (what == 5) || (what == 6) || (what == 7)
    || (what == 9) || (what == 29) || (what == 30)

-- of a query that was answered: its moment, which is that of the place's last query
abbrev pub moment_told : Outcome → ℕ → ℕ
moment_told (Refused e) m = 0
moment_told (Faulty e) m = 0
moment_told other m = m

-- the number that is told beside what a call came to: of a query its moment, else the one that it tells
abbrev pub number_beside : ℕ → Outcome → ℕ → ℕ
number_beside what outcome m = if is_query_number what then moment_told outcome m else outcome_value outcome

-- the run that the numbers say is one of the group's meaning; where they say no end, nothing has to hold
abbrev pub IsRunSaid : (Bytes → Bool) → Meanings → Option UnderWay → Result Ran Outcome → Type 0
IsRunSaid has means asking (Ok ran) = IsRunTold has means asking ran
IsRunSaid has means asking (Err e) = ⊤
