-- What any call of a place may tell, and how it leaves the place.
use Rattle.std.specs.Prelude.{◌⊎◌, ⊤, Bool, Option, Some, None}
use Rattle.group_history.specs.Map.{Bytes}
use Rattle.group_history.specs.Meaning.{Meanings}
use Rattle.rebase.specs.Running.{UnderWay}
use Rattle.client_desk.specs.declared.calls.DeskCall.{DeskCall}
use Rattle.client_desk.specs.declared.calls.DeskCall.TheVariants as call
use Rattle.client_desk.specs.declared.faults.CallFault.TheVariants as fault
use Rattle.client_desk.specs.Answers.{AnswersLooking, At, ByClient, AnswersLack, Rule, made_room}
use Rattle.client_desk.specs.Drafts.{AnswersAsked, AsksToEnd, AsksToMutate}
use Rattle.client_desk.specs.Kept.{kept_at}

-- where no run is asked for
abbrev pub AnswersCalm : (Bytes → Bool) → Meanings → DeskCall → Rule
AnswersCalm has means (call.End n body) = ByClient (λ c b. At (kept_at b.tickets n) fault.NoTicket
    (λ kept. AsksToEnd has means c kept body.now) b)
AnswersCalm has means (call.Mutate m) = ByClient (λ c. AsksToMutate has means c m.name.now m.args.now m.time)
AnswersCalm has means other = AnswersLooking means other

-- Whether memory may be refused before anything is done: where no run is asked for, and where one is. Never where a
-- client sits down or leaves, where a ticket is given up, a run is told of or a change is given up.
abbrev pub MayLack : DeskCall → Type 0
MayLack (call.Get key) = ⊤
MayLack (call.Scan scan) = ⊤
MayLack (call.PulledGet key) = ⊤
MayLack (call.PulledScan scan) = ⊤
MayLack call.Pending = ⊤
MayLack call.Cookie = ⊤
MayLack (call.Begin keep) = ⊤
MayLack (call.Watch keep scan) = ⊤
MayLack (call.Poll n) = ⊤
MayLack (call.PollChanges n) = ⊤
MayLack other = ⊥

abbrev pub MayLackAsked : DeskCall → Type 0
MayLackAsked call.AskedName = ⊤
MayLackAsked call.AskedArgs = ⊤
MayLackAsked call.AskedRun = ⊤
MayLackAsked other = ⊥

-- a call is answered so, or memory was refused: where no run is asked for, and where one is
abbrev pub MayAnswerAt : (Bytes → Bool) → Meanings → DeskCall → Option UnderWay → Rule
MayAnswerAt has means what None before t after = (MayLack what × AnswersLack (made_room what before) t after)
    ⊎ AnswersCalm has means what before t after
MayAnswerAt has means what (Some a) before t after = (MayLackAsked what × AnswersLack before t after)
    ⊎ AnswersAsked has means what before t after

abbrev pub MayAnswer : (Bytes → Bool) → Meanings → DeskCall → Rule
MayAnswer has means what before = MayAnswerAt has means what before.asking before
