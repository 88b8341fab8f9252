-- What is printed of what a command came to and told.
use Rattle.std.specs.Prelude.{ℕ, Bool, true, false, [], ◌∷◌, ◌++◌, codes, decimal}
use Rattle.std.specs.List.{concat}
use Rattle.group_history.specs.declared.refusals.Refusal.{Refusal}
use Rattle.group_history.specs.declared.refusals.Refusal.TheVariants as refusal
use Rattle.group_history.specs.Map.{Bytes}
use Rattle.group_history.specs.Pull.{kind_text}
use Rattle.group_history.specs.Refusals.{refusal_name}
use Rattle.script_parser.specs.declared.script.Command.{Command}
use Rattle.script_parser.specs.declared.script.Command.TheVariants as command
use Rattle.script_parser.specs.declared.script.Query.{Query}
use Rattle.script_parser.specs.declared.script.Query.TheVariants as query
use Rattle.client_desk.specs.declared.faults.CallFault.{CallFault}
use Rattle.client_desk.specs.declared.faults.CallFault.TheVariants.{NoWatch, NotRead, Reads}
use Rattle.client_desk.specs.declared.outcomes.Outcome.{Outcome}
use Rattle.client_desk.specs.declared.outcomes.Outcome.TheVariants.{Done, Number, Nothing, Is, Asked, Refused, Faulty}
use Rattle.client_desk.specs.Told.{Told}

-- the word of a query that was done; behind it stands what is told
abbrev pub query_word : Query → Bytes
query_word (query.Get key) = codes "value "
query_word (query.Scan scan) = codes "rows "
query_word query.Pending = codes "pending "
query_word query.Cookie = codes "cookie "
query_word (query.Push n) = codes "push "
query_word (query.PulledGet key) = codes "value "
query_word (query.PulledScan scan) = codes "rows "
query_word other = []

-- and of a command
abbrev pub done_word : Command → Bytes
done_word (command.Query q) = query_word q
done_word (command.Begin n) = codes "pull "
done_word (command.End n body) = codes "applied"
done_word (command.Mutate m) = codes "id "
done_word command.Refresh = codes "last "
done_word command.Moment = codes "moment "
done_word command.Slots = codes "slots "
done_word command.BeginRead = codes "reading"
done_word command.EndRead = codes "read"
done_word (command.Learn place) = codes "learnt"
done_word (command.Watch n scan) = codes "watching"
done_word (command.Poll n) = codes "new "
done_word (command.Changes n) = codes "changes "
done_word (command.Unwatch n) = codes "unwatched"

-- of one for which there is nothing
abbrev pub nothing_word : Command → Bytes
nothing_word (command.End n body) = codes "same"
nothing_word (command.Poll n) = codes "unchanged"
nothing_word (command.Changes n) = codes "unchanged"
nothing_word other = codes "none"

-- the number that is told, where it is an id or a moment's; those of tickets and watches are not printed, as scripts
-- have names
abbrev pub number_text : Command → ℕ → Bytes
number_text (command.Mutate m) n = decimal n
number_text command.Refresh n = decimal n
number_text command.Moment n = decimal n
number_text other n = []

abbrev pub bool_text : Bool → Bytes
bool_text true = codes "yes"
bool_text false = codes "no"

-- what follows a refusal's name
abbrev pub refusal_detail : Refusal → Bytes
refusal_detail (refusal.Refused code) = codes " " ++ decimal code
refusal_detail (refusal.VersionNotSupported kind) = codes " " ++ kind_text kind
refusal_detail e = []

-- a refusal
abbrev pub refused_text : Refusal → Bytes
refused_text e = codes "refused " ++ refusal_name e ++ refusal_detail e

-- what a place lacks, or has open: a client is there, and its group asks for no run
abbrev pub call_fault_text : CallFault → Bytes
call_fault_text NoWatch = codes "no watch"
call_fault_text Reads = codes "reads"
call_fault_text NotRead = codes "no reading"
call_fault_text other = codes "no ticket"

-- what a command came to
abbrev pub outcome_text : Command → Outcome → Bytes
outcome_text c Done = done_word c
outcome_text c (Number n) = done_word c ++ number_text c n
outcome_text c Nothing = nothing_word c
outcome_text c (Is is) = bool_text is
outcome_text c Asked = []
outcome_text c (Refused e) = refused_text e
outcome_text c (Faulty fault) = call_fault_text fault

-- and what it told
abbrev pub told_text : Command → Told → Bytes
told_text c t = outcome_text c t.outcome ++ t.bytes

-- a line of output, with the number of the script's line, the client's name and what is printed of the command
unfoldable pub line_text : ℕ → Bytes → Bytes → Bytes
line_text number name said = concat (decimal number ∷ codes " " ∷ name ∷ codes " " ∷ said ∷ codes "\n" ∷ [])
