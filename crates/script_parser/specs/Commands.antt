-- The lines from the first phase on: what each needs, each need with the fault of a line that doesn't meet it, and
-- what it says. Where a line has several faults, the first need that isn't met tells.
use Rattle.std.specs.Prelude.{codes, ℕ, ◌^◌, ◌-◌, ◌&&◌, List, [], ◌∷◌, ◌++◌, length, replicate}
use Rattle.std.specs.Prelude.{Option, Some, None, is_some, is_none, unwrap_or, Result, Ok, Err, if◌then◌else◌}
use Rattle.std.specs.Str.Parse.{digits_value}
use Rattle.group_history.specs.declared.scans.Scan.{Scan}
use Rattle.group_history.specs.Map.{Bytes, same_text}
use Rattle.script_parser.specs.declared.faults.ScriptFault.{ScriptFault}
use Rattle.script_parser.specs.declared.faults.ScriptFault.TheVariants as fault
use Rattle.script_parser.specs.declared.script.Command.{Command}
use Rattle.script_parser.specs.declared.script.Command.TheVariants as command
use Rattle.script_parser.specs.declared.script.Query.TheVariants as query
use Rattle.script_parser.specs.Context.{Context, Lines, place_of, meets}
use Rattle.script_parser.specs.Names.{changed_at, name_number, noted, number_made}
use Rattle.script_parser.specs.Words.{word, more, text, is_word, begins_with_word, is_ticket_name, is_client_name}
use Rattle.script_parser.specs.Words.{is_number, is_start, is_limit, is_json, json_said, prefix_said, start_said}
use Rattle.script_parser.specs.Words.{limit_said}

-- `phase`: in a new phase no client has a line
unfoldable pub phase_line : Context → Option Bytes → Result Context ScriptFault
phase_line c rest = meets ((is_none rest, fault.BadWords) ∷ [])
    (record c { phases = c.phases ++ replicate (length c.clients) [] ∷ [] })

-- what a client's line says: what is said with it too, and its command
abbrev pub CommandSaid : Type 0
CommandSaid = Result (Context × Command) ScriptFault

-- `get KEY`
unfoldable pub get_line : Context → Option Bytes → CommandSaid
get_line c rest = meets ((is_some rest, fault.BadWords) ∷ []) (c, command.Query (query.Get (text rest)))

-- `has KEY`
unfoldable pub has_line : Context → Option Bytes → CommandSaid
has_line c rest = meets ((is_some rest, fault.BadWords) ∷ []) (c, command.Query (query.Has (text rest)))

-- `PREFIX START LIMIT`: a scan
unfoldable pub scan_words : Option Bytes → Result Scan ScriptFault
scan_words rest =
    let after_prefix = text (more (text rest)) in
    let limit = text (more after_prefix) in
    meets ((begins_with_word (text rest), fault.BadWords) ∷ (begins_with_word after_prefix, fault.BadWords)
    ∷ (is_word limit, fault.BadWords)
    ∷ (is_start (word after_prefix), fault.BadWords)
    ∷ (is_limit limit, fault.BadNumber)
    ∷ [])
    (record {
      prefix = prefix_said (word (text rest));
      start = start_said (word after_prefix);
      limit = limit_said limit;
    })

-- what a line says that has such a part
abbrev pub with_part : {X : Type 0} → (X → Context × Command) → Result X ScriptFault → CommandSaid
with_part said (Ok x) = Ok (said x)
with_part said (Err f) = Err f

-- `scan PREFIX START LIMIT`
unfoldable pub scan_line : Context → Option Bytes → CommandSaid
scan_line c rest = with_part (λ scan. (c, command.Query (query.Scan scan))) (scan_words rest)

-- `watch W PREFIX START LIMIT`
unfoldable pub watch_line : Context → ℕ → Option Bytes → CommandSaid
watch_line c client rest =
    let name = word (text rest) in
    let number = number_made client name c.watches in
    if is_some rest && is_ticket_name name then with_part
    (λ scan. (record c { watches = noted client name c.watches }, command.Watch number scan))
    (scan_words (more (text rest)))
    else Err fault.BadWords

-- `begin T`
unfoldable pub begin_line : Context → ℕ → Option Bytes → CommandSaid
begin_line c client rest =
    meets ((is_some rest, fault.BadWords) ∷ (is_ticket_name (text rest), fault.BadWords) ∷ []) (
      record c { tickets = noted client (text rest) c.tickets },
      command.Begin (number_made client (text rest) c.tickets),
    )

-- `end T BODY`
unfoldable pub end_line : Context → ℕ → Option Bytes → CommandSaid
end_line c client rest =
    let ticket = word (text rest) in
    let number = name_number client ticket c.tickets in
    meets ((is_some rest, fault.BadWords) ∷ (is_ticket_name ticket, fault.BadWords)
    ∷ (is_some (more (text rest)), fault.BadWords)
    ∷ (is_some number, fault.UnknownName)
    ∷ [])
    (c, command.End (unwrap_or number 0) (text (more (text rest))))

-- `W`: the number of a watch that an earlier line of the client made
unfoldable pub watch_word : Context → ℕ → Option Bytes → Result ℕ ScriptFault
watch_word c client rest =
    let number = name_number client (text rest) c.watches in
    meets ((is_some rest, fault.BadWords) ∷ (is_ticket_name (text rest), fault.BadWords)
    ∷ (is_some number, fault.UnknownName) ∷ [])
    (unwrap_or number 0)

-- `N`: how many mutations a push leaves out
unfoldable pub skip_word : Bytes → Result ℕ ScriptFault
skip_word t =
    meets ((is_word t, fault.BadWords) ∷ (is_number 0 (2 ^ 64 - 1) t, fault.BadNumber) ∷ []) (digits_value 10 t)

-- `push`, or `push N`: but for the oldest N
abbrev pub push_line : Context → Option Bytes → CommandSaid
push_line c None = Ok (c, command.Query (query.Push 0))
push_line c (Some t) = with_part (λ n. (c, command.Query (query.Push n))) (skip_word t)

-- `pulled get KEY`
unfoldable pub pulled_get : Context → Option Bytes → CommandSaid
pulled_get c rest = meets ((is_some rest, fault.BadWords) ∷ []) (c, command.Query (query.PulledGet (text rest)))

-- `pulled scan PREFIX START LIMIT`
unfoldable pub pulled_scan : Context → Option Bytes → CommandSaid
pulled_scan c rest = with_part (λ scan. (c, command.Query (query.PulledScan scan))) (scan_words rest)

-- what is asked of what the server last sent, by its name and what follows
unfoldable pub pulled_command : Context → Bytes → Option Bytes → CommandSaid
pulled_command c name rest =
    if same_text name (codes "get") then pulled_get c rest
    else if same_text name (codes "scan") then pulled_scan c rest
    else Err fault.UnknownCommand

-- `pulled NAME ..`: a missing name is unknown
unfoldable pub pulled_line : Context → Option Bytes → CommandSaid
pulled_line c None = Err fault.UnknownCommand
pulled_line c (Some rest) = pulled_command c (word rest) (more rest)

-- `mutate TIME MUTATOR ARGS`
unfoldable pub mutate_line : Context → Option Bytes → CommandSaid
mutate_line c rest =
    let after_time = text (more (text rest)) in
    let args = more after_time in
    meets ((begins_with_word (text rest), fault.BadWords) ∷ (begins_with_word after_time, fault.BadWords)
    ∷ (is_some args, fault.BadWords)
    ∷ (is_number 0 (2 ^ 53 - 1) (word (text rest)), fault.BadNumber)
    ∷ (is_json (text args), fault.BadJson)
    ∷ []) (
      c,
      command.Mutate (record {
        time = digits_value 10 (word (text rest));
        mutator = word after_time;
        args = json_said (text args);
      }),
    )

-- `learn NAME`: from the client at this name's place
unfoldable pub learn_line : Context → Option Bytes → CommandSaid
learn_line c rest =
    meets ((is_some rest, fault.BadWords) ∷ (is_client_name (text rest), fault.BadWords)
    ∷ (is_some (place_of (text rest) c.clients), fault.UnknownName) ∷ [])
    (c, command.Learn (unwrap_or (place_of (text rest) c.clients) 0))

-- those by which a reading begins and ends
unfoldable pub reading_command : Bytes → Option Command
reading_command name =
    if same_text name (codes "read") then Some command.BeginRead
    else if same_text name (codes "unread") then Some command.EndRead
    else None

-- the commands that take no words
unfoldable pub bare_command : Bytes → Option Command
bare_command name =
    if same_text name (codes "empty") then Some (command.Query query.Empty)
    else if same_text name (codes "closed") then Some (command.Query query.Closed)
    else if same_text name (codes "pending") then Some (command.Query query.Pending)
    else if same_text name (codes "cookie") then Some (command.Query query.Cookie)
    else if same_text name (codes "refresh") then Some command.Refresh
    else if same_text name (codes "moment") then Some command.Moment
    else if same_text name (codes "slots") then Some command.Slots
    else reading_command name

-- such a command, where there is one
abbrev pub told_bare : Context → Option Command → Option Bytes → CommandSaid
told_bare c None rest = Err fault.UnknownCommand
told_bare c (Some said) rest = meets ((is_none rest, fault.BadWords) ∷ []) (c, said)

-- any other command
unfoldable pub bare_line : Context → Bytes → Option Bytes → CommandSaid
bare_line c name rest = told_bare c (bare_command name) rest

-- what the server sent, and what it is to be sent; or a command that takes no words
unfoldable pub sent_line : Context → Bytes → Option Bytes → CommandSaid
sent_line c name rest =
    if same_text name (codes "push") then push_line c rest
    else if same_text name (codes "pulled") then pulled_line c rest
    else bare_line c name rest

-- a command that makes no ticket or watch and needs none, by its name and what follows
unfoldable pub look_line : Context → Bytes → Option Bytes → CommandSaid
look_line c name rest =
    if same_text name (codes "get") then get_line c rest
    else if same_text name (codes "has") then has_line c rest
    else if same_text name (codes "scan") then scan_line c rest
    else if same_text name (codes "learn") then learn_line c rest
    else if same_text name (codes "mutate") then mutate_line c rest
    else sent_line c name rest

-- what is done with a watch that an earlier line made; or another command
unfoldable pub watched_line : Context → ℕ → Bytes → Option Bytes → CommandSaid
watched_line c client name rest =
    if same_text name (codes "poll") then with_part (λ n. (c, command.Poll n)) (watch_word c client rest)
    else if same_text name (codes "changes") then with_part (λ n. (c, command.Changes n)) (watch_word c client rest)
    else if same_text name (codes "unwatch") then with_part (λ n. (c, command.Unwatch n)) (watch_word c client rest)
    else look_line c name rest

-- a command of the client at a place, by its name and what follows
unfoldable pub named_command : Context → ℕ → Bytes → Option Bytes → CommandSaid
named_command c client name rest =
    if same_text name (codes "begin") then begin_line c client rest
    else if same_text name (codes "end") then end_line c client rest
    else if same_text name (codes "watch") then watch_line c client rest
    else watched_line c client name rest

-- what a client's line has after its name: a missing command is unknown
unfoldable pub command_of : Context → ℕ → Option Bytes → CommandSaid
command_of c client None = Err fault.UnknownCommand
command_of c client (Some rest) = named_command c client (word rest) (more rest)

-- the line is the last one of the client at this place in the last phase
unfoldable pub with_line : ℕ → ℕ × Command → List (List Lines) → List (List Lines)
with_line client line phases = changed_at (length phases - 1) (changed_at client (λ lines. lines ++ line ∷ [])) phases

-- what is said with such a line of this number too
abbrev pub said_by : ℕ → ℕ → CommandSaid → Result Context ScriptFault
said_by n client (Ok (c, command)) = Ok (record c { phases = with_line client (n, command) c.phases })
said_by n client (Err f) = Err f

-- the line of the client at this place, where there is one
unfoldable pub command_at : Context → ℕ → Option ℕ → Option Bytes → Result Context ScriptFault
command_at c n None rest = Err fault.UnknownClient
command_at c n (Some client) rest = said_by n client (command_of c client rest)

-- a line of this number, from the first phase on, by its first word and what follows
unfoldable pub command_line : Context → ℕ → Bytes → Option Bytes → Result Context ScriptFault
command_line c n name rest = command_at c n (place_of name c.clients) rest
