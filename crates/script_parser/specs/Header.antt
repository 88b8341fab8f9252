-- The lines before the first phase: what each needs, each need with the fault of a line that doesn't meet it, and
-- what it says. Where a line has several faults, the first need that isn't met tells.
use Rattle.std.specs.Prelude.{codes, [], ◌∷◌, ◌++◌, length, nat_lt, Option, Some, is_some, is_none, Result, Err}
use Rattle.std.specs.Prelude.{if◌then◌else◌}
use Rattle.std.specs.Str.Parse.{digits_value}
use Rattle.group_history.specs.Map.{Bytes, same_text}
use Rattle.group_history.specs.Refs.{max_slots, max_seats}
use Rattle.script_parser.specs.declared.faults.ScriptFault.{ScriptFault}
use Rattle.script_parser.specs.declared.faults.ScriptFault.TheVariants as fault
use Rattle.script_parser.specs.Context.{Context, place_of, meets}
use Rattle.script_parser.specs.Words.{word, more, text, is_word, is_uuid, uuid_said, is_number, is_client_name}

-- `group UUID`
unfoldable pub group_line : Context → Option Bytes → Result Context ScriptFault
group_line c rest =
    meets ((is_word (text rest), fault.BadWords) ∷ (is_uuid (text rest), fault.BadUuid)
    ∷ (is_none c.group, fault.SaidTwice) ∷ [])
    (record c { group = Some (uuid_said (text rest)) })

-- `profile REST`
unfoldable pub profile_line : Context → Option Bytes → Result Context ScriptFault
profile_line c rest = meets ((is_some rest, fault.BadWords) ∷ (is_none c.profile, fault.SaidTwice) ∷ [])
    (record c { profile = Some (text rest) })

-- `schema REST`
unfoldable pub schema_line : Context → Option Bytes → Result Context ScriptFault
schema_line c rest = meets ((is_some rest, fault.BadWords) ∷ (is_none c.schema, fault.SaidTwice) ∷ [])
    (record c { schema = Some (text rest) })

-- `slots N`
unfoldable pub slots_line : Context → Option Bytes → Result Context ScriptFault
slots_line c rest =
    meets ((is_word (text rest), fault.BadWords) ∷ (is_number 16 max_slots (text rest), fault.BadNumber)
    ∷ (is_none c.slots, fault.SaidTwice) ∷ [])
    (record c { slots = Some (digits_value 10 (text rest)) })

-- a client more, whose lines made no ticket and no watch
abbrev pub with_new_client : Bytes → Bytes → Context → Context
with_new_client name id c = record c {
  clients = c.clients ++ (name, id) ∷ [];
  tickets = c.tickets ++ [] ∷ [];
  watches = c.watches ++ [] ∷ [];
}

-- `client NAME UUID`
unfoldable pub client_line : Context → Option Bytes → Result Context ScriptFault
client_line c rest =
    let name = word (text rest) in
    let id = text (more (text rest)) in
    meets ((is_some rest, fault.BadWords) ∷ (is_client_name name, fault.BadWords) ∷ (is_word id, fault.BadWords)
    ∷ (is_uuid id, fault.BadUuid)
    ∷ (is_none (place_of name c.clients), fault.SaidTwice)
    ∷ (nat_lt (length c.clients) max_seats, fault.TooManyClients)
    ∷ [])
    (with_new_client name (uuid_said id) c)

-- a line before the first phase, by its first word and what follows
unfoldable pub header_line : Context → Bytes → Option Bytes → Result Context ScriptFault
header_line c name rest =
    if same_text name (codes "client") then client_line c rest
    else if same_text name (codes "slots") then slots_line c rest
    else if same_text name (codes "group") then group_line c rest
    else if same_text name (codes "profile") then profile_line c rest
    else if same_text name (codes "schema") then schema_line c rest
    else Err fault.UnknownLine
