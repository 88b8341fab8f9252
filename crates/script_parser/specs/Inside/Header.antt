-- A part of a line before the first phase: what it needs, each need with its fault, and what it says.
use Rattle.std.specs.Prelude.{[], ◌∷◌, length, nat_lt, is_none, Result}
use Rattle.group_history.specs.Map.{Bytes}
use Rattle.group_history.specs.Refs.{max_seats}
use Rattle.script_parser.specs.declared.faults.ScriptFault.{ScriptFault}
use Rattle.script_parser.specs.declared.faults.ScriptFault.TheVariants as fault
use Rattle.script_parser.specs.Context.{Context, place_of, meets}
use Rattle.script_parser.specs.Header.{with_new_client}

-- a client of a new name, where there is room for one
abbrev pub admitted : Context → Bytes → Bytes → Result Context ScriptFault
admitted c name id =
    meets ((is_none (place_of name c.clients), fault.SaidTwice)
    ∷ (nat_lt (length c.clients) max_seats, fault.TooManyClients) ∷ [])
    (with_new_client name id c)
