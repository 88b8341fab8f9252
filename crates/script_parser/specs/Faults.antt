-- What a script says, or which of its lines is the first faulty one, and what is wrong with it.
use Rattle.std.specs.Prelude.{codes, ◌≡◌, ⊤, ℕ, ◌+◌, Bool, ◌||◌, ◌==◌, List, [], ◌∷◌, length, take, slice_index, Option}
use Rattle.std.specs.Prelude.{Some, None, Result, Ok, Err, if◌then◌else◌, count_by}
use Rattle.std.specs.List.{slice_split}
use Rattle.std.specs.Result.{result_err}
use Rattle.std.specs.Str.{is_utf8}
use Rattle.std.specs.Str.Lossy.{utf8_valid_len}
use Rattle.group_history.specs.Map.{Bytes, same_text}
use Rattle.script_parser.specs.declared.faults.ScriptFault.{ScriptFault}
use Rattle.script_parser.specs.declared.faults.ScriptFault.TheVariants as text
use Rattle.script_parser.specs.declared.faults.Fault.{Fault}
use Rattle.script_parser.specs.declared.faults.Fault.TheVariants as fault
use Rattle.script_parser.specs.Context.{Context, nothing_said}
use Rattle.script_parser.specs.Header.{header_line}
use Rattle.script_parser.specs.Commands.{phase_line, command_line}
use Rattle.script_parser.specs.Words.{word, more}

-- empty lines and those that begin with `#` say nothing
unfoldable pub is_skipped : Bytes → Bool
is_skipped l = (length l == 0) || (slice_index l 0 == 35)

-- a line of this number that isn't skipped, by its first word and what follows
unfoldable pub words_line : Context → ℕ → Bytes → Option Bytes → Result Context ScriptFault
words_line c n name rest =
    if same_text name (codes "phase") then phase_line c rest
    else if length c.phases == 0 then header_line c name rest
    else command_line c n name rest

-- what is said with this line too, which has this number, or the line's fault
unfoldable pub said_with : Context → ℕ → Bytes → Result Context ScriptFault
said_with c n l = if is_skipped l then Ok c else words_line c n (word l) (more l)

-- the lines of a text: it is cut at line feeds
abbrev pub lines_of : Bytes → List Bytes
lines_of bytes = slice_split (λ b. b == 10) bytes

-- how a fault is told
abbrev pub fault_text : ScriptFault → Bytes
fault_text text.NotUtf8 = codes "not UTF-8"
fault_text text.UnknownLine = codes "unknown line"
fault_text text.UnknownClient = codes "unknown client"
fault_text text.UnknownCommand = codes "unknown command"
fault_text text.BadWords = codes "bad words"
fault_text text.BadUuid = codes "bad UUID"
fault_text text.BadNumber = codes "bad number"
fault_text text.SaidTwice = codes "said twice"
fault_text text.TooManyClients = codes "too many clients"
fault_text text.BadJson = codes "bad JSON"
fault_text text.UnknownName = codes "unknown name"

-- the fault of the line of this number, and where it has none, what is said with the lines after it too
abbrev pub said_after : ℕ → (Context → Result Context (ℕ × ScriptFault)) → Result Context ScriptFault
    → Result Context (ℕ × ScriptFault)
said_after n next (Err f) = Err (n, f)
said_after n next (Ok c) = next c

-- what is said with these lines too, the first of which has this number, or the number and the fault of the first
-- faulty one
abbrev pub said_in : ℕ → Context → List Bytes → Result Context (ℕ × ScriptFault)
said_in n c [] = Ok c
said_in n c (l ∷ ls) = said_after n (λ d. said_in (n + 1) d ls) (said_with c n l)

-- the line of the first byte that is no UTF-8
unfoldable pub line_of_bad_byte : Bytes → ℕ
line_of_bad_byte bytes = count_by (λ b. b == 10) (take (utf8_valid_len bytes) bytes) + 1

-- What a script says, or the number of its first faulty line, counted from 1, and what is wrong with it. That a script
-- is no UTF-8 is told before any other fault.
unfoldable pub script_said : Bytes → Result Context (ℕ × ScriptFault)
script_said bytes = if is_utf8 bytes then said_in 1 nothing_said (lines_of bytes) else Err
    (line_of_bad_byte bytes, text.NotUtf8)

-- the first faulty line and its fault; none where the script is well formed
unfoldable pub first_fault : Bytes → Option (ℕ × ScriptFault)
first_fault bytes = result_err (script_said bytes)

-- The answer on a script: a fault of the script only where it is the first one, and success only where there is
-- none. Want of memory, or a failed writer, may come in place of success; want of memory of any answer.
abbrev pub Checks : {X : Type 0} → Option (ℕ × ScriptFault) → Result X Fault → Type 0
Checks first (Ok x) = first ≡ None
Checks first (Err (fault.Script l t)) = first ≡ Some (l, t)
Checks first (Err fault.NoMemory) = ⊤
Checks first (Err fault.Write) = first ≡ None
