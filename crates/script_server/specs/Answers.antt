-- What a line is answered, and how it leaves things.
use Rattle.std.specs.Prelude.{codes, decimal, ◌≡◌, ℕ, ◌-◌, ◌==◌, Bool, true, ◌&&◌, not, List, [], ◌∷◌, ◌++◌, length}
use Rattle.std.specs.Prelude.{take, slice_index, Option, Some, None, Result, Ok, Err, if◌then◌else◌}
use Rattle.std.specs.List.{concat, list_any}
use Rattle.std.specs.Str.{is_utf8}
use Rattle.group_history.specs.Map.{Bytes, same_text}
use Rattle.rule_mutators.specs.declared.faults.RuleFault.{RuleFault}
use Rattle.rule_mutators.specs.Faults.{rules_fault_text as rules_fault_text}
use Rattle.rule_mutators.specs.Reading.{rules_said}
use Rattle.rule_mutators.specs.Rules.{Rules}
use Rattle.script_parser.specs.declared.faults.ScriptFault.{ScriptFault}
use Rattle.script_parser.specs.declared.faults.ScriptFault.TheVariants.{BadWords, SaidTwice}
use Rattle.script_parser.specs.declared.script.LineKind.{LineKind}
use Rattle.script_parser.specs.declared.script.LineKind.TheVariants as asked
use Rattle.script_parser.specs.declared.script.Line.{Line}
use Rattle.script_parser.specs.Context.{Context, Lines}
use Rattle.script_parser.specs.Faults.{fault_text}
use Rattle.script_parser.specs.Kept.{without_lines}
use Rattle.script_parser.specs.Reading.{LineAsks, bytes_said_with}
use Rattle.script_parser.specs.Scripts.{line_said}
use Rattle.script_parser.specs.Words.{more, word}
use Rattle.script_runner.specs.Answering.{IsToldAt}
use Rattle.script_runner.specs.Phases.{all_sights}
use Rattle.script_runner.specs.Plain.{IsPlainlyTold}
use Rattle.script_runner.specs.Runs.{AreNewPlayers, identity_of}
use Rattle.script_server.specs.Standing.{Standing, means_in, record_in, rules_in}

-- ---- the texts of answers

-- a text is one line: its last byte is a line feed, and none before it
unfoldable pub is_line : Bytes → Bool
is_line text =
    (slice_index text (length text - 1) == 10) && not (list_any (λ b. b == 10) (take (length text - 1) text))

abbrev pub IsLine : Bytes → Type 0
IsLine text = is_line text ≡ true

-- `LINE ok`
unfoldable pub ok_text : ℕ → Bytes
ok_text n = concat (decimal n ∷ codes " ok\n" ∷ [])

-- `LINE fault TEXT`
unfoldable pub fault_line : ℕ → Bytes → Bytes
fault_line n fault = concat (decimal n ∷ codes " fault " ∷ fault ∷ codes "\n" ∷ [])

-- ---- rules

-- what follows the word `rules` in a text that begins with it: a text of rules, or nothing
unfoldable pub behind_rules : Bytes → Option (Option Bytes)
behind_rules line = if same_text (word line) (codes "rules") then Some (more line) else None

-- the same of the bytes of a line; one that is no UTF-8 gives no rules
unfoldable pub rules_of_line : Bytes → Option (Option Bytes)
rules_of_line line = if is_utf8 line then behind_rules line else None

-- the same where these phases have begun: from the first one on no line does
abbrev pub given_before : List (List Lines) → Bytes → Option (Option Bytes)
given_before [] line = rules_of_line line
given_before (p ∷ ps) line = None

abbrev pub given_in : Standing → Bytes → Option (Option Bytes)
given_in s line = given_before s.said.phases line

-- The rules that a text says, where a line before gave these; or how the fault of the line is told. That rules are
-- given twice is told of a text that says rules.
abbrev pub first_rules : Option Rules → Result Rules RuleFault → Result Rules Bytes
first_rules given (Err e) = Err (codes "rules " ++ rules_fault_text e)
first_rules (Some given) (Ok rules) = Err (fault_text SaidTwice)
first_rules None (Ok rules) = Ok rules

-- the same of what follows the word `rules`; where nothing does, a word is missing
abbrev pub rules_with : Option Rules → Option Bytes → Result Rules Bytes
rules_with given None = Err (fault_text BadWords)
rules_with given (Some text) = first_rules given (rules_said text)

-- a line that gives rules
abbrev pub GivesRules : Result Rules Bytes → ℕ → Standing → Bytes → Standing → Type 0
GivesRules (Err fault) n before text after = (text ≡ fault_line n fault) × (after ≡ before)
GivesRules (Ok rules) n before text after = (text ≡ ok_text n) × (after ≡ record before { rules = Some rules })

-- ---- phases

-- The first phase begins: there is a group of the rules, and a new client for each `client` line. This was said.
pub record OpensGroup (before : Standing) (kept : Context) (after : Standing) : Type 0 where
  pub said : after.said ≡ kept
  pub rules : after.rules ≡ Some (rules_in before)
  pub players : AreNewPlayers (means_in before) (identity_of kept.group kept.profile kept.schema) kept.clients
      after.players
  pub sights : after.sights ≡ all_sights after.players
  pub seen : after.seen ≡ None

-- A phase begins where these have: in it clients learn what others have seen until now.
abbrev pub BeginsPhase : List (List Lines) → Standing → Context → Standing → Type 0
BeginsPhase [] before said after = OpensGroup before said after
BeginsPhase (p ∷ ps) before said after = after ≡ record before { said = said; sights = all_sights before.players }

-- ---- any line

-- The client at a place does the command of its line. It is told what the group of one thread replies (`plain`) at the
-- state after the changes of all lines before, and the record gains the change that this reply stands for; or the line
-- is refused for want of memory, slots or stamps, and the record stays. Where the client has a reading open, the state
-- is the one before the line that began it. `told` says of that what is printed, which cause a refusal has, what the
-- client keeps, and of free slots how they were counted.
pub record TellsLine (place : ℕ) (line : Line) (before : Standing) (said : Context) (text : Bytes)
    (after : Standing) : Type 0
  where
    pub told : IsToldAt (means_in before) before.sights before.seen place (line_said line) before.players text
        after.players after.seen
    pub plain : IsPlainlyTold (means_in before) line.command told.client.place told.next.place told.may.t
        (record_in before)
        after.seen
    pub left : after ≡ record before { said = said; players = after.players; seen = after.seen }

-- what a line asks is done, and this was then said
abbrev pub Does : LineKind → ℕ → Standing → Context → Bytes → Standing → Type 0
Does asked.Nothing n before said text after = (text ≡ ok_text n) × (after ≡ record before { said = said })
Does asked.Phase n before said text after = (text ≡ ok_text n) × BeginsPhase before.said.phases before said after
Does (asked.Command place line) n before said text after = TellsLine place line before said text after

-- A line that says something, or is faulty. A faulty one changes nothing.
abbrev pub Says : Result Context ScriptFault → ℕ → Standing → Bytes → Standing → Type 0
Says (Err f) n before text after = (text ≡ fault_line n (fault_text f)) × (after ≡ before)
Says (Ok said) n before text after =
    (what : LineKind) × LineAsks n before.said what said × Does what n before (without_lines said) text after

-- a line that gives rules, or another one
abbrev pub AnswersBy : Option (Option Bytes) → ℕ → Bytes → Standing → Bytes → Standing → Type 0
AnswersBy (Some given) n line before text after = GivesRules (rules_with before.rules given) n before text after
AnswersBy None n line before text after = Says (bytes_said_with before.said n line) n before text after

-- the line of this number is answered this text, and leaves things so
abbrev pub Answers : ℕ → Bytes → Standing → Bytes → Standing → Type 0
Answers n line before text after = AnswersBy (given_in before line) n line before text after
