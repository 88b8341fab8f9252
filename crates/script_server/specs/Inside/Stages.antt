-- The two stages of serving, in the code: before the first phase, and from it on.
use Rattle.std.specs.Prelude.{◌≡◌, ℕ, ◌+◌, ◌<◌, ⊤, Bool, true, false, [], ◌∷◌, length, List, Option, Some, None}
use Rattle.std.specs.Prelude.{option_map, Ok}
use Rattle.std.specs.Io.KnownBytes.{IsAtEnd}
use Rattle.group_history.specs.Map.{Bytes}
use Rattle.rule_mutators.specs.declared.mutators.NamesRules as NamesRules
use Rattle.rule_mutators.specs.Views.{rules_of}
use Rattle.script_parser.specs.declared.script.LineKind.{LineKind}
use Rattle.script_parser.specs.declared.script.LineKind.TheVariants as asked
use Rattle.script_parser.specs.declared.script.Line.{Line}
use Rattle.script_parser.specs.Context.{Context}
use Rattle.script_parser.specs.Kept.{without_lines}
use Rattle.script_parser.specs.Reading.{LineAsks, bytes_said_with, kept_by}
use Rattle.script_parser.specs.Scripts.{line_said}
use Rattle.script_runner.specs.Answering.{IsToldAt, players_in, seen_in, sights_in}
use Rattle.script_runner.specs.Commanding.{Player}
use Rattle.script_runner.specs.Phases.{all_sights}
use Rattle.script_runner.specs.Settling.{AreSteady, IsWhole, StaySteady}
use Rattle.script_server.specs.declared.heads.Heads.{Heads}
use Rattle.script_server.specs.declared.heads.HeaderLine.{HeaderLine}
use Rattle.script_server.specs.declared.heads.HeaderLine.TheVariants as head
use Rattle.script_server.specs.declared.heads.HeaderTurn.{HeaderTurn}
use Rattle.script_server.specs.declared.heads.HeaderTurn.TheVariants as turn
use Rattle.script_server.specs.declared.opened.Opened.{Opened}
use Rattle.script_server.specs.Answers.{Answers, given_in, ok_text}
use Rattle.script_server.specs.Lines.{HasTakenLine}
use Rattle.script_server.specs.Serving.{ServedPlace, Served}
use Rattle.script_server.specs.Standing.{Standing, means_in}

-- how things stand before the first phase
abbrev pub heads_stand : Heads → Standing
heads_stand heads = record {
  said = kept_by heads.reader;
  rules = option_map rules_of heads.rules;
  players = [];
  sights = [];
  seen = None;
}

-- and from it on, where the group has the rules that are picked
abbrev pub opened_stand : {B : Type 0} {picked : NamesRules.Ghosts B} → Opened B picked → Standing
opened_stand {picked} opened = record {
  said = kept_by opened.reader;
  rules = Some picked.rules;
  players = players_in opened.clients;
  sights = sights_in opened.clients;
  seen = seen_in opened.clients;
}

-- a phase has begun, and each client that was said is there
pub record HasPhase (s : Standing) : Type 0 where
  pub begun : 0 < length s.said.phases
  pub clients : length s.players ≡ length s.said.clients

-- Whether none but the clients changes the group is known at the end alone, where they learn of each other.

-- but for the opening the clients have made all moves that are seen there
abbrev pub IsWholeAt : Standing → Type 0
IsWholeAt s = IsWhole s.players s.seen

-- what is known of the clients in between stays known, and where all moves are theirs at the end, they were before
abbrev pub StaysSteady : Standing → Standing → Type 0
StaysSteady old new = StaySteady old.players old.seen new.players new.seen

-- this holds where all moves that are seen at the end are the clients'
abbrev pub WhereWhole : Standing → Standing → Type 0 → Type 0
WhereWhole old new P = AreSteady old.players old.seen → IsWholeAt new → P

-- the client of a command is one of these
abbrev pub IsPlayerThere : LineKind → List Player → Type 0
IsPlayerThere (asked.Command place line) players = place < length players
IsPlayerThere what players = ⊤

-- the client at a place did the command of its line
pub record HasTold (place : ℕ) (line : Line) (before : Standing) (text : Bytes) (after : Standing) : Type 0 where
  pub told : IsToldAt (means_in before) before.sights before.seen place (line_said line) before.players text
      after.players after.seen
  pub left : after ≡ record before { players = after.players; seen = after.seen }

-- What a line asks is done, where that is said already which it says, and this is its answer.
abbrev pub HasDone : LineKind → ℕ → Standing → Bytes → Standing → Type 0
HasDone asked.Nothing n before text after = (text ≡ ok_text n) × (after ≡ before)
HasDone asked.Phase n before text after = (text ≡ ok_text n)
    × (after ≡ record before { sights = all_sights before.players })
HasDone (asked.Command place line) n before text after = HasTold place line before text after

-- The line of this number begins the first phase. What it says is said, and it isn't answered yet.
pub record IsFirstPhase (n : ℕ) (line : Bytes) (before after : Standing) : Type 0 where
  pub none : before.said.phases ≡ []
  pub other : given_in before line ≡ None
  pub said : Context
  pub right : bytes_said_with before.said n line ≡ Ok said
  pub asks : LineAsks n before.said asked.Phase said
  pub kept : after ≡ record before { said = without_lines said }

-- What is known of a line before the first phase: it was answered, and is still before it, or it begins it.
abbrev pub IsHead : HeaderLine → ℕ → Bytes → Standing → Bytes → Standing → Type 0
IsHead head.Answered n line before text after = Answers n line before text after × (after.said.phases ≡ [])
IsHead head.Begins n line before text after = IsFirstPhase n line before after

-- no command is asked
abbrev pub IsNoCommand : LineKind → Type 0
IsNoCommand (asked.Command place line) = ⊥
IsNoCommand what = ⊤

-- what becomes of a line that asks this before the first phase, and what it is answered
abbrev pub IsHeadOf : LineKind → ℕ → HeaderLine → Bytes → Type 0
IsHeadOf asked.Nothing n what text = (what ≡ head.Answered) × (text ≡ ok_text n)
IsHeadOf asked.Phase n what text = what ≡ head.Begins
IsHeadOf (asked.Command place line) n what text = ⊥

-- The next line at a place begins the first phase. It was taken, and isn't answered yet.
pub record BeginsAt (old new : ServedPlace) : Type 0 where
  pub line : Bytes
  pub taken : HasTakenLine old.input (line ∷ []) new.input
  pub first : IsFirstPhase old.number line old.standing new.standing
  pub number : new.number ≡ old.number
  pub output : new.output ≡ old.output

-- a place, by its parts
abbrev pub served_at : Standing → ℕ → Option Bytes → Option Bytes → ServedPlace
served_at s n input output = record { standing = s; number = n; input = input; output = output }

-- the input was at its end there, and nothing was written
abbrev pub IsLast : ServedPlace → Option Bytes → Type 0
IsLast old output = IsAtEnd old.input × (old.output ≡ output)

-- how a turn before the first phase left things, and the streams
abbrev pub HasTurned : HeaderTurn → ServedPlace → Standing → Option Bytes → Option Bytes → Type 0
HasTurned turn.Ended old s input output = IsLast old output
HasTurned turn.Answered old s input output = Served old (served_at s (old.number + 1) input output)
    × (s.said.phases ≡ [])
HasTurned turn.Begins old s input output = BeginsAt old (served_at s old.number input output)

-- the input was served to its end
abbrev pub IsServed : ServedPlace → Option Bytes → Type 0
IsServed old output = (last : ServedPlace) × Served old last × IsLast last output

-- how all turns before the first phase did: it begins with the line of this number, or the input ended before it
abbrev pub AreHeads : Option ℕ → ServedPlace → Standing → Option Bytes → Option Bytes → Type 0
AreHeads None old s input output = IsServed old output
AreHeads (Some n) old s input output = (mid : ServedPlace) × Served old mid × BeginsAt mid (served_at s n input output)

-- how a turn from the first phase on did, where there was one more line or none
abbrev pub HasAnswered : Bool → ServedPlace → Standing → Option Bytes → Option Bytes → Type 0
HasAnswered true old s input output =
    WhereWhole old.standing s (Served old (served_at s (old.number + 1) input output)) × HasPhase s
HasAnswered false old s input output = IsLast old output
