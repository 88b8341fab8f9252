-- A client's part of a phase, in the code.
use Rattle.std.specs.Prelude.{ℕ, ◌≡◌, List, [], ◌++◌, map, Option, Result, Ok, Err, IsOk}
use Rattle.std.specs.Prelude.{IfOk}
use Rattle.std.specs.Global.{Vec}
use Rattle.std.specs.List.{All}
use Rattle.group_history.specs.Map.{Bytes}
use Rattle.group_history.specs.Meaning.{Meanings}
use Rattle.head_word.specs.Marks.{Known}
use Rattle.rebase.specs.Clients.{Grouped}
use Rattle.script_runner.specs.declared.client.ScriptClient.{ScriptClient}
use Rattle.script_runner.specs.declared.phase.ClientTurn.{ClientTurn}
use Rattle.script_parser.specs.declared.script.Command.{Command}
use Rattle.script_runner.specs.Commanding.{MayPrint, Player}
use Rattle.script_parser.specs.Context.{Lines}
use Rattle.script_runner.specs.Phases.{AreTold}
use Rattle.script_runner.specs.Printing.{line_text}
use Rattle.script_runner.specs.Inside.Players.{player_of}

-- what was printed of a client's part, where memory wasn't refused
abbrev pub printed_text : {E : Type 0} → Result (Vec ℕ) E → Bytes
printed_text (Ok text) = text.items
printed_text (Err e) = []

-- memory wasn't refused
abbrev pub IsPrinted : {M : Type 0} → ClientTurn M → Type 0
IsPrinted turn = IsOk turn.printed

abbrev pub turn_texts : {M : Type 0} → List (ClientTurn M) → List Bytes
turn_texts turns = map (λ t. printed_text t.printed) turns

-- all clients are of one group
abbrev pub AreOf : {M : Type 0} → Grouped → List (ClientTurn M) → Type 0
AreOf group turns = All (λ t. t.client.place.group ≡ group) turns

-- of some one
abbrev pub AreOfOneGroup : {M : Type 0} → List (ClientTurn M) → Type 0
AreOfOneGroup turns = (group : Grouped) × AreOf group turns

-- of the group that they were of
abbrev pub StayInGroup : {M : Type 0} → List (ClientTurn M) → List (ClientTurn M) → Type 0
StayInGroup old new = (group : Grouped) → AreOf group old → AreOf group new

module _ (means : Meanings) where
  -- the printed text gained the line of output of one line
  pub record IsLineTold (sights : List (Option Known)) (before : Player) (l : ℕ × Command) (old new : Bytes)
      (after : Player) : Type 0 where
    pub told : Bytes
    pub may : MayPrint means sights before l.1 told after
    pub name : after.name ≡ before.name
    pub text : new ≡ old ++ line_text l.0 before.name told

  -- a client's part of a phase, where memory wasn't refused
  pub record IsClientTurn {M : Type 0} (sights : List (Option Known)) (lines : Lines)
      (before : ScriptClient M) (after : ClientTurn M) : Type 0 where
    pub told : IfOk after.printed (λ text. AreTold means sights (player_of before) lines text.items
        (player_of after.client))
    pub group : after.client.place.group ≡ before.place.group
