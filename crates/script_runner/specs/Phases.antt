-- The phases of a script: what each client's lines print, and how they leave it.
use Rattle.std.specs.Prelude.{ℕ, ◌≡◌, ◌<◌, List, [], ◌∷◌, ◌++◌, length, take, slice_index_or, map, Option}
use Rattle.std.specs.Io.KnownBytes.{Appends}
use Rattle.std.specs.List.{concat}
use Rattle.group_history.specs.Map.{Bytes}
use Rattle.group_history.specs.Meaning.{Meanings}
use Rattle.head_word.specs.Marks.{Known}
use Rattle.script_runner.specs.Commanding.{MayPrint, Player}
use Rattle.script_parser.specs.Context.{Lines}
use Rattle.script_runner.specs.Printing.{line_text}
use Rattle.script_runner.specs.Sights.{sight_at}

-- what each client has seen
abbrev pub all_sights : List Player → List (Option Known)
all_sights players = map (λ p. sight_at p.place) players

module _ (means : Meanings) where
  -- The text has a line of output for each line, in order, with what its command may print on the client that the lines
  -- before left; the last one leaves the client at the end. `sights` are what each client had seen when the phase
  -- began.
  abbrev pub AreTold : List (Option Known) → Player → Lines → Bytes → Player → Type 0
  AreTold sights before [] text end = (text ≡ []) × (end ≡ before)
  AreTold sights before (l ∷ ls) text end =
      (told : Bytes) × (next : Player) × (rest : Bytes) × MayPrint means sights before l.1 told next
      × (next.name ≡ before.name)
      × (text ≡ line_text l.0 before.name told ++ rest) × AreTold sights next ls rest end

  -- Each client does the lines of its place, and has a text of its own. Nothing is said of whose call comes first.
  pub record IsPhase (lines : List Lines) (before : List Player) (texts : List Bytes)
      (after : List Player) : Type 0 where
    pub as_many_texts : length texts ≡ length before
    pub as_many : length after ≡ length before
    pub each : (i : ℕ) (l : Lines) (b : Player) (t : Bytes) (a : Player) → i < length before
        → AreTold (all_sights before) (slice_index_or before i b) (slice_index_or lines i l) (slice_index_or texts i t)
        (slice_index_or after i a)

  -- The text is what the phases print, one after the other, each from where the one before left the clients; of each
  -- phase what its clients print, in their order.
  abbrev pub AreWritten : List Player → List (List Lines) → Bytes → List Player → Type 0
  AreWritten before [] text after = (text ≡ []) × (after ≡ before)
  AreWritten before (p ∷ ps) text after =
      (texts : List Bytes) × (mid : List Player) × (rest : Bytes) × IsPhase p before texts mid
      × (text ≡ concat texts ++ rest) × AreWritten mid ps rest after

  -- the bytes that are known grew by that text
  abbrev pub HasWrittenPhases : List Player → List (List Lines) → Option Bytes → Option Bytes → List Player → Type 0
  HasWrittenPhases before phases old new after = (text : Bytes) × AreWritten before phases text after
      × Appends old new text

  -- the bytes that are known grew by the text of so many whole phases
  abbrev pub HasWhole : List Player → List (List Lines) → Option Bytes → Option Bytes → Type 0
  HasWhole before phases old new = (n : ℕ) × (text : Bytes) × (after : List Player)
      × AreWritten before (take n phases) text after × Appends old new text
