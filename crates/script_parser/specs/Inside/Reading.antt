-- What is kept of a line beside what it asks.
use Rattle.std.specs.Prelude.{◌≡◌, ℕ, ◌<◌, List, [], ◌∷◌, length}
use Rattle.script_parser.specs.declared.script.LineKind.{LineKind}
use Rattle.script_parser.specs.declared.script.LineKind.TheVariants as asked
use Rattle.script_parser.specs.Context.{Context, Lines}
use Rattle.script_parser.specs.Reading.{with_asked}

-- Beside what a line of this number asks, no line is kept, and a client only before the first phase; beside a phase,
-- nothing is.
abbrev pub IsBeside : ℕ → Context → LineKind → Context → Type 0
IsBeside n old asked.Nothing new =
    (new.phases ≡ old.phases) × (0 < length old.phases → new.clients ≡ old.clients)
IsBeside n old asked.Phase new = new ≡ old
IsBeside n old (asked.Command client line) new =
    (new.phases ≡ old.phases) × (new.clients ≡ old.clients) × (0 < length old.phases)
    × (client < length old.clients) × (line.number ≡ n)

-- a phase is noted beside what was said, where these phases are none
abbrev pub noted_phase : List (List Lines) → Context → Context
noted_phase [] c = with_asked asked.Phase c
noted_phase (p ∷ ps) c = c

-- What is kept once it is known what is asked: of phases only that there is one.
abbrev pub kept_after : LineKind → Context → Context
kept_after asked.Nothing c = c
kept_after asked.Phase c = noted_phase c.phases c
kept_after (asked.Command client line) c = c
