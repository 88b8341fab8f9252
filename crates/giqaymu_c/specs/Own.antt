-- The runs of a host's own mutators: what each of them means; at anything else a mutator is unknown. This project's
-- own words.
--
-- A place has them as ghost data, so they are a finite list: all runs that the host makes while the group is there. A
-- host that tells of another run, or of another end of one, breaks the premise of `giq_call`.
use Rattle.std.specs.Prelude.{◌∷◌, ◌&&◌, [], Bool, true, false, List, if◌then◌else◌}
use Rattle.std.specs.Cmp.Lexicographic.{pointwise}
use Rattle.std.specs.FinMap as finite
use Rattle.group_history.specs.declared.mutations.Reason.{Reason}
use Rattle.group_history.specs.declared.mutations.Reason.TheVariants.{Initial, Rebase}
use Rattle.group_history.specs.Map.{Bytes, Entries, same_text}
use Rattle.group_history.specs.Meaning.{Meaning, Meanings, unknown}

-- a run: the mutator's name and its arguments, for which reason and at which map it is run, and what it means there
pub record Run : Type 0 where
  pub name : Bytes
  pub args : Bytes
  pub why : Reason
  pub map : Entries
  pub means : Meaning

abbrev pub same_reason : Reason → Reason → Bool
same_reason Initial Initial = true
same_reason Rebase Rebase = true
same_reason Initial Rebase = false
same_reason Rebase Initial = false

abbrev pub same_map : Entries → Entries → Bool
same_map one other =
    pointwise (λ x y. same_text x.0 y.0 && same_text x.1 y.1) (finite.entries one) (finite.entries other)

-- whether it is the run of this
abbrev pub is_run_of : Run → Bytes → Bytes → Reason → Entries → Bool
is_run_of r name args why map =
    same_text r.name name && same_text r.args args && same_reason r.why why && same_map r.map map

-- What mutators mean that have these runs: what the first run means of that name, those arguments, that reason and that
-- map.
unfoldable pub runs_mean : List Run → Meanings
runs_mean [] name args why map = unknown
runs_mean (r ∷ runs) name args why map =
    if is_run_of r name args why map then r.means else runs_mean runs name args why map
