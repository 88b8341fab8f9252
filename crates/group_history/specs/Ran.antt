-- How a run of a mutator stands to what it means.
use Rattle.std.specs.Prelude.{◌≡◌}
use Rattle.group_history.specs.declared.mutators.Ran.{Ran}
use Rattle.group_history.specs.declared.mutators.Ran.TheVariants as ran
use Rattle.group_history.specs.Map.{Entries}
use Rattle.group_history.specs.Meaning.{Meaning, unknown, refuses, done}

-- The answer is the meaning's, and a run that is done leaves the meaning's map.
abbrev pub RunsAs : Meaning → Ran → Entries → Type 0
RunsAs unknown ran.Unknown left = Unit {0}
RunsAs (refuses code) (ran.Refused c) left = c ≡ code
RunsAs (done m) ran.Done left = left ≡ m
RunsAs unknown ran.Done left = ⊥
RunsAs unknown (ran.Refused c) left = ⊥
RunsAs (refuses code) ran.Done left = ⊥
RunsAs (refuses code) ran.Unknown left = ⊥
RunsAs (done m) ran.Unknown left = ⊥
RunsAs (done m) (ran.Refused c) left = ⊥
