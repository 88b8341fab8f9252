-- Words that only private clauses of this crate use.
use Rattle.std.specs.Prelude.{◌≡◌, Option, Some, None}
use Rattle.group_history.specs.declared.refusals.Refusal.TheVariants.{NoMemory}
use Rattle.client_desk.specs.declared.outcomes.Outcome.TheVariants.{Done, Refused}
use Rattle.giqaymu_c.specs.declared.jobs.JobReply.{JobReply}
use Rattle.giqaymu_c.specs.Jobs.{RepliesBare}
use Rattle.giqaymu_c.specs.Spots.{SpotState}

-- a spot is in a box, or memory was refused
abbrev pub IsBoxed : SpotState → JobReply → Option SpotState → Type 0
IsBoxed spot reply None = RepliesBare (Refused NoMemory) reply
IsBoxed spot reply (Some s) = RepliesBare Done reply × (s ≡ spot)
