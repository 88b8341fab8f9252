-- What is shown of a change that is under way.
use Rattle.std.specs.Prelude.{ℕ, ◌≡◌, reverse}
use Rattle.group_history.specs.declared.changes.Change.{Change}
use Rattle.head_word.specs.Books.{drawn}
use Rattle.change_tries.specs.Runs.{run_map, run_start}
use Rattle.change_tries.specs.declared.trying.Attempt.{Attempt}
use Rattle.change_tries.specs.declared.trying.Progress.{Progress}
use Rattle.change_tries.specs.declared.trying.Progress.TheVariants as progress
use Rattle.rebase.specs.Clients.{ClientState}
use Rattle.rebase.specs.Running.{UnderWay}

abbrev pub under_way : {M : Type 0} → ClientState → Change → Attempt M → ℕ → UnderWay
under_way client c a tries = record {
  client = client;
  change = c;
  mutation = a.run.mutation;
  start = run_start (drawn client.seat.mark.log) a.run;
  map = run_map (drawn client.seat.mark.log) a.run;
  behind = reverse a.run.behind.items;
  seen = a.arrival.seen.log;
  lost = a.lost;
  tries = tries;
}

-- it is shown where a run is asked for, and else nothing
abbrev pub IsRunShown : {M : Type 0} → ClientState → Change → ℕ → Progress M → UnderWay → Type 0
IsRunShown client c tries (progress.Run a) asking = asking ≡ under_way client c a tries
IsRunShown client c tries (progress.Ended made) asking = ⊥
