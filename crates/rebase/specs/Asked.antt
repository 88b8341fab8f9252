-- What a change that asks for runs answers.
use Rattle.std.specs.Prelude.{Result}
use Rattle.group_history.specs.declared.refusals.Refusal.{Refusal}
use Rattle.rebase.specs.Clients.{ClientState}
use Rattle.rebase.specs.Running.{UnderWay}
use Rattle.rebase.specs.declared.asking.Asked.{Asked}
use Rattle.rebase.specs.declared.asking.Asked.TheVariants as asked
use Rattle.rebase.specs.declared.calls.CallReply.{CallReply}

-- a run is asked for, or the call ended
abbrev pub TellsAsked : {M S T : Type 0} → Asked M S T → (UnderWay → Type 0)
    → (ClientState → Result CallReply Refusal → Type 0) → Type 0
TellsAsked (asked.Run a) run end = run a
TellsAsked (asked.Ended c r) run end = end c r
