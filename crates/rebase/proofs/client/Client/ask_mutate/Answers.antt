use Rattle.std.proofs.Common.{◌≡◌, ◌+◌, refl, rules}
use Rattle.group_history.specs.declared.changes.Change.TheVariants.{Mutated}
use Rattle.group_history.specs.declared.refusals.Refusal.TheVariants as refusal
use Rattle.group_history.specs.State.{made}
use Rattle.rebase.specs.Running.{IsFirstAsked, IsUnwritten}
use Rattle.rebase.proofs.Running.{refused_told, tells_none}
use Rattle.rebase.proofs.client.Client.ask_mutate.Goals as goal

pub returns-in-Err-clause-told : goal.returns-in-Err-clause-told
returns-in-Err-clause-told g c =
    let self = c.args.self in let dry : c.from.result ≡ refusal.NoMemory = search rules in
    refused_told g.M.Means.means g.S.Slots.reused c.args.tries self
    (Mutated (made self.id (self.last + 1) c.args.name.now c.args.args.now c.args.time)) c.from.result
    c.refuse_asked.result refl refl dry c.refuse_asked.ensures.told

pub returns-in-Err-clause-first : goal.returns-in-Err-clause-first
returns-in-Err-clause-first g c =
    tells_none c.refuse_asked.result (IsFirstAsked g.M.Has.has) _ c.refuse_asked.ensures.told

pub returns-in-Err-clause-fresh : goal.returns-in-Err-clause-fresh
returns-in-Err-clause-fresh g c = tells_none c.refuse_asked.result (IsUnwritten g.M.Has.has) _
    c.refuse_asked.ensures.told
