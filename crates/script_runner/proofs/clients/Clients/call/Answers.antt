use Rattle.std.proofs.Common.{subst, sym, ◌∙◌}
use Rattle.client_desk.specs.Told.{told}
use Rattle.script_runner.specs.Commanding.{MayTell}
use Rattle.script_runner.specs.Sights.{sight_at}
use Rattle.script_runner.proofs.Grouping.{called_at, seen_anew, seen_kept}
use Rattle.script_runner.proofs.clients.Clients.call.Goals as goal

pub returns-then-not-is_reading-clause-called : goal.returns-then-not-is_reading-clause-called
returns-then-not-is_reading-clause-called g c =
    let was = c.args.self.now in let turn = c.index_mut.result.now in let mid = c.catch_up.new.client in
    let t = told c.call-outcome.result c.call-outcome.new.bytes.items in
    called_at g.M.Means.means was.turns.items was.sights.items was.seen c.args.place c.args.command.now turn
    (record { client = c.call-outcome.new.self; printed = turn.printed }) mid t c.sight.result
    c.requires.place c.index_mut.ensures.value c.catch_up.ensures.learnt c.catch_up.ensures.same.0
    (subst (λ ss. MayTell g.M.Means.means ss c.args.command.now mid.place t
    c.call-outcome.new.self.place) c.deref.ensures.value c.call-outcome.ensures.told)
    c.call-outcome.ensures.same.0
    (c.sight.ensures.sight ∙ seen_anew mid.place.reading was.seen (sight_at c.call-outcome.new.self.place)
    (sym c.reads-is_reading.ensures ∙ c.if-not-is_reading.true))

pub returns-else-not-is_reading-clause-called : goal.returns-else-not-is_reading-clause-called
returns-else-not-is_reading-clause-called g c =
    let was = c.args.self.now in let turn = c.index_mut.result.now in let mid = c.catch_up.new.client in
    let t = told c.call-outcome.result c.call-outcome.new.bytes.items in
    called_at g.M.Means.means was.turns.items was.sights.items was.seen c.args.place c.args.command.now turn
    (record { client = c.call-outcome.new.self; printed = turn.printed }) mid t was.seen
    c.requires.place c.index_mut.ensures.value c.catch_up.ensures.learnt c.catch_up.ensures.same.0
    (subst (λ ss. MayTell g.M.Means.means ss c.args.command.now mid.place t
    c.call-outcome.new.self.place) c.deref.ensures.value c.call-outcome.ensures.told)
    c.call-outcome.ensures.same.0
    (seen_kept mid.place.reading was.seen (sight_at c.call-outcome.new.self.place)
    (sym c.reads-is_reading.ensures ∙ c.if-not-is_reading.false))
