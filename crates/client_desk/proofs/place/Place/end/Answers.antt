use Rattle.std.proofs.Common.{◌≡◌, Ok}
use Rattle.std.specs.Prelude.{⊤}
use Rattle.group_history.specs.declared.changes.Change.TheVariants.{Pulled}
use Rattle.group_history.specs.declared.responses.Response.TheVariants as response
use Rattle.group_history.specs.Pull.{Pull}
use Rattle.change_tries.specs.Missing.{map_ok}
use Rattle.pull_patch.specs.Grammar.{answer_to}
use Rattle.rebase.specs.Replies.{reply_seen}
use Rattle.rebase.specs.Running.{EndsPull, IsAsked, IsFirstAsked, IsUnwritten, UnderWay}
use Rattle.client_desk.specs.declared.faults.CallFault.TheVariants as fault
use Rattle.client_desk.specs.Answers.{At, tries}
use Rattle.client_desk.specs.Drafts.{AsksToEnd}
use Rattle.client_desk.specs.Kept.{kept_at}
use Rattle.client_desk.specs.Told.{told_alone}
use Rattle.client_desk.proofs.Asking.{step_at, stood, tells_all, told_by}
use Rattle.client_desk.proofs.Moving.{by_client, ticket_kept}
use Rattle.client_desk.proofs.Telling.{at_some}
use Rattle.client_desk.proofs.place.Place.end.Goals as goal

pub go_on-requires-clause-step : goal.go_on-requires-clause-step
go_on-requires-clause-step g c κs within =
    let laws = g.met.M.HostRuns g.world.𝓛 g.world.𝓜 g.world.𝓡 ((λ s x. x), (λ x. x), (λ x. x), (λ x. x)) in
    let has = g.M.Hosted.had in let means = g.M.Means.means in let client = c.in-Client.client in
    let cookie = c.in-Some.ticket.now.cookie in let body = c.args.body.now in
    step_at has means c.take.new.self.group client c.ask_end_pull-step.result
    (λ asking. (r : Pull) × (answer_to body ≡ Ok (response.Ok r)) × IsAsked means ⊤ tries client
    (Pulled cookie r) asking)
    (λ next reply. EndsPull means ⊤ tries client next cookie body (map_ok reply_seen reply)) c.in-Client.ensures.fits.1
    (λ a is. is.2.began) (λ next reply ends. ends.acts) c.ask_end_pull-step.ensures.told
    (told_by c.ask_end_pull-step.result (λ h. IsUnwritten h) _ has laws.same c.ask_end_pull-step.ensures.fresh)

pub returns : goal.returns
returns g c =
    let laws = g.met.M.HostRuns g.world.𝓛 g.world.𝓜 g.world.𝓡 ((λ s x. x), (λ x. x), (λ x. x), (λ x. x)) in
    let has = g.M.Hosted.had in let means = g.M.Means.means in let client = c.in-Client.client in
    let taken = c.in-Client.ensures in
    let kept = c.in-Some.ticket.now in let body = c.args.body.now in let n = c.args.number in
    let b = c.args.self.now in let step = c.ask_end_pull-step in let new = c.go_on.new.self in
    let t = told_alone c.go_on.result in
    let asks : UnderWay → Type 0 = λ asking. (r : Pull) × (answer_to body ≡ Ok (response.Ok r))
    × IsAsked means ⊤ tries client (Pulled kept.cookie r) asking in
    by_client (λ client b. At (kept_at b.tickets n) fault.NoTicket (λ kept. AsksToEnd has means client kept body) b)
    client b new t taken.client
    (at_some (kept_at b.tickets n) fault.NoTicket (λ kept. AsksToEnd has means client kept body) kept b t new
    (ticket_kept _ c.take.new.self b c.deref.result.now n kept c.in-Some.ensures c.deref.ensures.value c.self.view_is
    taken.left)
    (stood step.result (λ a. asks a × IsFirstAsked has a × IsUnwritten has a)
    (λ next reply. EndsPull means ⊤ tries client next kept.cookie body reply) b c.take.new.self new t taken.seat
    taken.reading taken.left
    (tells_all step.result asks (IsFirstAsked has) (IsUnwritten has)
    (λ next reply. EndsPull means ⊤ tries client next kept.cookie body (map_ok reply_seen reply)) step.ensures.told
    (told_by step.result (λ h. IsFirstAsked h) _ has laws.same step.ensures.first)
    (told_by step.result (λ h. IsUnwritten h) _ has laws.same step.ensures.fresh)) c.go_on.ensures))
