use Rattle.rebase.specs.Running.{Follows, IsUnwritten}
use Rattle.client_desk.specs.Drafts.{GoesOnRun}
use Rattle.client_desk.specs.Runs.{AsksNextRun, EndsRuns}
use Rattle.client_desk.specs.Told.{told_alone}
use Rattle.client_desk.proofs.Asking.{step_behind, stood, tells_next, told_by}
use Rattle.client_desk.proofs.Moving.{by_run}
use Rattle.client_desk.proofs.place.Place.ran.Goals as goal

pub go_on-requires-clause-step : goal.go_on-requires-clause-step
go_on-requires-clause-step g c κs within =
    let laws = g.met.M.HostRuns g.world.𝓛 g.world.𝓜 g.world.𝓡 ((λ s x. x), (λ x. x), (λ x. x), (λ x. x)) in
    let has = g.M.Hosted.had in
    step_behind has g.M.Means.means c.take.new.self.group c.ran-step.result c.in-Asking.asking
    c.in-Asking.ensures.fits.2.1 c.ran-step.ensures.told
    (told_by c.ran-step.result (λ h. IsUnwritten h) _ has laws.same c.ran-step.ensures.fresh)

pub returns-in-Asking : goal.returns-in-Asking
returns-in-Asking g c =
    let laws = g.met.M.HostRuns g.world.𝓛 g.world.𝓜 g.world.𝓡 ((λ s x. x), (λ x. x), (λ x. x), (λ x. x)) in
    let has = g.M.Hosted.had in let means = g.M.Means.means in let a = c.in-Asking.asking in
    let taken = c.in-Asking.ensures in
    let ran = c.args.ran in let t = told_alone c.go_on.result in
    by_run (GoesOnRun has means ran) a c.args.self.now c.go_on.new.self t taken.asking
    (stood c.ran-step.result (AsksNextRun has means a ran) (EndsRuns means a) c.args.self.now c.take.new.self
    c.go_on.new.self t taken.seat taken.reading taken.left
    (tells_next has means c.ran-step.result a ran c.ran-step.ensures.told
    (told_by c.ran-step.result (λ h. Follows h means a ran) _ has laws.same c.ran-step.ensures.next)
    (told_by c.ran-step.result (λ h. IsUnwritten h) _ has laws.same c.ran-step.ensures.fresh)) c.go_on.ensures)
