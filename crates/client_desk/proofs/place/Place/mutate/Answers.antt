use Rattle.std.specs.Prelude.{⊤}
use Rattle.change_tries.specs.Missing.{map_ok}
use Rattle.rebase.specs.Replies.{reply_seen}
use Rattle.rebase.specs.Running.{EndsCall, IsAsked, IsFirstAsked, IsUnwritten}
use Rattle.client_desk.specs.Answers.{tries}
use Rattle.client_desk.specs.Drafts.{AsksToMutate, mutation_of}
use Rattle.client_desk.specs.Told.{told_alone}
use Rattle.client_desk.proofs.Asking.{step_at, stood, tells_all, told_by}
use Rattle.client_desk.proofs.Moving.{by_client}
use Rattle.client_desk.proofs.place.Place.mutate.Goals as goal

pub go_on-requires-clause-step : goal.go_on-requires-clause-step
go_on-requires-clause-step g c κs within =
    let laws = g.met.M.HostRuns g.world.𝓛 g.world.𝓜 g.world.𝓡 ((λ s x. x), (λ x. x), (λ x. x), (λ x. x)) in
    let has = g.M.Hosted.had in let means = g.M.Means.means in let client = c.in-Client.client in
    let x = c.args.asked in let change = mutation_of client x.name.now x.args.now x.time in
    step_at has means c.take.new.self.group client c.ask_mutate-step.result (IsAsked means ⊤ tries client change)
    (λ next reply. EndsCall means ⊤ tries client next change (map_ok reply_seen reply)) c.in-Client.ensures.fits.1
    (λ a is. is.began) (λ next reply ends. ends.acts) c.ask_mutate-step.ensures.told
    (told_by c.ask_mutate-step.result (λ h. IsUnwritten h) _ has laws.same c.ask_mutate-step.ensures.fresh)

pub returns-in-Client : goal.returns-in-Client
returns-in-Client g c =
    let laws = g.met.M.HostRuns g.world.𝓛 g.world.𝓜 g.world.𝓡 ((λ s x. x), (λ x. x), (λ x. x), (λ x. x)) in
    let has = g.M.Hosted.had in let means = g.M.Means.means in let client = c.in-Client.client in
    let x = c.args.asked in let change = mutation_of client x.name.now x.args.now x.time in
    let taken = c.in-Client.ensures in
    let t = told_alone c.go_on.result in let step = c.ask_mutate-step in
    by_client (λ b. AsksToMutate has means b x.name.now x.args.now x.time) client c.args.self.now c.go_on.new.self t
    taken.client
    (stood step.result (λ a. IsAsked means ⊤ tries client change a × IsFirstAsked has a × IsUnwritten has a)
    (λ next reply. EndsCall means ⊤ tries client next change reply) c.args.self.now c.take.new.self c.go_on.new.self t
    taken.seat taken.reading taken.left
    (tells_all step.result (IsAsked means ⊤ tries client change) (IsFirstAsked has) (IsUnwritten has)
    (λ next reply. EndsCall means ⊤ tries client next change (map_ok reply_seen reply)) step.ensures.told
    (told_by step.result (λ h. IsFirstAsked h) _ has laws.same step.ensures.first)
    (told_by step.result (λ h. IsUnwritten h) _ has laws.same step.ensures.fresh)) c.go_on.ensures)
