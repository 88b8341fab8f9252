use Rattle.std.proofs.Common.{arith, subst, sym}
use Rattle.std.proofs.lemmas.List.Elements.{All-rest}
use Rattle.script_runner.specs.Inside.Records.{IsSitting}
use Rattle.script_runner.specs.Inside.Turns.{AreOf}
use Rattle.script_runner.proofs.Gathering.{gathered, of_first}
use Rattle.script_runner.proofs.record.unite.Goals as goal

pub hear_all-requires-clause-group : goal.hear_all-requires-clause-group
hear_all-requires-clause-group g c b m =
    of_first c.args.turns.now c.in-Some.others.now c.in-Some.first.now c.in-Some.ensures.cases.0 c.requires.one

pub confirm_all-requires-clause-group : goal.confirm_all-requires-clause-group
confirm_all-requires-clause-group g c b m =
    subst (λ h. AreOf h c.in-Some.others.now) (sym c.hear_all.ensures.learnt.group)
    (of_first c.args.turns.now c.in-Some.others.now c.in-Some.first.now c.in-Some.ensures.cases.0 c.requires.one)

pub confirm_all-requires-clause-all : goal.confirm_all-requires-clause-all
confirm_all-requires-clause-all g c b m =
    All-rest IsSitting c.in-Some.first.now c.in-Some.others.now c.args.turns.now c.in-Some.ensures.cases.0
    c.requires.all

pub returns-in-Some : goal.returns-in-Some
returns-in-Some g c = λ count commit seated many some.
    gathered count commit g.M.Means.means c.args.turns.now c.in-Some.others.now c.confirm_all.new.turns
    c.in-Some.first.now c.hear_all.new.turn c.in-Some.ensures.cases.0 c.hear_all.ensures.learnt c.hear_all.ensures.seen
    c.confirm_all.ensures c.is_legal.ensures many seated

pub returns-in_default : goal.returns-in_default
returns-in_default g c = λ count commit seated many some. absurd (omega (some, c.in_default.ensures.cases, arith))
