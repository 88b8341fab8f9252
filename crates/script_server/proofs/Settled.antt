-- What is known of the clients between lines, and what follows once all lines are done.
use Rattle.std.proofs.Common.{◌≡◌, List, Option, subst, sym}
use Rattle.head_word.specs.Marks.{Known}
use Rattle.script_runner.specs.Commanding.{Player}
use Rattle.script_runner.specs.Runs.{identity_of}
use Rattle.script_runner.specs.Settling.{AreSteady, StaySteady}
use Rattle.script_runner.proofs.Steady.{steady_new}
use Rattle.script_parser.specs.Context.{Context}
use Rattle.script_server.specs.Answers.{OpensGroup}
use Rattle.script_server.specs.Standing.{Standing, means_in}
use Rattle.script_server.specs.Inside.Stages.{StaysSteady, WhereWhole}

-- the clients that were opened
pub steady_opened : (before : Standing) (kept : Context) (after : Standing) → OpensGroup before kept after
    → AreSteady after.players after.seen
steady_opened before kept after opens =
    subst (AreSteady after.players) (sym opens.seen)
    (steady_new (means_in before) (identity_of kept.group kept.profile kept.schema) kept.clients after.players
    opens.players)

-- where nothing is done
pub stays : (players now : List Player) (seen sees : Option Known) → now ≡ players → sees ≡ seen
    → StaySteady players seen now sees
stays players now seen sees same still =
    subst (λ ps. StaySteady players seen ps sees) (sym same)
    (subst (StaySteady players seen players) (sym still) (λ was. (was, λ all. all)))

-- one after the other
pub stays_on : (a b c : Standing) → StaysSteady a b → StaysSteady b c → StaysSteady a c
stays_on a b c ab bc was = let first = ab was in let second = bc first.0 in (second.0, λ all. first.1 (second.1 all))

pub whole_on : {P Q R : Type 0} (a b c : Standing) → (P → Q → R) → StaysSteady a b → StaysSteady b c → WhereWhole a b P
    → WhereWhole b c Q → WhereWhole a c R
whole_on a b c both ab bc p q was all =
    let mid = (ab was).0 in both (p was ((bc mid).1 all)) (q mid all)
