use Rattle.std.proofs.Common.{refl}
use Rattle.std.proofs.lemmas.Bool.{false≢true}
use Rattle.script_parser.specs.Words.{is_uuid}
use Rattle.script_parser.proofs.Lists.{none_from}
use Rattle.script_parser.proofs.words.uuid_of.Goals as goal

pub returns-in_default-clause-form : goal.returns-in_default-clause-form
unfolding is_uuid
returns-in_default-clause-form c =
    let never = c.in_default.ensures.ok.1 in
    (none_from _ (λ p. false≢true (never p)), refl)
