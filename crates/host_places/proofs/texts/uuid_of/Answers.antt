use Rattle.std.proofs.Common.{sym, ap, ◌∙◌}
use Rattle.std.proofs.lemmas.Bool.{false≢true}
use Rattle.host_places.proofs.Said.{no_uuid}
use Rattle.host_places.specs.Asking.{uuid_in}
use Rattle.host_places.proofs.texts.uuid_of.Goals as goal

pub returns-in-Err-try_parse : goal.returns-in-Err-try_parse
returns-in-Err-try_parse c =
    sym (ap uuid_in (sym c.in-Ok.ensures) ∙ no_uuid c.in-Ok.text.now
    (λ u. false≢true (c.in-Err-try_parse.ensures.ok.1 u)))
