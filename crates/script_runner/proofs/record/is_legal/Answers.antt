use Rattle.std.proofs.Common.{◌∙◌, ◌≡◌, Some, None, ap, sym, subst}
use Rattle.std.specs.Option.{option_or}
use Rattle.std.specs.Prelude.{option_map}
use Rattle.head_word.specs.Books.{IsOpened}
use Rattle.head_word.specs.Marks.{Known}
use Rattle.client_desk.specs.Learning.{sight_of}
use Rattle.script_runner.specs.Inside.Records.{log_of}
use Rattle.script_runner.proofs.record.is_legal.Goals as goal

pub returns-in-Some : goal.returns-in-Some
returns-in-Some g c =
    let sits = c.requires in
    let is : Some c.in-Some.seen ≡ Some (sight_of sits.0) =
    sym c.in-Some.is ∙ c.sight.ensures.sight
    ∙ ap (λ o. option_map sight_of (option_or o c.args.turn.now.client.place.reading)) sits.1 in
    let seen : c.in-Some.seen ≡ sight_of sits.0 = cc is in
    subst (IsOpened g.M.Means.means) (ap (λ (m : Known). m.log) seen ∙ sym (ap log_of sits.1)) c.legal.ensures.opened

pub returns-in_default : goal.returns-in_default
returns-in_default g c =
    let is : None ≡ Some (sight_of c.requires.0) =
    sym c.in_default.is ∙ c.sight.ensures.sight
    ∙ ap (λ o. option_map sight_of (option_or o c.args.turn.now.client.place.reading)) c.requires.1 in
    absurd (cc is)
