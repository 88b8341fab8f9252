use Rattle.std.proofs.Common.{sym, ◌∙◌, ap, Ok}
use Rattle.std.proofs.lemmas.Bool.{leb-true}
use Rattle.serde_json.specs.View.{view}
use Rattle.group_history.proofs.Readings.{text_of-deep, text_of-float, text_of-ok, not-true, not-false}
use Rattle.group_history.proofs.json.Json.of.Goals as goal

pub returns-then-not-nests_within : goal.returns-then-not-nests_within
returns-then-not-nests_within c = text_of-deep (view c.args.value.now)
    (sym c.nests_within.ensures ∙ c.if-not-nests_within.true)

pub returns-then-not-is_whole : goal.returns-then-not-is_whole
returns-then-not-is_whole c =
    text_of-float (view c.args.value.now) (leb-true _ _ (sym c.nests_within.ensures ∙ c.if-not-nests_within.false))
    (not-false _ (sym c.is_whole.ensures ∙ c.if-not-is_whole.true))

pub returns : goal.returns
returns c =
    let shallow = leb-true _ _ (sym c.nests_within.ensures ∙ c.if-not-nests_within.false) in
    let whole = not-true _ (sym c.is_whole.ensures ∙ c.if-not-is_whole.false) in
    text_of-ok (view c.args.value.now) shallow whole ∙ ap Ok (sym c.in_ok-of_whole.ensures)
