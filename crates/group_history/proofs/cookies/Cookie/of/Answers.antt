use Rattle.std.proofs.Common.{sym, ◌∙◌, arith}
use Rattle.std.proofs.lemmas.Str.{IsUtf8-string_bytes}
use Rattle.serde_json.specs.View.{view}
use Rattle.group_history.proofs.Readings.{cookie_at-compact, not-true}
use Rattle.group_history.proofs.cookies.Cookie.of.Goals as goal

pub invariant_of-result : goal.invariant_of-result
invariant_of-result c =
    let whole = not-true _ (sym c.is_whole.ensures ∙ c.if-not-is_whole.false) in
    let text = c.in_ok-to_string.ensures.text whole in
    rw c.in_ok-text.ensures (cookie_at-compact (view c.args.value.now) _ c.in-Some.order
    (IsUtf8-string_bytes c.in_ok-to_string.field-0)
    (c.in_ok-to_string.ensures.reads_back (omega (arith, c.requires))) text c.requires whole
    (sym c.in_ok-order.ensures ∙ c.in-Some.is))
