use Rattle.std.proofs.Common.{◌∙◌, sym}
use Rattle.serde_json.specs.View.{view}
use Rattle.pull_patch.proofs.PlainResponses.{cookie_at-some}
use Rattle.pull_patch.proofs.plain.cookie_of.Goals as goal

pub returns-in-Some : goal.returns-in-Some
returns-in-Some c = record {
  shape = cookie_at-some (view c.args.value.now)
      (sym c.is_cookie.ensures ∙ c.if-not-is_cookie.false);
  says = sym c.in_ok-cookie.ensures ∙ c.in-Some.is;
}
