use Rattle.std.proofs.lemmas.Result.{IfOk-weaker}
use Rattle.serde_json.specs.View.{view}
use Rattle.pull_patch.proofs.plain.read_cookie.Goals as goal

pub returns-clause-read : goal.returns-clause-read
returns-clause-read c = IfOk-weaker c.cookie_of.result _ _
    (λ x h. record { tree = view c.in_ok-value.value; reads = c.in_ok-value.ensures.read; is = h }) c.cookie_of.ensures
