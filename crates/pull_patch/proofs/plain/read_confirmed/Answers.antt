use Rattle.std.proofs.Common.{Result, Ok, Err, IfOk}
use Rattle.serde_json.specs.View.{view}
use Rattle.pull_patch.proofs.plain.read_confirmed.Goals as goal

both : {X Y : Type 0} (r : Result X Y) (P Q R : X → Type 0) → ((x : X) → P x → Q x → R x) → IfOk r P
    → IfOk r Q → IfOk r R
both (Ok x) P Q R f h k = f x h k
both (Err e) P Q R f h k = tt

pub returns-clause-read : goal.returns-clause-read
returns-clause-read c =
    both c.changes_of.result _ _ _ (λ x h k.
    record { tree = view c.in_ok-value.value; reads = c.in_ok-value.ensures.read; are = h; in_range = k })
    c.changes_of.ensures.read c.changes_of.ensures.in_range
