use Rattle.std.proofs.Common.{true≢false, sym, ◌∙◌}
use Rattle.serde_json.specs.View.{view}
use Rattle.group_history.proofs.Readings.{reading-ok, reading-none}
use Rattle.group_history.proofs.json.read_value.Goals as goal

pub returns-in-Ok-clause-value : goal.returns-in-Ok-clause-value
returns-in-Ok-clause-value c = reading-ok c.args.bytes.now
    (view c.in-Ok.value) c.in-Ok.ensures.ok.0 c.in-Ok.ensures.ok.1

pub returns-else-is_memory-clause-value : goal.returns-else-is_memory-clause-value
returns-else-is_memory-clause-value c = reading-none c.args.bytes.now
    (c.in-Err.ensures.err (λ m. absurd (true≢false (sym (c.is_memory.ensures.1 m) ∙ c.if-is_memory.false))))
