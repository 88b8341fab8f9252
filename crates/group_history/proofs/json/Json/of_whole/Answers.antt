use Rattle.std.proofs.Common.{arith}
use Rattle.std.proofs.lemmas.Str.{IsUtf8-string_bytes}
use Rattle.serde_json.specs.View.{view}
use Rattle.group_history.proofs.Readings.{json_text-compact}
use Rattle.group_history.proofs.json.Json.of_whole.Goals as goal

pub invariant_of-result : goal.invariant_of-result
invariant_of-result c =
    let text = c.in_ok-to_string.ensures.text c.requires.whole in
    rw c.in_ok-compact.ensures (json_text-compact (view c.args.value.now) _
    (IsUtf8-string_bytes c.in_ok-to_string.field-0)
    (c.in_ok-to_string.ensures.reads_back (omega arith)) text c.requires.shallow c.requires.whole)
