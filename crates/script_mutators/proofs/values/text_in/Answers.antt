use Rattle.std.proofs.Common.{Some, option_and_then, sym, ap, ◌∙◌}
use Rattle.serde_json.specs.Find.{as_str}
use Rattle.group_history.specs.Meaning.{value_of}
use Rattle.script_mutators.proofs.PlainTexts.{value_of-plain_text}
use Rattle.script_mutators.proofs.values.text_in.Goals as goal

pub returns-in-Some-clause-ok : goal.returns-in-Some-clause-ok
returns-in-Some-clause-ok c =
    let read = value_of-plain_text c.text.result.now c.in-Some.text.now c.text.utf8 c.in-Some.ensures in
    ap Some c.in_ok-from_str.ensures.ok
    ∙ sym (ap (option_and_then as_str) read)
    ∙ ap (λ s. option_and_then as_str (value_of s)) c.text.ensures
