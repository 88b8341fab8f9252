use Rattle.std.proofs.Common.{Some, sym, ap, ◌∙◌}
use Rattle.pull_patch.specs.Inside.Parts.{edit_view}
use Rattle.pull_patch.proofs.WriteLists.{write_of-said}
use Rattle.pull_patch.proofs.writes.write_of.Goals as goal

pub returns-in-Some-Put : goal.returns-in-Some-Put
returns-in-Some-Put c =
    let o = c.in-Some-Put in
    sym (write_of-said (edit_view c.args.edit) _ (sym c.in_ok-key.ensures ∙ o.is ∙ ap Some o.field-0-is))

pub returns-in-Some-Del : goal.returns-in-Some-Del
returns-in-Some-Del c =
    let o = c.in-Some-Del in
    sym (write_of-said (edit_view c.args.edit) _ (sym c.in_ok-key.ensures ∙ o.is ∙ ap Some o.field-0-is))

pub returns-in-Some-Clear : goal.returns-in-Some-Clear
returns-in-Some-Clear c =
    let o = c.in-Some-Clear in
    sym (write_of-said (edit_view c.args.edit) _ (sym c.in_ok-key.ensures ∙ o.is ∙ ap Some o.field-0-is))

pub returns-in-None : goal.returns-in-None
returns-in-None c = sym (write_of-said (edit_view c.args.edit) _ (sym c.in_ok-key.ensures ∙ c.in-None.is))
