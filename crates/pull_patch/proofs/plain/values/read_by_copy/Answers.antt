use Rattle.std.proofs.Common.{◌≡◌, ◌∙◌, sym, ap}
use Rattle.group_history.specs.Json.{json_text}
use Rattle.pull_patch.proofs.CopiedTexts.{ReadsText-plain, json_text-plain, ReadsText-read}
use Rattle.pull_patch.proofs.plain.values.read_by_copy.Goals as goal

pub returns-in-Ok-clause-read : goal.returns-in-Ok-clause-read
returns-in-Ok-clause-read c =
    ReadsText-read c.args.reader.now c.copy_text.new.reader c.copy_text.new.text.items c.in-Ok.json c.in_ok-plain.plain
    c.in_ok-plain.ensures.copied
    (ap json_text (sym c.deref.ensures.value) ∙ c.in-Ok.ensures)

pub of_compact-requires : goal.of_compact-requires
of_compact-requires c =
    let is : c.text_of.result.now ≡ c.copy_text.new.text.items = c.text_of.ensures ∙ c.deref-2.ensures.value in
    rw is (json_text-plain c.args.reader.now c.copy_text.new.reader c.copy_text.new.text.items c.in_ok-plain.plain
    c.in_ok-plain.ensures.copied c.if-not-plain.false c.in_ok-plain.ensures.utf8)

pub returns-clause-read : goal.returns-clause-read
returns-clause-read c =
    let is : c.text_of.result.now ≡ c.copy_text.new.text.items = c.text_of.ensures ∙ c.deref-2.ensures.value in
    rw (c.in_ok-of_compact.ensures, is)
    (ReadsText-plain c.args.reader.now c.copy_text.new.reader c.copy_text.new.text.items c.in_ok-plain.plain
    c.in_ok-plain.ensures.copied c.if-not-plain.false)
