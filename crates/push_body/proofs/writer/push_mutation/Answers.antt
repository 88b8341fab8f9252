use Rattle.std.proofs.Common.{◌∙◌}
use Rattle.std.proofs.lemmas.Result.{on_ok_weaker}
use Rattle.push_body.specs.Bodies.{mutation_text}
use Rattle.push_body.proofs.Pieces.{mutation_pieces}
use Rattle.push_body.proofs.Writings.{fold-append}
use Rattle.push_body.proofs.writer.push_mutation.Goals as goal

pub returns : goal.returns
unfolding mutation_text
returns c =
    on_ok_weaker c.raw-3.result
    (λ e. e
    ∙ rw (
      c.in_ok-number_field-2.ensures,
      c.in_ok-text_field-2.ensures,
      c.in_ok-number_field.ensures,
      c.in_ok-text_field.ensures,
      c.in_ok-raw-2.ensures,
      c.in_ok-raw.ensures,
      c.text.ensures,
      c.as_str.ensures,
      c.as_str-2.ensures,
      c.fields-said.ensures,
    )
    (fold-append c.args.body.now (mutation_pieces c.args.mutation.now)))
    c.raw-3.ensures
