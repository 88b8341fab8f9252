use Rattle.std.proofs.Common.{◌∙◌}
use Rattle.std.proofs.lemmas.Result.{on_ok_weaker}
use Rattle.push_body.specs.Written.{tail_text}
use Rattle.push_body.proofs.Pieces.{tail_pieces}
use Rattle.push_body.proofs.Writings.{fold-append}
use Rattle.push_body.proofs.writer.push_tail.Goals as goal

pub returns : goal.returns
unfolding tail_text
returns c =
    on_ok_weaker c.raw.result
    (λ e. e
    ∙ rw (
      c.in_ok-text_field-2.ensures,
      c.in_ok-text_field.ensures,
      c.as_str.ensures,
      c.as_str-2.ensures,
    )
    (fold-append c.args.body.now (tail_pieces c.args.identity.now)))
    c.raw.ensures
