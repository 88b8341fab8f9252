use Rattle.std.proofs.Common.{◌∙◌}
use Rattle.std.proofs.lemmas.Result.{on_ok_weaker}
use Rattle.push_body.specs.Written.{head_text}
use Rattle.push_body.proofs.Pieces.{head_pieces}
use Rattle.push_body.proofs.Writings.{fold-append}
use Rattle.push_body.proofs.writer.push_head.Goals as goal

pub returns : goal.returns
unfolding head_text
returns c =
    on_ok_weaker c.raw.result
    (λ e. e
    ∙ rw (
      c.in_ok-text_field.ensures,
      c.as_str.ensures,
    )
    (fold-append c.args.body.now (head_pieces c.args.identity.now)))
    c.raw.ensures
