use Rattle.std.proofs.Common.{◌∙◌}
use Rattle.std.proofs.lemmas.Result.{on_ok_weaker}
use Rattle.push_body.specs.Bodies.{pull_text}
use Rattle.push_body.proofs.Pieces.{pull_pieces}
use Rattle.push_body.proofs.Writings.{fold-append}
use Rattle.push_body.proofs.pull.pull_all.Goals as goal

pub returns : goal.returns
unfolding pull_text
returns c =
    on_ok_weaker c.raw-3.result
    (λ e. e
    ∙ rw (
      c.in_ok-text_field-3.ensures,
      c.in_ok-text_field-2.ensures,
      c.in_ok-raw-2.ensures,
      c.in_ok-raw.ensures,
      c.in_ok-text_field.ensures,
      c.text.ensures,
      c.as_str.ensures,
      c.as_str-2.ensures,
      c.as_str-3.ensures,
    )
    (fold-append c.args.body.now (pull_pieces c.args.identity.now c.args.cookie.now)))
    c.raw-3.ensures
