use Rattle.std.proofs.Common.{sym, ◌∙◌}
use Rattle.std.proofs.lemmas.Result.{on_ok_weaker}
use Rattle.push_body.proofs.Growing.{body-more, has_any-more}
use Rattle.push_body.proofs.writer.PushWriter.add.Goals as goal

pub returns : goal.returns
returns c i ms h = on_ok_weaker c.push_mutation.result
    (λ e. record {
      identity = h.identity;
      body = e ∙ rw (c.in_ok-push_comma.ensures, c.reserve.ensures, h.body, h.any) (body-more i ms c.args.mutation.now);
      any = sym (has_any-more ms c.args.mutation.now);
    })
    c.push_mutation.ensures
