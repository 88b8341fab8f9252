use Rattle.std.proofs.Common.{◌∙◌}
use Rattle.push_body.proofs.Growing.{push-parts}
use Rattle.push_body.proofs.writer.PushWriter.into_bytes.Goals as goal

pub returns : goal.returns
returns c i ms h = c.into_bytes.ensures ∙ c.in_ok-push_tail.ensures ∙ rw (h.body, h.identity) (push-parts i ms)
