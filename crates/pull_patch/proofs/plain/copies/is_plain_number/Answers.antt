use Rattle.std.proofs.Common.{subst}
use Rattle.std.specs.Prelude.{IsTrue}
use Rattle.pull_patch.proofs.PlainNumbers.{IsPlainNumber-some}
use Rattle.pull_patch.proofs.plain.copies.is_plain_number.Goals as goal

pub returns : goal.returns
returns c h =
    IsPlainNumber-some c.args.text.now c.plain_number.result c.plain_number.ensures (subst IsTrue c.is_some.ensures h)
