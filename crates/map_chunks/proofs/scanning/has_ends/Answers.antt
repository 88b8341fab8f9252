use Rattle.std.proofs.Common.{◌∙◌, sym}
use Rattle.map_chunks.proofs.SpanLemmas.{spans}
use Rattle.map_chunks.proofs.scanning.has_ends.Goals as goal

pub returns-then-has : goal.returns-then-has
returns-then-has c h =
    spans c.args.scan.now c.args.keys.now c.args.first c.index-keys-first.result c.index-keys-keys.result
    c.requires.order c.requires.first c.index-keys-first.is c.index-keys-keys.is (sym c.has.ensures ∙ c.if-has.true)
    (sym c.has-then-has.ensures ∙ h)
