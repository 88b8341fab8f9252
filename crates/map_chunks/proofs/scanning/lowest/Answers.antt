use Rattle.std.proofs.Common.{refl}
use Rattle.map_chunks.proofs.ScanLemmas.{low_any, low_from, start_at, start_after}
use Rattle.group_history.specs.declared.scans.Start.TheVariants.{At, After}
use Rattle.map_chunks.proofs.scanning.lowest.Goals as goal

pub returns-in-Any : goal.returns-in-Any
returns-in-Any c = low_any c.args.scan.now c.args.scan.now.prefix refl

pub returns-in-At : goal.returns-in-At
returns-in-At c = low_from c.args.scan.now (At c.in-At.start) c.in-At.start _ c.in-At.is
    (start_at c.in-At.start) c.greater.ensures

pub returns-in-After : goal.returns-in-After
returns-in-After c = low_from c.args.scan.now (After c.in-After.start) c.in-After.start _ c.in-After.is
    (start_after c.in-After.start) c.greater-in-After.ensures
