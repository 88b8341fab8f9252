use Rattle.std.proofs.Common.{ap}
use Rattle.group_history.specs.Refs.{stamp_of}
use Rattle.transactions.specs.Reads.{version_or}
use Rattle.transactions.proofs.ReadLemmas.{read-is}
use Rattle.transactions.proofs.reading.ReadTx.at.Goals as goal

pub invariant_of-result : goal.invariant_of-result
invariant_of-result g c =
    let m = g.N.Chunks.contents c.args.nodes in let r = c.requires.read in
    (read-is m (stamp_of c.args.head) (stamp_of c.args.root) r.0 r.1 r.2, c.requires.places.0, c.requires.places.1)

pub returns-clause-version : goal.returns-clause-version
returns-clause-version g c v h = ap version_or h
