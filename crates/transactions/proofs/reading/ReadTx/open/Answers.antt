use Rattle.group_history.specs.Refs.{stamp_of}
use Rattle.transactions.proofs.ReadLemmas.{read-opened, read-version}
use Rattle.transactions.proofs.reading.ReadTx.open.Goals as goal

pub invariant_of-result : goal.invariant_of-result
invariant_of-result g c =
    let m = g.N.Chunks.contents in (
      read-opened (m c.args.nodes) (m c.read_root.new.nodes) (stamp_of c.args.head)
          (stamp_of c.in-Ok.root) c.read_root.ensures.grown.0 c.requires.known c.in-Ok.ensures.root,
      c.read_root.ensures.grown.1 c.args.head c.requires.place,
      c.in-Ok.ensures.place,
    )

pub returns-in-Ok-clause-version : goal.returns-in-Ok-clause-version
returns-in-Ok-clause-version g c v h =
    let m = g.N.Chunks.contents in read-version (m c.args.nodes) (m c.read_root.new.nodes)
    (stamp_of c.args.head) v c.read_root.ensures.grown.0 h
