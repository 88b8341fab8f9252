use Rattle.std.proofs.Common.{ap, subst, ◌∙◌}
use Rattle.group_history.specs.Refs.{stamp_of}
use Rattle.group_history.proofs.Lists.{prefix_trans}
use mathlib.Core.List.{IsPrefix}
use Rattle.transactions.specs.Reads.{Read, pulled_version}
use Rattle.transactions.proofs.ReadLemmas.{snapshot-read, snapshot-known, read-opened, read-version}
use Rattle.transactions.proofs.reading.ReadTx.pulled.Goals as goal

pub read_root-requires-clause-known : goal.read_root-requires-clause-known
read_root-requires-clause-known g c =
    let m = g.N.Chunks.contents in let t = c.self.inside in let at = stamp_of c.in_ok-top.top.snapshot in
    snapshot-known (m t.nodes) (m c.top_of.new.nodes) (stamp_of t.head) (stamp_of t.root) at
    c.top_of.ensures.grown.0 c.self.invariant.0 c.in_ok-top.ensures.snapshot

pub invariant_of-result : goal.invariant_of-result
invariant_of-result g c =
    let m = g.N.Chunks.contents in let t = c.self.inside in let at = stamp_of c.in_ok-top.top.snapshot in (
      read-opened (m c.top_of.new.nodes) (m c.read_root.new.nodes) at (stamp_of c.in_ok-root.root)
          c.read_root.ensures.grown.0
          (snapshot-known (m t.nodes) (m c.top_of.new.nodes) (stamp_of t.head) (stamp_of t.root) at
          c.top_of.ensures.grown.0 c.self.invariant.0 c.in_ok-top.ensures.snapshot)
          c.in_ok-root.ensures.root,
      c.read_root.ensures.grown.1 c.in_ok-top.top.snapshot c.in_ok-top.ensures.places.1,
      c.in_ok-root.ensures.place,
    )

pub returns-clause-version : goal.returns-clause-version
returns-clause-version g c =
    let m = g.N.Chunks.contents in let t = c.self.inside in let at = stamp_of c.in_ok-top.top.snapshot in
    read-version (m c.top_of.new.nodes) (m c.read_root.new.nodes) at _ c.read_root.ensures.grown.0
    (snapshot-read (m t.nodes) (m c.top_of.new.nodes) (stamp_of t.head) (stamp_of t.root) at
    c.top_of.ensures.grown.0 c.self.invariant.0 c.in_ok-top.ensures.snapshot)
    ∙ ap (λ (r : Read). pulled_version r.version) c.self.view_is

pub returns-clause-grown : goal.returns-clause-grown
returns-clause-grown g c =
    let m = g.N.Chunks.contents in let t = c.self.inside in
    subst (λ (r : Read). IsPrefix r.contents (m c.read_root.new.nodes)) c.self.view_is
    (prefix_trans (m t.nodes) (m c.top_of.new.nodes) (m c.read_root.new.nodes) c.top_of.ensures.grown.0
    c.read_root.ensures.grown.0)
