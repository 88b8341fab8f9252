use Rattle.std.proofs.Common.{List, subst, sym}
use Rattle.group_history.specs.declared.refs.Ref.{Ref}
use Rattle.group_history.specs.Refs.{stamp_of}
use Rattle.group_history.proofs.Lists.{prefix_trans}
use Rattle.commit_graph.specs.Reach.{Falls, stamps_of}
use Rattle.commit_graph.specs.Inside.Reach.{Omits}
use Rattle.commit_graph.proofs.Chained.{some_version, version_stays}
use Rattle.commit_graph.proofs.Reached.{there_version, reaches_stays, reaches_back}
use Rattle.commit_graph.proofs.Rooted.{map_some_stays, kept_grown, reaches_on}
use Rattle.commit_graph.proofs.Leaving.{leaves_stamps}
use Rattle.map_chunks.proofs.KeptLemmas.{grows_on}
use Rattle.commit_graph.proofs.reaching.dropped.Goals as goal

pub reachable-requires-clause-head : goal.reachable-requires-clause-head
reachable-requires-clause-head g c = let m = g.N.Chunks.contents in
    version_stays (m c.args.nodes.now) (m c.kept_part.new.nodes)
    (stamp_of c.args.new) c.kept_part.ensures.grown.0 c.requires.new

pub reachable-requires-2-clause-head : goal.reachable-requires-2-clause-head
reachable-requires-2-clause-head g c =
    let m = g.N.Chunks.contents in
    version_stays (m c.args.nodes.now) (m c.reachable.new.nodes) (stamp_of c.args.old)
    (prefix_trans (m c.args.nodes.now) (m c.kept_part.new.nodes)
    (m c.reachable.new.nodes) c.kept_part.ensures.grown.0 c.reachable.ensures.grown.0) c.requires.old

pub reachable-requires-2-clause-root : goal.reachable-requires-2-clause-root
reachable-requires-2-clause-root g c =
    let m = g.N.Chunks.contents in map_some_stays (m c.kept_part.new.nodes) (m c.reachable.new.nodes)
    (stamp_of c.in_ok-part.part.root) c.reachable.ensures.grown.0 c.in_ok-part.ensures.map

pub reachable-requires-2-clause-gap : goal.reachable-requires-2-clause-gap
reachable-requires-2-clause-gap g c x r =
    let m = g.N.Chunks.contents in
    c.in_ok-part.ensures.gap x ((kept_grown (m c.kept_part.new.nodes) (m c.reachable.new.nodes)
    (stamp_of c.in_ok-part.part.root) x c.in_ok-part.ensures.map c.reachable.ensures.grown.0).1 r)

pub returns-clause-exact : goal.returns-clause-exact
returns-clause-exact g c =
    let m = g.N.Chunks.contents in
    let first = m c.args.nodes.now in let base = m c.kept_part.new.nodes in let one = m c.reachable.new.nodes in
    let two = m c.reachable-2.new.nodes in
    let to_one = prefix_trans first base one c.kept_part.ensures.grown.0 c.reachable.ensures.grown.0 in
    let to_two = prefix_trans first one two to_one c.reachable-2.ensures.grown.0 in
    let on = prefix_trans base one two c.reachable.ensures.grown.0 c.reachable-2.ensures.grown.0 in
    let old = stamp_of c.args.old in let new = stamp_of c.args.new in let root = stamp_of c.in_ok-part.part.root in
    let v = some_version first old c.requires.old in let w = some_version first new c.requires.new in
    let leaves : Omits c.in_ok-before.before.items c.in_ok-kept.kept.items c.in_ok-left.left.items =
    subst (λ (w : List Ref). Omits c.in_ok-before.before.items w c.in_ok-left.left.items) c.deref.ensures.value
    c.in_ok-left.ensures.exact in
    λ x. let l = leaves_stamps c.in_ok-before.before.items c.in_ok-kept.kept.items c.in_ok-left.left.items leaves x in
    let k = c.in_ok-kept.ensures.exact x in let b = c.in_ok-before.ensures.exact x in (
      λ h. let p = l.0 h in let q = b.0 p.0 in (
        reaches_back first two old x to_two (there_version first old v.0 v.1) q.0,
        λ r. p.1 (k.1 (
          reaches_stays first one new x to_one r,
          λ z. q.1 (reaches_stays one two root x c.reachable-2.ensures.grown.0 z),
        )),
      ),
      λ d. l.1 (
        b.1 (
          reaches_stays first two old x to_two d.0,
          λ z. d.1 (reaches_back first two new x to_two (there_version first new w.0 w.1)
              (reaches_on two new root x (reaches_stays base two new root on c.in_ok-part.ensures.reached) z)),
        ),
        λ h. d.1 (reaches_back first one new x to_one (there_version first new w.0 w.1) (k.0 h).0),
      ),
    )

pub returns-clause-places : goal.returns-clause-places
returns-clause-places g c r h =
    c.in_ok-before.ensures.places r ((c.in_ok-left.ensures.exact r).0 h).0

pub reachable-requires-clause-places : goal.reachable-requires-clause-places
reachable-requires-clause-places g c = (
  c.kept_part.ensures.grown.1 c.args.new c.requires.places.1,
  c.in_ok-part.ensures.place,
)

pub reachable-requires-2-clause-places : goal.reachable-requires-2-clause-places
reachable-requires-2-clause-places g c = (
  c.reachable.ensures.grown.1 c.args.old (c.kept_part.ensures.grown.1 c.args.old c.requires.places.0),
  c.reachable.ensures.grown.1 c.in_ok-part.part.root c.in_ok-part.ensures.place,
)

pub returns-in_err-kept-clause-grown : goal.returns-in_err-kept-clause-grown
returns-in_err-kept-clause-grown g c =
    grows_on g.N.Chunks.contents g.N.Chunks.places _ _ _ c.kept_part.ensures.grown c.reachable.ensures.grown

pub returns-in_err-before-clause-grown : goal.returns-in_err-before-clause-grown
returns-in_err-before-clause-grown g c =
    grows_on g.N.Chunks.contents g.N.Chunks.places _ _ _ c.kept_part.ensures.grown
    (grows_on g.N.Chunks.contents g.N.Chunks.places _ _ _ c.reachable.ensures.grown c.reachable-2.ensures.grown)

pub returns-in_err-left-clause-grown : goal.returns-in_err-left-clause-grown
returns-in_err-left-clause-grown g c =
    grows_on g.N.Chunks.contents g.N.Chunks.places _ _ _ c.kept_part.ensures.grown
    (grows_on g.N.Chunks.contents g.N.Chunks.places _ _ _ c.reachable.ensures.grown c.reachable-2.ensures.grown)

pub returns-clause-grown : goal.returns-clause-grown
returns-clause-grown g c =
    grows_on g.N.Chunks.contents g.N.Chunks.places _ _ _ c.kept_part.ensures.grown
    (grows_on g.N.Chunks.contents g.N.Chunks.places _ _ _ c.reachable.ensures.grown c.reachable-2.ensures.grown)

pub without-requires-clause-before : goal.without-requires-clause-before
without-requires-clause-before g c = c.in_ok-before.ensures.once

pub without-requires-clause-kept : goal.without-requires-clause-kept
without-requires-clause-kept g c =
    subst (λ (w : List Ref). Falls (stamps_of w)) (sym c.deref.ensures.value) c.in_ok-kept.ensures.once

pub reachable-requires-clause-gap : goal.reachable-requires-clause-gap
reachable-requires-clause-gap g c = c.in_ok-part.ensures.gap

pub reachable-requires-clause-root : goal.reachable-requires-clause-root
reachable-requires-clause-root g c = c.in_ok-part.ensures.map

pub returns-clause-once : goal.returns-clause-once
returns-clause-once g c = c.in_ok-left.ensures.once
