use Rattle.std.proofs.Common.{◌<◌, inl, inr, List, [], ◌∷◌, ◌++◌, ap, refl, sym, subst, ◌∙◌}
use Rattle.std.specs.List.{Contains}
use Rattle.std.proofs.lemmas.List.Elements.{Contains-append_right}
use Rattle.group_history.specs.declared.refs.Ref.{Ref}
use Rattle.group_history.specs.Refs.{stamp_of}
use Rattle.group_history.proofs.Lists.{one_here, only_one, prefix_self}
use Rattle.commit_graph.specs.declared.founds.NamedNode.{NamedNode}
use Rattle.commit_graph.specs.Inside.Reach.{Walked}
use Rattle.commit_graph.proofs.Chained.{some_version}
use Rattle.commit_graph.proofs.Reached.{spelled_grown}
use Rattle.commit_graph.proofs.Rooted.{kept_grown}
use Rattle.commit_graph.proofs.Listing.{IsListing, bound, listing_begins, listing_grown, listing_noted, listing_step}
use Rattle.commit_graph.proofs.Listing.{listing_skip, listing_falls, skip_falls, listing_ends}
use Rattle.map_chunks.proofs.KeptLemmas.{grows_on}
use Rattle.commit_graph.proofs.reaching.reachable.Goals as goal

pub loop-at-init : goal.loop-at-init
loop-at-init g c =
    let m = g.N.Chunks.contents c.args.nodes.now in
    let root = stamp_of c.args.part.root in
    let v = some_version m (stamp_of c.args.head) c.requires.head in
    let may = g.N.Chunks.places c.args.nodes.now in
    let grown = c.begun.ensures.grown in
    subst (λ (w : List Ref). IsListing may (g.N.Chunks.places c.begun.new.nodes) m
    (g.N.Chunks.contents c.begun.new.nodes) c.args.head root w c.in_ok-frontier.frontier)
    (sym c.new-listed.ensures.items)
    (listing_grown may may (g.N.Chunks.places c.begun.new.nodes) m m (g.N.Chunks.contents c.begun.new.nodes) c.args.head
    root [] c.in_ok-frontier.frontier
    (listing_begins may m c.args.head root v.0 (record { ahead = []; met = root ∷ [] }) c.in_ok-frontier.frontier v.1
    c.requires.root refl (λ x h. sym (only_one root x h)) c.in_ok-frontier.ensures.begun (prefix_self m)
    c.requires.places.0) grown.0 grown.1)

pub visit-requires-clause-found : goal.visit-requires-clause-found
visit-requires-clause-found g c =
    (c.loop-at.invariant.ahead c.in-Some.at
    (subst (λ (w : List NamedNode). Contains w c.in-Some.at) (sym c.in-Some.ensures.some)
    (Contains-append_right c.pop.new.self.ahead (c.in-Some.at ∷ []) c.in-Some.at (one_here c.in-Some.at)))).1

pub loop-at-smaller : goal.loop-at-smaller
loop-at-smaller g c =
    let m = g.N.Chunks.contents in
    let spelled = (c.loop-at.invariant.ahead c.in-Some.at
    (subst (λ (w : List NamedNode). Contains w c.in-Some.at) (sym c.in-Some.ensures.some)
    (Contains-append_right c.pop.new.self.ahead (c.in-Some.at ∷ []) c.in-Some.at (one_here c.in-Some.at)))).1 in
    elim c.in_ok-visit.ensures.visited [
      | inl p ↦ subst (λ (w : Walked). bound w.ahead < bound c.loop-at.frontier.ahead) (sym p.1)
          (skip_falls c.in-Some.at c.loop-at.frontier.ahead c.pop.new.self.ahead c.in-Some.ensures.some
          c.in-Some.ensures.greatest)
      | inr q ↦ listing_falls (m c.visit.new.nodes) c.in-Some.at q.0
          (record { ahead = c.loop-at.frontier.ahead; met = q.1.met }) q.1 c.visit.new.frontier
          (spelled_grown (m c.loop-at.nodes) (m c.visit.new.nodes) c.in-Some.at c.visit.ensures.grown.0 spelled)
          (c.in-Some.ensures.some ∙ ap (λ (w : List NamedNode). w ++ c.in-Some.at ∷ []) (sym q.5.0))
          (λ f h. c.in-Some.ensures.greatest f (subst (λ (w : List NamedNode). Contains w f) q.5.0 h)) q.4 q.6
    ]

pub loop-at-preserved : goal.loop-at-preserved
loop-at-preserved g c =
    let m = g.N.Chunks.contents in
    let was = g.N.Chunks.places c.args.nodes.now in let may = g.N.Chunks.places c.visit.new.nodes in
    let first = m c.args.nodes.now in let two = m c.visit.new.nodes in let root = stamp_of c.args.part.root in
    let now = listing_grown was (g.N.Chunks.places c.loop-at.nodes) may first
    (m c.loop-at.nodes) two c.args.head root c.loop-at.listed.items c.loop-at.frontier c.loop-at.invariant
    c.visit.ensures.grown.0 c.visit.ensures.grown.1 in
    elim c.in_ok-visit.ensures.visited [
      | inl p ↦ subst (λ (w : List Ref). IsListing was may first two c.args.head root w c.visit.new.frontier) (sym p.2)
          (subst (λ (w : Walked). IsListing was may first two c.args.head root c.loop-at.listed.items w) (sym p.1)
          (listing_skip was may first two c.args.head root c.in-Some.at c.loop-at.listed.items c.loop-at.frontier
          c.pop.new.self now c.in-Some.ensures.some c.pop.ensures.met p.0))
      | inr q ↦ subst (λ (w : List Ref). IsListing was may first two c.args.head root w c.visit.new.frontier) (sym q.7)
          (listing_step was may first two c.args.head root c.in-Some.at q.0 c.loop-at.listed.items
          (record { ahead = c.loop-at.frontier.ahead; met = q.1.met }) q.1 c.visit.new.frontier
          (listing_noted was may first two c.args.head root c.loop-at.listed.items c.loop-at.frontier c.pop.new.self q.1
          now c.pop.ensures.met q.5)
          (c.in-Some.ensures.some ∙ ap (λ (w : List NamedNode). w ++ c.in-Some.at ∷ []) (sym q.5.0)) refl
          (λ f h. c.in-Some.ensures.greatest f (subst (λ (w : List NamedNode). Contains w f) q.5.0 h)) q.2 q.3 q.4 q.6)
    ]

pub returns-clause-exact : goal.returns-clause-exact
returns-clause-exact g c =
    let m = g.N.Chunks.contents in
    let was = g.N.Chunks.places c.args.nodes.now in let may = g.N.Chunks.places c.loop-at.nodes in
    listing_ends was may (m c.args.nodes.now) (m c.loop-at.nodes) c.args.head
    (stamp_of c.args.part.root) c.loop-at.listed.items
    c.loop-at.frontier c.loop-at.invariant c.in_default.ensures.none

pub visit-requires-clause-places : goal.visit-requires-clause-places
visit-requires-clause-places g c = (
  c.loop-at.invariant.wider c.args.part.root c.requires.places.1,
  c.loop-at.invariant.places_ahead c.in-Some.at
      (subst (λ (w : List NamedNode). Contains w c.in-Some.at) (sym c.in-Some.ensures.some)
      (Contains-append_right c.pop.new.self.ahead (c.in-Some.at ∷ []) c.in-Some.at (one_here c.in-Some.at))),
)

pub visit-requires-clause-gap : goal.visit-requires-clause-gap
visit-requires-clause-gap g c x r =
    let m = g.N.Chunks.contents in
    c.requires.gap x ((kept_grown (m c.args.nodes.now) (m c.loop-at.nodes) (stamp_of c.args.part.root) x c.requires.root
    c.loop-at.invariant.grown).1 r)

pub returns-in_err-visit-clause-grown : goal.returns-in_err-visit-clause-grown
returns-in_err-visit-clause-grown g c =
    grows_on g.N.Chunks.contents g.N.Chunks.places _ _ _
    (c.loop-at.invariant.grown, c.loop-at.invariant.wider) c.visit.ensures.grown

pub returns-clause-grown : goal.returns-clause-grown
returns-clause-grown g c =
    (c.loop-at.invariant.grown, c.loop-at.invariant.wider)

pub returns-clause-once : goal.returns-clause-once
returns-clause-once g c =
    c.loop-at.invariant.falls

pub returns-clause-places : goal.returns-clause-places
returns-clause-places g c =
    c.loop-at.invariant.places

pub visit-requires-clause-root : goal.visit-requires-clause-root
visit-requires-clause-root g c =
    c.loop-at.invariant.rooted
