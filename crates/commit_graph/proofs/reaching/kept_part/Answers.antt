use Rattle.group_history.specs.Refs.{stamp_of}
use Rattle.commit_graph.proofs.Reached.{reaches_stays}
use Rattle.commit_graph.proofs.Rooted.{map_some_stays}
use Rattle.map_chunks.proofs.KeptLemmas.{grows_on}
use Rattle.commit_graph.proofs.reaching.kept_part.Goals as goal

pub gap_below-requires-clause-root : goal.gap_below-requires-clause-root
gap_below-requires-clause-root g c = c.in_ok-root.ensures.map

pub gap_below-requires-clause-place : goal.gap_below-requires-clause-place
gap_below-requires-clause-place g c = c.in_ok-root.ensures.place

pub returns-clause-map : goal.returns-clause-map
returns-clause-map g c =
    let m = g.N.Chunks.contents in map_some_stays (m c.base_root.new.nodes) (m c.gap_below.new.chunks)
    (stamp_of c.in_ok-root.root) c.gap_below.ensures.grown.0 c.in_ok-root.ensures.map

pub returns-clause-reached : goal.returns-clause-reached
returns-clause-reached g c =
    let m = g.N.Chunks.contents in reaches_stays (m c.base_root.new.nodes) (m c.gap_below.new.chunks)
    (stamp_of c.args.new) (stamp_of c.in_ok-root.root) c.gap_below.ensures.grown.0 c.in_ok-root.ensures.reached

pub returns-clause-place : goal.returns-clause-place
returns-clause-place g c = c.gap_below.ensures.grown.1 c.in_ok-root.root c.in_ok-root.ensures.place

pub returns-in_err-gap-clause-grown : goal.returns-in_err-gap-clause-grown
returns-in_err-gap-clause-grown g c =
    grows_on g.N.Chunks.contents g.N.Chunks.places _ _ _ c.base_root.ensures.grown c.gap_below.ensures.grown

pub returns-clause-grown : goal.returns-clause-grown
returns-clause-grown g c =
    grows_on g.N.Chunks.contents g.N.Chunks.places _ _ _ c.base_root.ensures.grown c.gap_below.ensures.grown
