use Rattle.std.proofs.Common.{sym, ◌∙◌, rules}
use Rattle.group_history.specs.Refs.{stamp_of}
use Rattle.group_history.proofs.Lists.{prefix_self}
use Rattle.map_chunks.proofs.KeptLemmas.{grows_on}
use Rattle.commit_graph.specs.Inside.Reach.{Notes}
use Rattle.commit_graph.specs.Reach.{Reaches, itself}
use Rattle.commit_graph.proofs.Descending.{map_ordered}
use Rattle.commit_graph.proofs.Noting.{below_child, below_noted, chosen_child, notes_grown, notes_none, notes_notes}
use Rattle.commit_graph.proofs.beside.note_beside.Goals as goal

pub loop-at-init : goal.loop-at-init
loop-at-init g c = let m = g.C.Chunks.contents c.args.chunks.now in let root = stamp_of c.args.root in
    let o = map_ordered m root c.requires.root in record {
      below = record { rows = o.0; here = o.1; reached = itself root };
      place = c.requires.place;
      grown = (prefix_self m, λ at h. h);
      noted = notes_none (Reaches m root) c.args.frontier.now;
    }

pub returns-in_default-clause-noted : goal.returns-in_default-clause-noted
returns-in_default-clause-noted g c =
    let m = g.C.Chunks.contents in let k = c.in_ok-child.ensures.told in let is = c.loop-at.invariant in
    let old = m c.loop-at.chunks in let new = m c.look_at.new.chunks in let root = stamp_of c.args.root in
    let after = c.look_at.new.tell.0.now in
    let noted : Notes (Reaches new root) c.args.frontier.now after =
    notes_notes (Reaches new root) c.args.frontier.now c.loop-at.frontier after
    (notes_grown old new root c.args.frontier.now c.loop-at.frontier c.look_at.ensures.grown.0 is.noted)
    (below_noted old new root c.loop-at.at k.0.now c.loop-at.frontier after is.below c.look_at.ensures.grown.0 k.1.1
    k.2.1.1) in
    search rules

pub loop-at-smaller : goal.loop-at-smaller
loop-at-smaller g c =
    let m = g.C.Chunks.contents in let k = c.in_ok-child.ensures.told in
    (below_child (m c.loop-at.chunks) (m c.look_at.new.chunks) (stamp_of c.args.root) c.loop-at.at k.0.now
    c.in-Some.child c.loop-at.invariant.below c.look_at.ensures.grown.0 k.1.1
    (chosen_child c.args.spot.now.key k.0.now c.in-Some.child (sym k.2.1.0 ∙ c.in-Some.is))).0

pub loop-at-preserved : goal.loop-at-preserved
loop-at-preserved g c =
    let m = g.C.Chunks.contents in let k = c.in_ok-child.ensures.told in let is = c.loop-at.invariant in
    let old = m c.loop-at.chunks in let new = m c.look_at.new.chunks in let root = stamp_of c.args.root in
    let has = chosen_child c.args.spot.now.key k.0.now c.in-Some.child (sym k.2.1.0 ∙ c.in-Some.is) in
    let after = c.look_at.new.tell.0.now in
    let noted : Notes (Reaches new root) c.args.frontier.now after =
    notes_notes (Reaches new root) c.args.frontier.now c.loop-at.frontier after
    (notes_grown old new root c.args.frontier.now c.loop-at.frontier c.look_at.ensures.grown.0 is.noted)
    (below_noted old new root c.loop-at.at k.0.now c.loop-at.frontier after is.below c.look_at.ensures.grown.0 k.1.1
    k.2.1.1) in
    record {
      below = (below_child old new root c.loop-at.at k.0.now c.in-Some.child is.below c.look_at.ensures.grown.0 k.1.1
          has).1;
      place = k.1.0 c.in-Some.child has;
      grown = grows_on g.C.Chunks.contents g.C.Chunks.places c.args.chunks.now c.loop-at.chunks c.look_at.new.chunks
          is.grown c.look_at.ensures.grown;
      noted = search rules;
    }
