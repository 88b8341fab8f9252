use Rattle.std.proofs.Common.{[], ◌∷◌, ◌∙◌, sym}
use Rattle.map_nodes.specs.Inside.Freezing.{child_places}
use Rattle.map_nodes.proofs.EndLemmas.{ends_on, kid-end, kid-ends}
use Rattle.map_nodes.specs.Nodes.{child_levels}
use Rattle.map_chunks.proofs.EndLemmas.{kept-one}
use Rattle.group_history.proofs.Lists.{one_here}
use Rattle.map_chunks.proofs.KeptLemmas.{kept-none, kept-from_none}
use Rattle.map_nodes.proofs.nodes.removing.roots.kid_end.Goals as goal

pub returns-in-None-clause-places : goal.returns-in-None-clause-places
returns-in-None-clause-places g c = kept-none (g.C.Chunks.places c.args.chunks.now) (child_places c.args.kid.now)

pub end_placed-requires-clause-place : goal.end_placed-requires-clause-place
end_placed-requires-clause-place g c = c.requires.places c.in-Some.at
    (kid-end c.args.kid.now c.in-Some.at (sym c.end_of.ensures.end ∙ c.in-Some.is) c.in-Some.at (one_here c.in-Some.at))

pub returns-in-Some-clause-places : goal.returns-in-Some-clause-places
returns-in-Some-clause-places g c =
    let may = g.C.Chunks.places c.end_placed.new.chunks in
    kept-from_none may (child_places c.args.kid.now) (c.in_ok-end-in-Some.end ∷ [])
    (kept-one may c.in_ok-end-in-Some.end c.in_ok-end-in-Some.ensures.place)

pub returns-in-Some-clause-levels : goal.returns-in-Some-clause-levels
returns-in-Some-clause-levels g c below h v =
    let p = g.C.Chunks.contents c.args.chunks.now in
    let k = kid-ends p below c.args.kid.now c.in-Some.at
    (sym c.end_of.ensures.end ∙ c.in-Some.is) c.end_of.ensures.below h v in
    ends_on p (g.C.Chunks.contents c.end_placed.new.chunks) below (child_levels below c.args.kid.now) c.in-Some.at
    c.in_ok-end-in-Some.end c.end_placed.ensures.grown.0 k (c.in_ok-end-in-Some.ensures.depth k.0 k.1)
