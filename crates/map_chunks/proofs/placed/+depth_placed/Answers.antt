use Rattle.std.proofs.Common.{arith, refl, subst, sym}
use Rattle.std.specs.Prelude.{IsSome}
use Rattle.group_history.specs.Refs.{stamp_of}
use Rattle.group_history.specs.Spelling.{segment_at}
use Rattle.map_chunks.proofs.LookLemmas.{first_told}
use Rattle.map_chunks.proofs.Shelves.{some_of}
use Rattle.map_chunks.proofs.placed.+depth_placed.Goals as goal

pub depth_placed-requires : goal.depth_placed-requires
depth_placed-requires g t c κs within =
    let n = some_of (segment_at (g.C.Chunks.contents c.args.chunks.now) (stamp_of c.args.at)) c.requires.known in
    let l = first_told _ _ _ _ _ _ n.0 c.look_at.ensures.grown.0 c.in_ok-look_at.ensures.told c.in-Some.is n.1 in
    (omega (arith, l.0.0, c.decreases), (within.0, (within.1, (subst IsSome (sym l.0.1.1) refl, l.1))))

pub returns-in-None-clause-depth : goal.returns-in-None-clause-depth
returns-in-None-clause-depth g t c s h =
    sym (first_told _ _ _ _ _ _ s c.look_at.ensures.grown.0 c.in_ok-look_at.ensures.told c.in-None.is h).0

pub returns-in_ok-below-in-Some-clause-depth : goal.returns-in_ok-below-in-Some-clause-depth
returns-in_ok-below-in-Some-clause-depth g t c s h =
    let l = first_told _ _ _ _ _ _ s c.look_at.ensures.grown.0 c.in_ok-look_at.ensures.told c.in-Some.is h in
    omega (arith, c.in_ok-below-in-Some.ensures.depth l.0.1.0 l.0.1.1, l.0.1.2)

pub returns-in_ok-below-in-Some-clause-bound : goal.returns-in_ok-below-in-Some-clause-bound
returns-in_ok-below-in-Some-clause-bound g t c =
    let n = some_of (segment_at (g.C.Chunks.contents c.args.chunks.now) (stamp_of c.args.at)) c.requires.known in
    let l = first_told _ _ _ _ _ _ n.0 c.look_at.ensures.grown.0 c.in_ok-look_at.ensures.told c.in-Some.is n.1 in
    omega (arith, c.in_ok-below-in-Some.ensures.bound, l.0.0)
