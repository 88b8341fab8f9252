use Rattle.std.proofs.Common.{arith, is_some, ap, ◌∙◌}
use Rattle.map_chunks.proofs.LookLemmas.{hint_told}
use Rattle.map_chunks.proofs.seeking.+seek_for.Goals as goal

pub seek_for-requires : goal.seek_for-requires
seek_for-requires g t c κs within =
    let l = hint_told _ _ _ _ _ _ _ c.requires.known c.look_at.ensures.grown.0 c.in_ok-hint.ensures.told c.in-On.is in
    (omega (arith, l.0.0, c.decreases), (within.0, (within.1, (l.0.1, l.1))))

pub returns-in-Known-clause-is_there : goal.returns-in-Known-clause-is_there
returns-in-Known-clause-is_there g t c =
    (hint_told _ _ _ _ _ _ _ c.requires.known c.look_at.ensures.grown.0 c.in_ok-hint.ensures.told c.in-Known.is).0.1

pub returns-in-Known-clause-depth : goal.returns-in-Known-clause-depth
returns-in-Known-clause-depth g t c =
    (hint_told _ _ _ _ _ _ _ c.requires.known c.look_at.ensures.grown.0 c.in_ok-hint.ensures.told c.in-Known.is).0.0

pub returns-in_ok-below-in-On-clause-is_there : goal.returns-in_ok-below-in-On-clause-is_there
returns-in_ok-below-in-On-clause-is_there g t c =
    let l = hint_told _ _ _ _ _ _ _ c.requires.known c.look_at.ensures.grown.0 c.in_ok-hint.ensures.told c.in-On.is in
    c.in_ok-below-in-On.ensures.is_there ∙ ap is_some l.0.3

pub returns-in_ok-below-in-On-clause-depth : goal.returns-in_ok-below-in-On-clause-depth
returns-in_ok-below-in-On-clause-depth g t c =
    let l = hint_told _ _ _ _ _ _ _ c.requires.known c.look_at.ensures.grown.0 c.in_ok-hint.ensures.told c.in-On.is in
    cc (c.in_ok-below-in-On.ensures.depth, l.0.2.1, l.0.2.2)

pub returns-in_ok-below-in-On-clause-bound : goal.returns-in_ok-below-in-On-clause-bound
returns-in_ok-below-in-On-clause-bound g t c =
    let l = hint_told _ _ _ _ _ _ _ c.requires.known c.look_at.ensures.grown.0 c.in_ok-hint.ensures.told c.in-On.is in
    omega (arith, c.in_ok-below-in-On.ensures.bound, l.0.0)
