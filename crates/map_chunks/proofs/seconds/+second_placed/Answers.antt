use Rattle.std.proofs.Common.{arith, Ok, ◌∙◌, ap}
use Rattle.map_chunks.proofs.LookLemmas.{second_told}
use Rattle.map_chunks.proofs.seconds.+second_placed.Goals as goal

pub second_placed-requires : goal.second_placed-requires
second_placed-requires g t c κs within =
    let l = second_told _ _ _ _ _ _ c.requires.known c.look_at.ensures.grown.0 c.in_ok-look_at.ensures.told
    (c.in_ok-key.was ∙ ap (λ s. Ok s) c.in-First.is) in
    (omega (arith, l.0.0, c.decreases), (within.0, (within.1, (l.0.1, l.1))))

pub returns-in-Known-clause-key : goal.returns-in-Known-clause-key
returns-in-Known-clause-key g t c =
    (second_told _ _ _ _ _ _ c.requires.known c.look_at.ensures.grown.0 c.in_ok-look_at.ensures.told
    (c.in_ok-key.was ∙ ap (λ s. Ok s) c.in-Known.is)).0

pub returns-in_ok-key-in-First-clause-key : goal.returns-in_ok-key-in-First-clause-key
returns-in_ok-key-in-First-clause-key g t c =
    let l = second_told _ _ _ _ _ _ c.requires.known c.look_at.ensures.grown.0 c.in_ok-look_at.ensures.told
    (c.in_ok-key.was ∙ ap (λ s. Ok s) c.in-First.is) in
    cc (c.or.ensures, c.in_ok-key-in-First.ensures.key, l.0.2)
