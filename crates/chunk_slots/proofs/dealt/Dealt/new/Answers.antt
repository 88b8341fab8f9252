use Rattle.chunk_slots.proofs.dealt.Dealt.new.Goals as goal

pub returns-clause-sizes : goal.returns-clause-sizes
returns-clause-sizes c = c.in_ok-claims.ensures.sizes
