use Rattle.map_chunks.proofs.AnswerLemmas.{if_ok_so}
use Rattle.map_chunks.proofs.LookLemmas.{none_told}
use Rattle.map_chunks.proofs.placed.is_empty_placed.Goals as goal

pub returns-clause-value : goal.returns-clause-value
returns-clause-value g c = if_ok_so c.look_at.result c.look_at.ensures.told
    (λ b told. none_told _ _ _ _ b c.requires.known c.look_at.ensures.grown.0 told)
