use Rattle.std.proofs.Common.{◌≡◌, arith, subst, true, slice_index_or}
use Rattle.map_chunks.specs.Search.{is_above}
use Rattle.map_chunks.proofs.SearchLemmas.{second_above}
use Rattle.map_chunks.proofs.search.place_for.Goals as goal

pub returns-then-rank-eq0 : goal.returns-then-rank-eq0
returns-then-rank-eq0 c = (
  c.requires.filled,
  λ d l. absurd (omega arith),
  second_above c.args.key.now c.args.keys.now c.requires.order
      (λ d l. subst (λ n. is_above (slice_index_or c.args.keys.now n d) c.args.key.now ≡ true) c.if-rank-eq0.true
      (c.rank-rank.ensures.2 d (omega arith))),
)
