use Rattle.group_history.specs.Refs.{stamp_of}
use Rattle.map_chunks.proofs.AnswerLemmas.{if_ok_so}
use Rattle.transactions.proofs.KnownLemmas.{begun_on, known_chunk, still_segment}
use Rattle.transactions.proofs.fixed.FixedChunks.show.Goals as goal

pub show-requires-clause-known : goal.show-requires-clause-known
show-requires-clause-known g c = still_segment _ (g.C.Chunks.contents c.args.self.now.chunks)
    (stamp_of c.args.at) c.args.self.now.has c.requires.known

pub invariant_of-self : goal.invariant_of-self
invariant_of-self g c = record {
  has = begun_on _ (g.C.Chunks.contents c.args.self.now.chunks)
      (g.C.Chunks.contents c.show.new.self) c.args.self.now.has c.show.ensures.grown.0;
}

pub returns-clause-content : goal.returns-clause-content
returns-clause-content g c =
    if_ok_so c.show.result c.show.ensures.content
    (λ held lies. known_chunk _ (g.C.Chunks.contents c.args.self.now.chunks) (g.C.Chunks.contents c.show.new.self)
    (stamp_of c.args.at) _ c.args.self.now.has c.show.ensures.grown.0 c.requires.known lies)
