use Rattle.group_history.specs.Refs.{stamp_of}
use Rattle.map_chunks.proofs.AnswerLemmas.{if_ok_so}
use Rattle.transactions.proofs.KnownLemmas.{begun_on, known_commit, still_version}
use Rattle.transactions.proofs.fixed.FixedNodes.show_commit.Goals as goal

pub show_commit-requires-clause-known : goal.show_commit-requires-clause-known
show_commit-requires-clause-known g c = still_version _ (g.N.Chunks.contents c.args.self.now.chunks)
    (stamp_of c.args.at) c.args.self.now.has c.requires.known

pub invariant_of-self : goal.invariant_of-self
invariant_of-self g c = record {
  has = begun_on _ (g.N.Chunks.contents c.args.self.now.chunks)
      (g.N.Chunks.contents c.show_commit.new.self) c.args.self.now.has c.show_commit.ensures.grown.0;
}

pub returns-clause-content : goal.returns-clause-content
returns-clause-content g c =
    if_ok_so c.show_commit.result c.show_commit.ensures.content
    (λ held lies. known_commit _ (g.N.Chunks.contents c.args.self.now.chunks)
    (g.N.Chunks.contents c.show_commit.new.self)
    (stamp_of c.args.at) _ c.args.self.now.has c.show_commit.ensures.grown.0 c.requires.known lies)
