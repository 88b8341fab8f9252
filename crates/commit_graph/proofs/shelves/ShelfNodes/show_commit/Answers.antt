use Rattle.std.proofs.Common.{ap, sym, ◌∙◌}
use Rattle.std.specs.Prelude.{slice_get, Some}
use Rattle.std.specs.Option.{option_copied}
use Rattle.group_history.specs.Refs.{stamp_of}
use Rattle.commit_graph.proofs.Lent.{nothing_there, chunk_there}
use Rattle.commit_graph.proofs.shelves.ShelfNodes.show_commit.Goals as goal

pub returns-in-None-clause-stopped : goal.returns-in-None-clause-stopped
returns-in-None-clause-stopped c =
    nothing_there c.args.self.now.nodes.now (stamp_of c.args.at) c.requires.known
    (ap (slice_get c.args.self.now.nodes.now) (sym c.stamp.ensures.stamp) ∙
    (sym c.at.ensures ∙ ap option_copied c.in-None.is))

pub returns-in-Some-Chunk-clause-stopped : goal.returns-in-Some-Chunk-clause-stopped
returns-in-Some-Chunk-clause-stopped c =
    chunk_there c.args.self.now.nodes.now (stamp_of c.args.at) c.in-Some-Chunk.field-0-0 c.requires.known
    (ap (slice_get c.args.self.now.nodes.now) (sym c.stamp.ensures.stamp) ∙
    (sym c.at.ensures ∙ (ap option_copied c.in-Some-Chunk.is ∙ ap (λ n. Some n) c.in-Some-Chunk.field-0-is)))
