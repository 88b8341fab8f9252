use Rattle.std.proofs.Common.{ap, ◌∙◌, length}
use Rattle.std.specs.Prelude.{◌==◌}
use Rattle.map_chunks.specs.Shown.{Seen}
use Rattle.map_nodes.proofs.EmptyLemmas.{none_own}
use Rattle.map_nodes.proofs.nodes.OwnNode.is_empty.Goals as goal

pub returns : goal.returns
returns c contents rows h =
    c.is_empty.ensures ∙ ap (λ w. length w == 0) c.as_slice.ensures
    ∙ none_own contents c.self.inside.depth c.self.inside.keys.texts c.self.inside.body c.args.self.now.pieces rows
    (ap (λ (s : Seen). s.pieces) c.self.view_is) c.self.invariant h
