use Rattle.std.proofs.Common.{[], ap, ◌∙◌, Some, inl}
use Rattle.std.specs.Prelude.{option_and_then}
use Rattle.map_chunks.specs.Shown.{leaf_keys, shown, map_of_rows}
use Rattle.map_chunks.proofs.TreeLemmas.{map_of_nothing}
use Rattle.map_nodes.specs.Levels.{levels_of}
use Rattle.map_nodes.proofs.LevelLemmas.{leaf-levels}
use Rattle.map_tree.proofs.tree.Tree.empty.Goals as goal

pub returns-clause-map : goal.returns-clause-map
returns-clause-map c contents = ap (λ ps. option_and_then map_of_rows (shown contents ps)) c.empty.ensures.pieces
    ∙ map_of_nothing

pub returns-clause-depth : goal.returns-clause-depth
returns-clause-depth c contents = ap (λ n. Some n) c.empty.ensures.depth

pub returns-clause-wide : goal.returns-clause-wide
returns-clause-wide c contents = inl c.empty.ensures.depth

pub returns-clause-levels : goal.returns-clause-levels
returns-clause-levels c contents level = ap (λ ms. levels_of contents ms level) c.empty.ensures.marks
    ∙ leaf-levels contents (leaf_keys []) level
