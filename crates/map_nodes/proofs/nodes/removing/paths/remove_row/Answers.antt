use Rattle.std.proofs.Common.{inl, inr, refl, sym, subst}
use Rattle.group_history.specs.Rows.{AreKeys}
use Rattle.map_chunks.specs.Search.{IsFound, IsAbsent}
use Rattle.map_chunks.proofs.AnswerLemmas.{on_ok, either_way}
use Rattle.map_nodes.proofs.RemoveLemmas.{leaf_removed, leaf_kept}
use Rattle.map_nodes.proofs.RemoveLevels.{one_less}
use Rattle.map_nodes.specs.Levels.{HasOneMore}
use Rattle.map_nodes.proofs.nodes.removing.paths.remove_row.Goals as goal

pub returns-in_default-clause-rows : goal.returns-in_default-clause-rows
returns-in_default-clause-rows c =
    leaf_kept c.args.keys.now.texts c.args.values.now.items c.in_default.field-0 c.args.key.now c.requires.keys
    c.requires.pairs
    (subst (λ w. IsAbsent c.args.key.now w c.in_default.field-0) c.as_slice.ensures c.in_default.ensures.absent)

pub returns-clause-rows : goal.returns-clause-rows
returns-clause-rows c =
    let f = subst (λ w. IsFound c.args.key.now w c.in-Ok.place) c.as_slice.ensures c.in-Ok.ensures.found in
    on_ok c.remove_entry.result c.remove_entry.ensures.ok
    (λ e. (leaf_removed c.args.keys.now.texts c.args.values.now.items c.remove_entry.new.keys.texts
    c.remove_entry.new.entries.items c.in-Ok.place c.args.key.now c.requires.keys c.requires.pairs f
    e.0 e.1).rows_are)

pub returns-clause-keys : goal.returns-clause-keys
returns-clause-keys c =
    let f = subst (λ w. IsFound c.args.key.now w c.in-Ok.place) c.as_slice.ensures c.in-Ok.ensures.found in
    either_way c.remove_entry.result c.remove_entry.ensures.ok c.remove_entry.ensures.err
    (λ e. (leaf_removed c.args.keys.now.texts c.args.values.now.items c.remove_entry.new.keys.texts
    c.remove_entry.new.entries.items c.in-Ok.place c.args.key.now c.requires.keys c.requires.pairs f e.0 e.1).order)
    (λ e. subst AreKeys (sym e.0) c.requires.keys)

pub returns-clause-left : goal.returns-clause-left
returns-clause-left c =
    let keys = c.args.keys.now.texts in
    let f = subst (λ w. IsFound c.args.key.now w c.in-Ok.place) c.as_slice.ensures c.in-Ok.ensures.found in
    on_ok c.remove_entry.result c.remove_entry.ensures.ok
    (λ e. inr (subst (λ w. HasOneMore w keys) (sym e.0) (one_less keys c.in-Ok.place f.0)))

pub returns-in_default-clause-left : goal.returns-in_default-clause-left
returns-in_default-clause-left c = inl refl
