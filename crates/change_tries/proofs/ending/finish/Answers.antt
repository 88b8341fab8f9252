use Rattle.std.proofs.Common.{◌≡◌, ◌≤◌, List, [], false, Some, append-nil, length, rules, ap, sym, subst, ◌∙◌}
use Rattle.group_history.specs.declared.mutations.MutationFields.{MutationFields as Mutation}
use Rattle.group_history.specs.Pulling.{after_pull}
use Rattle.group_history.specs.Refs.{stamp_of}
use Rattle.group_history.specs.Spelling.{Contents, Spells}
use Rattle.group_history.specs.State.{State, replayed, view_of}
use Rattle.group_history.proofs.Lists.{prefix_self}
use Rattle.head_word.specs.Books.{drawn}
use Rattle.map_chunks.specs.Places.{with_nodes}
use Rattle.map_tree.specs.Trees.{tree_map}
use Rattle.change_drafts.specs.Chaining.{IsTip}
use Rattle.change_drafts.specs.Pending.{with_more}
use Rattle.change_tries.specs.Missing.{map_ok}
use Rattle.change_tries.specs.Places.{HeadPlace, state_at}
use Rattle.change_tries.specs.Proposing.{is_applied, kind_left}
use Rattle.change_tries.proofs.Running.{kind_all}
use Rattle.change_tries.proofs.ending.finish.Goals as goal

pub add_replayed-requires-clause-tip : goal.add_replayed-requires-clause-tip
add_replayed-requires-clause-tip g c =
    let means = g.M.Means.means in let t = c.requires.tip in let chain = c.args.chain in let xs = c.deref.result.now in
    subst (λ (w : Contents). (s : State) × IsTip means (with_nodes w chain.draft.nodes) chain.tip s × (s.closed ≡ false)
    × (tree_map (with_nodes w chain.draft.nodes) c.args.tree ≡ Some (replayed means (view_of means s) xs)))
    (sym c.nodes.ensures.nodes) (
      t.0,
      t.1,
      t.2,
      t.3 ∙ ap (λ (ys : List Mutation). Some (replayed means (view_of means t.0) ys)) (sym c.deref.ensures.value),
    )

pub add_replayed-requires-clause-told : goal.add_replayed-requires-clause-told
add_replayed-requires-clause-told g c s before newest tip is =
    let chain = c.args.chain in
    c.requires.told s before newest (subst (λ (w : Contents). IsTip g.M.Means.means
    (with_nodes w chain.draft.nodes) chain.tip s) c.nodes.ensures.nodes tip) (sym c.deref.ensures.value ∙ is)

pub returns-clause-step : goal.returns-clause-step
returns-clause-step g c last ticket r map accepted l new mapped =
    let means = g.M.Means.means in let at = c.args.at.now in let cs = drawn at.mark.log in let s = state_at at in
    let chain = c.args.chain in let xs = c.deref.result.now in let ran = c.args.ran.items in
    let here = c.nodes.ensures.nodes in let first = c.add_replayed.ensures.first in
    let tip = subst (λ (w : Contents). IsTip means (with_nodes w chain.draft.nodes) chain.tip l.basis)
    (sym here) l.tip in
    let left = subst (λ (w : Contents). tree_map (with_nodes w chain.draft.nodes) c.args.tree ≡ Some map)
    (sym here) mapped
    ∙ ap (λ m. Some m) (l.mapped ∙ ap (replayed means (view_of means l.basis)) (sym c.deref.ensures.value)) in
    let after = (c.in_ok-after.ensures.tip l.basis tip l.opened left).0 in
    let whole : with_more l.basis ran ≡ after_pull s r = ap (with_more l.basis) (sym (append-nil ran)) ∙ l.whole in
    let same : with_more l.basis xs ≡ after_pull s r = ap (with_more l.basis) c.deref.ensures.value ∙ whole in
    let count : c.len.result ≡ length ran = search rules in (
      ap (map_ok is_applied) accepted.0,
      record {
        begins = ap (λ (p : HeadPlace). p.commit) c.at.view_is;
        contents = cs;
        drawn = prefix_self cs;
        first = l.first ∙ sym first;
        some = c.in_ok-after.ensures.some new.0;
        new = subst (λ n. n ≤ stamp_of c.in_ok-after.after.commit) (sym first) (c.in_ok-after.ensures.new new.1);
        needed = c.in_ok-after.ensures.needed [] l.needed;
        kind = c.kind_at_end-kind.ensures ran count
            ∙ kind_all l.basis.pending ran (λ none. l.bare (append-nil ran ∙ none))
            ∙ ap (λ (w : State). kind_left w.pending) whole;
        accepted = accepted;
        then = subst (λ (t : State). Spells means (with_nodes cs c.add_replayed.new.draft.nodes)
            (stamp_of c.in_ok-after.after.commit) t) same (subst (λ (w : Contents). Spells means
            (with_nodes w c.add_replayed.new.draft.nodes) (stamp_of c.in_ok-after.after.commit) (with_more l.basis xs))
            here after);
      },
    )
