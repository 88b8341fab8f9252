use Rattle.std.proofs.Common.{◌≡◌, ◌∷◌, ◌++◌, [], true, IfOk, rules, refl, sym, ap, subst, ◌∙◌}
use Rattle.group_history.specs.declared.mutations.MutationFields.{MutationFields as Mutation}
use Rattle.group_history.specs.Spelling.{Version, tells_right, version_of}
use Rattle.group_history.specs.State.{replayed, view_of}
use Rattle.map_chunks.specs.Places.{with_nodes}
use Rattle.map_tree.proofs.BelowLemmas.{tree-behind}
use Rattle.change_drafts.specs.Chaining.{HasTip}
use Rattle.change_drafts.specs.Pending.{with_more}
use Rattle.change_drafts.specs.declared.tips.Tip.{Tip}
use Rattle.change_drafts.proofs.ReplayLemmas.{tip-grown, tip-same, version_last}
use Rattle.change_drafts.proofs.locals.add_replayed.Goals as goal

pub freeze-requires : goal.freeze-requires
freeze-requires g c =
    let means = g.M.Means.means in let t = c.requires.tip in let m = view_of means t.0 in
    record {
      below = tree-behind g.K.NamesContents.known c.args.draft.now c.args.last.tree
          (replayed means m c.args.pending.now) (sym c.requires.behind) t.3;
    }

pub add_all-requires-clause-tip : goal.add_all-requires-clause-tip
add_all-requires-clause-tip g c =
    let t = c.requires.tip in let v = version_of g.M.Means.means t.0 in (
      v,
      tip-grown g.K.NamesContents.known c.args.draft.now.nodes c.freeze.new.draft.nodes c.args.basis v
          c.freeze.ensures.grown t.1,
      t.2,
    )

pub add_all-requires-clause-map : goal.add_all-requires-clause-map
add_all-requires-clause-map g c =
    let means = g.M.Means.means in let t = c.requires.tip in let m = view_of means t.0 in
    let all = replayed means m c.args.pending.now in (
      all,
      c.in_ok-root.ensures.spelled g.K.NamesContents.known all (sym c.requires.behind)
          t.3,
    )

pub add_all-requires-clause-told : goal.add_all-requires-clause-told
add_all-requires-clause-told g c v h =
    let means = g.M.Means.means in let t = c.requires.tip in let before = c.in-Some.before.now in
    let known = g.K.NamesContents.known in let new = c.freeze.new.draft.nodes in let was = version_of means t.0 in
    let there = tip-grown known c.args.draft.now.nodes new c.args.basis was c.freeze.ensures.grown t.1 in
    subst (λ (w : Version). tells_right c.args.last.told (with_more w.state before) ≡ true)
    (tip-same (with_nodes known new) c.args.basis was v there h)
    (c.requires.told t.0 before c.in-Some.newest.now t.1 c.in-Some.ensures.cases.0)

pub returns-clause-tip : goal.returns-clause-tip
returns-clause-tip g c s h is_open mapped =
    let means = g.M.Means.means in let known = g.K.NamesContents.known in let m = view_of means s in
    let xs = c.args.pending.now in let all = replayed means m xs in let v = version_of means s in
    let root = c.in_ok-root.ensures.spelled known all (sym c.requires.behind) mapped in
    let basis = tip-grown known c.args.draft.now.nodes c.freeze.new.draft.nodes c.args.basis v
    c.freeze.ensures.grown h in
    let before = c.in-Some.before.now in let x = c.in_ok-mutation.mutation in
    let same : x ≡ c.in-Some.newest.now = search rules in
    let split : xs ≡ before ++ x ∷ [] = c.in-Some.ensures.cases.0
    ∙ ap (λ (y : Mutation). before ++ y ∷ []) (sym same) in
    subst (λ (w : Version). IfOk c.add_all.result (λ (after : Tip).
    HasTip (with_nodes known c.add_all.new.draft.nodes) after w))
    (version_last means s xs before x all split refl)
    (c.add_all.ensures.tip v all basis is_open root)
