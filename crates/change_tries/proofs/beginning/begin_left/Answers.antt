use Rattle.std.proofs.Common.{◌≡◌, List, Option, Some, reverse, sym, ap, subst, ◌∙◌}
use Rattle.std.specs.Prelude.{IfOk, IfSome}
use Rattle.std.proofs.lemmas.List.{reverse-reverse}
use Rattle.group_history.specs.declared.mutations.MutationFields.{MutationFields as Mutation}
use Rattle.group_history.specs.Pulling.{after_pull}
use Rattle.group_history.specs.State.{replayed, view_of}
use Rattle.head_word.specs.Books.{drawn}
use Rattle.map_tree.specs.Trees.{tree_map}
use Rattle.map_tree.specs.declared.tree.Tree.{Tree}
use Rattle.change_drafts.specs.Pending.{with_more}
use Rattle.change_tries.specs.Places.{state_at}
use Rattle.change_tries.specs.Runs.{IsOn, with_draft}
use Rattle.change_tries.proofs.Running.{leads_begun, leads_ended, left_ended, left_of_on}
use Rattle.change_tries.proofs.beginning.begin_left.Goals as goal

pub finish-requires-clause-tip : goal.finish-requires-clause-tip
finish-requires-clause-tip g c κs within =
    let means = g.M.Means.means in let t = c.requires.tip in
    let there = with_draft (drawn c.args.at.now.mark.log) c.args.chain in (
      t.0,
      t.1,
      t.2,
      subst (λ (o : Option Tree). IfSome o (λ (tree : Tree). tree_map there tree
          ≡ Some (replayed means (view_of means t.0) c.deref.result.now))) c.in-Some.is
          (c.in_ok-tree.ensures.map t.0 t.1)
          ∙ ap (λ (ys : List Mutation). Some (replayed means (view_of means t.0) ys)) c.deref.ensures.value,
    )

pub go_on-requires-clause-leads : goal.go_on-requires-clause-leads
go_on-requires-clause-leads g c κs within =
    let means = g.M.Means.means in let t = c.requires.tip in let cs = drawn c.args.at.now.mark.log in
    let chain = c.args.chain in let left = c.args.left.items in let turned = c.reverse.new.self.items in
    let order : reverse turned ≡ left = ap reverse c.reverse.ensures.items ∙ reverse-reverse left in (
      with_more t.0 left,
      view_of means t.0,
      leads_begun means cs (with_more t.0 left) chain t.0 c.new-ran.result.items (reverse turned)
          (sym c.requires.behind) c.requires.needed t.1 t.2 t.3 c.new-ran.ensures.items (ap (with_more t.0) order),
      c.at-tree.ensures.map (with_draft cs chain) ∙ t.1.1,
    )

pub returns-in-Some-clause-step : goal.returns-in-Some-clause-step
returns-in-Some-clause-step g c s last ticket r tip opened bare accepted whole =
    let means = g.M.Means.means in let cs = drawn c.args.at.now.mark.log in let chain = c.args.chain in
    let left = c.args.left.items in
    c.finish.ensures.step last ticket r (replayed means (view_of means s) left) accepted
    (leads_ended means cs (after_pull (state_at c.args.at.now) r) chain s left (sym c.requires.behind) c.requires.needed
    tip opened bare whole) c.requires.new
    (subst (λ (o : Option Tree). IfSome o (λ (tree : Tree). tree_map (with_draft cs chain) tree
    ≡ Some (replayed means (view_of means s) c.deref.result.now))) c.in-Some.is (c.in_ok-tree.ensures.map s tip)
    ∙ ap (λ (ys : List Mutation). Some (replayed means (view_of means s) ys)) c.deref.ensures.value)

pub returns-in-None-clause-step : goal.returns-in-None-clause-step
returns-in-None-clause-step g c s last ticket r tip opened bare accepted whole =
    let means = g.M.Means.means in let cs = drawn c.args.at.now.mark.log in let chain = c.args.chain in
    let left = c.args.left.items in let turned = c.reverse.new.self.items in
    let order : reverse turned ≡ left = ap reverse c.reverse.ensures.items ∙ reverse-reverse left in
    c.go_on.ensures.step last ticket r (view_of means s) accepted
    (leads_begun means cs (after_pull (state_at c.args.at.now) r) chain s c.new-ran.result.items (reverse turned)
    (sym c.requires.behind) c.requires.needed tip opened bare c.new-ran.ensures.items (ap (with_more s) order ∙ whole))
    c.requires.new (c.at-tree.ensures.map (with_draft cs chain) ∙ tip.1)

pub returns-in-Some-clause-first : goal.returns-in-Some-clause-first
returns-in-Some-clause-first g c = left_ended g.M.Has.has c.args.left.items c.finish.result c.finish.ensures.none

pub returns-in-None-clause-first : goal.returns-in-None-clause-first
returns-in-None-clause-first g c =
    let has = g.M.Has.has in let means = g.M.Means.means in let cs = drawn c.args.at.now.mark.log in
    let left = c.args.left.items in let t = c.requires.tip in let m = view_of means t.0 in
    left_of_on has means cs left m c.go_on.result (subst (λ (ys : List Mutation). IfOk c.go_on.result
    (IsOn has means cs ys m)) (ap reverse c.reverse.ensures.items ∙ reverse-reverse left)
    (c.go_on.ensures.next m (c.at-tree.ensures.map (with_draft cs c.args.chain) ∙ t.1.1)))
