use Rattle.std.proofs.Common.{◌≡◌, ◌+◌, ◌∷◌, [], ◌++◌, drop, map, Some, None, cond, sym, ap, ◌∙◌, subst, arith}
use Rattle.std.proofs.lemmas.List.{drop_more, drop_all}
use Rattle.serde_json.specs.Data.{items_depth}
use Rattle.serde_json.specs.View.{view, items_view}
use Rattle.pull_patch.specs.Fields.{each}
use Rattle.pull_patch.specs.Operations.{edit_of, operation_of}
use Rattle.pull_patch.specs.Inside.Parts.{edit_view}
use Rattle.pull_patch.proofs.Eaches.{Gave, Gathered, Gave-next, Gave-none, Gave-all, Gathered-next, Gathered-missing}
use Rattle.pull_patch.proofs.Depths.{edit_within}
use Rattle.pull_patch.proofs.Lists.{patch_part-none, patch_part-ok}
use Rattle.pull_patch.proofs.operations.read_patch.Goals as goal
use Rattle.pull_patch.proofs.operations.read_patch.Goals.{in-Some-2+in_ok-push-in-Some-2, in-None}

pub operation_of-requires : goal.operation_of-requires
operation_of-requires c =
    let l = c.loop-item in
    let xs = c.deref-item-items.result.now in
    let x = c.item-item.result in
    let here : drop l.item-index xs ≡ x ∷ drop (l.item-index + 1) xs = drop_more xs l.item-index x (omega arith) ∙ ap
    (λ y. y ∷ drop (l.item-index + 1) xs) (sym c.item-item.is) in
    edit_within (view x) _ 124 (omega (arith, ap (λ ys. items_depth (items_view ys)) here, l.invariant.3))
    (sym c.in-Some.ensures)

pub returns-in_default : goal.returns-in_default
returns-in_default c =
    let l = c.loop-item in
    let xs = c.deref-item-items.result.now in
    let x = c.item-item.result in
    let here : drop l.item-index xs ≡ x ∷ drop (l.item-index + 1) xs = drop_more xs l.item-index x (omega arith) ∙ ap
    (λ y. y ∷ drop (l.item-index + 1) xs) (sym c.item-item.is) in
    let gave = subst (λ ys. Gave edit_of (map view xs) l.invariant.0 (map view ys)) here l.invariant.1 in
    let none = Gave-none edit_of (map view xs) (map view (drop (l.item-index + 1) xs)) l.invariant.0 (view x) gave
    (sym c.in_default.ensures) in
    patch_part-none c.args.items.now.items
    (subst (λ ys. each edit_of (map view ys) ≡ None) c.deref-item-items.ensures.value none)

pub loop-item-preserved : goal.loop-item-preserved
loop-item-preserved c =
    let l = c.loop-item in
    let xs = c.deref-item-items.result.now in
    let x = c.item-item.result in
    let e = edit_view c.in-Some.edit in
    let here : drop l.item-index xs ≡ x ∷ drop (l.item-index + 1) xs = drop_more xs l.item-index x (omega arith) ∙ ap
    (λ y. y ∷ drop (l.item-index + 1) xs) (sym c.item-item.is) in
    let gave = subst (λ ys. Gave edit_of (map view xs) l.invariant.0 (map view ys)) here l.invariant.1 in
    let gathered : Gathered operation_of (l.invariant.0 ++ e ∷ []) c.match-branch-2.whole c.match-branch-2.patch.items =
    elim c.match-branch-2.branch [
      | in-Some-2+in_ok-push-in-Some-2 w ↦
          rw (w.whole-is, w.patch-is, w.in_ok-push-in-Some-2.ensures.items)
          (Gathered-next operation_of l.invariant.0 e _ l.whole l.patch.items l.invariant.2
          (sym c.in_ok-operation.ensures ∙ w.in-Some-2.is))
      | in-None w ↦ rw w.whole-is (Gathered-missing operation_of l.invariant.0 e c.match-branch-2.patch.items
          (sym c.in_ok-operation.ensures ∙ w.in-None.is))
    ] in (
      l.invariant.0 ++ e ∷ [],
      Gave-next edit_of (map view xs) (map view (drop (l.item-index + 1) xs)) l.invariant.0 (view x) e gave
          (sym c.in-Some.ensures),
      gathered,
      omega (arith, ap (λ ys. items_depth (items_view ys)) here, l.invariant.3),
    )

pub returns-then-not-whole : goal.returns-then-not-whole
returns-then-not-whole c =
    let l = c.loop-item in
    let xs = c.deref-item-items.result.now in
    let none : drop l.item-index xs ≡ [] = drop_all l.item-index xs (omega arith) in
    let all = Gave-all edit_of (map view xs) l.invariant.0
    (subst (λ ys. Gave edit_of (map view xs) l.invariant.0 (map view ys)) none l.invariant.1) in
    patch_part-ok c.args.items.now.items l.invariant.0 _
    (subst (λ ys. each edit_of (map view ys) ≡ Some l.invariant.0) c.deref-item-items.ensures.value all)
    (l.invariant.2 ∙ ap (λ b. cond b (Some l.patch.items) None) c.if-not-whole.true)

pub returns : goal.returns
returns c =
    let l = c.loop-item in
    let xs = c.deref-item-items.result.now in
    let none : drop l.item-index xs ≡ [] = drop_all l.item-index xs (omega arith) in
    let all = Gave-all edit_of (map view xs) l.invariant.0
    (subst (λ ys. Gave edit_of (map view xs) l.invariant.0 (map view ys)) none l.invariant.1) in
    patch_part-ok c.args.items.now.items l.invariant.0 _
    (subst (λ ys. each edit_of (map view ys) ≡ Some l.invariant.0) c.deref-item-items.ensures.value all)
    (l.invariant.2 ∙ ap (λ b. cond b (Some l.patch.items) None) c.if-not-whole.false)
