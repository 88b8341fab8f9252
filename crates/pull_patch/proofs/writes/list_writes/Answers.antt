use Rattle.std.proofs.Common.{◌≡◌, ◌+◌, ◌∷◌, [], ◌++◌, drop, map, Some, None, cond, sym, ap, ◌∙◌, subst, arith}
use Rattle.std.proofs.lemmas.List.{drop_more, drop_all}
use Rattle.serde_json.specs.Data.{items_depth}
use Rattle.serde_json.specs.View.{view, items_view}
use Rattle.pull_patch.specs.Fields.{each}
use Rattle.pull_patch.specs.Writes.{write_edit, write_of}
use Rattle.pull_patch.specs.Inside.Parts.{edit_view}
use Rattle.pull_patch.proofs.Eaches.{Gave, Gathered, Gave-next, Gave-none, Gave-all, Gathered-next, Gathered-missing}
use Rattle.pull_patch.proofs.Depths.{write_within}
use Rattle.pull_patch.proofs.WriteLists.{list_writes-none, list_writes-some}
use Rattle.pull_patch.proofs.writes.list_writes.Goals as goal
use Rattle.pull_patch.proofs.writes.list_writes.Goals.{in-Some-2+in_ok-push-in-Some-2, in-None}

pub write_of-requires : goal.write_of-requires
write_of-requires c =
    let l = c.loop-item in
    let xs = c.deref-item-items.result.now in
    let x = c.item-item.result in
    let here : drop l.item-index xs ≡ x ∷ drop (l.item-index + 1) xs = drop_more xs l.item-index x (omega arith) ∙ ap
    (λ y. y ∷ drop (l.item-index + 1) xs) (sym c.item-item.is) in
    write_within (view x) _ 124 (omega (arith, ap (λ ys. items_depth (items_view ys)) here, l.invariant.3))
    (sym c.in-Some.ensures)

pub returns-in_default : goal.returns-in_default
returns-in_default c =
    let l = c.loop-item in
    let xs = c.deref-item-items.result.now in
    let x = c.item-item.result in
    let here : drop l.item-index xs ≡ x ∷ drop (l.item-index + 1) xs = drop_more xs l.item-index x (omega arith) ∙ ap
    (λ y. y ∷ drop (l.item-index + 1) xs) (sym c.item-item.is) in
    let gave = subst (λ ys. Gave write_edit (map view xs) l.invariant.0 (map view ys)) here l.invariant.1 in
    let none = Gave-none write_edit (map view xs) (map view (drop (l.item-index + 1) xs)) l.invariant.0 (view x) gave
    (sym c.in_default.ensures) in
    list_writes-none c.args.items.now.items
    (subst (λ ys. each write_edit (map view ys) ≡ None) c.deref-item-items.ensures.value none)

pub loop-item-preserved : goal.loop-item-preserved
loop-item-preserved c =
    let l = c.loop-item in
    let xs = c.deref-item-items.result.now in
    let x = c.item-item.result in
    let e = edit_view c.in-Some.edit in
    let here : drop l.item-index xs ≡ x ∷ drop (l.item-index + 1) xs = drop_more xs l.item-index x (omega arith) ∙ ap
    (λ y. y ∷ drop (l.item-index + 1) xs) (sym c.item-item.is) in
    let gave = subst (λ ys. Gave write_edit (map view xs) l.invariant.0 (map view ys)) here l.invariant.1 in
    let gathered : Gathered write_of (l.invariant.0 ++ e ∷ []) c.match-branch-2.whole c.match-branch-2.writes.items =
    elim c.match-branch-2.branch [
      | in-Some-2+in_ok-push-in-Some-2 w ↦
          rw (w.whole-is, w.writes-is, w.in_ok-push-in-Some-2.ensures.items)
          (Gathered-next write_of l.invariant.0 e _ l.whole l.writes.items l.invariant.2
          (sym c.in_ok-write.ensures ∙ w.in-Some-2.is))
      | in-None w ↦ rw w.whole-is (Gathered-missing write_of l.invariant.0 e c.match-branch-2.writes.items
          (sym c.in_ok-write.ensures ∙ w.in-None.is))
    ] in (
      l.invariant.0 ++ e ∷ [],
      Gave-next write_edit (map view xs) (map view (drop (l.item-index + 1) xs)) l.invariant.0 (view x) e gave
          (sym c.in-Some.ensures),
      gathered,
      omega (arith, ap (λ ys. items_depth (items_view ys)) here, l.invariant.3),
    )

pub returns-then-not-whole : goal.returns-then-not-whole
returns-then-not-whole c =
    let l = c.loop-item in
    let xs = c.deref-item-items.result.now in
    let none : drop l.item-index xs ≡ [] = drop_all l.item-index xs (omega arith) in
    let all = Gave-all write_edit (map view xs) l.invariant.0
    (subst (λ ys. Gave write_edit (map view xs) l.invariant.0 (map view ys)) none l.invariant.1) in
    list_writes-some c.args.items.now.items l.invariant.0 _
    (subst (λ ys. each write_edit (map view ys) ≡ Some l.invariant.0) c.deref-item-items.ensures.value all)
    (l.invariant.2 ∙ ap (λ b. cond b (Some l.writes.items) None) c.if-not-whole.true)

pub returns : goal.returns
returns c =
    let l = c.loop-item in
    let xs = c.deref-item-items.result.now in
    let none : drop l.item-index xs ≡ [] = drop_all l.item-index xs (omega arith) in
    let all = Gave-all write_edit (map view xs) l.invariant.0
    (subst (λ ys. Gave write_edit (map view xs) l.invariant.0 (map view ys)) none l.invariant.1) in
    list_writes-some c.args.items.now.items l.invariant.0 _
    (subst (λ ys. each write_edit (map view ys) ≡ Some l.invariant.0) c.deref-item-items.ensures.value all)
    (l.invariant.2 ∙ ap (λ b. cond b (Some l.writes.items) None) c.if-not-whole.false)
