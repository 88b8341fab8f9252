use Rattle.std.proofs.Common.{◌≡◌, ℕ, List, [], ◌∷◌, ◌++◌, ◌+◌, ◌<◌, take, get_or, Some, sym, ap, subst, ◌∙◌, Bool}
use Rattle.std.specs.Prelude.{if◌then◌else◌}
use Rattle.std.specs.Ordering.{is_gt, nat_cmp}
use Rattle.std.specs.Cmp.Lexicographic.{slice_cmp}
use Rattle.std.proofs.lemmas.List.{take_more}
use Rattle.group_history.specs.declared.refs.Ref.{Ref}
use Rattle.group_history.specs.Map.{Bytes}
use Rattle.group_history.specs.Rows.{paired}
use Rattle.commit_graph.specs.Inside.Meeting.{choose}
use Rattle.commit_graph.proofs.Descending.{choose_append, paired_append}
use Rattle.commit_graph.proofs.meeting.chosen.Goals as goal
use Rattle.commit_graph.proofs.meeting.chosen.Goals.{then-not-is_gt, else-not-is_gt}

pub loop-place-preserved : goal.loop-place-preserved
loop-place-preserved c =
    let fs = c.args.firsts.now in let cs = c.args.children.now in let i = c.loop-place.place in
    let k = c.args.key.now in
    let d : Ref = record { bits = 0 } in
    let x = c.index-firsts-place.result in let y = get_or cs i d in
    let before = paired (take i fs) (take i cs) in
    let fx : take (i + 1) fs ≡ take i fs ++ x
    ∷ [] = take_more fs i x c.loop-place-test.true ∙ ap (λ (w : Bytes). take i fs ++ w ∷ [])
    (sym c.index-firsts-place.is) in
    let fy : take (i + 1) cs ≡ take i cs ++ y
    ∷ [] = take_more cs i d (subst (λ (n : ℕ). i < n) (sym c.requires) c.loop-place-test.true) in
    let cut : paired (take (i + 1) fs) (take (i + 1) cs) ≡ before ++ (x, y) ∷ [] =
    ap (λ (w : List Bytes). paired w (take (i + 1) cs)) fx ∙
    (ap (λ (w : List Ref). paired (take i fs ++ x ∷ []) w) fy ∙ paired_append fs cs i x y c.requires) in
    let step : choose k (paired (take (i + 1) fs) (take (i + 1) cs))
    ≡ (if is_gt (slice_cmp nat_cmp x k) then choose k before else Some y) = ap
    (choose k) cut ∙ choose_append k before (x, y) in
    let test : c.is_gt.result ≡ is_gt (slice_cmp nat_cmp x k) = c.is_gt.ensures ∙ ap is_gt c.cmp.ensures in
    elim c.if-not-is_gt.branch [
      | then-not-is_gt w ↦ w.found-is ∙ sym (step ∙ ap (λ (b : Bool). if b then choose k before else Some y)
          (sym test ∙ w.if-not-is_gt.true))
      | else-not-is_gt w ↦ w.found-is ∙ (c.loop-place.invariant ∙ sym
          (step ∙ ap (λ (b : Bool). if b then choose k before else Some y) (sym test ∙ w.if-not-is_gt.false)))
    ]
