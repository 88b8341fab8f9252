use Rattle.std.proofs.Common.{◌≡◌, ℕ, suc, ◌+◌, ◌∷◌, drop, ap, sym, ◌∙◌, arith}
use Rattle.std.proofs.Math.Seq.{drop-cons}
use Rattle.group_history.specs.declared.responses.Confirmed.{Confirmed}
use Rattle.group_history.specs.Inside.Newer.{ids_above}
use Rattle.group_history.specs.Pulling.{overwritten}
use Rattle.group_history.specs.State.{Ids}
use Rattle.group_history.proofs.Newer.{one_above}
use Rattle.group_history.proofs.confirmed.with_more.Goals as goal

pub loop-change-preserved : goal.loop-change-preserved
loop-change-preserved c =
    let table = c.args.table.now in let changes = c.args.changes.now in let k = c.loop-change.change-index in
    let change = c.change-item.result in let ids = ids_above table c.loop-change.all.items in
    let more = ap (ids_above table) c.in_ok-push.ensures.items
    ∙ one_above table c.loop-change.all.items (record { place = c.in-Some.place; id = change.id }) change.client
    c.in-Some.ensures.found in
    let next : suc k ≡ k + 1 = omega arith in
    let here : drop k changes ≡ change ∷ drop (k + 1) changes =
    drop-cons changes k change c.loop-change-test.true
    ∙ ap (λ (x : Confirmed). x ∷ drop (suc k) changes) (sym c.change-item.is)
    ∙ ap (λ (n : ℕ). change ∷ drop n changes) next in
    ap (λ (ids : Ids). overwritten ids (drop (k + 1) changes)) more
    ∙ sym (ap (overwritten ids) here) ∙ c.loop-change.invariant
