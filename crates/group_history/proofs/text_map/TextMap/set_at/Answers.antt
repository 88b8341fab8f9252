use Rattle.std.proofs.Common.{IsTrue, slice_set, ap, sym, subst, ◌∙◌, arith}
use Rattle.std.specs.Ordering.{nat_cmp}
use Rattle.std.specs.Cmp.Lexicographic.{slice_cmp}
use Rattle.std.specs.FinMap as map
use Rattle.group_history.specs.Inside.Newer.{with_value}
use Rattle.group_history.proofs.Newer.{map_rows, set_own, still_sorted, unset}
use Rattle.group_history.proofs.Places.{entries_made}
use Rattle.group_history.proofs.text_map.TextMap.set_at.Goals as goal

pub invariant_of-self : goal.invariant_of-self
invariant_of-self g c =
    let items = c.self.inside.rows.items in let here = c.index_mut.result.now in
    let set = ap (λ r. slice_set items c.args.place (r.0, c.args.value)) c.index_mut.ensures.value
    ∙ set_own items c.args.place c.args.value here
    (omega (arith, c.if-place-len.true, c.len.ensures, c.self.inside.rows.ok.0)) in
    subst (λ l. IsTrue (map.is_sorted (slice_cmp nat_cmp) l)) (sym set)
    (still_sorted items c.args.place c.args.value c.self.invariant)

pub returns-then-place-len : goal.returns-then-place-len
returns-then-place-len g c =
    let items = c.self.inside.rows.items in let here = c.index_mut.result.now in
    let rows = map_rows items c.args.self.now c.self.invariant c.self.view_is in
    let set = ap (λ r. slice_set items c.args.place (r.0, c.args.value)) c.index_mut.ensures.value
    ∙ set_own items c.args.place c.args.value here
    (omega (arith, c.if-place-len.true, c.len.ensures, c.self.inside.rows.ok.0)) in
    ap (λ l. map.entries (map.from_sorted {R = slice_cmp nat_cmp} l)) set
    ∙ entries_made (with_value items c.args.place c.args.value)
    (still_sorted items c.args.place c.args.value c.self.invariant)
    ∙ ap (λ l. with_value l c.args.place c.args.value) (sym rows)

pub returns-else-place-len : goal.returns-else-place-len
returns-else-place-len g c =
    let items = c.self.inside.rows.items in
    let rows = map_rows items c.args.self.now c.self.invariant c.self.view_is in
    rows
    ∙ sym (unset items c.args.place c.args.value
    (omega (arith, c.if-place-len.false, c.len.ensures, c.self.inside.rows.ok.0)))
    ∙ ap (λ l. with_value l c.args.place c.args.value) (sym rows)
