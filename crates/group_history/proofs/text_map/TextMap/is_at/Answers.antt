use Rattle.std.proofs.Common.{◌≡◌, ◌<◌, length, slice_index_or, ap, sym, subst, ◌∙◌, arith}
use Rattle.std.proofs.lemmas.Slice.Eq.{bytes_eq-Decides}
use Rattle.group_history.proofs.Newer.{map_rows, same_row}
use Rattle.group_history.proofs.text_map.TextMap.is_at.Goals as goal

pub returns-then-place-len : goal.returns-then-place-len
returns-then-place-len g c h =
    let items = c.self.inside.rows.items in let here = c.index.result.now in let place = c.args.place in
    let rows = map_rows items c.args.self.now c.self.invariant c.self.view_is in
    let lt : place < length items = omega (arith, c.if-place-len.true, c.len.ensures, c.self.inside.rows.ok.0) in (
      subst (λ l. place < length l) (sym rows) lt,
      λ d. ap (λ l. (slice_index_or l place d).0) rows ∙ ap (λ r. r.0) (same_row items place d here lt)
          ∙ ap (λ r. r.0) (sym c.index.ensures)
          ∙ (bytes_eq-Decides here.0 c.args.key.now).0 (sym c.eq.ensures ∙ h),
    )
