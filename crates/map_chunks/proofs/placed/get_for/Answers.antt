use Rattle.std.proofs.Common.{◌≡◌, Ok, Some, ◌∙◌, ap, nat_cmp, refl, subst, sym}
use Rattle.std.specs.Cmp.Lexicographic.{slice_cmp}
use Rattle.std.specs.FinMap.{find}
use Rattle.group_history.proofs.Lists.{prefix_self}
use Rattle.group_history.specs.Naming.{chunk_children, chunk_content}
use Rattle.group_history.specs.Refs.{stamp_of}
use Rattle.map_chunks.proofs.KeptLemmas.{grows_on}
use Rattle.map_chunks.proofs.LookLemmas.{below_told, found_told}
use Rattle.map_chunks.specs.Places.{AreAll, Grows}
use Rattle.map_chunks.specs.Shown.{chunk_rows, IsTree, rows_or}
use Rattle.map_chunks.proofs.placed.get_for.Goals as goal

pub loop-held-init : goal.loop-held-init
loop-held-init g c = (c.requires.known, c.requires.place, (prefix_self _, λ r h. h), refl)

pub returns-in-Ok-Found-clause-value : goal.returns-in-Ok-Found-clause-value
returns-in-Ok-Found-clause-value g c =
    let shown = subst (λ w. AreAll (g.C.Chunks.places c.show.new.self) (chunk_children w)) (sym c.chunk.ensures)
    c.in_ok-held.ensures.children in
    let content = c.in_ok-held.ensures.content ∙ ap (λ w. Some (chunk_content w)) (sym c.chunk.ensures) in
    found_told _ _ _ _ _ _ _ c.loop-held.invariant.0 c.show.ensures.grown.0
    (c.chunk.result, (shown, content), (c.chunk.ensures, c.step_of.ensures))
    (c.in-Ok-Found.is ∙ ap (λ d. Ok d) c.in-Ok-Found.field-0-is) ∙ c.loop-held.invariant.3

pub loop-held-smaller : goal.loop-held-smaller
loop-held-smaller g c =
    let shown = subst (λ w. AreAll (g.C.Chunks.places c.show.new.self) (chunk_children w)) (sym c.chunk.ensures)
    c.in_ok-held.ensures.children in
    let content = c.in_ok-held.ensures.content ∙ ap (λ w. Some (chunk_content w)) (sym c.chunk.ensures) in
    let l = below_told _ _ _ _ _ _ _ c.loop-held.invariant.0 c.show.ensures.grown.0
    (c.chunk.result, (shown, content), (c.chunk.ensures, c.step_of.ensures))
    (c.in-Ok-Below.is ∙ ap (λ d. Ok d) c.in-Ok-Below.field-0-is) in
    l.0.0

pub loop-held-preserved : goal.loop-held-preserved
loop-held-preserved g c =
    let contents = g.C.Chunks.contents in
    let places = g.C.Chunks.places in
    let key = c.args.key.now in
    let shown = subst (λ w. AreAll (places c.show.new.self) (chunk_children w)) (sym c.chunk.ensures)
    c.in_ok-held.ensures.children in
    let content = c.in_ok-held.ensures.content ∙ ap (λ w. Some (chunk_content w)) (sym c.chunk.ensures) in
    let l = below_told _ _ _ _ _ _ _ c.loop-held.invariant.0 c.show.ensures.grown.0
    (c.chunk.result, (shown, content), (c.chunk.ensures, c.step_of.ensures))
    (c.in-Ok-Below.is ∙ ap (λ d. Ok d) c.in-Ok-Below.field-0-is) in
    subst (λ s. IsTree (chunk_rows (contents s) (stamp_of c.in-Ok-Below.child)) × places s c.in-Ok-Below.child
    × Grows contents places c.args.chunks.now s
    × (find (slice_cmp nat_cmp) key (rows_or (chunk_rows (contents s) (stamp_of c.in-Ok-Below.child)))
    ≡ find (slice_cmp nat_cmp) key (rows_or (chunk_rows (contents c.args.chunks.now) (stamp_of c.args.at)))))
    (sym c.leave.ensures) (
      l.0.1,
      l.1,
      grows_on contents places c.args.chunks.now c.loop-held.chunks c.show.new.self c.loop-held.invariant.2
          c.show.ensures.grown,
      l.0.3 ∙ c.loop-held.invariant.3,
    )
