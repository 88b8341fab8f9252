use Rattle.std.proofs.Common.{◌≡◌, ◌⊎◌, ◌∙◌, ◌+◌, ◌<◌, ◌≤◌, ◌^◌, length, slice_get, Ok, Err, Some, ap, arith, inl, inr}
use Rattle.std.proofs.Common.{subst, sym}
use Rattle.std.specs.Ordering.{nat_cmp}
use Rattle.std.specs.Cmp.Lexicographic.{slice_cmp}
use Rattle.std.specs.FinMap as finite
use Rattle.group_history.specs.declared.mutators.Stop.TheVariants.{NoMemory}
use Rattle.group_history.specs.declared.nodes.Chunk.TheVariants as chunked
use Rattle.group_history.specs.Naming.{chunk_children, chunk_content}
use Rattle.group_history.specs.Refs.{stamp_of}
use Rattle.group_history.specs.Rows.{keys_of, values_of}
use Rattle.map_chunks.proofs.AnswerLemmas.{on_ok}
use Rattle.map_chunks.proofs.JoinLemmas.{some_is}
use Rattle.map_chunks.proofs.SearchLemmas.{length-keys_of}
use Rattle.map_chunks.proofs.WayLemmas.{depth_later, filled, leaf_is, rows_later, way}
use Rattle.map_chunks.specs.Places.{AreAll}
use Rattle.map_chunks.specs.Search.{IsPlace}
use Rattle.map_chunks.specs.Seeking.{chunk_depth}
use Rattle.map_chunks.specs.Shown.{chunk_rows, rows_or, IsTree}
use Rattle.map_nodes.proofs.LeafEnds.{leaf_reached}
use Rattle.map_nodes.proofs.UnputLemmas.{handed_on}
use Rattle.map_nodes.proofs.WayLemmas.{can_step, child_in, err_so, reached_up}
use Rattle.map_nodes.specs.Inside.Asking.{Asked}
use Rattle.map_nodes.specs.Inside.Laying.{IsChunkEnd}
use Rattle.map_nodes.proofs.nodes.trails.laying.+change.Goals as goal

pub change_at-change_in-reached-requires : goal.change_at-change_in-reached-requires
change_at-change_in-reached-requires g t c κs within =
    let p = g.C.Chunks.contents c.args.chunks.now in
    let q = g.C.Chunks.contents c.show.new.self in
    let k = stamp_of c.args.at in
    let depth = depth_later p q k c.show.ensures.grown.0 c.requires.known in (
      omega (arith, c.decreases),
      (
        within.0,
        (
          within.1.0,
          (
            within.1.1,
            (
              subst IsTree (sym (rows_later p q k c.show.ensures.grown.0 c.requires.known)) c.requires.known,
              (
                c.in_ok-held.ensures.content ∙ ap (λ w. Some (chunk_content w)) (sym c.chunk.ensures),
                (
                  subst (λ w. AreAll (g.C.Chunks.places c.show.new.self) (chunk_children w)) (sym c.chunk.ensures)
                      c.in_ok-held.ensures.children,
                  (λ d h. c.requires.copies d (sym depth ∙ h), c.requires.callable),
                ),
              ),
            ),
          ),
        ),
      ),
    )

pub change_at-returns-clause-reached : goal.change_at-returns-clause-reached
change_at-returns-clause-reached g t c =
    let p = g.C.Chunks.contents c.args.chunks.now in
    let q = g.C.Chunks.contents c.show.new.self in
    let k = stamp_of c.args.at in
    let key = c.args.down.now.key.now in
    let copies = c.args.copies in
    let as_trail = c.args.down.now.as_trail in
    let rows = rows_later p q k c.show.ensures.grown.0 c.requires.known in
    let depth = depth_later p q k c.show.ensures.grown.0 c.requires.known in
    let new = c.change_in-reached.new in
    on_ok c.change_in-reached.result c.change_in-reached.ensures.reached (λ h. (
      h.0,
      subst (λ w. Asked (λ f x s. g.F.FnOnce.post f (x, tt) s) c.args.asked.now
          (finite.find (slice_cmp nat_cmp) key (rows_or w)) (Ok h.0)) rows h.1,
      subst (λ s. IsChunkEnd (g.C.Chunks.contents s) (g.C.Chunks.places s) copies as_trail k (chunk_depth p k)
          (rows_or (chunk_rows p k)) key h.0 new.laying.reached new.laying) (sym c.leave.ensures)
          (subst (λ w. IsChunkEnd (g.C.Chunks.contents new.chunks) (g.C.Chunks.places new.chunks) copies as_trail k w
          (rows_or (chunk_rows p k)) key h.0 new.laying.reached new.laying) depth
          (subst (λ w. IsChunkEnd (g.C.Chunks.contents new.chunks) (g.C.Chunks.places new.chunks) copies as_trail k
          (chunk_depth q k) (rows_or w) key h.0 new.laying.reached new.laying) rows h.2)),
    ))

pub change_at-returns-clause-stopped : goal.change_at-returns-clause-stopped
change_at-returns-clause-stopped g t c =
    let p = g.C.Chunks.contents c.args.chunks.now in
    let q = g.C.Chunks.contents c.show.new.self in
    let k = stamp_of c.args.at in
    let rows = rows_later p q k c.show.ensures.grown.0 c.requires.known in
    err_so c.change_in-reached.result c.change_in-reached.ensures.stopped (λ e h. elim h [
      | inl x ↦ inl x
      | inr y ↦ elim y [
        | inl s ↦ inr (inl s)
        | inr f ↦ inr (inr (subst (λ w. Asked (λ f x s. g.F.FnOnce.post f (x, tt) s) c.args.asked.now
            (finite.find (slice_cmp nat_cmp) c.args.down.now.key.now (rows_or w)) (Err e)) rows f))
      ]
    ])

pub change_in-place_for-place-requires-clause-filled : goal.change_in-place_for-place-requires-clause-filled
change_in-place_for-place-requires-clause-filled g t c =
    let q = g.C.Chunks.contents c.args.chunks.now in
    let kids = c.in-Inner.inner in
    let content : slice_get q (stamp_of c.args.here.at) ≡ Some (chunk_content (chunked.Inner kids)) =
    c.requires.content ∙ ap
    (λ w. Some (chunk_content w)) c.in-Inner.is in
    let full = filled q (stamp_of c.args.here.at) kids c.requires.known content in
    omega (
      arith,
      full,
      length-keys_of kids,
      ap length (c.as_slice.ensures.keys ∙ c.deref.ensures ∙ c.firsts.ensures.keys),
    )

pub change_in-overflow_add-copies : goal.change_in-overflow_add-copies
change_in-overflow_add-copies g t c =
    let q = g.C.Chunks.contents c.args.chunks.now in
    let kids = c.in-Inner.inner in
    let key = c.args.down.now.key.now in
    let i = c.place_for-place.result in
    let below = c.child_at-child.result in
    let content : slice_get q (stamp_of c.args.here.at) ≡ Some (chunk_content (chunked.Inner kids)) =
    c.requires.content ∙ ap
    (λ w. Some (chunk_content w)) c.in-Inner.is in
    let place : IsPlace key (keys_of kids) i = subst (λ z. IsPlace z (keys_of kids) i) c.args.down.now.same
    (subst (λ w. IsPlace c.args.down.now.searched.now w i)
    (c.as_slice.ensures.keys ∙ c.deref.ensures ∙ c.firsts.ensures.keys) c.place_for-place.ensures) in
    let w = way q key c.args.here.at below kids i c.requires.known content place c.child_at-child.ensures.child in
    let r = c.requires.copies (w.depth + 1) w.deeper in
    omega (arith, r)

pub change_in-change_at-requires : goal.change_in-change_at-requires
change_in-change_at-requires g t c κs within =
    let q = g.C.Chunks.contents c.args.chunks.now in
    let kids = c.in-Inner.inner in
    let key = c.args.down.now.key.now in
    let i = c.place_for-place.result in
    let below = c.child_at-child.result in
    let content : slice_get q (stamp_of c.args.here.at) ≡ Some (chunk_content (chunked.Inner kids)) =
    c.requires.content ∙ ap
    (λ w. Some (chunk_content w)) c.in-Inner.is in
    let place : IsPlace key (keys_of kids) i = subst (λ z. IsPlace z (keys_of kids) i) c.args.down.now.same
    (subst (λ w. IsPlace c.args.down.now.searched.now w i)
    (c.as_slice.ensures.keys ∙ c.deref.ensures ∙ c.firsts.ensures.keys) c.place_for-place.ensures) in
    let b = c.child_at-child.ensures.child in
    let w = way q key c.args.here.at below kids i c.requires.known content place b in
    let all : AreAll (g.C.Chunks.places c.args.chunks.now) (values_of kids) = subst
    (λ z. AreAll (g.C.Chunks.places c.args.chunks.now) (chunk_children z)) c.in-Inner.is c.requires.children in
    let here = all below (child_in kids key i below place b) in
    let r = c.requires.copies (w.depth + 1) w.deeper in (
      omega (arith, w.low, c.decreases),
      (
        within.0,
        (
          within.1.0,
          (
            within.1.1,
            (
              w.tree,
              (
                here,
                (
                  λ d h. omega (arith, r, some_is (sym w.depth_is ∙ h)),
                  c.requires.callable,
                ),
              ),
            ),
          ),
        ),
      ),
    )

pub change_in-returns-in_err-change_at-in-Inner-clause-stopped :
    goal.change_in-returns-in_err-change_at-in-Inner-clause-stopped
change_in-returns-in_err-change_at-in-Inner-clause-stopped g t c =
    let q = g.C.Chunks.contents c.args.chunks.now in
    let kids = c.in-Inner.inner in
    let key = c.args.down.now.key.now in
    let i = c.place_for-place.result in
    let below = c.child_at-child.result in
    let content : slice_get q (stamp_of c.args.here.at) ≡ Some (chunk_content (chunked.Inner kids)) =
    c.requires.content ∙ ap
    (λ w. Some (chunk_content w)) c.in-Inner.is in
    let place : IsPlace key (keys_of kids) i = subst (λ z. IsPlace z (keys_of kids) i) c.args.down.now.same
    (subst (λ w. IsPlace c.args.down.now.searched.now w i)
    (c.as_slice.ensures.keys ∙ c.deref.ensures ∙ c.firsts.ensures.keys) c.place_for-place.ensures) in
    let w = way q key c.args.here.at below kids i c.requires.known content place c.child_at-child.ensures.child in
    handed_on c.from_residual.result c.from_residual.ensures.1 (λ e x. elim (subst (λ e. (e ≡ NoMemory)
    ⊎ g.C.Chunks.stops e ⊎ Asked (λ f x s. g.F.FnOnce.post f (x, tt) s) c.args.asked.now
    (finite.find (slice_cmp nat_cmp) key (rows_or (chunk_rows q (stamp_of below)))) (Err e)) (sym x)
    c.in_err-change_at-in-Inner.ensures.stopped) [
      | inl y ↦ inl y
      | inr z ↦ elim z [
        | inl s ↦ inr (inl s)
        | inr f ↦ inr (inr (subst (λ z. Asked (λ f x s. g.F.FnOnce.post f (x, tt) s) c.args.asked.now z (Err e))
            w.same f))
      ]
    ])

pub change_in-step_up-requires-clause-fits : goal.change_in-step_up-requires-clause-fits
change_in-step_up-requires-clause-fits g t c =
    let q = g.C.Chunks.contents c.args.chunks.now in
    let kids = c.in-Inner.inner in
    let key = c.args.down.now.key.now in
    let i = c.place_for-place.result in
    let below = c.child_at-child.result in
    let content : slice_get q (stamp_of c.args.here.at) ≡ Some (chunk_content (chunked.Inner kids)) =
    c.requires.content ∙ ap
    (λ w. Some (chunk_content w)) c.in-Inner.is in
    let place : IsPlace key (keys_of kids) i = subst (λ z. IsPlace z (keys_of kids) i) c.args.down.now.same
    (subst (λ w. IsPlace c.args.down.now.searched.now w i)
    (c.as_slice.ensures.keys ∙ c.deref.ensures ∙ c.firsts.ensures.keys) c.place_for-place.ensures) in
    let b = c.child_at-child.ensures.child in
    let w = way q key c.args.here.at below kids i c.requires.known content place b in
    let few : length kids ≤ 16 = omega
    (arith, c.firsts.ensures.order.0, ap length c.firsts.ensures.keys, length-keys_of kids) in
    let big : stamp_of below + 2 < 2 ^ 64 = omega (arith, c.child_at-child.ensures.bound) in
    let new = c.change_at.new in
    let r = c.in_ok-change_at-in-Inner.ensures.reached in
    can_step q (g.C.Chunks.contents new.chunks) (g.C.Chunks.places new.chunks) c.args.copies
    c.args.down.now.as_trail key c.args.here.at below kids i r.0 new.laying.reached new.laying w c.requires.known
    content c.change_at.ensures.grown.0 place b few big r.2

pub change_in-returns-in-Leaf-clause-reached : goal.change_in-returns-in-Leaf-clause-reached
change_in-returns-in-Leaf-clause-reached g t c =
    let q = g.C.Chunks.contents c.args.chunks.now in
    let k = stamp_of c.args.here.at in
    let key = c.args.down.now.key.now in
    let rows = c.in-Leaf.leaf in
    let content : slice_get q k ≡ Some (chunk_content (chunked.Leaf rows)) = c.requires.content ∙ ap
    (λ w. Some (chunk_content w)) c.in-Leaf.is in
    let is = leaf_is q k rows c.requires.known content in
    let new = c.change_leaf.new.laying in
    on_ok c.change_leaf.result c.change_leaf.ensures.reached (λ h. (
      h.0,
      subst (λ w. Asked (λ f x s. g.F.FnOnce.post f (x, tt) s) c.args.asked.now
          (finite.find (slice_cmp nat_cmp) key (rows_or w)) (Ok h.0)) (sym is.0) h.1,
      leaf_reached q (g.C.Chunks.places c.args.chunks.now) c.args.copies
          c.args.down.now.as_trail key c.args.here.at rows h.0 new.reached new c.requires.known content h.2,
    ))

pub change_in-returns-in-Leaf-clause-stopped : goal.change_in-returns-in-Leaf-clause-stopped
change_in-returns-in-Leaf-clause-stopped g t c =
    let q = g.C.Chunks.contents c.args.chunks.now in
    let k = stamp_of c.args.here.at in
    let rows = c.in-Leaf.leaf in
    let content : slice_get q k ≡ Some (chunk_content (chunked.Leaf rows)) = c.requires.content ∙ ap
    (λ w. Some (chunk_content w)) c.in-Leaf.is in
    let is = leaf_is q k rows c.requires.known content in
    err_so c.change_leaf.result c.change_leaf.ensures.stopped (λ e h. elim h [
      | inl x ↦ inl x
      | inr f ↦ inr (inr (subst (λ w. Asked (λ f x s. g.F.FnOnce.post f (x, tt) s) c.args.asked.now
          (finite.find (slice_cmp nat_cmp) c.args.down.now.key.now (rows_or w)) (Err e)) (sym is.0) f))
    ])

pub change_in-returns-in_ok-step_up-in-Inner-clause-reached :
    goal.change_in-returns-in_ok-step_up-in-Inner-clause-reached
change_in-returns-in_ok-step_up-in-Inner-clause-reached g t c =
    let q = g.C.Chunks.contents c.args.chunks.now in
    let kids = c.in-Inner.inner in
    let key = c.args.down.now.key.now in
    let i = c.place_for-place.result in
    let below = c.child_at-child.result in
    let content : slice_get q (stamp_of c.args.here.at) ≡ Some (chunk_content (chunked.Inner kids)) =
    c.requires.content ∙ ap
    (λ w. Some (chunk_content w)) c.in-Inner.is in
    let place : IsPlace key (keys_of kids) i = subst (λ z. IsPlace z (keys_of kids) i) c.args.down.now.same
    (subst (λ w. IsPlace c.args.down.now.searched.now w i)
    (c.as_slice.ensures.keys ∙ c.deref.ensures ∙ c.firsts.ensures.keys) c.place_for-place.ensures) in
    let b = c.child_at-child.ensures.child in
    let w = way q key c.args.here.at below kids i c.requires.known content place b in
    let all : AreAll (g.C.Chunks.places c.args.chunks.now) (values_of kids) = subst
    (λ z. AreAll (g.C.Chunks.places c.args.chunks.now) (chunk_children z)) c.in-Inner.is c.requires.children in
    let new = c.change_at.new in
    let r = c.in_ok-change_at-in-Inner.ensures.reached in
    let u = r.0 in
    let end = c.step_up.new.laying in (
      u,
      subst (λ z. Asked (λ f x s. g.F.FnOnce.post f (x, tt) s) c.args.asked.now z (Ok u)) w.same r.1,
      reached_up q (g.C.Chunks.contents new.chunks) (g.C.Chunks.places new.chunks) c.args.copies
          c.args.down.now.as_trail key c.args.here.at below kids i u new.laying.reached end.reached new.laying end w
          c.requires.known content c.change_at.ensures.grown.0 (λ at z. c.change_at.ensures.grown.1 at (all at z)) place
          b r.2 c.in_ok-step_up-in-Inner.ensures,
    )
