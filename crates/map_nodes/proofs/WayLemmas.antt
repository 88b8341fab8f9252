-- The one way down to a key: through an inner chunk, and up again.
use Rattle.std.proofs.Common.{◌≡◌, ◌<◌, ◌≤◌, ◌+◌, ◌-◌, ◌^◌, ℕ, Bool, List, ◌∷◌, Option, Some, None, length}
use Rattle.std.proofs.Common.{reverse, slice_get, Result, Ok, Err, IfOk, IfErr, get_or, sym, ap, ◌∙◌, subst}
use Rattle.std.proofs.Common.{arith}
use Rattle.std.specs.List.{Contains}
use Rattle.std.specs.Ordering.{nat_cmp}
use Rattle.std.specs.Cmp.Lexicographic.{slice_cmp}
use Rattle.std.specs.FinMap.{find}
use mathlib.Core.List.{IsPrefix}
use Rattle.group_history.specs.declared.mutators.Update.{Update}
use Rattle.group_history.specs.declared.nodes.Chunk.TheVariants as chunked
use Rattle.group_history.specs.declared.refs.Ref.{Ref}
use Rattle.group_history.specs.Map.{Bytes}
use Rattle.group_history.specs.Naming.{chunk_content}
use Rattle.group_history.specs.Refs.{stamp_of}
use Rattle.group_history.specs.Rows.{Rows, keys_of, values_of}
use Rattle.group_history.specs.Spelling.{Contents}
use Rattle.map_chunks.proofs.JoinLemmas.{some_is}
use Rattle.map_chunks.proofs.SearchLemmas.{length-keys_of, length-values_of}
use Rattle.map_chunks.proofs.WayLemmas.{Way}
use Rattle.map_chunks.specs.Places.{AreAll}
use Rattle.map_chunks.specs.Search.{IsPlace}
use Rattle.map_chunks.specs.Seeking.{chunk_depth}
use Rattle.map_chunks.specs.Shown.{Seen, chunk_rows, rows_or, IsTree}
use Rattle.map_nodes.proofs.GrownLemmas.{fits_over, made_over, over, step_over}
use Rattle.map_nodes.proofs.TrailLemmas.{topmost}
use Rattle.map_nodes.specs.Inside.Laying.{CanStep, IsGrownOver, IsBuilt, IsChunkEnd, IsStepped}
use Rattle.map_nodes.specs.Trails.{step_seen, trail_seen, IsTrail}
use Rattle.map_nodes.specs.declared.nodes.putting.Half.{Half}
use Rattle.map_nodes.specs.declared.nodes.trails.laying.Laying.{Laying}
use Rattle.map_nodes.specs.declared.nodes.trails.laying.Reached.{Reached}
use Rattle.map_nodes.specs.declared.nodes.trails.laying.Reached.TheVariants.{Same, Refused, Laid, Grown}

-- the child is one of the children
pub child_in : (kids : List (Bytes × Ref)) (key : Bytes) (i : ℕ) (below : Ref) → IsPlace key (keys_of kids) i
    → below ≡ get_or (values_of kids) i below → Contains (values_of kids) below
child_in kids key i below place b = (
  i,
  (let l : i < length (values_of kids) = omega
      (arith, length-keys_of kids, length-values_of kids, place.0) in l),
  sym b,
)

-- what is made of a child, by the depth of its parent
made_below : (r : Contents) (may : Ref → Type 0) (copies stamp d : ℕ) (rows : _) (key v : Bytes) (n : Seen)
    (half : Option Half) → IsBuilt r may copies stamp d rows key v n half
    → IsBuilt r may copies stamp ((d + 1) - 1) rows key v n half
made_below r may copies stamp d rows key v n half m =
    let one : (d + 1) - 1 ≡ d = omega arith in
    subst (λ z. IsBuilt r may copies stamp z rows key v n half) (sym one) m

-- own chunks that were made below fit in the chunk above
pub can_step : (q r : Contents) (may : Ref → Type 0) (copies : ℕ) (as_trail : Bool) (key : Bytes)
    (at below : Ref) (kids : List (Bytes × Ref)) (i : ℕ) (u : Update) (x : Reached) (l : Laying) → Way q key at below
    → IsTree (chunk_rows q (stamp_of at)) → slice_get q (stamp_of at) ≡ Some (chunk_content (chunked.Inner kids))
    → IsPrefix q r → IsPlace key (keys_of kids) i → below ≡ get_or (values_of kids) i below → length kids ≤ 16
    → stamp_of below + 2 < 2 ^ 64
    → IsChunkEnd r may (copies + 1) as_trail (stamp_of below) (chunk_depth q (stamp_of below))
    (rows_or (chunk_rows q (stamp_of below))) key u x l
    → CanStep copies kids key i x
can_step q r may copies as_trail key at below kids i u Same l w t g pre place b few big h = tt
can_step q r may copies as_trail key at below kids i u (Refused code) l w t g pre place b few big h = tt
can_step q r may copies as_trail key at below kids i u Laid l w t g pre place b few big h = tt
can_step q r may copies as_trail key at below kids i u (Grown n half) l w t g pre place b few big h =
    let d = h.3.0 in
    fits_over q r may copies (d + 1) i key h.0 at below kids n.value half
    (over q key at below kids i d w t g place b h.3.1) pre few (omega (arith, h.3.2, big))
    (made_below r may (copies + 1) (stamp_of below) d (rows_or (chunk_rows q (stamp_of below))) key h.0 n.value half
    h.3.3)

-- what the way ends in, told of the chunk above
pub reached_up : (q r : Contents) (may : Ref → Type 0) (copies : ℕ) (as_trail : Bool)
    (key : Bytes) (at below : Ref) (kids : List (Bytes × Ref)) (i : ℕ) (u : Update) (x y : Reached) (old new : Laying)
    → Way q key at below → IsTree (chunk_rows q (stamp_of at))
    → slice_get q (stamp_of at) ≡ Some (chunk_content (chunked.Inner kids)) → IsPrefix q r
    → AreAll may (values_of kids) → IsPlace key (keys_of kids) i → below ≡ get_or (values_of kids) i below
    → IsChunkEnd r may (copies + 1) as_trail (stamp_of below) (chunk_depth q (stamp_of below))
    (rows_or (chunk_rows q (stamp_of below))) key u x old
    → IsStepped copies kids key i x y old new
    → IsChunkEnd r may copies as_trail (stamp_of at) (chunk_depth q (stamp_of at))
    (rows_or (chunk_rows q (stamp_of at))) key u y new
reached_up q r may copies as_trail key at below kids i u Same y old new w t g pre all
    place b h e =
    subst (λ z. IsChunkEnd r may copies as_trail (stamp_of at) (chunk_depth q (stamp_of at))
    (rows_or (chunk_rows q (stamp_of at))) key u z new) (sym e) (h.0, h.1, sym w.same ∙ h.2)
reached_up q r may copies as_trail key at below kids i u (Refused code) y old new w t g pre
    all place b h e =
    subst (λ z. IsChunkEnd r may copies as_trail (stamp_of at) (chunk_depth q (stamp_of at))
    (rows_or (chunk_rows q (stamp_of at))) key u z new) (sym e) h
reached_up q r may copies as_trail key at below kids i u Laid y old new w t g pre all
    place b h e =
    let v = h.0 in
    let d = h.4.0 in
    let end = h.4.2.0 in
    let s = e.2.0 in
    let below_rows = rows_or (chunk_rows q (stamp_of below)) in
    let rows = rows_or (chunk_rows q (stamp_of at)) in
    let steps = reverse old.steps.items in
    let next = trail_seen steps end in
    let other : find (slice_cmp nat_cmp) key rows ≡ Some v → ⊥ = λ f. h.2 (w.same ∙ f) in
    let here : IsPlace key (keys_of kids) s.place = subst (IsPlace key (keys_of kids)) (sym e.2.2) place in
    let child : below ≡ get_or (values_of kids) s.place below =
    b ∙ ap (λ z. get_or (values_of kids) z below) (sym e.2.2) in
    let x = over q key at below kids s.place d w t g here child h.4.1 in
    let m = made_below r may (copies + 1) (stamp_of below) d below_rows key v next None h.4.2.3 in
    let step = step_over q r may copies (d + 1) key v at below kids s next x pre e.2.1 m in
    let made = made_over q r may copies (d + 1) s.place key v at below kids next (step_seen s next) None None x pre all
    other m step.1 in
    let deep : w.depth ≡ d = some_is (sym w.depth_is ∙ h.4.1) in
    let is : s ∷ steps ≡ reverse new.steps.items =
    sym (topmost new.steps.items old.steps.items s e.2.3) in
    subst (λ z. IsChunkEnd r may copies as_trail (stamp_of at) (chunk_depth q (stamp_of at)) rows key u z new)
    (sym e.0) (
      v,
      h.1,
      other,
      h.3,
      (
        d + 1,
        w.deeper ∙ ap (λ z. Some (z + 1)) deep,
        (
          end,
          e.1 ∙ h.4.2.1,
          subst (λ z. IsTrail z end) is (step.0, h.4.2.2),
          subst (λ z. IsBuilt r may copies (stamp_of at) (d + 1) rows key v (trail_seen z end) None) is made,
        ),
      ),
    )
reached_up q r may copies as_trail key at below kids i u (Grown child half) y old new w t g pre
    all place b h e =
    let v = h.0 in
    let d = h.3.0 in
    let n = e.0 in
    let made = e.1 in
    let below_rows = rows_or (chunk_rows q (stamp_of below)) in
    let rows = rows_or (chunk_rows q (stamp_of at)) in
    let other : find (slice_cmp nat_cmp) key rows ≡ Some v → ⊥ = λ f. h.2 (w.same ∙ f) in
    let x = over q key at below kids i d w t g place b h.3.1 in
    let m = made_below r may (copies + 1) (stamp_of below) d below_rows key v child.value half h.3.3 in
    let grown = subst (λ z. IsGrownOver copies (z + 1) kids key i child.value half n.value made) h.3.3.depth_is e.3 in
    let deep : w.depth ≡ d = some_is (sym w.depth_is ∙ h.3.1) in
    subst (λ z. IsChunkEnd r may copies as_trail (stamp_of at) (chunk_depth q (stamp_of at)) rows key u z new)
    (sym e.2) (
      v,
      h.1,
      other,
      (
        d + 1,
        w.deeper ∙ ap (λ z. Some (z + 1)) deep,
        omega (arith, h.3.2, w.low),
        made_over q r may copies (d + 1) i key v at below kids child.value n.value half made x pre all other m grown,
      ),
    )

pub err_so : {A E : Type 0} {P Q : E → Type 0} (r : Result A E) → IfErr r P → ((e : E) → P e → Q e) → IfErr r Q
err_so (Ok a) h f = tt
err_so (Err e) h f = f e h
