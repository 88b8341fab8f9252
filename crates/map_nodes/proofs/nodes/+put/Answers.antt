use Rattle.std.proofs.Common.{◌≡◌, ◌<◌, ◌+◌, ◌-◌, ◌++◌, [], ◌∷◌, ◌≤◌, IfErr, IfOk, ℕ, Option, None, length, sym, ap}
use Rattle.std.proofs.Common.{subst, ◌∙◌, Ok, Some, get_or, set, length-set, slice_get, nat_cmp, T, refl, set-set}
use Rattle.std.proofs.Common.{arith}
use Rattle.std.proofs.lemmas.Bool.{le-leb}
use Rattle.std.specs.Prelude.{IsSome}
use Rattle.std.specs.Box.{with_value}
use Rattle.std.specs.Cmp.Lexicographic.{slice_cmp}
use Rattle.std.specs.FinMap as finite
use Rattle.group_history.specs.Map.{Bytes}
use Rattle.group_history.specs.Refs.{stamp_of}
use Rattle.group_history.specs.Rows.{Rows, paired, rises, keys_of, values_of}
use Rattle.group_history.specs.Spelling.{rows_at}
use Rattle.group_history.specs.declared.mutators.Update.TheVariants.{Put as Puts}
use Rattle.map_nodes.specs.Inside.Counts.{HasKept}
use Rattle.map_chunks.specs.Places.{AreAll, AreKept, places_of}
use Rattle.map_nodes.specs.Changes.{Makes}
use Rattle.map_nodes.specs.Inside.Freezing.{child_places, kids_places}
use Rattle.map_nodes.specs.Inside.Halves.{half_pieces, IsHalf, HasDepth, with_half}
use Rattle.map_nodes.specs.Inside.Halves.{lowered}
use Rattle.map_nodes.specs.Nodes.{AllKids, IsNode, body_pieces, body_height, kids_pieces, kids_levels, kids_marks}
use Rattle.map_nodes.specs.Nodes.{child_levels, sunk, body_marks, row_pieces}
use Rattle.map_nodes.specs.Inside.Nodes.{Kid, child_rows}
use Rattle.map_nodes.specs.Inside.Ready.{AreNinthIn, HasRoomIn}
use Rattle.map_nodes.specs.Others.{ArePutAmong}
use Rattle.map_chunks.specs.Search.{IsPlace}
use Rattle.map_chunks.specs.Shown.{own, leaf_keys, Seen, chunk_rows, shown, rows_or, IsTree}
use Rattle.map_nodes.specs.declared.nodes.Body.{Body}
use Rattle.map_nodes.specs.declared.nodes.Body.TheVariants.{Inner}
use Rattle.map_nodes.specs.declared.nodes.OwnChild.{OwnChild}
use Rattle.map_nodes.specs.declared.nodes.putting.Half.{Half}
use Rattle.map_nodes.specs.declared.nodes.OwnChild.TheVariants.{Placed, Own}
use Rattle.map_chunks.proofs.AnswerLemmas.{if_ok_so, on_err, on_ok}
use Rattle.map_chunks.proofs.JoinLemmas.{some_is}
use Rattle.map_nodes.proofs.AmongLemmas.{depth_at, inner_among, own_put, placed_put, rows_alone, rows_put}
use Rattle.map_nodes.proofs.CountLemmas.{leaf_counts}
use Rattle.map_chunks.proofs.KeptLemmas.{kept-none, kept-from_none}
use Rattle.map_nodes.proofs.NamedLemmas.{kept-kid, kept-finished, own-places, places-rows}
use Rattle.map_nodes.proofs.NodeLemmas.{leaf_rows, inner_same, child_at, written_back}
use Rattle.map_nodes.proofs.UnputLemmas.{handed_on, unput_anyhow}
use Rattle.map_nodes.proofs.RenewLemmas.{inner_replaced, value_below}
use Rattle.map_nodes.proofs.PathLemmas.{put_path, filled_pairs, filled_kids, length-pairs, node_at, child_requires}
use Rattle.map_nodes.proofs.PathLemmas.{if_ok, indexed_child, done_at, length-lowered, ninth_lowered_in}
use Rattle.map_nodes.proofs.PlaceLemmas.{kid_all, kids_may, own_may, placed_may}
use Rattle.map_nodes.proofs.KeptLevels.{leaf_kept-levels}
use Rattle.map_nodes.proofs.LevelLemmas.{changed_as, inner-levels}
use Rattle.map_nodes.proofs.PutLevels.{AreFirsts, child_put, firsts_are, if_ok_both, leaf_put_levels, put_as}
use Rattle.map_nodes.proofs.PutLevels.{put_over}
use Rattle.map_nodes.specs.Inside.Puts.{half_levels, shown_at, ChildHalvesPut, ChildReplaced, HalvesPut, IsChildPut}
use Rattle.map_nodes.specs.Inside.Puts.{IsHalved, IsOwnPut}
use Rattle.map_nodes.specs.Inside.Unput.{IsUnput}
use Rattle.map_nodes.specs.Levels.{levels_of, parting, seen_levels, topped, AreChanged, ArePut}
use Rattle.map_nodes.specs.Levels.{IsRenewed, RenewedLater}
use Rattle.map_nodes.proofs.nodes.+put.Goals as goal

pub putting::paths::put_inner-put_child-requires : goal.putting::paths::put_inner-put_child-requires
putting::paths::put_inner-put_child-requires g t c κs within =
    let p = g.C.Chunks.contents c.args.chunks.now in
    let at : OwnChild = Placed (record { bits = 0 }) in
    let i = c.place_for-place.result in
    let x = node_at p c.args.here.depth c.args.keys.now.texts (Inner c.args.kids.now) c.args.kids.now
    (body_pieces c.args.here.depth c.args.keys.now.texts (Inner c.args.kids.now)) c.as_slice.result.now
    c.args.here.put.key.now i at
    refl refl c.requires.node c.as_slice.ensures
    (subst (λ k. IsPlace k c.as_slice.result.now i) c.args.here.put.same c.place_for-place.ensures) c.requires.tree in (
      omega (arith, x.2.1.0, c.decreases),
      (
        within.0,
        (
          within.1.0,
          (
            within.1.1,
            (
              subst (λ ks. AreAll (g.C.Chunks.places c.args.chunks.now) (kids_places ks)) (sym c.reserve.ensures.items)
                  (kids_may (g.C.Chunks.places c.args.chunks.now) c.args.here.depth c.args.keys.now.texts
                  (Inner c.args.kids.now) c.args.kids.now
                  (body_pieces c.args.here.depth c.args.keys.now.texts (Inner c.args.kids.now)) refl refl
                  c.requires.node
                  c.requires.places),
              (
                omega (arith, x.3.0, x.2.1.2, ap length c.reserve.ensures.items),
                (
                  subst (λ w. IsPlace c.args.here.put.key.now w i) c.as_slice.ensures
                      (subst (λ k. IsPlace k c.as_slice.result.now i) c.args.here.put.same c.place_for-place.ensures),
                  (
                    omega (arith, x.2.1.0, c.requires.copies),
                    (
                      child_requires p c.args.here.depth c.args.keys.now.texts c.args.kids.now.items
                          c.reserve.new.self.items
                          (body_pieces c.args.here.depth c.args.keys.now.texts (Inner c.args.kids.now))
                          c.args.here.put.key.now i
                          (get_or c.args.kids.now.items i at) x.0 x.1 c.reserve.ensures.items,
                      c.requires.callable,
                    ),
                  ),
                ),
              ),
            ),
          ),
        ),
      ),
    )

pub putting::paths::put_inner-finish-requires-clause-fits : goal.putting::paths::put_inner-finish-requires-clause-fits
putting::paths::put_inner-finish-requires-clause-fits g t c =
    let p = g.C.Chunks.contents c.args.chunks.now in
    let at : OwnChild = Placed (record { bits = 0 }) in
    let i = c.place_for-place.result in
    let x = node_at p c.args.here.depth c.args.keys.now.texts (Inner c.args.kids.now) c.args.kids.now
    (body_pieces c.args.here.depth c.args.keys.now.texts (Inner c.args.kids.now)) c.as_slice.result.now
    c.args.here.put.key.now i at
    refl refl c.requires.node c.as_slice.ensures
    (subst (λ k. IsPlace k c.as_slice.result.now i) c.args.here.put.same c.place_for-place.ensures) c.requires.tree in
    let q = g.C.Chunks.contents c.put_child.new.chunks in
    let child = get_or c.args.kids.now.items i at in
    let keys = c.args.keys.now.texts in
    let kids = c.args.kids.now.items in
    let kk : c.reserve.new.self.items ≡ kids = c.reserve.ensures.items in
    let r = c.in_ok-ready.ensures.put child (ap (λ w. slice_get w i) kk ∙ x.1) in
    let put = subst (λ ks. IsChildPut q (c.args.here.put.copies + 1) (c.args.here.depth - 1) i (get_or keys i [])
    c.args.here.put.key.now r.0 (child_rows p (c.args.here.depth - 1) child) ks c.put_child.new.kids.items child
    c.in_ok-ready.half) kk r.2 in
    let done = put.done in
    let low = c.lower_first.ensures.texts ∙ ap (lowered i c.in_ok-ready.ready.lower) c.put_child.ensures.texts in
    let u = put_path p q c.args.here.depth c.args.here.put.copies keys kids c.put_child.new.kids.items
    (body_pieces c.args.here.depth c.args.keys.now.texts (Inner c.args.kids.now)) c.args.here.put.key.now r.0 i
    child c.in_ok-ready.ready.lower
    c.in_ok-ready.half c.put_child.ensures.grown.0 x.2.1.2 x.0 c.in_ok-ready.ensures.lower done in
    let n : length c.lower_first.new.keys.texts ≡ length keys =
    ap length low ∙ length-lowered i c.in_ok-ready.ready.lower keys in
    record {
      above = c.requires.node.1.0;
      pairs = ap length done.1 ∙ length-set kids i (Own done.0) ∙ x.2.1.2 ∙ sym n;
      few = omega (arith, n, c.requires.node.0.0);
      within = omega (arith, n, x.3.0);
      split = (c.args.here.put.copies, done.5);
      all = subst (λ ks. AllKids (c.args.here.depth - 1)
          (with_half i c.in_ok-ready.half (paired ks c.put_child.new.kids.items))) (sym low) u.all;
      order = subst (λ ks. T (rises (keys_of (with_half i c.in_ok-ready.half (paired ks c.put_child.new.kids.items)))))
          (sym low) u.order;
    }

pub putting::paths::put_inner-finish-requires-clause-keys_room :
    goal.putting::paths::put_inner-finish-requires-clause-keys_room
putting::paths::put_inner-finish-requires-clause-keys_room g t c some =
    omega (arith, c.lower_first.ensures.room, (c.in_ok-ready.ensures.ready some).0)

pub putting::paths::put_inner-finish-requires-clause-kids_room :
    goal.putting::paths::put_inner-finish-requires-clause-kids_room
putting::paths::put_inner-finish-requires-clause-kids_room g t c =
    let p = g.C.Chunks.contents c.args.chunks.now in
    let at : OwnChild = Placed (record { bits = 0 }) in
    let i = c.place_for-place.result in
    let x = node_at p c.args.here.depth c.args.keys.now.texts (Inner c.args.kids.now) c.args.kids.now
    (body_pieces c.args.here.depth c.args.keys.now.texts (Inner c.args.kids.now)) c.as_slice.result.now
    c.args.here.put.key.now i at
    refl refl c.requires.node c.as_slice.ensures
    (subst (λ k. IsPlace k c.as_slice.result.now i) c.args.here.put.same c.place_for-place.ensures) c.requires.tree in
    let q = g.C.Chunks.contents c.put_child.new.chunks in
    let child = get_or c.args.kids.now.items i at in
    let keys = c.args.keys.now.texts in
    let kids = c.args.kids.now.items in
    let kk : c.reserve.new.self.items ≡ kids = c.reserve.ensures.items in
    let r = c.in_ok-ready.ensures.put child (ap (λ w. slice_get w i) kk ∙ x.1) in
    let put = subst (λ ks. IsChildPut q (c.args.here.put.copies + 1) (c.args.here.depth - 1) i (get_or keys i [])
    c.args.here.put.key.now r.0 (child_rows p (c.args.here.depth - 1) child) ks c.put_child.new.kids.items child
    c.in_ok-ready.half) kk r.2 in
    let done = put.done in
    let low = c.lower_first.ensures.texts ∙ ap (lowered i c.in_ok-ready.ready.lower) c.put_child.ensures.texts in
    let n = ap length done.1 ∙ length-set kids i (Own done.0) ∙ sym (ap length kk) in
    omega (
      arith,
      n,
      c.put_child.ensures.kept,
      c.in_ok-reserve.ensures.ok,
      c.put_child.new.kids.ok.0,
      c.reserve.new.self.ok.0,
    )

pub putting::paths::put_inner-finish-requires-clause-room : goal.putting::paths::put_inner-finish-requires-clause-room
putting::paths::put_inner-finish-requires-clause-room g t c some =
    let low = c.lower_first.ensures.texts ∙ ap (lowered c.place_for-place.result c.in_ok-ready.ready.lower)
    c.put_child.ensures.texts in
    subst (λ n. HasRoomIn n c.in_ok-ready.ready.room)
    (sym (ap length low ∙ length-lowered c.place_for-place.result c.in_ok-ready.ready.lower c.args.keys.now.texts))
    (c.in_ok-ready.ensures.ready some).2

pub putting::paths::put_inner-returns-clause-put : goal.putting::paths::put_inner-returns-clause-put
putting::paths::put_inner-returns-clause-put g t c =
    let p = g.C.Chunks.contents c.args.chunks.now in
    let at : OwnChild = Placed (record { bits = 0 }) in
    let i = c.place_for-place.result in
    let depth = c.args.here.depth in
    let keys = c.args.keys.now.texts in
    let kids = c.args.kids.now.items in
    let key = c.args.here.put.key.now in
    let pieces = body_pieces depth keys (Inner c.args.kids.now) in
    let x = node_at p depth keys (Inner c.args.kids.now) c.args.kids.now pieces c.as_slice.result.now key i at
    refl refl c.requires.node c.as_slice.ensures
    (subst (λ k. IsPlace k c.as_slice.result.now i) c.args.here.put.same c.place_for-place.ensures) c.requires.tree in
    let q = g.C.Chunks.contents c.put_child.new.chunks in
    let child = get_or kids i at in
    let new = c.put_child.new.kids.items in
    let half = c.in_ok-ready.half in
    let lower = c.in_ok-ready.ready.lower in
    let kk : c.reserve.new.self.items ≡ kids = c.reserve.ensures.items in
    let r = c.in_ok-ready.ensures.put child (ap (λ w. slice_get w i) kk ∙ x.1) in
    let put = subst (λ ks. IsChildPut q (c.args.here.put.copies + 1) (depth - 1) i (get_or keys i []) key r.0
    (child_rows p (depth - 1) child) ks new child half) kk r.2 in
    let low = c.lower_first.ensures.texts ∙ ap (lowered i lower) c.put_child.ensures.texts in
    let u = put_path p q depth c.args.here.put.copies keys kids new pieces key r.0 i child lower half
    c.put_child.ensures.grown.0 x.2.1.2 x.0 c.in_ok-ready.ensures.lower put.done in
    let is = c.finish.ensures.shape.0 ∙ ap (λ ks. kids_pieces (depth - 1) (with_half i half (paired ks new))) low in
    let same = value_below p depth keys kids pieces key i child x.0 in (
      r.0,
      subst (λ w. Makes (λ f y z. g.F.FnOnce.post f (y, tt) z) c.args.change w (Ok (Puts r.0))) same r.1,
      record {
        shown_is = done_at q (depth - 1) (with_half i half (paired (lowered i lower keys) new)) (shown p pieces)
            x.0.rows key r.0 _ x.0.rows_is is u.shown_is;
        others = inner_among p q depth keys kids new pieces
            (body_pieces depth c.finish.new.keys.texts (Inner c.finish.new.kids) ++ half_pieces c.finish.result) key r.0
            i child lower half put.done.0 x.2.1.2 x.0 refl put.done.1 put.others is;
        renewed = inner_replaced q depth keys c.finish.new.keys.texts kids new c.finish.new.kids.items key i child
            lower half c.finish.result (shown_at (shown p pieces) key) r.0 c.requires.node.1.0 x.2.1.2 x.1 x.3
            c.in_ok-ready.ensures.lower
            (subst (λ f. ChildReplaced q f r.0 (depth - 1) i kids new child half) same put.renewed)
            (subst (λ ks. IsHalved depth c.finish.new.keys.texts c.finish.new.kids.items c.finish.result
            (keys_of (with_half i half (paired ks new))) (values_of (with_half i half (paired ks new)))) low
            c.finish.ensures.parted) c.finish.ensures.whole;
      },
    )

pub putting::paths::put_inner-returns-clause-half : goal.putting::paths::put_inner-returns-clause-half
putting::paths::put_inner-returns-clause-half g t c =
    let p = g.C.Chunks.contents c.args.chunks.now in
    let at : OwnChild = Placed (record { bits = 0 }) in
    let i = c.place_for-place.result in
    let x = node_at p c.args.here.depth c.args.keys.now.texts (Inner c.args.kids.now) c.args.kids.now
    (body_pieces c.args.here.depth c.args.keys.now.texts (Inner c.args.kids.now)) c.as_slice.result.now
    c.args.here.put.key.now i at
    refl refl c.requires.node c.as_slice.ensures
    (subst (λ k. IsPlace k c.as_slice.result.now i) c.args.here.put.same c.place_for-place.ensures) c.requires.tree in
    let q = g.C.Chunks.contents c.put_child.new.chunks in
    let child = get_or c.args.kids.now.items i at in
    let keys = c.args.keys.now.texts in
    let kids = c.args.kids.now.items in
    let kk : c.reserve.new.self.items ≡ kids = c.reserve.ensures.items in
    let r = c.in_ok-ready.ensures.put child (ap (λ w. slice_get w i) kk ∙ x.1) in
    let put = subst (λ ks. IsChildPut q (c.args.here.put.copies + 1) (c.args.here.depth - 1) i (get_or keys i [])
    c.args.here.put.key.now r.0 (child_rows p (c.args.here.depth - 1) child) ks c.put_child.new.kids.items child
    c.in_ok-ready.half) kk r.2 in
    let done = put.done in
    let low = c.lower_first.ensures.texts ∙ ap (lowered i c.in_ok-ready.ready.lower) c.put_child.ensures.texts in
    c.finish.ensures.half c.args.here.put.copies done.5
    (λ some key z. subst (λ ks. AreNinthIn c.args.here.put.copies ks (i + 1) key c.in_ok-ready.ready.room) (sym low)
    (ninth_lowered_in c.args.here.put.copies keys i c.args.here.put.key.now c.in_ok-ready.ready.lower
    c.in_ok-ready.ready.room x.3
    c.in_ok-ready.ensures.lower (c.in_ok-ready.ensures.ready some).1 key z))

pub putting::paths::put_inner-returns-clause-levels : goal.putting::paths::put_inner-returns-clause-levels
putting::paths::put_inner-returns-clause-levels g t c later pre =
    let p = g.C.Chunks.contents c.args.chunks.now in
    let at : OwnChild = Placed (record { bits = 0 }) in
    let i = c.place_for-place.result in
    let x = node_at p c.args.here.depth c.args.keys.now.texts (Inner c.args.kids.now) c.args.kids.now
    (body_pieces c.args.here.depth c.args.keys.now.texts (Inner c.args.kids.now)) c.as_slice.result.now
    c.args.here.put.key.now i at
    refl refl c.requires.node c.as_slice.ensures
    (subst (λ k. IsPlace k c.as_slice.result.now i) c.args.here.put.same c.place_for-place.ensures) c.requires.tree in
    let q = g.C.Chunks.contents c.put_child.new.chunks in
    let child = get_or c.args.kids.now.items i at in
    let keys = c.args.keys.now.texts in
    let kids = c.args.kids.now.items in
    let kk : c.reserve.new.self.items ≡ kids = c.reserve.ensures.items in
    let done = subst (λ ks. ChildHalvesPut q (c.args.here.depth - 1) i ks c.put_child.new.kids.items child
    c.in_ok-ready.half) kk (c.in_ok-ready.ensures.levels child (ap (λ w. slice_get w i) kk ∙ x.1)) in
    let low = c.lower_first.ensures.texts ∙ ap (lowered i c.in_ok-ready.ready.lower) c.put_child.ensures.texts in
    let n = ap length low ∙ length-lowered i c.in_ok-ready.ready.lower keys in
    let now = c.put_child.new.kids.items in
    let m : length now ≡ length keys = ap length done.1 ∙ length-set kids i (Own done.0) ∙ x.2.1.2 in
    put_over later c.args.here.depth keys
    (keys_of (with_half i c.in_ok-ready.half (paired c.lower_first.new.keys.texts now)))
    c.finish.new.keys.texts c.finish.result (kids_levels (c.args.here.depth - 1) kids later) c.finish.new.kids.items
    (values_of (with_half i c.in_ok-ready.half (paired c.lower_first.new.keys.texts now))) c.requires.node.1.0
    (subst (λ ks. ArePut (c.args.here.depth - 1) (kids_levels (c.args.here.depth - 1) kids later)
    (kids_levels (c.args.here.depth - 1) (values_of (with_half i c.in_ok-ready.half (paired ks now))) later)) (sym low)
    (child_put p later c.args.here.depth keys kids now
    (body_pieces c.args.here.depth c.args.keys.now.texts (Inner c.args.kids.now)) c.args.here.put.key.now i child
    c.in_ok-ready.ready.lower c.in_ok-ready.half x.2.1.2 x.0 done.0 done.1 (done.2 later pre)))
    (subst (λ ks. AreFirsts keys (keys_of (with_half i c.in_ok-ready.half (paired ks now)))) (sym low)
    (firsts_are keys now i c.in_ok-ready.ready.lower c.in_ok-ready.half c.args.here.put.key.now x.3
    c.in_ok-ready.ensures.lower m))
    c.finish.ensures.parted
    (subst (λ w. HasKept w (length c.finish.new.keys.texts) c.finish.result) n c.finish.ensures.entries)

pub putting::paths::put_child-returns-in-Own-clause-levels : goal.putting::paths::put_child-returns-in-Own-clause-levels
putting::paths::put_child-returns-in-Own-clause-levels g t c x h =
    let kids = c.args.kids.now.items in
    let child = c.index_mut.result.now in
    let n : Kid = with_value c.in-Own.node c.put_below.new.self in
    let q = g.C.Chunks.contents c.put_below.new.chunks in
    let r = c.requires.tree child (child_at kids c.args.here.place
    (length kids) child refl c.requires.within c.index_mut.ensures.value) in
    let deep : c.in-Own.node.value.depth ≡ c.args.here.depth = subst (HasDepth c.args.here.depth) c.in-Own.is r.1 in
    let e : x ≡ Own c.in-Own.node = indexed_child kids c.args.here.place child x c.requires.within
    c.index_mut.ensures.value
    h ∙ c.in-Own.is in
    if_ok_so c.put_below.result c.put_below.ensures.levels (λ put levels. (
      n,
      refl,
      λ later pre. subst (λ y. ArePut c.args.here.depth (child_levels c.args.here.depth y later)
          (λ i. seen_levels c.put_below.new.self later i ++ half_levels put.1 later i)) (sym e)
          (subst (λ d. ArePut d (seen_levels c.in-Own.node.value later)
          (λ i. seen_levels c.put_below.new.self later i ++ half_levels put.1 later i)) deep
          (subst (λ (s : Seen). HalvesPut q s c.put_below.new.self put.1) c.deref_mut.ensures.value levels later pre)),
    ))

pub putting::paths::put_child-returns-in-Placed-clause-levels :
    goal.putting::paths::put_child-returns-in-Placed-clause-levels
putting::paths::put_child-returns-in-Placed-clause-levels g t c x h =
    let kids = c.args.kids.now.items in
    let child = c.index_mut.result.now in
    let below = c.args.here.depth in
    let p = g.C.Chunks.contents c.args.chunks.now in
    let n : Kid = c.in_ok-ready-in-Placed.node in
    let half = c.in_ok-ready-in-Placed.half in
    let tree = c.requires.tree child (child_at kids c.args.here.place
    (length kids) child refl c.requires.within c.index_mut.ensures.value) in
    let t : IsTree (rows_at p below (stamp_of c.in-Placed.at)) =
    subst (λ y. IsTree (child_rows p below y)) c.in-Placed.is tree.0 in
    let u = c.in_ok-ready-in-Placed.ensures.put below (depth_at p below (stamp_of c.in-Placed.at) t) in
    let e : x ≡ Placed c.in-Placed.at = indexed_child kids c.args.here.place child x c.requires.within
    c.index_mut.ensures.value h ∙ c.in-Placed.is in (
      n,
      set-set kids c.args.here.place (Placed c.in-Placed.at) (Own n),
      λ later pre. subst (λ y. ArePut below (child_levels below y later)
          (λ i. seen_levels n.value later i ++ half_levels half later i)) (sym e) (u.3.levels later pre),
    )

pub putting::paths::put_inner-returns-clause-filled : goal.putting::paths::put_inner-returns-clause-filled
putting::paths::put_inner-returns-clause-filled g t c =
    filled_kids (c.args.here.depth - 1) (paired c.finish.new.keys.texts c.finish.new.kids.items)
    (length-pairs c.finish.new.keys.texts c.finish.new.kids.items c.finish.ensures.shape.1 c.finish.ensures.shape.3)
    c.finish.ensures.shape.4

pub putting::paths::put_child-put_below-requires : goal.putting::paths::put_child-put_below-requires
putting::paths::put_child-put_below-requires g t c κs within =
    let may = g.C.Chunks.places c.args.chunks.now in
    let p = g.C.Chunks.contents c.args.chunks.now in
    let kids = c.args.kids.now.items in
    let child = c.index_mut.result.now in
    let r = c.requires.tree child (child_at kids c.args.here.place
    (length kids) child refl c.requires.within c.index_mut.ensures.value) in
    let v = c.deref_mut.ensures.value in
    let d : c.deref_mut.result.now.depth ≡ c.args.here.depth = ap (λ (s : Seen). s.depth) v ∙ subst
    (HasDepth c.args.here.depth) c.in-Own.is r.1 in (
      omega (arith, d, c.decreases),
      (
        within.0,
        (
          within.1.0,
          (
            within.1.1,
            (
              subst (λ (s : Seen). AreAll may (places_of s.pieces)) (sym v)
                  (own_may may child c.in-Own.node c.in-Own.is
                  (kid_all may kids c.args.here.place child c.requires.within c.index_mut.ensures.value
                  c.requires.places)),
              (
                subst (λ (s : Seen). IsTree (shown p s.pieces)) (sym v)
                    (subst (λ x. IsTree (child_rows p c.args.here.depth x)) c.in-Own.is r.0),
                (c.requires.place, (omega (arith, d, c.requires.copies), c.requires.callable)),
              ),
            ),
          ),
        ),
      ),
    )

pub putting::paths::put_child-returns-in-Own-clause-put : goal.putting::paths::put_child-returns-in-Own-clause-put
putting::paths::put_child-returns-in-Own-clause-put g t c x h =
    let p = g.C.Chunks.contents c.args.chunks.now in
    let q = g.C.Chunks.contents c.put_below.new.chunks in
    let kids = c.args.kids.now.items in
    let below = c.args.here.depth in
    let place = c.args.here.place in
    let first = get_or c.args.keys.now.texts place [] in
    let key = c.args.here.put.key.now in
    let copies = c.args.here.put.copies + 1 in
    let child = c.index_mut.result.now in
    let r = c.requires.tree child (child_at kids place (length kids) child refl c.requires.within
    c.index_mut.ensures.value) in
    let m = c.in-Own.node in
    let n : Kid = with_value m c.put_below.new.self in
    let v = c.deref_mut.ensures.value in
    let deep : m.value.depth ≡ below = subst (HasDepth below) c.in-Own.is r.1 in
    let d : c.deref_mut.result.now.depth ≡ below = ap (λ (s : Seen). s.depth) v ∙ deep in
    let e : x ≡ Own m = indexed_child kids place child x c.requires.within c.index_mut.ensures.value h ∙ c.in-Own.is in
    if_ok c.put_below.result c.put_below.ensures.put c.put_below.ensures.half c.put_below.ensures.filled
    (λ answer put half filled. (
      put.0,
      subst (λ y. Makes (λ f there made. g.F.FnOnce.post f (there, tt) made) c.args.change
          (shown_at (child_rows p below y) key) (Ok (Puts put.0))) (sym e)
          (subst (λ (s : Seen). Makes (λ f there made. g.F.FnOnce.post f (there, tt) made) c.args.change
          (shown_at (shown p s.pieces) key) (Ok (Puts put.0))) v put.1),
      subst (λ y. IsChildPut q copies below place first key put.0 (child_rows p below y) kids
          (set kids place (Own n)) y answer.1) (sym e)
          (own_put q copies below place first key put.0 (shown p m.value.pieces) kids m n answer.1 deep
          (c.put_below.ensures.depth ∙ d) filled (subst (λ w. IsHalf copies w answer.1) d half)
          (subst (λ (s : Seen). IsOwnPut q key put.0 (shown p s.pieces) s.pieces n.value.pieces s.depth
          (seen_levels s) (seen_levels n.value) answer.1) v put.2)),
    ))

pub putting::paths::put_child-put_placed-requires-clause-may :
    goal.putting::paths::put_child-put_placed-requires-clause-may
putting::paths::put_child-put_placed-requires-clause-may g t c =
    let may = g.C.Chunks.places c.args.chunks.now in
    let child = c.index_mut.result.now in
    placed_may may child c.in-Placed.at c.in-Placed.is
    (kid_all may c.args.kids.now.items c.args.here.place child c.requires.within c.index_mut.ensures.value
    c.requires.places)

pub putting::paths::put_child-put_placed-requires-clause-tree :
    goal.putting::paths::put_child-put_placed-requires-clause-tree
putting::paths::put_child-put_placed-requires-clause-tree g t c =
    let p = g.C.Chunks.contents c.args.chunks.now in
    let kids = c.args.kids.now.items in
    let child = c.index_mut.result.now in
    let r = c.requires.tree child (child_at kids c.args.here.place
    (length kids) child refl c.requires.within c.index_mut.ensures.value) in
    let k = stamp_of c.in-Placed.at in
    let tree : IsTree (rows_at p c.args.here.depth k) =
    subst (λ x. IsTree (child_rows p c.args.here.depth x)) c.in-Placed.is r.0 in
    subst IsTree (sym (rows_alone p c.args.here.depth k tree)) tree

pub putting::paths::put_child-put_placed-requires-clause-copies :
    goal.putting::paths::put_child-put_placed-requires-clause-copies
putting::paths::put_child-put_placed-requires-clause-copies g t c d is =
    let p = g.C.Chunks.contents c.args.chunks.now in
    let kids = c.args.kids.now.items in
    let child = c.index_mut.result.now in
    let r = c.requires.tree child (child_at kids c.args.here.place
    (length kids) child refl c.requires.within c.index_mut.ensures.value) in
    let k = stamp_of c.in-Placed.at in
    let tree : IsTree (rows_at p c.args.here.depth k) =
    subst (λ x. IsTree (child_rows p c.args.here.depth x)) c.in-Placed.is r.0 in
    let same : c.args.here.depth ≡ d = some_is (sym (depth_at p c.args.here.depth k tree) ∙ is) in
    omega (arith, same, c.requires.copies)

pub putting::paths::put_child-returns-in-Placed-clause-put :
    goal.putting::paths::put_child-returns-in-Placed-clause-put
putting::paths::put_child-returns-in-Placed-clause-put g t c x h =
    let p = g.C.Chunks.contents c.args.chunks.now in
    let q = g.C.Chunks.contents c.put_placed.new.chunks in
    let may = g.C.Chunks.places c.put_placed.new.chunks in
    let kids = c.args.kids.now.items in
    let below = c.args.here.depth in
    let place = c.args.here.place in
    let first = get_or c.args.keys.now.texts place [] in
    let key = c.args.here.put.key.now in
    let copies = c.args.here.put.copies + 1 in
    let child = c.index_mut.result.now in
    let at = c.in-Placed.at in
    let n : Kid = c.in_ok-ready-in-Placed.node in
    let half = c.in_ok-ready-in-Placed.half in
    let r = c.requires.tree child (child_at kids place (length kids) child refl c.requires.within
    c.index_mut.ensures.value) in
    let tree : IsTree (rows_at p below (stamp_of at)) =
    subst (λ y. IsTree (child_rows p below y)) c.in-Placed.is r.0 in
    let same = rows_alone p below (stamp_of at) tree in
    let u = c.in_ok-ready-in-Placed.ensures.put below (depth_at p below (stamp_of at) tree) in
    let new = set (set kids place (Placed at)) place (Own n) in
    let e : x ≡ Placed at = indexed_child kids place child x c.requires.within c.index_mut.ensures.value
    h ∙ c.in-Placed.is in (
      u.0,
      subst (λ y. Makes (λ f there made. g.F.FnOnce.post f (there, tt) made) c.args.change
          (shown_at (child_rows p below y) key) (Ok (Puts u.0))) (sym e)
          (subst (λ z. Makes (λ f there made. g.F.FnOnce.post f (there, tt) made) c.args.change
          (shown_at z key) (Ok (Puts u.0))) same u.1),
      subst (λ y. IsChildPut q copies below place first key u.0 (child_rows p below y) kids new y half) (sym e)
          (placed_put p q may copies below place first key u.0 kids new at n half c.put_placed.ensures.grown.0 tree
          (set-set kids place (Placed at) (Own n)) u.2 u.3),
    )

pub putting::paths::put_inner-returns-clause-entries : goal.putting::paths::put_inner-returns-clause-entries
putting::paths::put_inner-returns-clause-entries g t c =
    let keys = c.args.keys.now.texts in
    let i = c.place_for-place.result in
    let low = ap length (c.lower_first.ensures.texts ∙ ap
    (lowered i c.in_ok-ready.ready.lower) c.put_child.ensures.texts) ∙ length-lowered i
    c.in_ok-ready.ready.lower keys in
    subst (λ n. HasKept n (length c.finish.new.keys.texts) c.finish.result) low c.finish.ensures.entries

pub putting::paths::put_child-returns-in-Own-clause-err : goal.putting::paths::put_child-returns-in-Own-clause-err
putting::paths::put_child-returns-in-Own-clause-err g t c =
    on_err c.put_below.result c.put_below.ensures.err
    (λ e. written_back c.args.kids.now.items c.args.here.place c.index_mut.result.now c.in-Own.node c.put_below.new.self
    c.index_mut.ensures.value c.in-Own.is (e ∙ c.deref_mut.ensures.value))

-- REFERENCES

pub putting::paths::put_inner-returns-clause-places : goal.putting::paths::put_inner-returns-clause-places
putting::paths::put_inner-returns-clause-places g t c =
    let p = g.C.Chunks.contents c.args.chunks.now in
    let at : OwnChild = Placed (record { bits = 0 }) in
    let i = c.place_for-place.result in
    let x = node_at p c.args.here.depth c.args.keys.now.texts (Inner c.args.kids.now) c.args.kids.now
    (body_pieces c.args.here.depth c.args.keys.now.texts (Inner c.args.kids.now)) c.as_slice.result.now
    c.args.here.put.key.now i at
    refl refl c.requires.node c.as_slice.ensures
    (subst (λ k. IsPlace k c.as_slice.result.now i) c.args.here.put.same c.place_for-place.ensures) c.requires.tree in
    let q = g.C.Chunks.contents c.put_child.new.chunks in
    let at_q = g.C.Chunks.places c.put_child.new.chunks in
    let child = get_or c.args.kids.now.items i at in
    let keys = c.args.keys.now.texts in
    let kids = c.args.kids.now.items in
    let kk : c.reserve.new.self.items ≡ kids = c.reserve.ensures.items in
    let r = c.in_ok-ready.ensures.put child (ap (λ w. slice_get w i) kk ∙ x.1) in
    let put = subst (λ ks. IsChildPut q (c.args.here.put.copies + 1) (c.args.here.depth - 1) i (get_or keys i [])
    c.args.here.put.key.now r.0 (child_rows p (c.args.here.depth - 1) child) ks c.put_child.new.kids.items child
    c.in_ok-ready.half) kk r.2 in
    let done = put.done in
    let low = c.lower_first.ensures.texts ∙ ap (lowered i c.in_ok-ready.ready.lower) c.put_child.ensures.texts in
    let n : length c.put_child.new.kids.items ≡ length c.lower_first.new.keys.texts =
    ap length done.1 ∙ length-set kids i (Own done.0) ∙ x.2.1.2 ∙ sym
    (ap length low ∙ length-lowered i c.in_ok-ready.ready.lower keys) in
    let here : kids_places c.reserve.new.self.items
    ≡ places_of (body_pieces c.args.here.depth c.args.keys.now.texts (Inner c.args.kids.now)) =
    ap kids_places kk ∙ sym (own-places c.args.here.depth keys (Inner c.args.kids.now) c.args.kids.now
    (body_pieces c.args.here.depth c.args.keys.now.texts (Inner c.args.kids.now)) refl refl x.2.1.2) in
    kept-finished at_q (places_of (body_pieces c.args.here.depth c.args.keys.now.texts (Inner c.args.kids.now)))
    (c.args.here.depth - 1) i c.in_ok-ready.half c.lower_first.new.keys.texts c.put_child.new.kids.items _ n
    c.finish.ensures.shape.0
    (subst (λ w. AreKept at_q w (kids_places c.put_child.new.kids.items ++ places_of (half_pieces c.in_ok-ready.half)))
    here c.in_ok-ready.ensures.places)

pub putting::paths::put_child-returns-in-Own-clause-places : goal.putting::paths::put_child-returns-in-Own-clause-places
putting::paths::put_child-returns-in-Own-clause-places g t c =
    let kids = c.args.kids.now.items in
    let child = c.index_mut.result.now in
    let at_q = g.C.Chunks.places c.put_below.new.chunks in
    let n : Kid = with_value c.in-Own.node c.put_below.new.self in
    if_ok_so c.put_below.result c.put_below.ensures.places
    (λ put kept. kept-kid at_q kids c.args.here.place child n (half_pieces put.1) c.requires.within
    c.index_mut.ensures.value
    (subst (λ (x : OwnChild). AreKept at_q (child_places x)
    (places_of (c.put_below.new.self.pieces ++ half_pieces put.1)))
    (sym c.in-Own.is)
    (subst (λ (s : Seen). AreKept at_q (places_of s.pieces)
    (places_of (c.put_below.new.self.pieces ++ half_pieces put.1))) c.deref_mut.ensures.value kept)))

pub putting::paths::put_child-returns-in-Placed-clause-places :
    goal.putting::paths::put_child-returns-in-Placed-clause-places
putting::paths::put_child-returns-in-Placed-clause-places g t c =
    let p = g.C.Chunks.contents c.args.chunks.now in
    let kids = c.args.kids.now.items in
    let child = c.index_mut.result.now in
    let at = c.in-Placed.at in
    let at_q = g.C.Chunks.places c.put_placed.new.chunks in
    let n : Kid = c.in_ok-ready-in-Placed.node in
    let half = half_pieces c.in_ok-ready-in-Placed.half in
    let r = c.requires.tree child (child_at kids c.args.here.place
    (length kids) child refl c.requires.within c.index_mut.ensures.value) in
    let tree : IsTree (rows_at p c.args.here.depth (stamp_of at)) =
    subst (λ y. IsTree (child_rows p c.args.here.depth y)) c.in-Placed.is r.0 in
    let u = c.in_ok-ready-in-Placed.ensures.put c.args.here.depth (depth_at p c.args.here.depth (stamp_of at) tree) in
    subst (λ ks. AreKept at_q (kids_places kids) (kids_places ks ++ places_of half))
    (sym (set-set kids c.args.here.place (Placed at) (Own n)))
    (kept-kid at_q kids c.args.here.place child n half c.requires.within c.index_mut.ensures.value
    (kept-from_none at_q (child_places child) (places_of (n.value.pieces ++ half)) u.3.kept))

pub putting::paths::put_inner-returns-clause-node : goal.putting::paths::put_inner-returns-clause-node
putting::paths::put_inner-returns-clause-node g t c = let s = c.finish.ensures.shape in
    (s.2, (c.requires.node.1.0, s.3, s.1, s.4))

-- a chunk's own, by its body

pub OwnNode::put-returns-in-Leaf-clause-filled : goal.OwnNode::put-returns-in-Leaf-clause-filled
OwnNode::put-returns-in-Leaf-clause-filled g t c =
    on_ok c.put_leaf.result c.put_leaf.ensures.leaf
    (λ leaf. filled_pairs c.put_leaf.new.keys.texts c.put_leaf.new.values.items leaf.1 leaf.2)

pub OwnNode::put-returns-in-Leaf-clause-put : goal.OwnNode::put-returns-in-Leaf-clause-put
OwnNode::put-returns-in-Leaf-clause-put g t c =
    let p = g.C.Chunks.contents c.args.chunks.now in
    let depth = c.self.inside.depth in
    let keys = c.self.inside.keys.texts in
    let body = c.self.inside.body in
    let values = c.in-Leaf.values in
    let key = c.args.put.key.now in
    let view = ap (λ (s : Seen). s.pieces) c.self.view_is in
    let rows = paired keys values.items in
    let new = row_pieces (paired c.put_leaf.new.keys.texts c.put_leaf.new.values.items) in
    let was = leaf_rows p depth keys body values c.args.self.now.pieces view c.in-Leaf.is in
    let pieces_are : c.args.self.now.pieces ≡ row_pieces rows = sym view ∙ ap (body_pieces depth keys) c.in-Leaf.is in
    if_ok_so c.put_leaf.result c.put_leaf.ensures.put (λ half put.
    let u = rows_put p key put.0 rows c.args.self.now.pieces new half pieces_are put.2 in (
      put.0,
      subst (λ z. Makes (λ f there made. g.F.FnOnce.post f (there, tt) made) c.args.change (shown_at z key)
          (Ok (Puts put.0))) (sym was) put.1,
      record {
        shown_is = u.0;
        others = u.1;
        renewed = λ there.
            let r = put.3 (subst (λ z. IsSome (shown_at z key)) was there) in (
              λ same. r.0 (ap (λ z. shown_at z key) (sym was) ∙ same),
              r.2,
              subst (λ ks. RenewedLater p c.args.self.now.depth (seen_levels c.args.self.now)
                  (λ q. levels_of q (own 0 (leaf_keys ks) ∷ [])))
                  (sym r.1) (leaf_kept-levels p c.args.self.now.depth depth keys body values c.args.self.now
                  (ap (λ (s : Seen). s.marks) c.self.view_is) c.in-Leaf.is),
            );
      },
    ))

pub OwnNode::put-returns-in-Leaf-clause-half : goal.OwnNode::put-returns-in-Leaf-clause-half
OwnNode::put-returns-in-Leaf-clause-half g t c =
    let n = leaf_counts c.self.inside.depth c.self.inside.keys.texts c.self.inside.body c.in-Leaf.values c.in-Leaf.is
    c.self.invariant in
    subst (λ d. IfOk c.put_leaf.result (IsHalf c.args.put.copies d))
    (sym n ∙ ap (λ (s : Seen). s.depth) c.self.view_is) c.put_leaf.ensures.half

pub OwnNode::put-returns-in-Leaf-clause-entries : goal.OwnNode::put-returns-in-Leaf-clause-entries
OwnNode::put-returns-in-Leaf-clause-entries g t c =
    subst (λ n. IfOk c.put_leaf.result (HasKept n (length c.put_leaf.new.keys.texts)))
    (ap (λ (s : Seen). s.entries) c.self.view_is) c.put_leaf.ensures.entries

pub OwnNode::put-returns-in-Leaf-clause-places : goal.OwnNode::put-returns-in-Leaf-clause-places
OwnNode::put-returns-in-Leaf-clause-places g t c =
    let at_p = g.C.Chunks.places c.args.chunks.now in
    let old = places_of c.args.self.now.pieces in
    if_ok_so c.put_leaf.result c.put_leaf.ensures.put
    (λ half put.
    let rows = finite.put (slice_cmp nat_cmp) c.args.put.key.now put.0
    (paired c.self.inside.keys.texts c.in-Leaf.values.items) in
    subst (λ ps. AreKept at_p old (places_of ps)) (sym put.2)
    (subst (AreKept at_p old) (sym (places-rows rows)) (kept-none at_p old)))

pub OwnNode::put-returns-in-Leaf-clause-unput : goal.OwnNode::put-returns-in-Leaf-clause-unput
OwnNode::put-returns-in-Leaf-clause-unput g t c =
    let stops = g.C.Chunks.stops in
    let key = c.args.put.key.now in
    let was = leaf_rows (g.C.Chunks.contents c.args.chunks.now) c.self.inside.depth c.self.inside.keys.texts
    c.self.inside.body c.in-Leaf.values c.args.self.now.pieces (ap (λ (s : Seen). s.pieces) c.self.view_is)
    c.in-Leaf.is in
    subst (λ z. IfErr c.put_leaf.result (IsUnput (λ made. Makes (λ f there m. g.F.FnOnce.post f (there, tt) m)
    c.args.change (shown_at z key) made) stops (shown_at z key))) (sym was)
    (unput_anyhow (λ made. Makes (λ f there m. g.F.FnOnce.post f (there, tt) m) c.args.change
    (finite.find (slice_cmp nat_cmp) key (paired c.self.inside.keys.texts c.in-Leaf.values.items)) made) stops _
    c.put_leaf.result c.put_leaf.ensures.unput)

pub OwnNode::put-put_inner-requires : goal.OwnNode::put-put_inner-requires
OwnNode::put-put_inner-requires g t c κs within =
    let p = g.C.Chunks.contents c.args.chunks.now in
    let inner : IsNode c.self.inside.depth c.self.inside.keys.texts (Inner c.in-Inner.kids) = subst
    (IsNode c.self.inside.depth c.self.inside.keys.texts) c.in-Inner.is c.self.invariant in
    let here = ap (λ (s : Seen). s.depth) c.self.view_is in
    let view = ap (body_pieces c.self.inside.depth c.self.inside.keys.texts) (sym c.in-Inner.is) ∙ ap
    (λ (s : Seen). s.pieces) c.self.view_is in
    let may = g.C.Chunks.places c.args.chunks.now in (
      omega (arith, here, c.decreases),
      (
        within.0,
        (
          within.1.0,
          (
            within.1.1,
            (
              subst (λ ps. AreAll may (places_of ps)) (sym view) c.requires.places,
              (
                inner,
                (
                  subst (λ ps. IsTree (shown p ps)) (sym view) c.requires.tree,
                  (omega (arith, here, c.requires.copies), c.requires.callable),
                ),
              ),
            ),
          ),
        ),
      ),
    )

pub OwnNode::put-returns-in-Inner-clause-put : goal.OwnNode::put-returns-in-Inner-clause-put
OwnNode::put-returns-in-Inner-clause-put g t c =
    let p = g.C.Chunks.contents c.args.chunks.now in
    let q = g.C.Chunks.contents c.put_inner.new.chunks in
    let depth = c.self.inside.depth in
    let keys = c.self.inside.keys.texts in
    let kids = c.in-Inner.kids.items in
    let texts = c.put_inner.new.keys.texts in
    let now = c.put_inner.new.kids.items in
    let key = c.args.put.key.now in
    let view = ap (body_pieces depth keys) (sym c.in-Inner.is) ∙ ap (λ (s : Seen). s.pieces) c.self.view_is in
    let was = ap (body_marks depth keys) (sym c.in-Inner.is) ∙ ap (λ (s : Seen). s.marks) c.self.view_is in
    let new = body_pieces depth texts (Inner c.put_inner.new.kids) in
    let here = ap (λ (s : Seen). s.depth) c.self.view_is in
    if_ok_so c.put_inner.result c.put_inner.ensures.put (λ half put. (
      put.0,
      subst (λ ps. Makes (λ f there made. g.F.FnOnce.post f (there, tt) made) c.args.change
          (shown_at (shown p ps) key) (Ok (Puts put.0))) view put.1,
      record {
        shown_is = put.2.shown_is ∙ ap (λ ps. Some (finite.put (slice_cmp nat_cmp) key put.0
            (rows_or (shown p ps)))) view;
        others = subst (λ ps. ArePutAmong q key put.0 ps (new ++ half_pieces half)) view put.2.others;
        renewed = λ there.
            let u = put.2.renewed (subst (λ ps. IsSome (shown_at (shown p ps) key)) (sym view) there) in (
              λ same. u.0 (ap (λ ps. shown_at (shown p ps) key) view ∙ same),
              u.1,
              λ later pre level. subst (λ ms. AreChanged (level < c.args.self.now.depth) IsRenewed
                  (levels_of later ms level)
                  (levels_of later (own 0 (parting texts) ∷ sunk (kids_marks (depth - 1) now)) level)) was
                  (changed_as (level < c.args.self.now.depth) IsRenewed
                  (topped (None, parting keys) (kids_levels (depth - 1) kids later) level)
                  (topped (None, parting texts) (kids_levels (depth - 1) now later) level)
                  (levels_of later (own 0 (parting keys) ∷ sunk (kids_marks (depth - 1) kids)) level)
                  (levels_of later (own 0 (parting texts) ∷ sunk (kids_marks (depth - 1) now)) level)
                  (inner-levels later (depth - 1) (parting keys) kids level)
                  (inner-levels later (depth - 1) (parting texts) now level)
                  (subst (λ d. AreChanged (level < d) IsRenewed
                  (topped (None, parting keys) (kids_levels (depth - 1) kids later) level)
                  (topped (None, parting texts) (kids_levels (depth - 1) now later) level)) here
                  (u.2 later pre level))),
            );
      },
    ))

pub OwnNode::put-returns-in-Inner-clause-half : goal.OwnNode::put-returns-in-Inner-clause-half
OwnNode::put-returns-in-Inner-clause-half g t c = subst (λ d. IfOk c.put_inner.result (IsHalf c.args.put.copies d))
    (ap (λ (s : Seen). s.depth) c.self.view_is) c.put_inner.ensures.half

pub OwnNode::put-returns-in-Inner-clause-places : goal.OwnNode::put-returns-in-Inner-clause-places
OwnNode::put-returns-in-Inner-clause-places g t c =
    let at_q = g.C.Chunks.places c.put_inner.new.chunks in
    let view = ap (body_pieces c.self.inside.depth c.self.inside.keys.texts) (sym c.in-Inner.is) ∙ ap
    (λ (s : Seen). s.pieces) c.self.view_is in
    let new = body_pieces c.self.inside.depth c.put_inner.new.keys.texts (Inner c.put_inner.new.kids) in
    subst (λ ps. IfOk c.put_inner.result (λ half. AreKept at_q (places_of ps) (places_of (new ++ half_pieces half))))
    view c.put_inner.ensures.places

pub OwnNode::put-returns-in-Inner-clause-entries : goal.OwnNode::put-returns-in-Inner-clause-entries
OwnNode::put-returns-in-Inner-clause-entries g t c =
    subst (λ n. IfOk c.put_inner.result (HasKept n (length c.put_inner.new.keys.texts)))
    (ap (λ (s : Seen). s.entries) c.self.view_is) c.put_inner.ensures.entries

pub OwnNode::put-returns-in-Inner-clause-err : goal.OwnNode::put-returns-in-Inner-clause-err
OwnNode::put-returns-in-Inner-clause-err g t c =
    let depth = c.self.inside.depth in
    let seen : Body → Seen = λ b. record {
      depth = depth;
      entries = length c.self.inside.keys.texts;
      pieces = body_pieces depth c.self.inside.keys.texts b;
      height = body_height b;
      marks = body_marks depth c.self.inside.keys.texts b;
    } in
    on_err c.put_inner.result c.put_inner.ensures.err
    (λ e. inner_same depth c.put_inner.new.keys.texts c.self.inside.keys.texts c.put_inner.new.kids.items
    c.in-Inner.kids.items e.0 e.1 ∙ ap seen (sym c.in-Inner.is) ∙ c.self.view_is)

pub OwnNode::put-returns-in-Leaf-clause-levels : goal.OwnNode::put-returns-in-Leaf-clause-levels
OwnNode::put-returns-in-Leaf-clause-levels g t c =
    let keys = c.self.inside.keys.texts in
    let texts = c.put_leaf.new.keys.texts in
    let was = ap (body_marks c.self.inside.depth keys) (sym c.in-Leaf.is) ∙ ap (λ (s : Seen). s.marks)
    c.self.view_is in
    let n = leaf_counts c.self.inside.depth keys c.self.inside.body c.in-Leaf.values c.in-Leaf.is c.self.invariant in
    if_ok_both c.put_leaf.result c.put_leaf.ensures.keys c.put_leaf.ensures.entries (λ half put kept later pre.
    subst (λ d. ArePut d (seen_levels c.args.self.now later)
    (λ i. levels_of later (own 0 (leaf_keys texts) ∷ []) i ++ half_levels half later i))
    (sym n ∙ ap (λ (s : Seen). s.depth) c.self.view_is)
    (subst (λ ms. ArePut 1 (levels_of later ms)
    (λ i. levels_of later (own 0 (leaf_keys texts) ∷ []) i ++ half_levels half later i)) was
    (leaf_put_levels later keys texts half kept put)))

pub OwnNode::put-returns-in-Inner-clause-levels : goal.OwnNode::put-returns-in-Inner-clause-levels
OwnNode::put-returns-in-Inner-clause-levels g t c =
    let depth = c.self.inside.depth in
    let keys = c.self.inside.keys.texts in
    let kids = c.in-Inner.kids.items in
    let texts = c.put_inner.new.keys.texts in
    let now = c.put_inner.new.kids.items in
    let was = ap (body_marks depth keys) (sym c.in-Inner.is) ∙ ap (λ (s : Seen). s.marks) c.self.view_is in
    if_ok_so c.put_inner.result c.put_inner.ensures.levels (λ half put later pre.
    subst (λ d. ArePut d (seen_levels c.args.self.now later)
    (λ i. levels_of later (own 0 (parting texts) ∷ sunk (kids_marks (depth - 1) now)) i ++ half_levels half later i))
    (ap (λ (s : Seen). s.depth) c.self.view_is)
    (subst (λ ms. ArePut depth (levels_of later ms)
    (λ i. levels_of later (own 0 (parting texts) ∷ sunk (kids_marks (depth - 1) now)) i ++ half_levels half later i))
    was
    (put_as depth (topped (None, parting keys) (kids_levels (depth - 1) kids later))
    (λ i. topped (None, parting texts) (kids_levels (depth - 1) now later) i ++ half_levels half later i)
    (levels_of later (own 0 (parting keys) ∷ sunk (kids_marks (depth - 1) kids)))
    (λ i. levels_of later (own 0 (parting texts) ∷ sunk (kids_marks (depth - 1) now)) i ++ half_levels half later i)
    (inner-levels later (depth - 1) (parting keys) kids)
    (λ i. ap (λ w. w ++ half_levels half later i) (inner-levels later (depth - 1) (parting texts) now i))
    (put later pre))))

-- WHY IT ISN'T PUT

pub putting::paths::put_child-returns-in-Own-clause-unput : goal.putting::paths::put_child-returns-in-Own-clause-unput
putting::paths::put_child-returns-in-Own-clause-unput g t c x h =
    let p = g.C.Chunks.contents c.args.chunks.now in
    let key = c.args.here.put.key.now in
    let e : x ≡ Own c.in-Own.node = indexed_child c.args.kids.now.items c.args.here.place c.index_mut.result.now x
    c.requires.within c.index_mut.ensures.value h ∙ c.in-Own.is in
    let unput = λ (z : Option Rows). IfErr c.put_below.result (IsUnput (λ made.
    Makes (λ f there m. g.F.FnOnce.post f (there, tt) m) c.args.change (shown_at z key) made) g.C.Chunks.stops
    (shown_at z key)) in
    subst (λ y. unput (child_rows p c.args.here.depth y)) (sym e)
    (subst (λ (s : Seen). unput (shown p s.pieces)) c.deref_mut.ensures.value c.put_below.ensures.unput)

pub putting::paths::put_child-returns-in_err-ready-in-Placed-clause-unput :
    goal.putting::paths::put_child-returns-in_err-ready-in-Placed-clause-unput
putting::paths::put_child-returns-in_err-ready-in-Placed-clause-unput g t c x h =
    let p = g.C.Chunks.contents c.args.chunks.now in
    let kids = c.args.kids.now.items in
    let below = c.args.here.depth in
    let key = c.args.here.put.key.now in
    let child = c.index_mut.result.now in
    let k = stamp_of c.in-Placed.at in
    let e : x ≡ Placed c.in-Placed.at = indexed_child kids c.args.here.place child x c.requires.within
    c.index_mut.ensures.value h ∙ c.in-Placed.is in
    let r = c.requires.tree child (child_at kids c.args.here.place
    (length kids) child refl c.requires.within c.index_mut.ensures.value) in
    let tree : IsTree (rows_at p below k) = subst (λ y. IsTree (child_rows p below y)) c.in-Placed.is r.0 in
    let there : chunk_rows p k ≡ child_rows p below x = rows_alone p below k tree ∙ ap (child_rows p below) (sym e) in
    let unput = λ (z : Option Rows). IsUnput (λ made.
    Makes (λ f there m. g.F.FnOnce.post f (there, tt) m) c.args.change (shown_at z key) made) g.C.Chunks.stops
    (shown_at z key) in
    let why = subst (λ z. IfErr c.put_placed.result (unput z)) there c.put_placed.ensures.unput in
    handed_on c.from_residual.result c.from_residual.ensures.1
    (λ w is. subst (unput (child_rows p below x)) (sym is)
    (subst (λ o. IfErr o (unput (child_rows p below x))) c.in_err-ready-in-Placed.was why))

pub putting::paths::put_inner-returns-in_err-ready-clause-unput :
    goal.putting::paths::put_inner-returns-in_err-ready-clause-unput
putting::paths::put_inner-returns-in_err-ready-clause-unput g t c =
    let p = g.C.Chunks.contents c.args.chunks.now in
    let at : OwnChild = Placed (record { bits = 0 }) in
    let i = c.place_for-place.result in
    let depth = c.args.here.depth in
    let keys = c.args.keys.now.texts in
    let kids = c.args.kids.now.items in
    let key = c.args.here.put.key.now in
    let pieces = body_pieces depth keys (Inner c.args.kids.now) in
    let x = node_at p depth keys (Inner c.args.kids.now) c.args.kids.now pieces c.as_slice.result.now key i at
    refl refl c.requires.node c.as_slice.ensures
    (subst (λ k. IsPlace k c.as_slice.result.now i) c.args.here.put.same c.place_for-place.ensures) c.requires.tree in
    let child = get_or kids i at in
    let unput = λ (found : Option Bytes). IsUnput (λ made.
    Makes (λ f there m. g.F.FnOnce.post f (there, tt) m) c.args.change found made) g.C.Chunks.stops found in
    let why = subst (λ f. IfErr c.put_child.result (unput f))
    (value_below p depth keys kids pieces key i child x.0)
    (c.put_child.ensures.unput child (ap (λ w. slice_get w i) c.reserve.ensures.items ∙ x.1)) in
    handed_on c.from_residual-in_err-ready.result c.from_residual-in_err-ready.ensures.1
    (λ w is. subst (unput (shown_at (shown p pieces) key)) (sym is)
    (subst (λ o. IfErr o (unput (shown_at (shown p pieces) key))) c.in_err-ready.was why))

-- a chunk that has an upper half was full
was_full : (old new : ℕ) (half : Option Half) → HasKept old new half → IsSome half → 16 ≤ old
was_full old new None k some = absurd cc
was_full old new (Some h) k some = omega (arith, k.0)

pub OwnNode::put_below-returns-clause-ready : goal.OwnNode::put_below-returns-clause-ready
OwnNode::put_below-returns-clause-ready g t c some =
    let full = was_full c.args.self.now.entries c.put.new.self.entries c.in_ok-half.half c.in_ok-half.ensures.entries
    some in
    let long : 16 ≤ length c.as_slice.result.now = omega
    (arith, full, ap (λ (s : Seen). s.entries) c.self.view_is, ap length c.as_slice.ensures) in
    c.in_ok-ready.ensures.ready (le-leb 16 (length c.as_slice.result.now) long)
