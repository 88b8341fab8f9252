use Rattle.std.proofs.Common.{◌∙◌, ap, length, subst, Some, nat_cmp}
use Rattle.std.specs.Cmp.Lexicographic.{slice_cmp}
use Rattle.std.specs.FinMap as finite
use Rattle.map_chunks.specs.Shown.{Seen, shown, rows_or}
use Rattle.map_chunks.proofs.OpenLemmas.{known}
use Rattle.map_nodes.proofs.LeafLemmas.{put-strict}
use Rattle.map_nodes.proofs.RenewLemmas.{put_topped}
use Rattle.map_nodes.proofs.RootLemmas.{begins_least, can_rise}
use Rattle.map_nodes.specs.Inside.Halves.{least, IsHalf}
use Rattle.map_nodes.specs.Inside.Rising.{IsAboveTaken}
use Rattle.map_nodes.proofs.nodes.OwnNode.put_full.Goals as goal

pub risen-requires : goal.risen-requires
risen-requires g c =
    let p = g.C.Chunks.contents c.args.chunks.now in
    let q = g.C.Chunks.contents c.put.new.chunks in
    let key = c.args.put.key.now in
    let old = c.args.self.now in
    let keys = c.self.inside.keys.texts in
    let n = known (shown p old.pieces) c.requires.tree in
    let made = c.in_ok-half.ensures in
    let v = made.put.0 in
    let b = begins_least p c.self.inside.depth keys c.self.inside.body n.rows key v c.self.invariant
    (ap (shown p) (ap (λ (s : Seen). s.pieces) c.self.view_is) ∙ n.is) in
    let texts = ap (least key) c.as_slice.ensures in
    let long = ap (λ w. length w) c.as_slice.ensures ∙ ap (λ (s : Seen). s.entries) c.self.view_is in
    can_rise q (finite.put (slice_cmp nat_cmp) key v n.rows) (least key keys) old c.put.new.self c.in_ok-above.above
    c.in_ok-half.half c.requires.depth c.put.ensures.depth
    (subst (λ w. IsHalf w old.depth c.in_ok-half.half) c.requires.copies made.half)
    (made.put.2.shown_is ∙ ap (λ z. Some (finite.put (slice_cmp nat_cmp) key v (rows_or z))) n.is)
    (put-strict key v n.rows n.order) b made.filled made.entries
    (subst (λ w. IsAboveTaken w (least key keys) c.in_ok-above.above) long
    (subst (λ w. IsAboveTaken (length c.as_slice.result.now) w c.in_ok-above.above) texts c.in_ok-above.ensures))

pub returns-clause-put : goal.returns-clause-put
returns-clause-put g c =
    let p = g.C.Chunks.contents c.args.chunks.now in
    let q = g.C.Chunks.contents c.put.new.chunks in
    let made = c.in_ok-half.ensures in
    let z = made.put in (
      z.0,
      z.1,
      put_topped p q (g.C.Chunks.places c.put.new.chunks) c.args.put.key.now z.0 c.args.self.now c.put.new.self
          c.risen.new.self c.in_ok-half.half c.put.ensures.depth z.2 made.places made.entries made.levels
          c.risen.ensures,
    )
