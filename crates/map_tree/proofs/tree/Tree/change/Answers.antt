use Rattle.std.proofs.Common.{Ok, Err, inl, inr, Some, ap, subst, sym, ◌∙◌, ◌≡◌, ◌⊎◌, rules}
use Rattle.std.specs.Prelude.{option_and_then, IfErr}
use Rattle.std.specs.Ordering.{nat_cmp}
use Rattle.std.specs.Cmp.Lexicographic.{slice_cmp}
use Rattle.std.specs.FinMap as finite
use Rattle.group_history.specs.declared.mutators.Stop.TheVariants.{NoMemory}
use Rattle.group_history.specs.Refs.{stamp_of}
use Rattle.map_chunks.proofs.AnswerLemmas.{if_ok_so}
use Rattle.map_chunks.proofs.TreeLemmas.{value_of_map}
use Rattle.map_chunks.specs.Shown.{chunk_rows, map_of_rows, rows_or, shown}
use Rattle.map_nodes.proofs.WayLemmas.{err_so}
use Rattle.map_nodes.specs.Changes.{Makes}
use Rattle.map_tree.specs.Puts.{settled, IsUpdate}
use Rattle.map_tree.specs.Trees.{root_map}
use Rattle.map_tree.specs.declared.tree.Root.TheVariants.{Placed}
use Rattle.map_tree.specs.declared.tree.Tree.{Tree}
use Rattle.map_tree.proofs.PutTrees.{own_update, placed_spells, placed_update}
use Rattle.map_tree.proofs.tree.Tree.change.Goals as goal

pub returns-in_err-updated-in-Placed-clause-stopped : goal.returns-in_err-updated-in-Placed-clause-stopped
returns-in_err-updated-in-Placed-clause-stopped g c m h =
    let p = g.C.Chunks.contents c.args.chunks.now in
    let k = stamp_of c.in-Placed.at in
    let v = value_of_map (chunk_rows p k) m c.args.key.now
    (placed_spells p c.args.self.now c.in-Placed.at m c.in-Placed.is h) in
    let e = c.in_err-updated-in-Placed.field-0 in
    let s : IfErr c.from_residual.result (λ e. (e ≡ NoMemory) ⊎ g.C.Chunks.stops e
    ⊎ Makes (λ f there made. g.F.FnOnce.post f (there, tt) made) c.args.change
    (finite.find (slice_cmp nat_cmp) c.args.key.now (rows_or (chunk_rows p k))) (Err e)) = search rules in
    err_so c.from_residual.result s (λ e z. elim z [
      | inl x ↦ inl x
      | inr y ↦ elim y [
        | inl x ↦ inr (inl x)
        | inr f ↦ inr
            (inr (subst (λ w. Makes (λ f there made. g.F.FnOnce.post f (there, tt) made) c.args.change w (Err e)) v f))
      ]
    ])

pub returns-in-Own-clause-updated : goal.returns-in-Own-clause-updated
returns-in-Own-clause-updated g c m h =
    let p = g.C.Chunks.contents c.args.chunks.now in
    let n = c.in-Own.node in
    let h' : option_and_then map_of_rows (shown p n.pieces) ≡ Some m = ap (root_map p) (sym c.in-Own.is) ∙ h in
    if_ok_so c.write.result c.write.ensures.put (λ ran z. (
      z.0,
      subst (λ w. Makes (λ f there made. g.F.FnOnce.post f (there, tt) made) c.args.change w (Ok z.0))
          (value_of_map (shown p n.pieces) m c.args.key.now h')
          z.1,
      own_update p (g.C.Chunks.contents c.write.new.chunks) (g.C.Chunks.places c.write.new.chunks)
          c.args.self.now n c.write.new.self m c.args.key.now z.0 ran c.in-Own.is h z.2,
    ))

pub returns-in-Own-clause-stopped : goal.returns-in-Own-clause-stopped
returns-in-Own-clause-stopped g c m h =
    let p = g.C.Chunks.contents c.args.chunks.now in
    let n = c.in-Own.node in
    let h' : option_and_then map_of_rows (shown p n.pieces) ≡ Some m = ap (root_map p) (sym c.in-Own.is) ∙ h in
    err_so c.write.result c.write.ensures.stopped (λ e z. elim z [
      | inl x ↦ inl x
      | inr y ↦ elim y [
        | inl x ↦ inr (inl x)
        | inr f ↦ inr
            (inr (subst (λ w. Makes (λ f there made. g.F.FnOnce.post f (there, tt) made) c.args.change w (Err e))
            (value_of_map (shown p n.pieces) m c.args.key.now h') f))
      ]
    ])

pub returns-in_ok-updated-in-Placed-clause-updated : goal.returns-in_ok-updated-in-Placed-clause-updated
returns-in_ok-updated-in-Placed-clause-updated g c m h =
    let p = g.C.Chunks.contents c.args.chunks.now in
    let q = g.C.Chunks.contents c.updated.new.chunks in
    let may = g.C.Chunks.places c.updated.new.chunks in
    let key = c.args.key.now in
    let at = c.in-Placed.at in
    let t = c.args.self.now in
    let r = c.in_ok-updated-in-Placed.updated in
    let z = c.in_ok-updated-in-Placed.ensures.updated in
    let u = z.0 in (
      u,
      subst (λ w. Makes (λ f there made. g.F.FnOnce.post f (there, tt) made) c.args.change w (Ok u))
          (value_of_map (chunk_rows p (stamp_of at)) m key (placed_spells p t at m c.in-Placed.is h)) z.1,
      subst (λ (w : Tree). IsUpdate p q may t w m key u c.settle.result) (sym c.settle.ensures.tree)
          (subst (IsUpdate p q may t (settled r.root (record { root = Placed at })) m key u) (sym c.settle.ensures.ran)
          (placed_update p q may t at m key u r c.updated.ensures.grown.0 c.in-Placed.is h z.2)),
    )
