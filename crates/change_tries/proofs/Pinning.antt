-- What storing a pin leaves alone.
use Rattle.std.proofs.Common.{◌≡◌, ◌≤◌, ◌+◌, ℕ, zero, suc, ap, arith}
use Rattle.reader_claims.specs.declared.view.View.{View}
use Rattle.chunk_slots.specs.Seats as seats
use Rattle.chunk_slots.specs.Seats.{IsOvertaken, IsPinned, LosesPins}
use Rattle.commit_graph.specs.Seats.{IsCalm}

loses_loads : (n : ℕ) (v u : View) → LosesPins n v u → v.epoch_loads ≤ u.epoch_loads
loses_loads zero v _ (seats.none _) = omega arith
loses_loads (suc n) v u (seats.more _ _ t _ lost is) = let h = loses_loads n v t lost in
    let e : u.epoch_loads ≡ t.epoch_loads + 2 = ap (λ (y : View). y.epoch_loads) is.0 in omega arith

pub calm_pinned : (v u : View) (tries : ℕ) → IsPinned v u tries → IsCalm v u
calm_pinned v u tries p = record {
  deeds = ap (λ (y : View). y.deeds) p.view;
  taken = ap (λ (y : View). y.taken) p.view;
  loads = let (n, t, few, lost, is) = p.tried in let h = loses_loads n v t lost in
      let e : u.epoch_loads ≡ t.epoch_loads + 2 = ap (λ (y : View). y.epoch_loads) is in omega arith;
  reached = let same : u.reached ≡ u.loaded = ap (λ (y : View). y.reached) p.view in let h = p.reached in omega arith;
}

pub calm_overtaken : (v u : View) (tries : ℕ) → IsOvertaken v u tries → IsCalm v u
calm_overtaken v u tries p = record {
  deeds = ap (λ (y : View). y.deeds) p.view;
  taken = ap (λ (y : View). y.taken) p.view;
  loads = loses_loads _ v u p.lost;
  reached = let same : u.reached ≡ u.loaded = ap (λ (y : View). y.reached) p.view in let h = p.rose.0 in omega arith;
}
