-- What tries of a pin leave of a view.
use Rattle.std.proofs.Common.{◌≡◌, ℕ, suc, ◌+◌, ◌<◌, ◌≤◌, [], max, refl, ap, subst, sym, arith}
use Rattle.reader_claims.specs.declared.words.Pin.TheVariants.{Absent, Held}
use Rattle.reader_claims.specs.declared.view.View.{View}
use Rattle.reader_claims.specs.Passes as one
use Rattle.chunk_slots.specs.Seats as seats
use Rattle.chunk_slots.specs.Seats.{IsPinned, IsOvertaken, LosesPins}

-- but for its pin and what it read of the epoch, u is v
abbrev pub IsButPin : View → View → Type 0
IsButPin v u = u ≡ record v {
  pin = u.pin;
  stores = u.stores;
  loaded = u.loaded;
  loaded_before = u.loaded_before;
  epoch_loads = u.epoch_loads;
  reached = u.reached;
  read = u.read;
  notes = u.notes;
  settled = u.settled;
}

-- after one more try that was lost
pub lost_again : (v t u : View) → IsButPin v t → one.IsUnpinned t u → IsButPin v u
lost_again v t u same lost = subst (IsButPin v) (sym lost.0)
    (ap (λ (z : View). record z {
      pin = Absent;
      stores = t.stores + 2;
      loaded = u.loaded;
      loaded_before = u.loaded_before;
      epoch_loads = t.epoch_loads + 2;
      reached = u.loaded;
      read = [];
      notes = [];
      settled = [];
    }) same)

-- after one that was not
pub held_at_last : (v t u : View) (e n tries : ℕ) → IsButPin v t → v.reached ≤ t.reached → n < max 1 tries
    → LosesPins n v t → one.IsPinnedAt t u e → IsPinned v u tries
held_at_last v t u e n tries same up few lost held = subst (λ (w : View). IsPinned v w tries) (sym held.0) record {
  view = ap (λ (z : View). record z {
    pin = Held e;
    stores = t.stores + 1;
    loaded = e;
    loaded_before = e;
    epoch_loads = t.epoch_loads + 2;
    reached = e;
    read = [];
    notes = [];
    settled = [];
  }) same;
  reached = let further = held.1 in omega arith;
  tried = (n, t, few, lost, refl);
}

-- each of so many tries was lost
pub lost_at_last : (v t u : View) (tries n : ℕ) → IsButPin v t → suc n ≡ max 1 tries → v.reached + n ≤ t.reached
    → LosesPins n v t → one.IsUnpinned t u → IsOvertaken v u tries
lost_at_last v t u tries n same all up before lost =
    let a = lost.1 in let b = lost.2 in
    let left : u ≡ one.unpinned t u.loaded_before u.loaded = lost.0 in record {
      view = subst (λ (w : View). w ≡ record (one.unpinned v w.loaded_before w.loaded)
          { stores = w.stores; epoch_loads = w.epoch_loads }) (sym left)
          (ap (λ (z : View). record z {
            pin = Absent;
            stores = t.stores + 2;
            loaded = u.loaded;
            loaded_before = u.loaded_before;
            epoch_loads = t.epoch_loads + 2;
            reached = u.loaded;
            read = [];
            notes = [];
            settled = [];
          }) same);
      lost = subst (λ (k : ℕ). LosesPins k v u) all (seats.more n v t u before lost);
      rose = (omega arith, omega arith);
    }
