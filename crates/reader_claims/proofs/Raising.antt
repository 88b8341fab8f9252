-- What a load of the epoch, and a raise after it, leave of a view.
use Rattle.std.proofs.Common.{◌≡◌, ℕ, ◌≤◌, refl, ap, ◌∙◌, subst, sym, arith, inl, inr}
use Rattle.reader_claims.specs.declared.words.Pin.{Pin}
use Rattle.reader_claims.specs.declared.view.View.{View}
use Rattle.reader_claims.specs.Seats.{KeepsPin}
use Rattle.reader_claims.specs.Views.{promoted, with_epoch, with_raise}
use Rattle.reader_claims.specs.Passes.{Raises}

pub keeps_promoted : (p : Pin) (e : ℕ) → KeepsPin p (promoted p e)
keeps_promoted p e = record { held = λ n is. ap (λ q. promoted q e) is; absent = λ is. ap (λ q. promoted q e) is }

-- the epoch was only loaded
pub loads_only : (v u : View) (e : ℕ) → u ≡ with_epoch v e → v.reached ≤ e → Raises v u
loads_only v u e is up = subst (Raises v) (sym is) record {
  sizes = refl;
  number = refl;
  pin = keeps_promoted v.pin e;
  stores = refl;
  taken = refl;
  settled = refl;
  withdrawn = refl;
  retired = refl;
  epoch_loads = refl;
  raises = inl (refl, refl);
  reached = up;
  floor = refl;
}

-- it was loaded and then raised, won or lost
pub loads_and_raises : (v u t : View) (e n : ℕ) → u ≡ with_epoch v e → v.reached ≤ e → t ≡ with_raise u n
    → u.reached ≤ n → Raises v t
loads_and_raises v u t e n is up then further = let here : u.reached ≡ e = ap (λ (y : View). y.reached) is in
    subst (Raises v) (sym (then ∙ ap (λ y. with_raise y n) is)) record {
      sizes = refl;
      number = refl;
      pin = keeps_promoted v.pin e;
      stores = refl;
      taken = refl;
      settled = refl;
      withdrawn = refl;
      retired = refl;
      epoch_loads = refl;
      raises = inr (omega arith, refl);
      reached = omega arith;
      floor = refl;
    }
