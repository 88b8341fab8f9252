-- Steps of a seat, one after the other, and what they leave of its pin.
use Rattle.std.proofs.Common.{◌≡◌, ◌≤◌, true, refl, ap, ◌∙◌, arith}
use Rattle.reader_claims.specs.declared.view.View.{View}
use Rattle.reader_claims.specs.declared.words.Pin.{Pin}
use Rattle.reader_claims.specs.declared.words.Pin.TheVariants.{Absent, Stored, Held}
use Rattle.reader_claims.specs.Seats.{KeepsPin}
use Rattle.commit_graph.specs.Seats.{is_held}
use Rattle.commit_publishing.specs.Inside.Steps.{StepsOn}

keeps_held : (p q : Pin) → KeepsPin p q → is_held p ≡ true → is_held q ≡ true
keeps_held (Held e) q keeps is = ap is_held (keeps.held e refl)
keeps_held (Stored e) q keeps is = absurd cc
keeps_held Absent q keeps is = absurd cc

pub no_step : (v : View) → StepsOn v v
no_step v = record { loads = omega arith; reached = omega arith; held = λ is. is }

pub steps_steps : (v w u : View) → StepsOn v w → StepsOn w u → StepsOn v u
steps_steps v w u a b = record {
  loads = let x = a.loads in let y = b.loads in omega arith;
  reached = let x = a.reached in let y = b.reached in omega arith;
  held = λ is. b.held (a.held is);
}

-- a call that keeps the pin
pub steps_keeping : (v u : View) → v.epoch_loads ≤ u.epoch_loads → v.reached ≤ u.reached → KeepsPin v.pin u.pin
    → StepsOn v u
steps_keeping v u loads reached keeps = record { loads = loads; reached = reached; held = keeps_held v.pin u.pin keeps }

-- a step that leaves the pin and the epoch as they are
pub steps_beside : (v u : View) → u.epoch_loads ≡ v.epoch_loads → u.reached ≡ v.reached → u.pin ≡ v.pin → StepsOn v u
steps_beside v u loads reached same = record {
  loads = omega arith;
  reached = omega arith;
  held = λ is. ap is_held same ∙ is;
}
