-- What a step leaves of a reader.
use Rattle.std.proofs.Common.{refl, ◌≡◌, ℕ, ◌^◌, ◌<◌, ◌≤◌, ◌≢◌, [], sym, ap, ◌∙◌, subst, cond, eq-eqb, ne_eqb}
use mathlib.Core.Logic.{dite}
use native.Mathlib.Decide.{ℕ_discrete}
use Rattle.atomic_table.specs.Seated.{TableId}
use Rattle.reader_claims.specs.declared.view.View.{View}
use Rattle.group_history.specs.Refs.{max_seats}
use Rattle.reader_claims.specs.Views.{with_retired, with_missed}
use Rattle.reader_claims.specs.Machine.{Move, left_there}
use Rattle.reader_claims.specs.Inside.Plays.{Sat}
use Rattle.reader_claims.specs.Passes.{IsButRetired}
use Rattle.reader_claims.specs.Seats.{ClaimsId}

abbrev pub id_of : TableId → Sat → ClaimsId
id_of z m = record { table = z; sizes = m.0.sizes }

-- the table and the number of a reader stay, and its epoch fits
pub record Stays (z z' : TableId) (m n : Sat) (number : ℕ) : Type 0 where
  pub table : id_of z' n ≡ id_of z m
  pub own : (n.0.number ≡ number) × (0 < number) × (number ≤ max_seats)
  pub bare : n.1 ≡ []
  pub low : n.0.reached ≤ 2 ^ 60

pub stays : (z z' : TableId) (m n : Sat) (number : ℕ) (w : View) → z' ≡ z → n ≡ (w, m.1) → w.sizes ≡ m.0.sizes
    → w.number ≡ m.0.number → w.reached ≤ 2 ^ 60 → (m.0.number ≡ number) × (0 < number) × (number ≤ max_seats)
    → m.1 ≡ [] → Stays z z' m n number
stays z z' m n number w there is sizes same low own bare = record {
  table = let size : n.0.sizes ≡ m.0.sizes = ap (λ (x : Sat). x.0.sizes) is ∙ sizes in
      λ i. record { table = there i; sizes = size i };
  own = (ap (λ (x : Sat). x.0.number) is ∙ same ∙ own.0, own.1, own.2);
  bare = ap (λ (x : Sat). x.1) is ∙ bare;
  low = subst (λ (x : Sat). x.0.reached ≤ 2 ^ 60) (sym is) low;
}

-- one of two outcomes, by the word found
pub either_way : (x old : ℕ) (P : Type 0) → (x ≡ old → P) → (x ≢ old → P) → P
either_way x old P hit miss = dite (ℕ_discrete x old) hit miss

-- the step of the machine, from the word p that is q
pub went : (m n : Sat) (p q x y : ℕ) (w : View) → p ≡ q → (n ≡ (w, m.1)) × Move m.0 p x y w → Move m.0 q x y n.0
went m n p q x y w at g = subst (λ (u : View). Move m.0 q x y u) (sym (ap (λ (s : Sat). s.0) g.0))
    (subst (λ t. Move m.0 t x y w) at g.1)

-- the step of an exchange, won or lost
pub left_move : (x old new i : ℕ) (v w : View) → (x ≡ old → Move v i x new w) → (x ≢ old → Move v i x x w)
    → Move v i x (left_there old new x) w
left_move x old new i v w won lost = dite (ℕ_discrete x old)
    (λ e. subst (λ y. Move v i x y w) (sym (ap (λ b. cond b new x) (eq-eqb x old e))) (won e))
    (λ ne. subst (λ y. Move v i x y w) (sym (ap (λ b. cond b new x) (ne_eqb x old ne))) (lost ne))

pub but_retired : (v u : View) (i r : ℕ) → u ≡ with_retired v i r → IsButRetired v u
but_retired v u i r is = subst (IsButRetired v) (sym is) refl

pub but_missed : (v u : View) (i x : ℕ) → u ≡ with_missed v i x → IsButRetired v u
but_missed v u i x is = subst (IsButRetired v) (sym is) refl
