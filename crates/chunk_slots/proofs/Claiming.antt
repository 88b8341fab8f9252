-- Steps of a seat of the claims table, and the slots that it has taken.
use Rattle.std.proofs.Common.{◌≡◌, ℕ, ◌<◌, ap, subst, sym, ◌∙◌}
use Rattle.reader_claims.specs.declared.view.View.{View}
use Rattle.reader_claims.specs.Lists.{In}
use Rattle.reader_claims.specs.Machine.{Move, Moves}
use Rattle.reader_claims.specs.Seats.{ClaimsId, Seated}
use Rattle.reader_claims.specs.Views.{with_settled, with_withdrawn}
use Rattle.reader_claims.proofs.Moving.{one_move, then_move}
use Rattle.reader_claims.proofs.Slotted.{left_of}
use Rattle.chunk_slots.specs.Inside.Places.{IsWithinTable}

-- one step, and two, of a seat under either of its names
pub one_from : (s t : Seated) (w : View) (i x y : ℕ) → s ≡ t → Move s.view i x y w → Moves t.view w
one_from s t w i x y e m = subst (λ (u : Seated). Moves u.view w) e (one_move s.view w i x y m)

pub two_from : (s t : Seated) (u w : View) (i x y j z a : ℕ) → s ≡ t → Move s.view i x y u → Move u j z a w
    → Moves t.view w
two_from s t u w i x y j z a e m n = then_move t.view u w j z a (one_from s t u i x y e m) n

-- a slot less leaves the others within the table
pub settled_within : (s t : Seated) (slot : ℕ) → IsWithinTable s → t.table ≡ s.table
    → t.view ≡ with_settled s.view slot → IsWithinTable t
settled_within s t slot h same is = (
  ap (λ (v : View). v.sizes) is ∙ h.0 ∙ sym (ap (λ (z : ClaimsId). z.sizes) same),
  (λ k m. subst (λ (z : ClaimsId). k < z.sizes.slots) (sym same)
      (h.1 k (left_of slot k s.view.taken (subst (λ (v : View). In v.taken k) is m)).1)),
)

pub withdrawn_within : (s t : Seated) (slot : ℕ) → IsWithinTable s → t.table ≡ s.table
    → t.view ≡ with_withdrawn s.view slot → IsWithinTable t
withdrawn_within s t slot h same is = (
  ap (λ (v : View). v.sizes) is ∙ h.0 ∙ sym (ap (λ (z : ClaimsId). z.sizes) same),
  (λ k m. subst (λ (z : ClaimsId). k < z.sizes.slots) (sym same)
      (h.1 k (left_of slot k s.view.taken (subst (λ (v : View). In v.taken k) is m)).1)),
)
