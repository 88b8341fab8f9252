-- What a pass found stays found, while the seat does something to its pin and to its slots alone.
use Rattle.std.proofs.Common.{◌≡◌, ℕ, ◌<◌, ◌≤◌, inl, inr, List, [], ◌∷◌, sym, ap, subst, ◌∙◌, arith}
use Rattle.reader_claims.specs.declared.view.View.{View}
use Rattle.reader_claims.specs.declared.view.Sizes.{Sizes}
use Rattle.reader_claims.specs.Lists.{Noted}
use Rattle.reader_claims.specs.Notes.{Note, StandTogether, gave, lost}
use Rattle.reader_claims.specs.Passes as passes
use Rattle.reader_claims.specs.Passes.{AreShut, FindsNone, WhyShut, found, retired_at}
use Rattle.reader_claims.specs.Words.{slot_word}
use Rattle.reader_claims.specs.declared.words.SlotState.TheVariants.{Live, Taken}
use Rattle.reader_claims.specs.Views.{ArePinsRead, IsClosed}
use Rattle.commit_publishing.specs.Inside.Stacks.{IsButWithdrawn, PassedOver}

pub record KnowsAs (v u : View) : Type 0 where
  pub notes : u.notes ≡ v.notes
  pub number : u.number ≡ v.number
  pub sizes : u.sizes ≡ v.sizes
  pub read : u.read ≡ v.read
  pub loaded : u.loaded ≡ v.loaded
  pub reached : u.reached ≡ v.reached
  pub loads : u.epoch_loads ≡ v.epoch_loads

closed_as : (r : ℕ) (v u : View) → KnowsAs v u → IsClosed v r → IsClosed u r
closed_as r v u k closed = elim closed [
  | inl past ↦ inl (subst (λ (n : ℕ). n < r) (sym k.reached) past)
  | inr below ↦ inr (
    below.0,
    below.1,
    subst (λ (z : Sizes). below.0 ≤ z.readers) (sym k.sizes) below.2,
    (
      below.3.0,
      subst (λ (l : List (ℕ × ℕ)). Noted l below.0 below.3.0) (sym k.read) below.3.1,
      below.3.2,
      below.3.3,
    ),
  )
]

together_as : (run : List Note) (v u : View) → KnowsAs v u → StandTogether run v.notes → StandTogether run u.notes
together_as run v u k h = subst (λ (l : List Note). StandTogether run l) (sym k.notes) h

shut_as : (own : List ℕ) (i : ℕ) (v u : View) → KnowsAs v u → WhyShut own i v → WhyShut own i u
shut_as own i v u k (passes.taken j saw mine) = passes.taken j
    (together_as (found i (slot_word (Taken j)) ∷ []) v u k saw) (λ is. mine (is ∙ k.number))
shut_as own i v u k (passes.live saw) = passes.live (together_as (found i (slot_word Live) ∷ []) v u k saw)
shut_as own i v u k (passes.closed r saw closed) = passes.closed r
    (together_as (found i (retired_at r) ∷ []) v u k saw) (closed_as r v u k closed)
shut_as own i v u k (passes.give_lost r x ne run) = passes.give_lost r x ne
    (together_as (lost i (retired_at r) x ∷ (found i (retired_at r) ∷ [])) v u k run)
shut_as own i v u k (passes.take_lost r x ne run) = passes.take_lost r x ne
    (together_as (found i x ∷ (gave i r ∷ (found i (retired_at r) ∷ []))) v u k run)

pub all_shut_as : (own : List ℕ) (end : ℕ) (v u : View) → KnowsAs v u → AreShut own 0 end v → AreShut own 0 end u
all_shut_as own end v u k shut i low near = shut_as own i v u k (shut i low near)

pub pins_as : (v u : View) → KnowsAs v u → ArePinsRead v → ArePinsRead u
pins_as v u k read j some few = let h = read j some (subst (λ (z : Sizes). j ≤ z.readers) k.sizes few) in
    (h.0, subst (λ (l : List (ℕ × ℕ)). Noted l j h.0) (sym k.read) h.1)

pub knows_withdrawn : (v u : View) → IsButWithdrawn v u → KnowsAs v u
knows_withdrawn v u is = record {
  notes = ap (λ (y : View). y.notes) is;
  number = ap (λ (y : View). y.number) is;
  sizes = ap (λ (y : View). y.sizes) is;
  read = ap (λ (y : View). y.read) is;
  loaded = ap (λ (y : View). y.loaded) is;
  reached = ap (λ (y : View). y.reached) is;
  loads = ap (λ (y : View). y.epoch_loads) is;
}

-- a pass at the end
pub passed_over : (s v u : View) (end : ℕ) → s.epoch_loads ≤ v.epoch_loads → FindsNone v u end → PassedOver s u end
passed_over s v u end low found = (
  (let more = found.epoch.0 in omega arith),
  found.epoch.1,
  found.pins,
  found.slots,
)
