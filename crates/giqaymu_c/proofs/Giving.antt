-- Places that are given out.
use Rattle.std.proofs.Common.{◌≡◌, ◌⊎◌, ◌+◌, ◌-◌, ◌<◌, ◌≤◌, inl, inr, ℕ, List, length, Option, Some, None, refl}
use Rattle.std.proofs.Common.{sym, ap, ◌∙◌, subst, arith, w32}
use mir.Val.{of_z, to_z}
use Rattle.std.specs.Prelude.{ℤ, pos, slice_index_or, slice_set}
use Rattle.std.specs.List.{All}
use Rattle.std.proofs.lemmas.List.{get_or-set_same, get_or-set_other, length_push}
use Rattle.std.proofs.lemmas.List.Elements.{All-pop}
use Rattle.group_history.specs.declared.refusals.Refusal.TheVariants.{NoMemory}
use Rattle.client_desk.specs.declared.outcomes.Outcome.TheVariants.{Refused}
use Rattle.client_desk.specs.Numbers.{outcome_number}
use Rattle.host_places.specs.Opening.{IsFreshPlace}
use Rattle.host_places.specs.Desks.{DeskState}
use Rattle.rebase.specs.Clients.{Grouped}
use Rattle.giqaymu_c.proofs.Cases.{below_or_not}
use Rattle.giqaymu_c.proofs.Numbers.{below_bits, below_kept}
use Rattle.giqaymu_c.specs.declared.handle.Handle.{Handle}
use Rattle.giqaymu_c.specs.declared.jobs.JobReply.{JobReply}
use Rattle.giqaymu_c.specs.Exports.{AreNewHandles, Terms, IsLike, IsNewPlace}
use Rattle.giqaymu_c.specs.Jobs.{Gives, HasGiven}
use Rattle.giqaymu_c.specs.Spots.{SpotState}

module _ (group : Grouped) (commit : ℕ) (terms : Terms) where
  abbrev Fresh : DeskState → Type 0
  Fresh d = IsFreshPlace group commit d.place

  abbrev IsOn : Handle → Type 0
  IsOn h = (h.text ≡ terms.text) × (h.asks ≡ terms.asks) × (h.own ≡ terms.own)

  -- the next place was given, or memory was refused
  abbrev Gave : ℕ → Handle → Handle → ℤ → Type 0
  Gave n next given number = ((number ≡ pos 0) × IsNewPlace group commit terms (n - 1) next
      × IsNewPlace group commit terms 0 given) ⊎ (number ≡ outcome_number (Refused NoMemory))

  given_new : (n : ℕ) (next given : Handle) (spot new : SpotState) (reply : JobReply) (at : Option SpotState) → 0 < n
      → IsFreshPlace group commit spot.desk.place → length spot.spare ≡ n → All Fresh spot.spare
      → IsOn next → IsOn given
      → next.spot ≡ Some new → given.spot ≡ at → Gives spot reply new at → Gave n next given reply.number
  given_new n next given spot new reply None some desk count all same other there gives (_, inl lack) =
      inr lack.0.number
  given_new n next given spot new reply None some desk count all same other there gives (_, inr none) =
      absurd (omega (arith, some, count, ap length none.1))
  given_new n next given spot new reply (Some one) some desk count all same other there gives g =
      let left = All-pop Fresh spot.spare new.spare (Some one.desk) g.2 all in
      let counted : length spot.spare ≡ length new.spare + 1 = ap length g.2 ∙ length_push new.spare one.desk in inl (
        g.0.0.number,
        record {
          text_is = same.0;
          asks_is = same.1;
          own_is = same.2;
          spot = new;
          there = there;
          new = subst Fresh (sym g.1) desk;
          count = omega arith;
          all =
              left.0;
        },
        record {
          text_is = other.0;
          asks_is = other.1;
          own_is = other.2;
          spot = one;
          there = gives;
          new = left.1;
          count = ap length g.3;
          all =
              subst (All Fresh) (sym g.3) (λ i d low. absurd (omega (arith, low)));
        },
      )

  gave : (n : ℕ) (first next given : Handle) (reply : JobReply) → 0 < n → IsNewPlace group commit terms n first
      → IsLike first next → IsLike first given → HasGiven first.spot reply next.spot given.spot
      → Gave n next given reply.number
  gave n first next given reply some is same other gives =
      let g = subst (λ s. HasGiven s reply next.spot given.spot) is.there gives in
      given_new n next given is.spot g.0 reply given.spot some is.new is.count is.all
      (same.0 ∙ is.text_is, same.1 ∙ is.asks_is, same.2 ∙ is.own_is)
      (other.0 ∙ is.text_is, other.1 ∙ is.asks_is, other.2 ∙ is.own_is) g.1 refl g.2

  pub gave_next : (n : ℕ) (first next given : Handle) (reply : JobReply) → 0 < n → IsNewPlace group commit terms n first
      → IsLike first next → IsLike first given → HasGiven first.spot reply next.spot given.spot
      → of_z w32 reply.number ≡ 0
      → IsNewPlace group commit terms (n - 1) next × IsNewPlace group commit terms 0 given
  gave_next n first next given reply some is same other gives nought =
      elim (gave n first next given reply some is same other gives) [
        | inl (free, one, next_one) ↦ (one, next_one)
        | inr lack ↦ below_bits reply.number (0, lack, omega arith) nought
      ]

  pub gave_none : (n : ℕ) (first next given : Handle) (reply : JobReply) → 0 < n → IsNewPlace group commit terms n first
      → IsLike first next → IsLike first given → HasGiven first.spot reply next.spot given.spot
      → (of_z w32 reply.number ≡ 0 → ⊥) → to_z w32 (of_z w32 reply.number) ≡ outcome_number (Refused NoMemory)
  gave_none n first next given reply some is same other gives other_than =
      elim (gave n first next given reply some is same other gives) [
        | inl (free, one, next_one) ↦ absurd (other_than (ap (of_z w32) free))
        | inr lack ↦ below_kept reply.number (0, lack, omega arith) ∙ lack
      ]

  pub more_new : (n : ℕ) (places : List Handle) (given : Handle) → n < length places
      → AreNewHandles group commit terms n places → IsNewPlace group commit terms 0 given
      → AreNewHandles group commit terms (n + 1) (slice_set places n given)
  more_new n places given within are is i some below d = by_cases (below_or_not i n) where
    by_cases : (i < n) ⊎ (n ≤ i) → IsNewPlace group commit terms 0 (slice_index_or (slice_set places n given) i d)
    by_cases (inl less) = subst (IsNewPlace group commit terms 0)
        (sym (get_or-set_other places n i given d (λ e. absurd (omega (arith, less, e))))) (are i some less d)
    by_cases (inr more) = let e : i ≡ n = omega (arith, below, more) in
        subst (λ j. IsNewPlace group commit terms 0 (slice_index_or (slice_set places n given) j d)) (sym e)
        (subst (IsNewPlace group commit terms 0) (sym (get_or-set_same places n given d within)) is)

  pub still_new : (n m : ℕ) (h : Handle) → n ≡ m → IsNewPlace group commit terms n h → IsNewPlace group commit terms m h
  still_new n m h e is = subst (λ k. IsNewPlace group commit terms k h) e is
