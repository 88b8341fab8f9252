-- Places that are opened.
use Rattle.std.proofs.Common.{◌≡◌, ◌⊎◌, ◌+◌, ◌-◌, ◌<◌, ◌≤◌, inl, inr, ℕ, zero, suc, List, [], ◌∷◌, ◌++◌, map, Option}
use Rattle.std.proofs.Common.{Some, None, Ok, length, refl, sym, ap, ◌∙◌, subst, arith, w32}
use Rattle.std.specs.Prelude.{ℤ, pos, IsOk, IfSome, slice_get, slice_index_or, slice_set}
use Rattle.std.specs.List.{All}
use Rattle.std.proofs.lemmas.List.{get_or-map, get_or-set_same, get_or-set_other, length-map, length-set, length_push}
use Rattle.std.proofs.lemmas.List.Elements.{All-pop}
use mir.Val.{of_z, to_z}
use Rattle.rebase.specs.Clients.{Grouped}
use Rattle.rebase.specs.Configs.{Layout}
use Rattle.client_desk.specs.Numbers.{outcome_number}
use Rattle.host_places.specs.Opening.{IsFreshPlace, layout_said}
use Rattle.host_places.specs.Desks.{DeskState}
use Rattle.client_desk.specs.Places.{PlaceState}
use Rattle.client_desk.specs.declared.outcomes.Outcome.TheVariants.{Refused}
use Rattle.group_history.specs.declared.refusals.Refusal.TheVariants.{NoMemory}
use Rattle.giqaymu_c.proofs.Cases.{below_or_not}
use Rattle.giqaymu_c.specs.declared.handle.Handle.{Handle}
use Rattle.giqaymu_c.specs.declared.jobs.Grounds.{Grounds}
use Rattle.giqaymu_c.specs.declared.jobs.JobReply.{JobReply}
use Rattle.giqaymu_c.proofs.Numbers.{Fine, HasSeats, IsBelow, below_bits, below_kept, below_zero, layout_fine, no_below}
use Rattle.giqaymu_c.proofs.Numbers.{opening_no}
use Rattle.giqaymu_c.specs.Exports.{AreNewHandles, AreOpenedFor, Terms, IsGivenOut, IsNewPlace}
use Rattle.giqaymu_c.specs.Exports.{IsOpeningFault}
use Rattle.giqaymu_c.specs.Jobs.{HasOpened, OpensPlaces, OpensAll, asks_meant, rules_given}
use Rattle.giqaymu_c.specs.Own.{Run}
use Rattle.giqaymu_c.specs.Spots.{SpotState}

abbrev Closed : Handle → Type 0
Closed h = h.spot ≡ None

-- the first places are closed
abbrev pub AreClosed : ℕ → List Handle → Type 0
AreClosed n places = (i : ℕ) → i < n → (d : Handle) → Closed (slice_index_or places i d)

pub more_closed : (n : ℕ) (places : List Handle) (one : Handle) → n < length places → AreClosed n places → Closed one
    → AreClosed (n + 1) (slice_set places n one)
more_closed n places one within are is i below d = by_cases (below_or_not i n) where
  by_cases : (i < n) ⊎ (n ≤ i) → Closed (slice_index_or (slice_set places n one) i d)
  by_cases (inl less) =
      subst Closed (sym (get_or-set_other places n i one d (λ e. absurd (omega (arith, less, e))))) (are i less d)
  by_cases (inr more) =
      let e : i ≡ n = omega (arith, below, more) in
      subst (λ j. Closed (slice_index_or (slice_set places n one) j d)) (sym e)
      (subst Closed (sym (get_or-set_same places n one d within)) is)

-- what holds of the first place
pub at_first : (P : Handle → Type 0) (places : List Handle) (d : Handle) → P (slice_index_or places 0 d)
    → IfSome (slice_get places 0) P
at_first P [] d is = tt
at_first P (h ∷ places) d is = is

-- ---- numbers

pub zero_kept : (z : ℤ) → z ≡ pos 0 → to_z w32 (of_z w32 z) ≡ pos 0
zero_kept z is = ap (λ y. to_z w32 (of_z w32 y)) is

-- the number of a refusal is kept
pub fault_kept : (grounds : Grounds) (z : ℤ) → IsOpeningFault grounds z → IsOpeningFault grounds (to_z w32 (of_z w32 z))
fault_kept grounds z (e, is, why) =
    let below = no_below e (opening_no grounds e why) in
    (e, below_kept z (below.0, is ∙ below.1, below.2) ∙ is, why)

-- none was opened
pub opening_refused : (grounds : Grounds) (z : ℤ) (at : Option SpotState)
    → (reply : JobReply) × (z ≡ reply.number) × HasOpened grounds reply at → (to_z w32 (of_z w32 z) ≡ pos 0 → ⊥)
    → IsOpeningFault grounds (to_z w32 (of_z w32 z))
opening_refused grounds z (Some spot) (reply, is, has) other = absurd (other (zero_kept z (is ∙ has.0.0.number)))
opening_refused grounds z None (reply, is, (e, told, why)) other =
    fault_kept grounds z (e, is ∙ told.0.number, why)

-- ---- all places

unmap : (P : PlaceState → Type 0) (ds : List DeskState) → All P (map (λ (d : DeskState). d.place) ds)
    → All (λ (d : DeskState). P d.place) ds
unmap P ds all = λ i d low.
    subst P (get_or-map (λ (x : DeskState). x.place) ds i d d.place low)
    (all i d.place (subst (λ n. i < n) (sym (length-map ds (λ (x : DeskState). x.place))) low))

-- a place of a group that was opened on these terms
abbrev IsOn : Terms → Handle → Type 0
IsOn terms h = (h.text ≡ terms.text) × (h.asks ≡ terms.asks) × (h.own ≡ terms.own)

first_new : (grounds : Grounds) (terms : Terms) (n : ℕ) (first : Handle) (spot : SpotState)
    → grounds.with.places ≡ n → IsOn terms first → first.spot ≡ Some spot → (o : OpensAll grounds spot)
    → IsNewPlace o.opened.group o.opened.commit terms (n - 1) first
first_new grounds terms n first spot places same there o =
    let Fresh : DeskState → Type 0 = λ d. IsFreshPlace o.opened.group o.opened.commit d.place in
    let all = unmap (IsFreshPlace o.opened.group o.opened.commit) (spot.spare ++ spot.desk ∷ []) o.opened.all in
    let parts = All-pop Fresh (spot.spare ++ spot.desk ∷ []) spot.spare (Some spot.desk) refl all in
    let w = grounds.with in
    let seats : HasSeats w.places o.layout = subst (Fine (HasSeats w.places)) o.said
    (layout_fine w.id.now w.profile.now w.schema.now w.slots w.places) in
    let counted : length spot.spare + 1 ≡ n =
    sym (length_push spot.spare spot.desk) ∙ sym (length-map (spot.spare ++ spot.desk ∷ [])
    (λ (d : DeskState). d.place)) ∙ o.opened.count ∙ seats.0 ∙ places in
    record {
      text_is = same.0;
      asks_is = same.1;
      own_is = same.2;
      spot = spot;
      there = there;
      new = parts.1;
      count = omega (arith, counted);
      all = parts.0;
    }

each_new : (group : Grouped) (commit : ℕ) (terms : Terms) (n : ℕ) (places : List Handle) (last : Handle) → 0 < n
    → length places ≡ n → IsNewPlace group commit terms 0 last → AreNewHandles group commit terms n places
    → (i : ℕ) → i < length (slice_set places 0 last) → (d : Handle)
    → IsNewPlace group commit terms 0 (slice_index_or (slice_set places 0 last) i d)
each_new group commit terms n places last some count is are zero low d =
    subst (IsNewPlace group commit terms 0) (sym (get_or-set_same places 0 last d (omega (arith, some, count)))) is
each_new group commit terms n places last some count is are (suc i) low d =
    subst (IsNewPlace group commit terms 0)
    (sym (get_or-set_other places 0 (suc i) last d (λ e. absurd (omega (arith, e)))))
    (are (suc i) (omega arith) (omega (arith, count, subst (λ k. suc i < k) (length-set places 0 last) low)) d)

abbrev terms_of : Grounds → List Run → Terms
terms_of grounds own = record { text = grounds.rules.now; asks = asks_meant grounds.own; own = own }

-- the first place has all of a group that was opened with these grounds
record First (grounds : Grounds) (own : List Run) (n : ℕ) (first : Handle) : Type 0 where
  layout : Layout
  said : layout_said grounds.with.id.now grounds.with.profile.now grounds.with.schema.now grounds.with.slots
      grounds.with.places ≡ Ok layout
  rules : IsOk (rules_given grounds.rules.now)
  known : grounds.own < 2
  group : Grouped
  commit : ℕ
  identity : group.identity ≡ layout.identity
  sizes : group.group.table.sizes ≡ record { readers = layout.seats; slots = layout.slots }
  new : IsNewPlace group commit (terms_of grounds own) (n - 1) first

first_of : (grounds : Grounds) (own : List Run) (n : ℕ) (first : Handle) (spot : SpotState) → grounds.with.places ≡ n
    → IsOn (terms_of grounds own) first → first.spot ≡ Some spot → OpensPlaces grounds spot → First grounds own n first
first_of grounds own n first spot room same there (o, rules, known) = record {
  layout = o.layout;
  said = o.said;
  rules = rules;
  known = known;
  group = o.opened.group;
  commit = o.opened.commit;
  identity = o.opened.identity;
  sizes = o.opened.sizes;
  new = first_new grounds (terms_of grounds own) n first spot room same there o;
}

first_opened : (grounds : Grounds) (own : List Run) (n : ℕ) (first : Handle) (z : ℤ) → grounds.with.places ≡ n
    → IsOn (terms_of grounds own) first
    → (reply : JobReply) × (z ≡ reply.number) × HasOpened grounds reply first.spot → of_z w32 z ≡ 0
    → First grounds own n first
first_opened grounds own n first z room same (reply, told, has) done = by_cases first.spot refl has where
  by_cases : (at : Option SpotState) → first.spot ≡ at → HasOpened grounds reply at → First grounds own n first
  by_cases None there (e, tells, why) =
      let below = no_below e (opening_no grounds e why) in
      below_bits z (below.0, told ∙ tells.0.number ∙ below.1, below.2) done
  by_cases (Some spot) there (tells, o) = first_of grounds own n first spot room same there o

-- each is given out
pub opened_all : (grounds : Grounds) (own : List Run) (n : ℕ) (first last put : Handle) (z given : ℤ)
    (places : List Handle) → 0 < n → grounds.with.places ≡ n → length places ≡ n → put ≡ last
    → IsOn (terms_of grounds own) first
    → (reply : JobReply) × (z ≡ reply.number) × HasOpened grounds reply first.spot → of_z w32 z ≡ 0
    → IsGivenOut n first last given places → to_z w32 (of_z w32 given) ≡ pos 0
    → AreOpenedFor grounds own (slice_set places 0 put)
opened_all grounds own n first last put z given places some room count is same opened done out nought =
    let f = first_opened grounds own n first z room same opened done in
    subst (λ h. AreOpenedFor grounds own (slice_set places 0 h)) (sym is) (by_cases f (out _ _ _ f.new)) where
      by_cases : (f : First grounds own n first) → ((given ≡ pos 0)
          × IsNewPlace f.group f.commit (terms_of grounds own) 0 last
          × AreNewHandles f.group f.commit (terms_of grounds own) n places)
          ⊎ (given ≡ outcome_number (Refused NoMemory)) → AreOpenedFor grounds own (slice_set places 0 last)
      by_cases f (inr lack) =
          let at : IsBelow given = (0, lack, omega arith) in
          below_zero given at (sym (below_kept given at) ∙ nought)
      by_cases f (inl (free, new, all)) = record {
        layout = f.layout;
        said = f.said;
        rules = f.rules;
        known = f.known;
        given = record {
          group = f.group;
          commit = f.commit;
          identity = f.identity;
          sizes = f.sizes;
          each = each_new f.group f.commit _ n places last some count new all;
        };
      }

-- or memory was refused
pub giving_refused : (grounds : Grounds) (own : List Run) (n : ℕ) (first last : Handle) (z given : ℤ)
    (places : List Handle) → grounds.with.places ≡ n → IsOn (terms_of grounds own) first
    → (reply : JobReply) × (z ≡ reply.number) × HasOpened grounds reply first.spot → of_z w32 z ≡ 0
    → IsGivenOut n first last given places → (to_z w32 (of_z w32 given) ≡ pos 0 → ⊥)
    → IsOpeningFault grounds (to_z w32 (of_z w32 given))
giving_refused grounds own n first last z given places room same opened done out other =
    let f = first_opened grounds own n first z room same opened done in
    elim (out _ _ _ f.new) [
      | inl given_out ↦ absurd (other (zero_kept given given_out.0))
      | inr lack ↦ fault_kept grounds given (Refused NoMemory, lack, inl (inl (inl refl)))
    ]
