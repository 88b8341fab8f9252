-- Numbers of refusals.
use Rattle.std.proofs.Common.{◌≡◌, ◌<◌, ◌^◌, inl, inr, ℕ, zero, suc, Bool, true, false}
use Rattle.std.proofs.Common.{Option, Some, None, Result, Ok, Err, refl, sym, ◌∙◌, subst, arith, w32}
use Rattle.std.specs.Prelude.{⊤, ℤ, pos, negsuc, if◌then◌else◌}
use Rattle.std.proofs.lemmas.Int.{to_z-of_z}
use lib.Signed.{mag}
use mir.Val.{hbits, of_z, to_z}
use Rattle.group_history.specs.declared.refusals.Refusal.{Refusal}
use Rattle.group_history.specs.Map.{Bytes}
use Rattle.push_body.specs.declared.identities.Identity.{Identity}
use Rattle.rebase.specs.declared.config.OutOfRange.{OutOfRange}
use Rattle.rebase.specs.declared.config.OutOfRange.TheVariants as out
use Rattle.rebase.specs.Configs.{Layout, is_from_to, min_slots, out_of_range}
use Rattle.group_history.specs.Refs.{max_slots}
use Rattle.rule_mutators.specs.declared.faults.RuleFault.{RuleFault}
use Rattle.rule_mutators.specs.Reading.{rules_or_none}
use Rattle.rule_mutators.specs.Rules.{Rules}
use Rattle.std.specs.Str.{is_utf8}
use Rattle.uuid.specs.Text.{parsed}
use Rattle.client_desk.specs.declared.faults.CallFault.{CallFault}
use Rattle.client_desk.specs.declared.faults.CallFault.TheVariants as fault
use Rattle.client_desk.specs.declared.outcomes.Outcome.{Outcome}
use Rattle.client_desk.specs.declared.outcomes.Outcome.TheVariants as outcome
use Rattle.group_history.specs.Answers.{◌>>=◌}
use Rattle.host_places.specs.Asking.{or_bad_uuid, text_said, uuid_in, uuid_given}
use Rattle.group_history.specs.Refusals.{refusal_number, refusal_place}
use Rattle.group_history.proofs.Numbered.{refusal_place_low}
use Rattle.client_desk.specs.Numbers.{fault_number, fault_place, outcome_number}
use Rattle.host_places.specs.Opening.{id_said, identity_said, laid_out, layout_said}
use Rattle.giqaymu_c.specs.declared.jobs.Grounds.{Grounds}
use Rattle.giqaymu_c.specs.Jobs.{IsMutatorsRefusal, IsOpeningRefusal, IsOpeningWant, or_bad_rules, rules_given}

-- it is a refusal
abbrev pub IsNo : Outcome → Type 0
IsNo (outcome.Refused e) = ⊤
IsNo (outcome.Faulty e) = ⊤
IsNo other = ⊥

-- of a negative number
abbrev pub IsBelow : ℤ → Type 0
IsBelow z = (k : ℕ) × (z ≡ negsuc k) × (k < 200)

refusal_below : (e : Refusal) → IsBelow (refusal_number e)
refusal_below e = (refusal_place e, refl, omega (arith, refusal_place_low e))

fault_place_low : (e : CallFault) → fault_place e < 200
-- by tools/refusals: low cases of faults
fault_place_low fault.NotUtf8 = omega arith
fault_place_low fault.BadUuid = omega arith
fault_place_low fault.OutOfRange = omega arith
fault_place_low fault.NoTicket = omega arith
fault_place_low fault.NoWatch = omega arith
fault_place_low fault.BadRules = omega arith
fault_place_low fault.InUse = omega arith
fault_place_low fault.Asks = omega arith
fault_place_low fault.NoClient = omega arith
fault_place_low fault.NoPlace = omega arith
fault_place_low fault.NotAsked = omega arith
fault_place_low fault.Reads = omega arith
fault_place_low fault.NotRead = omega arith

-- tools/refusals: end

fault_below : (e : CallFault) → IsBelow (fault_number e)
fault_below e = (fault_place e, refl, fault_place_low e)

pub no_below : (e : Outcome) → IsNo e → IsBelow (outcome_number e)
no_below (outcome.Refused e) is = refusal_below e
no_below (outcome.Faulty e) is = fault_below e
no_below outcome.Done is = absurd is
no_below (outcome.Number n) is = absurd is
no_below outcome.Nothing is = absurd is
no_below (outcome.Is b) is = absurd is
no_below outcome.Asked is = absurd is

-- it is kept in 32 bits
pub below_kept : (z : ℤ) → IsBelow z → to_z w32 (of_z w32 z) ≡ z
below_kept z (k, is, low) =
    to_z-of_z w32 z (record { sfits = subst (λ y. mag y < 2 ^ hbits w32) (sym is) (omega (arith, low)) })

-- and is no 0
pub negsuc_pos : {P : Type 0} (n m : ℕ) → negsuc n ≡ pos m → P
negsuc_pos n m e = absurd (subst is_negative e tt) where
  is_negative : ℤ → Type 0
  is_negative (pos k) = ⊥
  is_negative (negsuc k) = Unit {0}

pub below_zero : {P : Type 0} (z : ℤ) → IsBelow z → z ≡ pos 0 → P
below_zero z (k, is, low) nought = negsuc_pos k 0 (sym is ∙ nought)

pub below_bits : {P : Type 0} (z : ℤ) → IsBelow z → of_z w32 z ≡ 0 → P
below_bits z (k, is, low) nought = absurd (bits (subst (λ y. of_z w32 y ≡ 0) is nought)) where
  bits : of_z w32 (negsuc k) ≡ 0 → ⊥
  bits e = absurd (omega (arith, low, e))

-- ---- what is said, or else a refusal

abbrev pub Fine : {X : Type 0} → (X → Type 0) → Result X Outcome → Type 0
Fine P (Ok x) = P x
Fine P (Err e) = IsNo e

-- anything is said
abbrev pub Said : {X : Type 0} → Result X Outcome → Type 0
Said r = Fine (λ _. ⊤) r

fine_then : {A B : Type 0} (Q : B → Type 0) (r : Result A Outcome) (f : A → Result B Outcome) → Said r
    → ((x : A) → Fine Q (f x)) → Fine Q (r >>= f)
fine_then Q (Ok x) f is more = more x
fine_then Q (Err e) f is more = is

text_fine : (bytes : Bytes) → Said (text_said bytes)
text_fine bytes = by_cases (is_utf8 bytes) where
  by_cases : (b : Bool) → Said {X = Bytes} (if b then Ok bytes else Err (outcome.Faulty fault.NotUtf8))
  by_cases true = tt
  by_cases false = tt

uuid_fine : (bytes : Bytes) → Said (uuid_given bytes)
uuid_fine bytes = read (text_said bytes) where
  is_one : (o : Option Bytes) → Said (or_bad_uuid o)
  is_one None = tt
  is_one (Some uuid) = tt

  read : (r : Result Bytes Outcome) → Said (uuid_in r)
  read (Ok text) = is_one (parsed text)
  read (Err e) = tt

-- a layout that is in range has a seat
some_seat : (slots seats : ℕ) → out_of_range slots seats ≡ None → 0 < seats
some_seat slots (suc n) fits = omega arith
some_seat slots zero fits = none (is_from_to min_slots max_slots slots) fits where
  none : (b : Bool) → (if b then Some (out.Seats 0) else Some (out.Slots slots)) ≡ None → 0 < zero
  none true e = cc
  none false e = cc

-- it has as many as were asked for
abbrev pub HasSeats : ℕ → Layout → Type 0
HasSeats seats l = (l.seats ≡ seats) × (0 < seats)

pub layout_fine : (id profile schema : Bytes) (slots seats : ℕ)
    → Fine (HasSeats seats) (layout_said id profile schema slots seats)
layout_fine id profile schema slots seats =
    fine_then (HasSeats seats) (identity_said id profile schema) _
    (fine_then (λ _. ⊤) (id_said id) _ (fine_then (λ _. ⊤) (uuid_given id) _ (uuid_fine id) (λ _. tt))
    (λ _. fine_then (λ _. ⊤) (text_said profile) _ (text_fine profile)
    (λ _. fine_then (λ _. ⊤) (text_said schema) _ (text_fine schema) (λ _. tt))))
    (laid (out_of_range slots seats) refl) where
      laid : (o : Option OutOfRange) → out_of_range slots seats ≡ o → (i : Identity)
          → Fine (HasSeats seats) (laid_out o i slots seats)
      laid None fits i = (refl, some_seat slots seats fits)
      laid (Some e) fits i = tt

rules_fine : (text : Bytes) → Said (rules_given text)
rules_fine text = read (rules_or_none text) where
  read : (r : Result Rules RuleFault) → Said (or_bad_rules r)
  read (Ok rules) = tt
  read (Err e) = tt

-- ---- refusals

want_no : (grounds : Grounds) (e : Outcome) → IsOpeningWant grounds e → IsNo e
want_no grounds e (inl (inl is)) = subst IsNo (sym is) tt
want_no grounds e (inl (inr (inl is))) = subst IsNo (sym is) tt
want_no grounds e (inl (inr (inr is))) = subst IsNo (sym is) tt
want_no grounds e (inr is) =
    let w = grounds.with in
    subst (Fine (HasSeats w.places)) is (layout_fine w.id.now w.profile.now w.schema.now w.slots w.places)

mutators_no : (grounds : Grounds) (e : Outcome) → IsMutatorsRefusal grounds e → IsNo e
mutators_no grounds e (inl (inl is)) = subst IsNo (sym is) tt
mutators_no grounds e (inl (inr is)) = subst (Fine {X = Rules} (λ _. ⊤)) is (rules_fine grounds.rules.now)
mutators_no grounds e (inr (own, is)) = subst IsNo (sym is) tt

pub opening_no : (grounds : Grounds) (e : Outcome) → IsOpeningRefusal grounds e → IsNo e
opening_no grounds e (inl want) = want_no grounds e want
opening_no grounds e (inr why) = mutators_no grounds e why
