-- What the functions that C calls answer.
use Rattle.std.specs.Prelude.{ℕ, ℤ, pos, ◌≡◌, ◌⊎◌, ◌-◌, ◌<◌, Bool, List, length}
use Rattle.std.specs.Prelude.{slice_index_or, Option, Some, Ok, IsOk}
use Rattle.std.specs.List.{All}
use Rattle.group_history.specs.declared.refusals.Refusal.TheVariants.{NoMemory}
use Rattle.group_history.specs.Map.{Bytes}
use Rattle.client_desk.specs.declared.faults.CallFault.TheVariants.{OutOfRange}
use Rattle.client_desk.specs.declared.outcomes.Outcome.{Outcome}
use Rattle.client_desk.specs.declared.outcomes.Outcome.TheVariants.{Faulty, Refused}
use Rattle.host_places.specs.Mutators.{Meant}
use Rattle.client_desk.specs.Numbers.{outcome_number}
use Rattle.host_places.specs.Opening.{IsFreshPlace, layout_said}
use Rattle.rebase.specs.Clients.{Grouped}
use Rattle.rebase.specs.Configs.{Layout}
use Rattle.rule_mutators.specs.Faults.{fault_told, laid_over}
use Rattle.giqaymu_c.specs.declared.exports.CallAnswer.{CallAnswer}
use Rattle.giqaymu_c.specs.declared.handle.Handle.{Handle}
use Rattle.giqaymu_c.specs.declared.jobs.Grounds.{Grounds}
use Rattle.host_places.specs.declared.numbered.Numbered.{Numbered}
use Rattle.giqaymu_c.specs.declared.jobs.JobReply.{JobReply}
use Rattle.giqaymu_c.specs.Jobs.{HasCalled, IsOpeningRefusal, asks_meant, rules_given}
use Rattle.giqaymu_c.specs.Own.{Run}
use Rattle.giqaymu_c.specs.Spots.{SpotState}

-- the number that is answered and what is written to `out` are those of a reply
pub record IsTold (reply : JobReply) (number : ℤ) (out : CallAnswer) : Type 0 where
  pub number_is : number ≡ reply.number
  pub value_is : out.number ≡ reply.value
  pub code_is : out.code ≡ reply.code
  pub at_is : out.at ≡ reply.at
  pub len_is : out.len ≡ reply.len

-- the call of these numbers and bytes
pub record IsNumbered (call : Numbered) (what m n : ℕ) (a b : Bytes) : Type 0 where
  pub what_is : call.what ≡ what
  pub m_is : call.m ≡ m
  pub n_is : call.n ≡ n
  pub a_is : call.a.now ≡ a
  pub b_is : call.b.now ≡ b

-- is made
pub record IsCalled (meant : Meant) (what m n : ℕ) (a b : Bytes) (before : Option SpotState) (number : ℤ)
    (out : CallAnswer)
    (after : Option SpotState) : Type 0 where
  pub call : Numbered
  pub asked : IsNumbered call what m n a b
  pub reply : JobReply
  pub told : IsTold reply number out
  pub called : HasCalled meant call before reply after

-- it is a place of a group that was opened as the other one was, or closed with the same ghost data
abbrev pub IsLike : Handle → Handle → Type 0
IsLike one other = (other.text ≡ one.text) × (other.asks ≡ one.asks) × (other.own ≡ one.own)

-- ---- opening

-- the terms on which a group was opened: the text of its rules; whether the host has mutators of its own, and their
-- runs
pub record Terms : Type 0 where
  pub text : Bytes
  pub asks : Bool
  pub own : List Run

-- A new place of a group that was opened on these terms: nobody sits there. It has so many places of the group that
-- are not given out yet.
pub record IsNewPlace (group : Grouped) (commit : ℕ) (terms : Terms) (spare : ℕ) (h : Handle) : Type 0 where
  pub text_is : h.text ≡ terms.text
  pub asks_is : h.asks ≡ terms.asks
  pub own_is : h.own ≡ terms.own
  pub spot : SpotState
  pub there : h.spot ≡ Some spot
  pub new : IsFreshPlace group commit spot.desk.place
  pub count : length spot.spare ≡ spare
  pub all : All (λ d. IsFreshPlace group commit d.place) spot.spare

-- the places from the second one to the n-th
abbrev pub AreNewHandles : Grouped → ℕ → Terms → ℕ → List Handle → Type 0
AreNewHandles group commit terms n places =
    (i : ℕ) → 0 < i → i < n → (d : Handle) → IsNewPlace group commit terms 0 (slice_index_or places i d)

-- Where the first place had all of a new group, each has one of them, or memory was refused.
abbrev pub IsGivenOut : ℕ → Handle → Handle → ℤ → List Handle → Type 0
IsGivenOut n first last number places = (group : Grouped) (commit : ℕ) (terms : Terms)
    → IsNewPlace group commit terms (n - 1) first
    → ((number ≡ pos 0) × IsNewPlace group commit terms 0 last × AreNewHandles group commit terms n places)
    ⊎ (number ≡ outcome_number (Refused NoMemory))

-- Each is a place of one new group with this layout: nobody sits there, and its seat has seen the opening of the
-- group's book alone.
pub record AreGivenOut (layout : Layout) (terms : Terms) (places : List Handle) : Type 0 where
  pub group : Grouped
  pub commit : ℕ
  pub identity : group.identity ≡ layout.identity
  pub sizes : group.group.table.sizes ≡ record { readers = layout.seats; slots = layout.slots }
  pub each : (i : ℕ) → i < length places → (d : Handle) → IsNewPlace group commit terms 0 (slice_index_or places i d)

-- with these grounds, where the host's own mutators have these runs
pub record AreOpenedFor (grounds : Grounds) (own : List Run) (places : List Handle) : Type 0 where
  pub layout : Layout
  pub said : layout_said grounds.with.id.now grounds.with.profile.now grounds.with.schema.now grounds.with.slots
      grounds.with.places ≡ Ok layout
  pub rules : IsOk (rules_given grounds.rules.now)
  pub known : grounds.own < 2
  pub given : AreGivenOut layout (record { text = grounds.rules.now; asks = asks_meant grounds.own; own = own }) places

abbrev pub IsOpeningFault : Grounds → ℤ → Type 0
IsOpeningFault grounds number = (e : Outcome) × (number ≡ outcome_number e) × IsOpeningRefusal grounds e

-- with this
pub record IsOf (grounds : Grounds) (id profile schema rules : Bytes) (slots own : ℕ) : Type 0 where
  pub id_is : grounds.with.id.now ≡ id
  pub profile_is : grounds.with.profile.now ≡ profile
  pub schema_is : grounds.with.schema.now ≡ schema
  pub rules_are : grounds.rules.now ≡ rules
  pub slots_are : grounds.with.slots ≡ slots
  pub own_is : grounds.own ≡ own

abbrev pub IsOpenedWith : Bytes → Bytes → Bytes → Bytes → ℕ → ℕ → List Run → List Handle → Type 0
IsOpenedWith id profile schema rules slots own means places = (grounds : Grounds)
    × IsOf grounds id profile schema rules slots own × (grounds.with.places ≡ length places)
    × AreOpenedFor grounds means places

-- or it is refused for a count that is out of range
abbrev pub IsRefusedFor : Bytes → Bytes → Bytes → Bytes → ℕ → ℕ → ℕ → ℤ → Type 0
IsRefusedFor id profile schema rules slots own count number =
    ((number ≡ outcome_number (Faulty OutOfRange)) × ((count ≡ 0) ⊎ (256 < count)))
    ⊎ ((grounds : Grounds) × IsOf grounds id profile schema rules slots own × (grounds.with.places ≡ count)
    × IsOpeningFault grounds number)

-- ---- rules

-- What is wrong with rules is told in the place of these bytes, as far as they reach, and how long its text is; or
-- memory was refused, and the bytes stay.
abbrev pub TellsFault : Bytes → Bytes → ℤ → Bytes → Type 0
TellsFault rules before number after =
    ((number ≡ pos (length (fault_told rules))) × (after ≡ laid_over (fault_told rules) before))
    ⊎ ((number ≡ outcome_number (Refused NoMemory)) × (after ≡ before))
