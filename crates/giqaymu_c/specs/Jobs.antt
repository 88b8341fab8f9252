-- What is done to a place of a host.
use Rattle.std.specs.Prelude.{ℕ, zero, suc, ◌≡◌, ◌⊎◌, ◌++◌, ◌∷◌, ◌<◌, ⊤, [], Bool, true, false, List, length, Option}
use Rattle.std.specs.Prelude.{Some, None}
use Rattle.std.specs.Prelude.{Result, Ok, Err, IsOk, IfSome}
use Rattle.group_history.specs.declared.refusals.Refusal.TheVariants.{NoMemory, NoSeat}
use Rattle.group_history.specs.Map.{Bytes}
use Rattle.rebase.specs.Configs.{Layout}
use Rattle.rule_mutators.specs.declared.faults.RuleFault.{RuleFault}
use Rattle.rule_mutators.specs.Reading.{rules_or_none}
use Rattle.rule_mutators.specs.Rules.{Rules}
use Rattle.client_desk.specs.declared.faults.CallFault.TheVariants as fault
use Rattle.client_desk.specs.declared.outcomes.Outcome.{Outcome}
use Rattle.client_desk.specs.declared.outcomes.Outcome.TheVariants.{Done, Faulty, Refused}
use Rattle.host_places.specs.Numbers.{IsRunSaid, MayAnswerNumbers, number_beside}
use Rattle.client_desk.specs.Numbers.{outcome_code, outcome_number, outcome_value}
use Rattle.host_places.specs.Opening.{AreOpened, IsWantToOpen, layout_said}
use Rattle.host_places.specs.Asking.{ran_said}
use Rattle.host_places.specs.Mutators.{Meant, has_of, means_of}
use Rattle.host_places.specs.Desks.{DeskState}
use Rattle.client_desk.specs.Places.{PlaceState}
use Rattle.client_desk.specs.Told.{told}
use Rattle.giqaymu_c.specs.declared.jobs.Grounds.{Grounds}
use Rattle.giqaymu_c.specs.declared.jobs.Job.{Job}
use Rattle.giqaymu_c.specs.declared.jobs.Job.TheVariants as job
use Rattle.host_places.specs.declared.numbered.Numbered.{Numbered}
use Rattle.giqaymu_c.specs.declared.jobs.JobReply.{JobReply}
use Rattle.giqaymu_c.specs.Own.{Run, runs_mean}
use Rattle.giqaymu_c.specs.Spots.{SpotState, desk_places}

-- ---- rules

-- the rules that a text says; no bytes are no rules
abbrev pub or_bad_rules : Result Rules RuleFault → Result Rules Outcome
or_bad_rules (Ok rules) = Ok rules
or_bad_rules (Err e) = Err (Faulty fault.BadRules)

abbrev pub rules_given : Bytes → Result Rules Outcome
rules_given text = or_bad_rules (rules_or_none text)

abbrev pub or_none : Result Rules Outcome → Rules
or_none (Ok rules) = rules
or_none (Err e) = []

-- those that a group is opened by
abbrev pub rules_meant : Bytes → Rules
rules_meant text = or_none (rules_given text)

-- they are refused for want of memory, or since the text says none
abbrev pub IsRulesRefusal : Bytes → Outcome → Type 0
IsRulesRefusal text e = (e ≡ Refused NoMemory) ⊎ (rules_given text ≡ Err e)

-- the text of the rules that a job comes with
abbrev pub text_for : Job → Bytes
text_for (job.Open grounds) = grounds.rules.now
text_for other = []

-- whether names without a rule are those of the host's own mutators, as a group is opened
abbrev pub asks_meant : ℕ → Bool
asks_meant zero = false
asks_meant (suc n) = true

abbrev pub asks_for : Job → Bool
asks_for (job.Open grounds) = asks_meant grounds.own
asks_for other = false

-- ---- what mutators mean

-- at a place that was opened by the rules of this text, and where the host's own mutators have these runs
abbrev pub meant_at : Bytes → Bool → List Run → Meant
meant_at text asks own = record { rules = rules_meant text; asks = asks; own = runs_mean own }

-- these are the mutators that a group is opened with
abbrev pub IsMeantBy : Grounds → Meant → Type 0
IsMeantBy grounds meant = (meant.rules ≡ rules_meant grounds.rules.now) × (meant.asks ≡ asks_meant grounds.own)

-- The premise of a host's own mutators, of the call with these numbers at a place: where it tells that a run has ended
-- (23), the run is one of their meaning. Any other call, and any at a place of a host without mutators of its own, has
-- none.
abbrev pub IsToldByNumbers : Meant → ℕ → ℕ → ℕ → SpotState → Type 0
IsToldByNumbers meant what m n spot = what ≡ 23
    → IsRunSaid (has_of meant) (means_of meant) spot.desk.place.asking (ran_said m n)

abbrev pub IsToldAsMeant : Meant → Numbered → SpotState → Type 0
IsToldAsMeant meant call spot = IsToldByNumbers meant call.what call.m call.n spot

-- A job fits at a place: a group is opened with the mutators that it comes with, and a run is told of as it was.
abbrev pub IsFit : Job → Meant → Option SpotState → Type 0
IsFit (job.Open grounds) meant spot = IsMeantBy grounds meant
IsFit (job.Call call) meant spot = IfSome spot (IsToldAsMeant meant call)
IsFit other meant spot = ⊤

-- ---- replies

-- it tells this
pub record FillsReply (outcome : Outcome) (reply : JobReply) : Type 0 where
  pub number : reply.number ≡ outcome_number outcome
  pub value : reply.value ≡ outcome_value outcome
  pub code : reply.code ≡ outcome_code outcome

-- without bytes
abbrev pub RepliesBare : Outcome → JobReply → Type 0
RepliesBare outcome reply = FillsReply outcome reply × (reply.len ≡ 0)

-- what the call of this number came to, with the bytes that a desk has; of a query that was answered with its moment
pub record RepliesAt (what : ℕ) (outcome : Outcome) (desk : DeskState) (reply : JobReply) : Type 0 where
  pub number : reply.number ≡ outcome_number outcome
  pub value : reply.value ≡ number_beside what outcome desk.place.moment
  pub code : reply.code ≡ outcome_code outcome
  pub at : reply.at ≡ desk.start
  pub len : reply.len ≡ length desk.bytes

-- ---- opening

-- the spot has all places of a group that was just opened so
pub record OpensAll (grounds : Grounds) (spot : SpotState) : Type 0 where
  pub layout : Layout
  pub said : layout_said grounds.with.id.now grounds.with.profile.now grounds.with.schema.now grounds.with.slots
      grounds.with.places ≡ Ok layout
  pub opened : AreOpened layout (desk_places spot)

-- by its rules, and mutators of the host's own or none
abbrev pub OpensPlaces : Grounds → SpotState → Type 0
OpensPlaces grounds spot = OpensAll grounds spot × IsOk (rules_given grounds.rules.now) × (grounds.own < 2)

-- it is refused for want of something, or since its ID, a text or a number says nothing
abbrev pub IsOpeningWant : Grounds → Outcome → Type 0
IsOpeningWant grounds e = IsWantToOpen e
    ⊎ (layout_said grounds.with.id.now grounds.with.profile.now grounds.with.schema.now grounds.with.slots
    grounds.with.places ≡ Err e)

-- or since the rules say nothing, or since it isn't said whether the host has mutators of its own
abbrev pub IsMutatorsRefusal : Grounds → Outcome → Type 0
IsMutatorsRefusal grounds e = IsRulesRefusal grounds.rules.now e ⊎ ((1 < grounds.own) × (e ≡ Faulty fault.OutOfRange))

abbrev pub IsOpeningRefusal : Grounds → Outcome → Type 0
IsOpeningRefusal grounds e = IsOpeningWant grounds e ⊎ IsMutatorsRefusal grounds e

abbrev pub HasOpened : Grounds → JobReply → Option SpotState → Type 0
HasOpened grounds reply (Some spot) = RepliesBare Done reply × OpensPlaces grounds spot
HasOpened grounds reply None = (e : Outcome) × RepliesBare e reply × IsOpeningRefusal grounds e

-- ---- calls

-- the call is answered at the desk, and the reply says where the bytes lie
pub record CallsAt (meant : Meant) (call : Numbered) (before : PlaceState) (reply : JobReply)
    (after : DeskState) : Type 0 where
  pub outcome : Outcome
  pub answered : MayAnswerNumbers (has_of meant) (means_of meant) call before
      (told outcome after.bytes) after.place
  pub told : RepliesAt call.what outcome after reply

pub record Calls (meant : Meant) (call : Numbered) (before : SpotState) (reply : JobReply)
    (after : SpotState) : Type 0 where
  pub desk : DeskState
  pub called : CallsAt meant call before.desk.place reply desk
  pub left : after ≡ record before { desk = desk }

abbrev pub HasCalled : Meant → Numbered → Option SpotState → JobReply → Option SpotState → Type 0
HasCalled meant call None reply after = RepliesBare (Faulty fault.NoPlace) reply × (after ≡ None)
HasCalled meant call (Some spot) reply after = (new : SpotState) × Calls meant call spot reply new × (after ≡ Some new)

-- ---- places that are given

-- One of the desks that were not given out yet is given to another place; or none, since there is none, or since memory
-- was refused.
abbrev pub Gives : SpotState → JobReply → SpotState → Option SpotState → Type 0
Gives before reply after None = (after.desk ≡ before.desk)
    × (RepliesBare (Refused NoMemory) reply ⊎ (RepliesBare (Refused NoSeat) reply × (before.spare ≡ [])))
Gives before reply after (Some spot) = RepliesBare Done reply × (after.desk ≡ before.desk)
    × (before.spare ≡ after.spare ++ spot.desk ∷ []) × (spot.spare ≡ [])

abbrev pub HasGiven : Option SpotState → JobReply → Option SpotState → Option SpotState → Type 0
HasGiven None reply after given = RepliesBare (Faulty fault.NoPlace) reply × (after ≡ None) × (given ≡ None)
HasGiven (Some spot) reply after given = (new : SpotState) × (after ≡ Some new) × Gives spot reply new given

-- ---- any job

abbrev pub Acts : Job → Meant → Option SpotState → JobReply → Option SpotState → Option SpotState → Type 0
Acts (job.Open grounds) meant before reply after given = HasOpened grounds reply after × (given ≡ None)
Acts job.Give meant before reply after given = HasGiven before reply after given
Acts (job.Call call) meant before reply after given = HasCalled meant call before reply after × (given ≡ None)
Acts job.Close meant before reply after given = (after ≡ None) × (given ≡ None)
