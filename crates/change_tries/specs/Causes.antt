-- Why a change was refused for want of something.
use Rattle.std.specs.Prelude.{ℕ, ◌≡◌, ◌≤◌, true, List, length, Option, Some, None, IsSome, Ok}
use Rattle.map_chunks.specs.Drafts.{IsLate}
use mathlib.Core.List.{IsPrefix}
use Rattle.group_history.specs.declared.changes.Change.{Change}
use Rattle.group_history.specs.declared.refusals.Refusal.{Refusal}
use Rattle.group_history.specs.declared.refusals.Refusal.TheVariants as refusal
use Rattle.group_history.specs.Meaning.{Meanings}
use Rattle.group_history.specs.Record.{after}
use Rattle.group_history.specs.Refs.{max_slots}
use Rattle.group_history.specs.State.{State}
use Rattle.head_word.specs.declared.entry.Entry.{Entry}
use Rattle.head_word.specs.Books.{drawn, next_stamp, record_of}
use Rattle.reader_claims.specs.Seats.{kind_end}
use Rattle.commit_graph.specs.Seats.{SeatState}
use Rattle.commit_publishing.specs.Placed.{FoundNoneFor}
use Rattle.change_tries.specs.Proposing.{IsProposalFor, asked_reply, kind_for}
use Rattle.change_tries.specs.declared.proposing.Proposal.{Proposal}

-- What leads from the state to the change was drafted, and a pass found too few slots for its nodes of those that the
-- change may take there: each was taken, live, not to be given, or lost to another seat.
pub record LacksRoom (means : Meanings) (s : State) (change : Change) (old new : SeatState) : Type 0 where
  pub proposal : Proposal
  pub leads : IsProposalFor means (drawn new.mark.log) proposal.base s change proposal
  pub none : FoundNoneFor old.view new.view (kind_end old.table.sizes (kind_for s change)) (length proposal.draft.nodes)

-- It was to be made so at a state that the call came to see.
pub record LacksSlots (means : Meanings) (last : ℕ) (change : Change) (old new : SeatState) : Type 0 where
  pub log : List Entry
  pub since : IsPrefix old.mark.log log
  pub until : IsPrefix log new.mark.log
  pub asked : asked_reply means (after (record_of log)) last change ≡ Ok true
  pub room : LacksRoom means (after (record_of log)) change old new

-- What asks for no change lacks none.
abbrev pub Lacks : Meanings → ℕ → Option Change → SeatState → SeatState → Type 0
Lacks means last None old new = ⊥
Lacks means last (Some c) old new = LacksSlots means last c old new

-- The refusal has its cause: Full a pass, where slots are used again, and else that so many stamps are drawn as there
-- are slot numbers; Busy other seats; and Stamps a change that was to be drafted where all stamps but 2^32 are drawn.
pub record HasCause (means : Meanings) (reused : Type 0) (last : ℕ) (asked : Option Change) (old new : SeatState)
    (e : Refusal) : Type 0 where
  pub full : reused → e ≡ refusal.Full → Lacks means last asked old new
  pub past : (reused → ⊥) → e ≡ refusal.Full → IsSome asked × (max_slots ≤ next_stamp new.mark.log)
  pub busy : e ≡ refusal.Busy → reused
  pub stamps : e ≡ refusal.Stamps → IsSome asked × IsLate (next_stamp new.mark.log)

-- the same of a change that is tried at this state
pub record HasCauseAt (means : Meanings) (reused : Type 0) (s : State) (last : ℕ) (change : Change)
    (old new : SeatState)
    (e : Refusal) : Type 0 where
  pub asked : e ≡ refusal.Full → asked_reply means s last change ≡ Ok true
  pub room : reused → e ≡ refusal.Full → LacksRoom means s change old new
  pub past : (reused → ⊥) → e ≡ refusal.Full → max_slots ≤ next_stamp new.mark.log
  pub busy : e ≡ refusal.Busy → reused
  pub stamps : e ≡ refusal.Stamps → IsLate (next_stamp new.mark.log)
