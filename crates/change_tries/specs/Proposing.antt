-- What is right to answer where a client asks for a change, and what leads from a state to the one after it.
use Rattle.std.specs.Prelude.{ℕ, ◌≡◌, ◌⊎◌, ◌+◌, ◌<◌, ◌≤◌, ◌^◌, Bool, true, false, List, [], ◌∷◌, length, Option, Some}
use Rattle.std.specs.Prelude.{None, Result, Ok, Err}
use mathlib.Core.List.{IsPrefix}
use Rattle.group_history.specs.declared.changes.Change.{Change}
use Rattle.group_history.specs.declared.changes.Change.TheVariants.{Mutated, Pulled, Closed}
use Rattle.group_history.specs.declared.mutations.MutationFields.{MutationFields as Mutation}
use Rattle.group_history.specs.declared.mutations.Reason.TheVariants.{Initial}
use Rattle.group_history.specs.declared.refs.Ref.{Ref}
use Rattle.group_history.specs.declared.refusals.Refusal.{Refusal}
use Rattle.group_history.specs.declared.refusals.Refusal.TheVariants as refusal
use Rattle.group_history.specs.declared.responses.Ended.{Ended}
use Rattle.group_history.specs.declared.responses.Ended.TheVariants as ended
use Rattle.group_history.specs.declared.responses.Response.TheVariants as response
use Rattle.group_history.specs.Map.{Bytes}
use Rattle.group_history.specs.Meaning.{Meanings}
use Rattle.group_history.specs.Mutating.{mutate_reply}
use Rattle.group_history.specs.Pulling.{end_reply}
use Rattle.group_history.specs.Record.{IsAccepted, after, after_change}
use Rattle.group_history.specs.Refs.{stamp_of}
use Rattle.group_history.specs.Spelling.{Contents, Spells}
use Rattle.group_history.specs.State.{State}
use Rattle.head_word.specs.declared.entry.Entry.{Entry}
use Rattle.head_word.specs.Books.{drawn, last_move, next_stamp, record_of}
use Rattle.head_word.specs.Marks.{Known}
use Rattle.map_chunks.specs.Drafts.{AreNeeded}
use Rattle.map_chunks.specs.Places.{with_nodes}
use Rattle.reader_claims.specs.declared.slot.Kind.{Kind}
use Rattle.reader_claims.specs.declared.slot.Kind.TheVariants as kind
use Rattle.commit_graph.specs.LastIds.{last_at}
use Rattle.commit_graph.specs.declared.states.LastId.{LastId}
use Rattle.linearized.specs.Answered.{IsLeft, is_resource_refusal}
use Rattle.linearized.specs.Trying.{IsBase, IsUnproposed}
use Rattle.change_drafts.specs.Chaining.{IsTip}
use Rattle.change_drafts.specs.declared.tips.Tip.{Tip}
use Rattle.change_tries.specs.Missing.{map_ok}
use Rattle.change_tries.specs.Places.{HeadPlace, state_at}
use Rattle.change_tries.specs.declared.proposing.Proposal.{Proposal}

-- an applied pull changes the group; one that brings nothing new does not
abbrev pub is_applied : Ended → Bool
is_applied ended.Applied = true
is_applied ended.Same = false

-- a group is closed once
abbrev pub closing_reply : Bool → Result Bool Refusal
closing_reply true = Err refusal.Closed
closing_reply false = Ok true

-- Whether the change is made, where a client asks for it whose last id is `last`; or why it is refused.
abbrev pub asked_reply : Meanings → State → ℕ → Change → Result Bool Refusal
asked_reply means s last (Mutated x) = map_ok (λ id. true) (mutate_reply means s last x)
asked_reply means s last (Pulled ticket r) = map_ok is_applied (end_reply s ticket.text (response.Ok r))
asked_reply means s last Closed = closing_reply s.closed

-- what such an answer stands for
abbrev pub change_asked : Change → Result Bool Refusal → Option Change
change_asked c (Ok true) = Some c
change_asked c (Ok false) = None
change_asked c (Err e) = None

-- A client may ask for this: a mutation is its next one, and its last id was found at that commit.
abbrev pub MayAsk : Contents → LastId → Change → Type 0
MayAsk cs before (Mutated x) = (last_at cs (stamp_of before.at) x.client ≡ Some before.id) × (x.id ≡ before.id + 1)
    × (x.reason ≡ Initial)
MayAsk cs before (Pulled ticket r) = Unit {0}
MayAsk cs before Closed = Unit {0}

-- it is no mutation
abbrev pub IsOther : Change → Type 0
IsOther (Mutated x) = ⊥
IsOther (Pulled ticket r) = Unit {0}
IsOther Closed = Unit {0}

-- where a client's last id was found, after a call that asked for the change: for a mutation perhaps at another commit,
-- by what is drawn now
abbrev pub StaysFound : Contents → LastId → LastId → Change → Type 0
StaysFound cs old new (Mutated x) = (last_at cs (stamp_of new.at) x.client ≡ Some new.id) × (new.id ≡ old.id)
StaysFound cs old new (Pulled ticket r) = new ≡ old
StaysFound cs old new Closed = new ≡ old

-- A client of this ID and this last id may ask for this.
abbrev pub AsksNext : Bytes → ℕ → Change → Type 0
AsksNext client last (Mutated x) = (x.client ≡ client) × (x.id ≡ last + 1) × (x.reason ≡ Initial)
AsksNext client last (Pulled ticket r) = Unit {0}
AsksNext client last Closed = Unit {0}

-- Where a mutation stands, its client has its id as the last one.
abbrev pub HasLast : Contents → Ref → Change → Type 0
HasLast cs at (Mutated x) = (last_at cs (stamp_of at) x.client ≡ Some x.id) × (x.id < 2 ^ 53)
HasLast cs at (Pulled ticket r) = Unit {0}
HasLast cs at Closed = Unit {0}

-- where nothing is pending at the end of a pull, its slots may be reserved ones
abbrev pub kind_left : List Mutation → Kind
kind_left [] = kind.PullEnd
kind_left xs = kind.Ordinary

-- The slots that a change may take: reserved ones at the end of a pull that leaves nothing pending, and where the group
-- is closed.
abbrev pub kind_for : State → Change → Kind
kind_for s (Mutated x) = kind.Ordinary
kind_for s (Pulled ticket r) = kind_left (after_change s (Pulled ticket r)).pending
kind_for s Closed = kind.PullEnd

-- The group is open there, one look at the commit told its tip, and the stamps below the first are those drawn by now.
pub record IsDraftSpot (means : Meanings) (at : HeadPlace) (tip : Tip) (first : ℕ) : Type 0 where
  pub opened : (state_at at).closed ≡ false
  pub stands : IsTip means (drawn at.mark.log) tip (state_at at)
  pub drawn : first ≡ next_stamp at.mark.log

-- It begins at the base. The change is accepted at the state, and the draft, behind contents that were drawn, has a
-- commit of the state after it.
pub record IsProposalFor (means : Meanings) (before : Contents) (base : Ref) (s : State) (change : Change)
    (p : Proposal)
    : Type 0 where
  pub begins : p.base ≡ base
  pub contents : Contents
  pub drawn : IsPrefix contents before
  pub first : length contents ≡ p.draft.first
  pub some : 0 < length p.draft.nodes
  -- its commit is one of the draft's own
  pub new : p.draft.first ≤ stamp_of p.at
  -- which is the last one, and each of the others is a child of a later one
  pub needed : AreNeeded p.draft.first p.draft.nodes (p.at ∷ [])
  pub kind : p.kind ≡ kind_for s change
  pub accepted : IsAccepted means s change
  pub then : Spells means (with_nodes contents p.draft.nodes) (stamp_of p.at) (after_change s change)

-- The proposal begins at a commit of a state that was seen, at which the head was, and leads from there to the change.
pub record MayMove (means : Meanings) (mark : Known) (change : Change) (p : Proposal) : Type 0 where
  pub log : List Entry
  pub seen : IsPrefix log mark.log
  pub stood : p.base ≡ last_move log
  pub base : IsBase means mark p.base (after (record_of log))
  pub leads : IsProposalFor means (drawn mark.log) p.base (after (record_of log)) change p

-- What is proposed at the state: what leads to the change, or nothing, where nothing is to be changed.
abbrev pub MayPropose : Meanings → Contents → Ref → State → ℕ → Change → Option Proposal → Type 0
MayPropose means before base s last change (Some p) = (asked_reply means s last change ≡ Ok true)
    × IsProposalFor means before base s change p
MayPropose means before base s last change None = asked_reply means s last change ≡ Ok false

-- Why nothing was made: nothing could be proposed, and nothing was done; or for want of something.
abbrev pub IsUnmade : {X : Type 0} → (Refusal → Type 0) → (Result X Refusal → Option Change) → Result X Refusal → ℕ
    → Known → Known → Refusal → Type 0
IsUnmade stops change right tries old new e = (IsUnproposed stops change right e × (new ≡ old))
    ⊎ ((is_resource_refusal e ≡ true) × IsLeft tries old new e)
