-- What a change of the head leaves behind.
use Rattle.std.specs.Prelude.{ℕ, ◌≡◌, ◌+◌, ◌≤◌, ◌↔◌, ◌++◌, List, [], ◌∷◌, map, length, Option, Some, None, Result, Ok}
use Rattle.std.specs.Prelude.{Err}
use Rattle.std.specs.List.{All, Contains}
use mathlib.Core.List.{IsPrefix}
use Rattle.group_history.specs.declared.changes.Change.{Change}
use Rattle.group_history.specs.declared.changes.Change.TheVariants.{Mutated, Pulled, Closed}
use Rattle.group_history.specs.declared.nodes.Child.{Child}
use Rattle.group_history.specs.declared.nodes.Node.{Node}
use Rattle.group_history.specs.declared.refs.Ref.{Ref}
use Rattle.group_history.specs.declared.refusals.Refusal.{Refusal}
use Rattle.group_history.specs.Record.{after}
use Rattle.group_history.specs.Refs.{slot_of, stamp_of}
use Rattle.group_history.specs.Spelling.{Contents}
use Rattle.reader_claims.specs.Deeds.{Deed}
use Rattle.reader_claims.specs.declared.view.Sizes.{Sizes}
use Rattle.reader_claims.specs.declared.view.View.{View}
use Rattle.reader_claims.specs.Seats.{kind_end}
use Rattle.head_word.specs.declared.entry.Entry.{Entry}
use Rattle.head_word.specs.Books.{drafted as drafted_by, drawn, last_move, moved, record_of}
use Rattle.head_word.specs.Marks.{Known, others, own}
use Rattle.commit_graph.specs.Seats.{SeatState}
use Rattle.commit_graph.specs.Reach.{IsDropped, Falls, Reaches, stamps_of}
use Rattle.linearized.specs.Trying.{IsMove}
use Rattle.linearized.specs.declared.trying.Published.{Published}
use Rattle.commit_publishing.specs.Placed.{LieBelow}
use Rattle.commit_publishing.specs.Retiring.{AreFreed, GivenUp, GivesUp, draft_deeds, entries_drawn, unneeded}
use Rattle.commit_publishing.specs.Stamped.{AreFrom}
use Rattle.change_tries.specs.Proposing.{kind_for}

-- After a pull, what the old head reaches and the new one does not, each once. Other changes leave nothing.
abbrev pub AreLeft : Contents → Ref → Ref → Change → List Ref → Type 0
AreLeft cs old new (Pulled ticket r) left =
    ((x : ℕ) → Contains (stamps_of left) x ↔ IsDropped cs (stamp_of old) (stamp_of new) x) × Falls (stamps_of left)
AreLeft cs old new (Mutated m) left = left ≡ []
AreLeft cs old new Closed left = left ≡ []

-- A draft may take slots below this end: below that of the kind that what is asked for may take at a state which the
-- call came to see. What asks for no change takes none.
abbrev pub MayTake : Sizes → Option Change → Known → Known → ℕ → Type 0
MayTake sizes None old new end = ⊥
MayTake sizes (Some c) old new end = (log : List Entry) × IsPrefix old.log log × IsPrefix log new.log
    × (end ≡ kind_end sizes (kind_for (after (record_of log)) c))

-- The seat gave these drafts up, which may take slots below such ends, and did nothing else to slots and to the epoch,
-- of which it knows no less.
pub record GivesBack (may : ℕ → Type 0) (given : List GivenUp) (old new : SeatState) (ys : List Deed) : Type 0 where
  pub ends : All (λ g. may g.end) given
  pub gave : GivesUp old.table.sizes.slots new.view.reached old.mark.seat given old.view.deeds ys
  pub loads : old.view.epoch_loads ≤ new.view.epoch_loads
  pub reached : old.view.reached ≤ new.view.reached

-- So many drafts at most were given up, and nothing was added to the book but the entries that drew stamps for them.
pub record FreesNone (may : ℕ → Type 0) (count : ℕ) (old new : SeatState) : Type 0 where
  pub given : List GivenUp
  pub few : length given ≤ count
  pub back : GivesBack may given old new new.view.deeds
  pub own : own new.mark ≡ own old.mark ++ entries_drawn given

-- The change was made from `base`, by a move of the seat to `to`: at `base` the head was when so much of the book had
-- been seen. First the seat gave up drafts, so many at most; then it placed the draft of which `to` is one, and from
-- which the others are reached, in slots of the kind that the change may take at the state of `base`, and let go what
-- the change leaves behind. To the book it added what drew stamps, the move, and nothing else.
pub record FreesFor (may : ℕ → Type 0) (count : ℕ) (old new : SeatState) (change : Change) : Type 0 where
  pub base : Ref
  pub to : Ref
  pub goes : IsMove old.mark new.mark base to change
  pub log : List Entry
  pub seen : IsPrefix log new.mark.log
  pub stood : base ≡ last_move log
  pub left : List Ref
  pub are : AreLeft (drawn new.mark.log) base to change left
  pub refs : List Ref
  pub first : ℕ
  pub contents : List (Node Child)
  pub stamps : AreFrom first refs
  pub each : length refs ≡ length contents
  pub within : LieBelow (kind_end old.table.sizes (kind_for (after (record_of log)) change)) refs
  pub among : Contains refs to
  pub needed : (at : Ref) → Contains refs at → Reaches (drawn new.mark.log) (stamp_of to) (stamp_of at)
  pub given : List GivenUp
  pub few : length given ≤ count
  pub lost : List Deed
  pub back : GivesBack may given old new lost
  pub own : own new.mark ≡ own old.mark ++ (entries_drawn given
      ++ drafted_by old.mark.seat first contents ∷ moved old.mark.seat to change ∷ [])
  pub freed : AreFreed old.table.sizes.slots new.view.reached (map slot_of left) (draft_deeds
      (map slot_of refs) [] lost)
      new.view.deeds

-- What a call did to slots and to the book that made this change, or none: so many drafts at most were given up.
abbrev pub FreesIn : (ℕ → Type 0) → ℕ → SeatState → SeatState → Option Change → Type 0
FreesIn may count old new None = FreesNone may count old new
FreesIn may count old new (Some c) = FreesFor may count old new c

-- By a reply with a value no more drafts were given up than others added entries meanwhile; by a refusal one more.
abbrev pub spared : {X : Type 0} → Result X Refusal → ℕ
spared (Ok x) = 0
spared (Err e) = 1

-- what a call did to slots that was asked for a change, or for none, and made one, or none
abbrev pub Frees : Option Change → ℕ → SeatState → SeatState → Option Change → Type 0
Frees asked spare old new made = (count : ℕ) × (others old.mark + count ≤ others new.mark + spare)
    × FreesIn (MayTake old.table.sizes asked old.mark new.mark) count old new made

-- and of a call that begins anew where it was refused in passing: it is not counted how many drafts were given up
abbrev pub FreesAnew : Option Change → SeatState → SeatState → Option Change → Type 0
FreesAnew asked old new made = (count : ℕ) × FreesIn (MayTake old.table.sizes asked old.mark new.mark) count old new
    made

-- What the change leaves behind was let go where the head was moved, and the draft itself where it was not.
abbrev pub FreesWhatIsLeft : ℕ → Contents → Ref → Ref → Change → List Ref → View → View → Published → Type 0
FreesWhatIsLeft slots cs old new change refs v u published = (left : List Ref) × AreLeft cs old new change left
    × AreFreed slots u.reached (map slot_of (unneeded published refs left)) v.deeds u.deeds
