-- When a draft is placed, and when there was no slot for it.
use Rattle.std.specs.Prelude.{◌≡◌, ℕ, ◌<◌, List, [], ◌∷◌, ◌++◌, length}
use Rattle.std.specs.List.{All}
use mathlib.Core.List.{IsPrefix}
use Rattle.group_history.specs.declared.nodes.Child.{Child}
use Rattle.group_history.specs.declared.nodes.Node.{Node}
use Rattle.group_history.specs.declared.refs.Ref.{Ref}
use Rattle.group_history.specs.Refs.{slot_of}
use Rattle.group_history.specs.Spelling.{Contents}
use Rattle.head_word.specs.Books as books
use Rattle.head_word.specs.Marks.{Known, own}
use Rattle.map_chunks.specs.Drafts.{Drafted}
use Rattle.reader_claims.specs.declared.view.View.{View}
use Rattle.reader_claims.specs.Deeds.{Deed}
use Rattle.reader_claims.specs.Passes.{AreShut}
use Rattle.reader_claims.specs.Views.{ArePinsRead}
use Rattle.commit_publishing.specs.Retiring.{draft_deeds}
use Rattle.commit_publishing.specs.Stamped.{AreFrom, drawn_as}

-- By a call before which `before` was known as drawn, and after it `after`, the draft's nodes drew the stamps of these
-- references, in order: those directly behind some contents that go on `before`. Under them stands what the nodes are,
-- each child by its stamp.
pub record IsPlaced (before after : Contents) (draft : Drafted) (refs : List Ref) : Type 0 where
  pub earlier : Contents
  pub first : ℕ
  pub count : length refs ≡ length draft.nodes
  pub stamps : AreFrom first refs
  pub behind : length earlier ≡ first
  pub since : IsPrefix before earlier
  pub until : IsPrefix (earlier ++ drawn_as draft.first first draft.nodes) after

-- The references bear the stamps that the seat drew for one draft, in order, by the one entry that it added to the
-- book.
pub record AreDrawnBy (old new : Known) (refs : List Ref) : Type 0 where
  pub first : ℕ
  pub contents : List (Node Child)
  pub own : own new ≡ own old ++ books.drafted old.seat first contents ∷ []
  pub stamps : AreFrom first refs
  pub count : length refs ≡ length contents

-- each of the nodes lies in a slot below the end
abbrev pub LieBelow : ℕ → List Ref → Type 0
LieBelow end refs = All (λ at. slot_of at < end) refs

-- A pass over the slots below end found none for a draft of so many nodes, and nothing was looked for since: from v to
-- u the epoch was loaded, and since it was loaded last each pin was read, and each of the slots found shut. Those that
-- were the seat's own then are fewer than the nodes: they were taken last, and withdrawn.
pub record FoundNoneFor (v u : View) (end count : ℕ) : Type 0 where
  pub loads : v.epoch_loads < u.epoch_loads
  pub epoch : u.loaded ≡ u.reached
  pub pins : ArePinsRead u
  pub own : List ℕ
  pub few : length own < count
  pub before : List Deed
  pub back : u.deeds ≡ draft_deeds [] own before
  pub slots : AreShut own 0 end u
