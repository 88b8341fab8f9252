-- Where a call stands: a commit of a group, as a seat reads it.
use Rattle.std.specs.Prelude.{◌<◌, List}
use mathlib.Core.List.{IsPrefix}
use Rattle.group_history.specs.declared.refs.Ref.{Ref}
use Rattle.group_history.specs.Ids.{IdsFollow}
use Rattle.group_history.specs.Meaning.{Meanings}
use Rattle.group_history.specs.Record.{after}
use Rattle.group_history.specs.Refs.{stamp_of, stamps}
use Rattle.group_history.specs.State.{State}
use Rattle.head_word.specs.declared.entry.Entry.{Entry}
use Rattle.head_word.specs.Books.{record_of}
use Rattle.head_word.specs.Marks.{Known}
use Rattle.push_body.specs.declared.identities.Identity.{Identity}
use Rattle.linearized.specs.Trying.{IsBase}

pub record HeadPlace : Type 0 where
  -- whose requests the group writes
  pub identity : Identity
  -- what had been seen of the book when the head was at the commit
  pub log : List Entry
  -- what the seat has seen by now
  pub mark : Known
  pub commit : Ref

abbrev pub place : Identity → List Entry → Known → Ref → HeadPlace
place identity log mark commit = record { identity = identity; log = log; mark = mark; commit = commit }

-- the state of the group there
abbrev pub state_at : HeadPlace → State
state_at at = after (record_of at.log)

-- The commit is one of that state, by what the seat has seen since.
pub record IsHeadPlace (means : Meanings) (at : HeadPlace) : Type 0 where
  pub since : IsPrefix at.log at.mark.log
  pub base : IsBase means at.mark at.commit (state_at at)
  pub ids : IdsFollow (state_at at).confirmed (state_at at).pending
  pub low : stamp_of at.commit < stamps
