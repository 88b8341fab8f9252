-- A call beside which nobody changes the group.
use Rattle.std.specs.Prelude.{◌≡◌, List, [], ◌++◌, Option, Some}
use Rattle.group_history.specs.declared.changes.Change.{Change}
use Rattle.group_history.specs.Meaning.{Meanings}
use Rattle.head_word.specs.declared.entry.Entry.{Entry}
use Rattle.head_word.specs.Books.{record_of, with_change}
use Rattle.head_word.specs.Marks.{Known}
use Rattle.linearized.specs.Answered.{IsPoint, own_moves}
use Rattle.rebase.specs.Calls.{IsAlone}
use Rattle.rebase.specs.Clients.{ClientState}
use Rattle.client_desk.specs.Places.{PlaceState, client_at}
use Rattle.script_runner.specs.Answering.{record_seen}

-- Beside a call that began when its client knew `old` and ended when it knew `new` nobody made a change, nor before it
-- since the other lines have seen this. So the call has one place in the record: at whatever point its reply is right
-- (`IsPoint`), the record is that of the lines before; and behind the call it is that one and the call's own change.
pub record IsExactCall (means : Meanings) (seen : Option Known) (old new : Known) : Type 0 where
  pub before : record_of old.log ≡ record_seen seen
  pub alone : IsAlone old new
  pub point : (change : Option Change) (log : List Entry) → IsPoint means old new change log
      → record_of log ≡ record_seen seen
  pub behind : (change : Option Change) (log : List Entry) → IsPoint means old new change log
      → record_of new.log ≡ record_seen seen ++ with_change change []
  pub none : own_moves new ≡ own_moves old → record_of new.log ≡ record_seen seen

-- so is the call of the client that sits at a place, and has a reading open there then, or sits there still
pub record IsExactAt (means : Meanings) (seen : Option Known) (before after : PlaceState) : Type 0 where
  pub old : ClientState
  pub new : ClientState
  pub sat : before.client ≡ Some old
  pub there : client_at after ≡ Some new
  pub exact : IsExactCall means seen old.seat.mark new.seat.mark
