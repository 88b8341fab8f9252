-- The one record of a run.
use Rattle.std.specs.Prelude.{ℕ, ◌≡◌, ◌<◌, List, length, slice_index_or, Some}
use mathlib.Core.List.{IsPrefix}
use Rattle.group_history.specs.Meaning.{Meanings}
use Rattle.head_word.specs.declared.entry.Entry.{Entry}
use Rattle.head_word.specs.Books.{IsOpened, seats_of}
use Rattle.head_word.specs.Marks.{own, own_of}
use Rattle.rebase.specs.Clients.{ClientState}
use Rattle.client_desk.specs.Places.{client_at}
use Rattle.script_runner.specs.Commanding.{Player}

-- A client by its seat's number, when its last call has ended: it has seen a beginning of the book, and what its seat
-- added stands there as it was added.
pub record IsIn (book : List Entry) (number : ℕ) (p : Player) : Type 0 where
  pub client : ClientState
  pub there : client_at p.place ≡ Some client
  pub seat : client.seat.mark.seat ≡ Some number
  pub seen : IsPrefix client.seat.mark.log book
  pub own : own_of (Some number) book ≡ own client.seat.mark

-- A book that is legal under this meaning: behind its opening each entry was added by one of these clients' seats, and
-- by no other one (`IsOpened`), each client's in its order.
pub record IsRecordOf (means : Meanings) (players : List Player) (book : List Entry) : Type 0 where
  pub legal : IsOpened means book
  pub seats : seats_of book ≡ length players
  pub each : (i : ℕ) (p : Player) → i < length players → IsIn book i (slice_index_or players i p)
