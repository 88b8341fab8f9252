-- What a client keeps beside its seat.
use Rattle.std.specs.Prelude.{ℕ, ◌≡◌, ◌<◌, ◌^◌, [], Option, Some}
use Rattle.group_history.specs.declared.refs.Ref.{Ref}
use Rattle.group_history.specs.Map.{Bytes}
use Rattle.group_history.specs.Refs.{stamp_of}
use Rattle.head_word.specs.Books.{drawn}
use Rattle.commit_graph.specs.LastIds.{last_at}
use Rattle.commit_graph.specs.Seats.{GroupId, IsSeatOf, SeatState}
use Rattle.change_tries.specs.Rooting.{IsRooted}
use Rattle.change_tries.specs.declared.views.Rooted.{Rooted}

-- The seat is one of the group, without a taken slot. The last id is the one at the commit where it was found, and the
-- root that was read last is that of its commit.
pub record KeepsClient (reused : Type 0) (group : GroupId) (seat : SeatState) (id : Bytes) (last : ℕ) (found : Ref)
    (latest : Option Rooted) : Type 0 where
  pub home : IsSeatOf group seat
  pub none : reused → seat.view.taken ≡ []
  pub at : last_at (drawn seat.mark.log) (stamp_of found) id ≡ Some last
  pub low : last < 2 ^ 53
  pub rooted : (r : Rooted) → latest ≡ Some r → IsRooted (drawn seat.mark.log) r
