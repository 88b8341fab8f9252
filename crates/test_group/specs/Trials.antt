-- What tests try: a group without mutators, whose first pull brings a cookie and nothing else.
use Rattle.std.specs.Prelude.{ℕ, List, []}
use Rattle.std.specs.FinMap as finite
use Rattle.std.specs.List.{All}
use Rattle.group_history.specs.declared.changes.Change.{Change}
use Rattle.group_history.specs.declared.changes.Change.TheVariants.{Pulled}
use Rattle.group_history.specs.declared.nodes.CommitKind.TheVariants.{Snapshot}
use Rattle.group_history.specs.declared.nodes.Node.{Node}
use Rattle.group_history.specs.declared.nodes.Node.TheVariants as node
use Rattle.group_history.specs.declared.refs.Ref.{Ref}
use Rattle.group_history.specs.Cookies.{Cookie, null_cookie}
use Rattle.group_history.specs.Meaning.{Meanings, unknown}
use Rattle.group_history.specs.Record.{after_change}
use Rattle.group_history.specs.State.{opening}
use Rattle.head_word.specs.declared.entry.Entry.{Entry}
use Rattle.group_history.specs.Spelling.{Spells}
use Rattle.chunk_slots.specs.Seats.{IsIdle}
use Rattle.commit_graph.specs.Seats.{GroupId, SeatState, IsSeatOf}
use Rattle.head_word.specs.Books.{drawn}

abbrev pub no_mutators : Meanings
no_mutators name args why m = unknown

-- the snapshot of an empty map under a cookie, over the leaf that `root` names
abbrev pub bare_commit : Cookie → Ref → Node Ref
bare_commit cookie root = node.Commit (record {
  root = root;
  kind = Snapshot (record { cookie = cookie; confirmed = finite.empty });
})

abbrev pub bare_pull : Cookie → Change
bare_pull cookie = Pulled null_cookie (record { cookie = cookie; changes = []; patch = [] })

-- the stamp is a commit of the state after the pull
abbrev pub SpellsBare : List Entry → ℕ → Cookie → Type 0
SpellsBare log stamp cookie = Spells no_mutators (drawn log) stamp (after_change opening (bare_pull cookie))

-- seats of this group, which where slots are used again have no pin and no taken slot
abbrev pub AreFreeSeatsOf : Type 0 → GroupId → List SeatState → Type 0
AreFreeSeatsOf reused group seats = All (λ seat. IsSeatOf group seat × (reused → IsIdle seat.view)) seats
