-- A place may go to another thread, also with a change that asks for a run: the chunks that its draft owns are no
-- others'.
use denote.Enum.Declared as enum
use denote.Param.Send.{IsSend, IsSync, enum_send, sendable, struct_send, view_send}
use denote.Param.SendFields.{as_row_send, declared_send}
use denote.RattleType.{RattleType}
use denote.Struct.Declared
use Rattle.std.proofs.Crossing.{Arc-send, crosses}
use Rattle.group_history.proofs.changes.Change.TheSendSync as change
use Rattle.group_history.proofs.json.Json.TheSendSync as json
use Rattle.group_history.proofs.mutations.Mutation.TheSendSync as mutation
use Rattle.group_history.proofs.refs.Ref.TheSendSync as refs
use Rattle.group_history.specs.declared.mutators.Means as Means
use Rattle.map_chunks.proofs.keys.NodeKeys.TheSendSync as keys
use Rattle.map_chunks.specs.contracts.keys.NodeKeys as NodeKeys
use Rattle.map_nodes.proofs.nodes.OwnNode.TheLaws.TheKnot as knot
use Rattle.map_nodes.proofs.nodes.trails.Trail.TheSendSync as trail
use Rattle.map_nodes.specs.contracts.nodes.OwnNode as OwnNode
use Rattle.map_nodes.specs.contracts.roots.OwnRoot as OwnRoot
use Rattle.map_tree.specs.contracts.tree.Tree as Tree
use Rattle.change_drafts.specs.contracts.asked.RunMap as RunMap
use Rattle.chunk_slots.proofs.arena.Arena.TheSendSync as arena
use Rattle.chunk_slots.proofs.arena_seat.ArenaSeat.TheSendSync as arena_seat
use Rattle.chunk_slots.specs.contracts.arena.Arena as Arena
use Rattle.chunk_slots.specs.contracts.arena.ArenaSlots.TheImpl as arena_slots
use Rattle.chunk_slots.specs.contracts.arena_seat.ArenaSeat as ArenaSeat
use Rattle.chunk_slots.specs.declared.store.Slots as Slots
use Rattle.change_tries.proofs.runs.Chain.TheSendSync as chain
use Rattle.change_tries.proofs.steps.Arrival.TheSendSync as arrival
use Rattle.change_tries.specs.contracts.runs.AskedRun as AskedRun
use Rattle.change_tries.specs.contracts.runs.BoxedRun as BoxedRun
use Rattle.change_tries.specs.contracts.trying.Attempt as Attempt
use Rattle.rebase.proofs.client.Client.TheSendSync as client
use Rattle.rebase.proofs.group.Group.TheSendSync as group
use Rattle.rebase.proofs.readers.Reader.TheSendSync as reader
use Rattle.rebase.proofs.seats.Seat.TheSendSync as seat
use Rattle.rebase.proofs.tickets.Ticket.TheSendSync as ticket
use Rattle.rebase.proofs.watching.Watch.TheSendSync as watch
use Rattle.rebase.specs.contracts.asking.Asking as Asking
use Rattle.rebase.specs.contracts.asking.Asking.TheInside as in_asking
use Rattle.rebase.specs.contracts.group.Group as Group
use Rattle.client_desk.specs.contracts.place.Place as Place
use Rattle.client_desk.specs.contracts.place.Place.TheInside as in_place
use Rattle.client_desk.specs.contracts.sitting.Sitting as Sitting
use Rattle.client_desk.specs.declared.mutators.Hosted as Hosted

-- the map of a run

keys_send : IsSend (NodeKeys.the_field).row
keys_send = search (keys.the_send, crosses, sendable) depth 60 fits 20000

node_send : IsSend (OwnNode.the_field).row
node_send =
    knot.send-OwnNode (search sendable depth 60 fits 20000) keys_send
    (search (json.the_send, crosses, sendable) depth 60 fits 20000)
    (λ row send. search (send, crosses, sendable) depth 60 fits 20000)
    (search (refs.the_send, crosses, sendable) depth 60 fits 20000)
    (λ row send. search (send, crosses, sendable) depth 60 fits 20000)

root_send : IsSend (OwnRoot.the_field).row
root_send = search (node_send, trail.the_send, crosses, sendable) depth 60 fits 20000

tree_send : IsSend (Tree.the_field).row
tree_send = search (root_send, crosses, sendable) depth 60 fits 20000

map_send : IsSend (RunMap.the_field).row
map_send = search (tree_send, json.the_send, crosses, sendable) depth 60 fits 20000

-- a run that is asked for

run_send : IsSend (AskedRun.the_field).row
run_send =
    struct_send (Declared.shape AskedRun.the_type) (
      chain.the_field_send,
      (
        search (mutation.the_send, crosses, sendable) depth 60 fits 20000,
        (
          search (mutation.the_send, crosses, sendable) depth 60 fits 20000,
          (map_send, (search (mutation.the_send, crosses, sendable) depth 60 fits 20000, tt)),
        ),
      ),
    )

boxed_send : IsSend (BoxedRun.the_field).row
boxed_send = search (run_send, crosses, sendable) depth 60 fits 20000

attempt_send : (M : RattleType) (means : Means.Ghosts M.Denot) → IsSend (Attempt.the_field M means).row
attempt_send M means =
    struct_send (Declared.shape (Attempt.the_type M means))
    (arrival.the_field_send M means, (boxed_send, (search sendable depth 60 fits 20000, tt)))

asking_send : (M S Seat : RattleType) (means : Means.Ghosts M.Denot)
    (slots : Slots.Ghosts S.Denot M.Denot Seat.Denot) → IsSend M → IsSend S → IsSend Seat → IsSync M → IsSync S
    → IsSend (Asking.the_field M S Seat means slots).row
asking_send M S Seat means slots m s seats my sy =
    view_send _ _ _ _ _ (declared_send (in_asking.the_type M S Seat means slots) (
      client.the_send M S Seat means slots m s seats my sy,
      (
        search (change.the_send, sendable) depth 60 fits 20000,
        (as_row_send (Attempt.the_field M means) (attempt_send M means), (search sendable depth 60 fits 20000, tt)),
      ),
    ))

-- who sits at a place, and the place

module _ (M : RattleType) (means : Means.Ghosts M.Denot) (m : IsSend M) (my : IsSync M) where
  abbrev A : RattleType
  A = Arena.the_row M means

  abbrev slots : Slots.Ghosts A.Denot M.Denot (ArenaSeat.the_row).Denot
  slots = arena_slots.ghosts M means arena_slots.no_dict

  a : IsSend A
  a = arena.the_send M means

  ay : IsSync A
  ay = arena.the_sync M means

  sitting_send : IsSend (Sitting.the_field M means).row
  sitting_send =
      enum_send (enum.shape (Sitting.the_type M means)) (
        (seat.the_send M A ArenaSeat.the_row means slots arena_seat.the_send, tt),
        (
          (client.the_send M A ArenaSeat.the_row means slots m a arena_seat.the_send my ay, tt),
          (
            (asking_send M A ArenaSeat.the_row means slots m a arena_seat.the_send my ay, tt),
            ((reader.the_send M A ArenaSeat.the_row means slots m a arena_seat.the_send my ay, tt), (tt, tt)),
          ),
        ),
      )

  group_send : IsSend (Group.the_row M A ArenaSeat.the_row means slots)
  group_send = group.the_send M A ArenaSeat.the_row means slots m a my ay

  group_sync : IsSync (Group.the_row M A ArenaSeat.the_row means slots)
  group_sync = group.the_sync M A ArenaSeat.the_row means slots m a my ay

  pub place_send : (hosted : Hosted.Ghosts M.Denot) → IsSend (Place.the_field M hosted means).row
  place_send hosted =
      view_send _ _ _ _ _ (declared_send (in_place.the_type M hosted means) (
        search sendable depth 60 fits 20000,
        (
          Arc-send (Group.the_row M A ArenaSeat.the_row means slots) group_send group_sync,
          (
            as_row_send (Sitting.the_field M means) sitting_send,
            (
              search (ticket.the_send, crosses, sendable) depth 60 fits 20000,
              (
                search (watch.the_send, crosses, sendable) depth 60 fits 20000,
                (search sendable depth 60 fits 20000, tt),
              ),
            ),
          ),
        ),
      ))
