-- A client's part of a phase may go to the thread that plays it.
use denote.Param.Send.{IsSend, IsSync, sendable, struct_send}
use denote.RattleType.{RattleType}
use denote.Struct.Declared
use Rattle.std.proofs.Crossing.{crosses}
use Rattle.group_history.proofs.texts.Text.TheSendSync as text
use Rattle.group_history.specs.declared.mutators.Means as Means
use Rattle.group_history.specs.declared.mutators.Mutators as Mutators
use Rattle.client_desk.proofs.Crossing.{place_send}
use Rattle.client_desk.proofs.mutators.Whole.TheSendSync as whole
use Rattle.client_desk.specs.contracts.mutators.Whole as Whole
use Rattle.script_runner.specs.contracts.client.ScriptClient as ScriptClient
use Rattle.script_runner.specs.contracts.phase.ClientTurn as ClientTurn

module _ (M : RattleType) (mutators : Mutators.Ghosts M.Denot) (means : Means.Ghosts M.Denot) (m : IsSend M)
    (my : IsSync M) where
  client_send : IsSend (ScriptClient.the_field M mutators means).row
  client_send =
      struct_send (Declared.shape (ScriptClient.the_type M mutators means)) (
        search (text.the_send, sendable) depth 60 fits 20000,
        (
          place_send (Whole.the_row M) _ (search (whole.the_send, m, sendable) depth 60 fits 20000)
              (search (whole.the_sync, my, sendable) depth 60 fits 20000) _,
          tt,
        ),
      )

  pub turn_send : IsSend (ClientTurn.the_field M mutators means).row
  turn_send =
      struct_send (Declared.shape (ClientTurn.the_type M mutators means))
      (client_send, (search (crosses, sendable) depth 60 fits 20000, tt))
