use denote.Exit.{no}
use denote.Param.Send.{arg_sync, param_sync}
use Rattle.rule_mutators.proofs.Sharing.{mutators_sync}
use Rattle.script_server.proofs.opened.Opened.open.Goals as goal

pub open-requires-sync-M : goal.open-requires-sync-M
open-requires-sync-M g c κs within = param_sync _ _ (arg_sync _ no _ (mutators_sync _ _))
