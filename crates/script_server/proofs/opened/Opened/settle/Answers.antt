use denote.Exit.{no}
use denote.Param.Send.{arg_sync, param_sync}
use Rattle.rule_mutators.proofs.Sharing.{mutators_sync}
use Rattle.script_server.proofs.opened.Opened.settle.Goals as goal

pub settle-requires-sync-M : goal.settle-requires-sync-M
settle-requires-sync-M g c κs within = param_sync _ _ (arg_sync _ no _ (mutators_sync _ _))
