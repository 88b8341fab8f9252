use denote.Exit.{no}
use denote.Param.Send.{arg_sync, param_sync}
use Rattle.rule_mutators.proofs.Sharing.{mutators_sync}
use Rattle.script_server.proofs.opened.Opened.begin_phase.Goals as goal

pub begin_phase-requires-sync-M : goal.begin_phase-requires-sync-M
begin_phase-requires-sync-M g c κs within = param_sync _ _ (arg_sync _ no _ (mutators_sync _ _))
