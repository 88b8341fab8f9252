use denote.Exit.{no}
use denote.Param.Send.{arg_sync, param_sync}
use Rattle.host_places.proofs.Sharing.{mutators_sync}
use Rattle.giqaymu_c.proofs.spots.OpenPlace.open.Goals as goal

pub open_places-requires-sync-M : goal.open_places-requires-sync-M
open_places-requires-sync-M g c κs within = param_sync _ _ (arg_sync _ no _ (mutators_sync _ _))
