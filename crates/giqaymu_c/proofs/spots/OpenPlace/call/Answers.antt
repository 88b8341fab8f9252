use denote.Exit.{no}
use denote.Param.Send.{arg_sync, param_sync}
use Rattle.host_places.proofs.Sharing.{mutators_sync}
use Rattle.giqaymu_c.proofs.Calling.{calls_of}
use Rattle.giqaymu_c.proofs.spots.OpenPlace.call.Goals as goal

pub call_numbered-outcome-requires-sync-M : goal.call_numbered-outcome-requires-sync-M
call_numbered-outcome-requires-sync-M g c κs within = param_sync _ _ (arg_sync _ no _ (mutators_sync _ _))

pub returns : goal.returns
returns g c =
    calls_of g.B.NamesMutators.meant c.args.call c.call_numbered-outcome.result c.self.inside.desk
    c.call_numbered-outcome.new.self c.self.inside.spare.items c.args.self.now c.reply.result c.self.view_is
    c.call_numbered-outcome.ensures c.reply.ensures
