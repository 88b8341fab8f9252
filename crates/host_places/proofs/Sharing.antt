-- The mutators of a group are shared by its clients.
use denote.RattleType.{RattleType}
use denote.Param.Send.{IsSync, recorded_sync, sendable, struct_sync}
use denote.Struct.Declared
use Rattle.std.proofs.marker.PhantomData.TheSendSync as phantom
use Rattle.rule_mutators.proofs.Sharing.{rules_sync}
use Rattle.host_places.specs.declared.mutators.NamesMutators as NamesMutators
use Rattle.host_places.specs.contracts.mutators.HostMutators as HostMutators

pub mutators_sync : (B : RattleType) (picked : NamesMutators.Ghosts B.Denot) → IsSync (HostMutators.the_row B picked)
mutators_sync B picked =
    recorded_sync (HostMutators.the_field B picked).row _ _ (HostMutators.the_type B picked).to_one
    (struct_sync (Declared.shape (HostMutators.the_type B picked))
    (rules_sync, (search sendable, (phantom.the_field_sync B, tt))))
