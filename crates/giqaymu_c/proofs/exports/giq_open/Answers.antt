use Rattle.std.proofs.Common.{inr, length, refl}
use Rattle.host_places.specs.declared.opening.GroupOpening.{GroupOpening}
use Rattle.giqaymu_c.proofs.Opening.{fault_kept, zero_kept}
use Rattle.giqaymu_c.specs.declared.jobs.Grounds.{Grounds}
use Rattle.giqaymu_c.proofs.exports.giq_open.Goals as goal

pub returns-then-number-ne0-clause-why : goal.returns-then-number-ne0-clause-why
returns-then-number-ne0-clause-why c = λ other.
    let a = c.args in
    let w : GroupOpening =
    record { id = a.id; profile = a.profile; schema = a.schema; slots = a.slots; places = length a.places.now } in
    let grounds : Grounds = record { with = w; rules = a.rules; own = a.own } in
    inr (
      grounds,
      record { id_is = refl; profile_is = refl; schema_is = refl; rules_are = refl; slots_are = refl; own_is = refl },
      refl,
      fault_kept grounds _ (c.open_all-number.ensures.refused (λ zero. other (zero_kept _ zero))),
    )
