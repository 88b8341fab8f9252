use Rattle.std.specs.Prelude.{slice_set}
use Rattle.giqaymu_c.proofs.Opening.{at_first, giving_refused, opened_all, opening_refused}
use Rattle.giqaymu_c.specs.declared.handle.Handle.{Handle}
use Rattle.giqaymu_c.specs.Exports.{AreOpenedFor}
use Rattle.giqaymu_c.proofs.exports.open_all.Goals as goal

pub returns-then-number-ne0-clause-refused : goal.returns-then-number-ne0-clause-refused
returns-then-number-ne0-clause-refused c = opening_refused c.args.grounds _ _ c.open_first-first.ensures.opened

pub returns-clause-opened : goal.returns-clause-opened
returns-clause-opened c = λ free.
    let first = c.index-places-0.result in
    let opened = c.open_first-first.ensures in
    let out = c.give_out-first.ensures in
    let P : Handle → Type 0 =
    λ h. AreOpenedFor c.args.grounds h.own (slice_set c.give_out-first.new.places 0 c.put.new.place) in
    at_first P c.args.places.now first
    (opened_all c.args.grounds _ _ c.open_first-first.result.0 c.give_out-first.result.0 c.put.new.place _ _ _
    c.requires.some c.requires.count out.count c.put.ensures opened.text opened.opened c.if-number-ne0.false out.given
    free)

pub returns-clause-refused : goal.returns-clause-refused
returns-clause-refused c =
    let opened = c.open_first-first.ensures in
    giving_refused c.args.grounds _ _ c.open_first-first.result.0 c.give_out-first.result.0 _ _ _ c.requires.count
    opened.text opened.opened c.if-number-ne0.false c.give_out-first.ensures.given
