use Rattle.std.proofs.Common.{refl}
use Rattle.client_desk.specs.Drafts.{WritesAll}
use Rattle.client_desk.specs.Told.{told_alone}
use Rattle.client_desk.proofs.Asking.{all_written, asked_written, written_told}
use Rattle.client_desk.proofs.place.Place.draft_writes.Goals as goal

pub invariant_of-self-2 : goal.invariant_of-self-2
invariant_of-self-2 g c =
    let was = rw c.in-Asking.is at c.self.invariant in (
      tt,
      tt,
      asked_written g.M.Hosted.had g.M.Means.means _ c.in-Asking.asking c.write_drafted.new.asking
          (all_written c.args.writes.now _ _ (told_alone c.write_drafted.result) c.write_drafted.ensures) was.2,
      tt,
      c.self.invariant.4,
    )

pub returns : goal.returns
returns g c =
    let here = rw c.in-Asking.is at c.self.view_is in
    written_told (WritesAll c.args.writes.now) _ c.args.self.now c.in-Asking.asking c.write_drafted.new.asking
    (told_alone c.write_drafted.result) here refl c.write_drafted.ensures
