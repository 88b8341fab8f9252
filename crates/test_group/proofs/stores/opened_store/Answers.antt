use Rattle.head_word.specs.Books.{book_opening, opening_ref}
use Rattle.rebase.proofs.Seating.{marks_seated}
use Rattle.test_group.proofs.stores.opened_store.Goals as goal

pub seats_of-requires-clause-marks : goal.seats_of-requires-clause-marks
seats_of-requires-clause-marks g c κs within =
    let e = c.in_ok-store.ensures in
    (marks_seated c.in_ok-store.head (book_opening c.args.seats (opening_ref e.marks.0)) c.args.seats
    c.in_ok-store.marks.items e.marks.1).0
