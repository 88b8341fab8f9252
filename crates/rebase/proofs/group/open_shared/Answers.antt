use Rattle.std.proofs.Common.{List, subst, sym, ◌∙◌}
use Rattle.reader_claims.specs.declared.view.View.{View}
use Rattle.chunk_slots.specs.Seats.{IsOpening}
use Rattle.head_word.specs.Books.{book_opening, opening_ref}
use Rattle.rebase.proofs.Seating.{marks_seated, numbered}
use Rattle.rebase.proofs.group.open_shared.Goals as goal

pub seat_all-requires-clause-count : goal.seat_all-requires-clause-count
seat_all-requires-clause-count g c κs within =
    let e = c.in_ok-store.ensures in
    e.count ∙ sym (marks_seated c.in_ok-store.head
    (book_opening c.args.seats (opening_ref e.marks.0)) c.args.seats c.in_ok-store.marks.items e.marks.1).1

pub seat_all-requires-clause-marks : goal.seat_all-requires-clause-marks
seat_all-requires-clause-marks g c κs within =
    let e = c.in_ok-store.ensures in
    (marks_seated c.in_ok-store.head (book_opening c.args.seats (opening_ref e.marks.0)) c.args.seats
    c.in_ok-store.marks.items e.marks.1).0

pub returns-clause-count : goal.returns-clause-count
returns-clause-count g c =
    let e = c.in_ok-store.ensures in
    c.in_ok-seats.ensures.count ∙ (marks_seated c.in_ok-store.head
    (book_opening c.args.seats (opening_ref e.marks.0)) c.args.seats c.in_ok-store.marks.items e.marks.1).1

pub returns-clause-opening : goal.returns-clause-opening
returns-clause-opening g c =
    let e = c.in_ok-store.ensures in let log = book_opening c.args.seats (opening_ref e.marks.0) in record {
      commit = e.marks.0;
      marks = numbered c.in_ok-store.head log c.args.seats c.in_ok-store.marks.items c.in_ok-seats.seats.free e.marks.1
          c.in_ok-seats.ensures.marks;
      slots = λ r. subst (λ (views : List View). IsOpening (g.S.Slots.serves c.in_ok-store.store).sizes views e.marks.0)
          c.in_ok-seats.ensures.views (e.marks.2 r);
    }
