use Rattle.std.proofs.Common.{◌∙◌}
use Rattle.head_word.specs.Books.{book_opening, opening_ref}
use Rattle.chunk_slots.proofs.Begins.{marks_know, some_marks}
use Rattle.chunk_slots.proofs.append.AppendStore.open.Goals as goal

pub first-requires : goal.first-requires
first-requires g c = some_marks c.in_ok-head.head (book_opening c.args.seats (opening_ref 1)) c.args.seats
    c.in_ok-head.marks.items c.in_ok-head.ensures.marks c.requires.seats.0

pub with_opening-requires : goal.with_opening-requires
with_opening-requires g c =
    let log = book_opening c.args.seats (opening_ref 1) in (
      c.args.seats,
      opening_ref 1,
      (c.first.ensures c.in_ok-head.head log
          (marks_know c.in_ok-head.head log c.args.seats c.in_ok-head.marks.items c.in_ok-head.ensures.marks)).1,
    )

pub returns-clause-book : goal.returns-clause-book
returns-clause-book g c =
    let log = book_opening c.args.seats (opening_ref 1) in
    c.in_ok-store.ensures.book
    ∙ (c.first.ensures c.in_ok-head.head log
    (marks_know c.in_ok-head.head log c.args.seats c.in_ok-head.marks.items c.in_ok-head.ensures.marks)).0

pub returns-clause-marks : goal.returns-clause-marks
returns-clause-marks g c = (1, c.in_ok-head.ensures.marks, λ no. absurd no)
