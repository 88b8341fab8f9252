use Rattle.std.proofs.Common.{◌∙◌}
use Rattle.head_word.specs.Books.{book_opening, opening_ref}
use Rattle.chunk_slots.proofs.Begins.{marks_know, some_marks}
use Rattle.chunk_slots.proofs.arena.ArenaStore.open.Goals as goal

pub first-requires : goal.first-requires
first-requires g c =
    some_marks c.in_ok-head.head (book_opening c.args.seats (opening_ref c.in_ok-dealt.dealt.commit)) c.args.seats
    c.in_ok-head.marks.items c.in_ok-head.ensures.marks c.requires.seats.0

pub into_arena-requires-clause-log : goal.into_arena-requires-clause-log
into_arena-requires-clause-log g c =
    let at = opening_ref c.in_ok-dealt.dealt.commit in
    let know = marks_know c.in_ok-head.head
    (book_opening c.args.seats at) c.args.seats c.in_ok-head.marks.items c.in_ok-head.ensures.marks in
    (c.args.seats, at, (c.first.ensures c.in_ok-head.head (book_opening c.args.seats at) know).1)

pub returns-clause-book : goal.returns-clause-book
returns-clause-book g c =
    let at = opening_ref c.in_ok-dealt.dealt.commit in
    let know = marks_know c.in_ok-head.head
    (book_opening c.args.seats at) c.args.seats c.in_ok-head.marks.items c.in_ok-head.ensures.marks in
    c.in_ok-arena.ensures.book ∙ (c.first.ensures c.in_ok-head.head (book_opening c.args.seats at) know).0

pub returns-clause-marks : goal.returns-clause-marks
returns-clause-marks g c = (c.in_ok-dealt.dealt.commit, c.in_ok-head.ensures.marks, λ _. c.in_ok-arena.ensures.opening)
