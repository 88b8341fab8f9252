-- The worked examples hold.
use Rattle.std.proofs.Common.{◌≡◌, codes, List, [], ◌∷◌, ◌++◌, length, Some, None, Ok, Err, refl, ap, sym, ◌∙◌, arith}
use Rattle.std.proofs.Common.{append_assoc, length-append}
use Rattle.std.proofs.lemmas.List.{append-nil}
use Rattle.std.specs.FinMap.{gets}
use Rattle.logbook.specs.Pages.{Book}
use Rattle.group_history.specs.declared.changes.Change.TheVariants.{Closed}
use Rattle.group_history.specs.declared.refusals.Refusal.TheVariants as refusal
use Rattle.group_history.specs.Examples.{trial}
use Rattle.group_history.specs.Record.{after, IsLegal}
use Rattle.head_word.specs.declared.entry.Entry.{Entry}
use Rattle.head_word.specs.Books.{record_of, moved}
use Rattle.head_word.specs.Tallies.{key_of}
use Rattle.linearized.specs.Answered.{IsPoint}
use Rattle.linearized.specs.Examples.{seen, begun, ours, theirs, five_pulled, raise, book_pulled, book_raised}
use Rattle.linearized.specs.Examples.{number_at, raise_at}
use Rattle.linearized.specs.Examples.{AnsweredExamples}
use Rattle.linearized.proofs.AtOnce.{nothing_between}
use Rattle.linearized.proofs.Holding.{same_behind}

legal_five : IsLegal trial (five_pulled ∷ [])
legal_five = ((refl, λ k d lt. absurd (omega (arith, lt))), tt)

legal_raise : IsLegal trial (five_pulled ∷ raise ∷ [])
legal_raise = ((refl, λ k d lt. absurd (omega (arith, lt))), ((simp gets refl, refl), tt))

legal_closed : IsLegal trial (five_pulled ∷ Closed ∷ [])
legal_closed = ((refl, λ k d lt. absurd (omega (arith, lt))), (refl, tt))

-- where the caller knows nothing more after the call, a call that made no change has its point there
only_there : (book : Book) (log at : List Entry) → IsPoint trial (seen book log) (seen book log) None at → at ≡ log
only_there book log at is = nothing_between log at [] is.since.0 is.until.0 is.since.1
    (is.until.1 ∙ sym (append-nil log))

asked_late : (book : Book) (at : List Entry) → IsPoint trial (seen book book_pulled) (seen book book_pulled) None at
    → number_at (after (record_of at)) ≡ Ok None → ⊥
asked_late book at is right =
    let here : number_at (after (record_of book_pulled)) ≡ Ok (Some (codes "5")) = simp gets refl in
    let e : Ok (Some (codes "5")) ≡ Ok None = sym here ∙
    (ap (λ w. number_at (after (record_of w))) (sym (only_there book book_pulled at is)) ∙ right) in
    absurd cc

refused_wrongly : (book : Book) (at : List Entry) → IsPoint trial (seen book begun) (seen book begun) None at
    → raise_at (after (record_of at)) ≡ Err refusal.Stale → ⊥
refused_wrongly book at is right =
    let here : raise_at (after (record_of begun)) ≡ Err (refusal.Refused 2) = simp gets refl in
    let e : Err (refusal.Refused 2) ≡ Err refusal.Stale = sym here ∙
    (ap (λ w. raise_at (after (record_of w))) (sym (only_there book begun at is)) ∙ right) in
    absurd cc

-- where two entries stand behind the opening, the second of them ours, one stands before our move
between : (zs qs : List Entry) (m : Entry) → key_of m ≡ 1 → zs ++ m ∷ qs ≡ theirs five_pulled ∷ ours raise ∷ []
    → zs ≡ theirs five_pulled ∷ []
between [] qs m is h = absurd (let e : m ∷ qs ≡ theirs five_pulled ∷ ours raise ∷ [] = h in let f : m
    ≡ theirs five_pulled = cc e in
    omega (arith, is, ap key_of f))
between (z ∷ []) qs m is h = let e : z ∷ m ∷ qs ≡ theirs five_pulled ∷ ours raise ∷ [] = h in let f : z
    ≡ theirs five_pulled = cc e in
    ap (λ w. w ∷ []) f
between (z ∷ y ∷ zs) qs m is h = absurd (omega (arith, ap length h, length-append zs (m ∷ qs)))

one_point : (book : Book) (log : List Entry)
    → IsPoint trial (seen book begun) (seen book book_raised) (Some raise) log → log ≡ book_pulled
one_point book log is =
    let m : Entry = moved (Some 0) is.to raise in
    let zs = is.since.0 in
    let qs = is.until.0 in
    let back : begun ++ (zs ++ m ∷ qs) ≡ book_raised = sym (append_assoc begun zs (m ∷ qs)) ∙
    (ap (λ w. w ++ m ∷ qs) is.since.1 ∙ (sym (append_assoc log (m ∷ []) qs) ∙ is.until.1)) in
    sym is.since.1 ∙ ap (λ w. begun ++ w) (between zs qs m refl
    (same_behind begun (zs ++ m ∷ qs) (theirs five_pulled ∷ ours raise ∷ []) back))

pub worked : (book : Book) → AnsweredExamples book
worked book = record {
  asked_meanwhile = (
    (
      begun,
      record {
        to = record { bits = 0 };
        since = ([], refl);
        until = (theirs five_pulled ∷ [], refl);
        legal = tt;
        moves = refl;
      },
      simp gets refl,
    ),
    (
      book_pulled,
      record {
        to = record { bits = 0 };
        since = (theirs five_pulled ∷ [], refl);
        until = ([], refl);
        legal = legal_five;
        moves = refl;
      },
      simp gets refl,
    ),
  );
  asked_late = λ is. asked_late book is.0 is.1 is.2;
  raised_behind = (
    book_pulled,
    record {
      to = record { bits = 2 };
      since = (theirs five_pulled ∷ [], refl);
      until = ([], refl);
      legal = legal_raise;
      moves = refl;
    },
    simp gets refl,
  );
  one_point = one_point book;
  unpublished = λ is. absurd (omega (arith, ap length is.1.moves));
  published_twice = λ is. absurd (omega (arith, ap length is.1.moves));
  refused = (
    begun,
    record {
      to = record { bits = 0 };
      since = ([], refl);
      until = ([], refl);
      legal = tt;
      moves = refl;
    },
    simp gets refl,
  );
  refused_wrongly = λ is. refused_wrongly book is.0 is.1 is.2;
  refused_late = λ is. absurd (omega (arith, ap length is.0));
  moved_once = (refl, λ e. omega arith);
  moved_early = λ is. absurd (omega (arith, is.1 refl));
  closed = (
    book_pulled,
    record {
      to = record { bits = 2 };
      since = ([], refl);
      until = ([], refl);
      legal = legal_closed;
      moves = refl;
    },
    refl,
  );
  left_open = λ is. absurd (omega (arith, ap length is.1.moves));
}
