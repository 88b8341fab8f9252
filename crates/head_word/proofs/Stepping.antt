-- Each step on a word keeps the rule.
use Rattle.std.proofs.Common.{◌≡◌, ◌≢◌, ℕ, zero, suc, ◌+◌, ◌≤◌, ◌<◌, ◌==◌, Bool, true, false, List, [], ◌∷◌, ◌++◌}
use Rattle.std.proofs.Common.{length, slice_index_or, Some, None, Option, refl, ap, sym, ◌∙◌, subst, arith}
use Rattle.std.proofs.Common.{lit≤, inl, inr, length-append}
use Rattle.std.specs.Prelude.{option_and_then}
use Rattle.std.specs.FinMap as finite
use Rattle.std.proofs.lemmas.List.{append-nil}
use Rattle.std.proofs.lemmas.Bool.{eqb-true, eq-eqb}
use Rattle.std.proofs.lemmas.Bool.Decides.{eqb_tells}
use mathlib.Core.List.{IsPrefix}
use prog.Atomic.{either}
use Rattle.logbook.specs.Pages.{Cell, cell, keeps, no_nib, step, Moves, Goes}
use Rattle.group_history.specs.declared.refs.Ref.{Ref}
use Rattle.group_history.specs.declared.changes.Change.{Change}
use Rattle.group_history.specs.declared.nodes.Node.{Node}
use Rattle.group_history.specs.declared.nodes.Child.{Child}
use Rattle.group_history.specs.declared.nodes.Child.TheVariants.{Placed, Drafted}
use Rattle.group_history.specs.Cookies.{null_cookie}
use Rattle.group_history.specs.Folds.{answer as answer_at}
use Rattle.group_history.specs.Map.{Entries}
use Rattle.group_history.specs.Meaning.{Meanings}
use Rattle.group_history.specs.Record.{IsAccepted, IsLegal, after, after_change}
use Rattle.group_history.specs.Refs.{stamp_of, stamps}
use Rattle.group_history.specs.Spelling.{Contents, Segment, Version, Spelled, segment, version, as_segment, as_version}
use Rattle.group_history.specs.Spelling.{spelled, segment_at, version_of, Spells}
use Rattle.group_history.specs.State.{State, pulled_state}
use Rattle.group_history.proofs.Records.{after-push, IsLegal-push}
use Rattle.group_history.proofs.Spellings.{segment-stays}
use Rattle.group_history.proofs.TextMaps.{empty_map}
use Rattle.head_word.specs.declared.entry.Answer.{Answer}
use Rattle.head_word.specs.declared.entry.Entry.{Entry}
use Rattle.head_word.specs.declared.entry.Entry.TheVariants as v
use Rattle.head_word.specs.Books.{drafted_contents, drawn, next_stamp, last_move, nowhere, record_of, AreOrdered}
use Rattle.head_word.specs.Books.{IsBook, drafted, moved, opened, book_opening, opened_at, seats_of, StartsOpened}
use Rattle.head_word.specs.Books.{IsBySeat}
use Rattle.head_word.specs.Books.{IsOpened, IsBefore, AreAfter, IsChangeFrom}
use Rattle.head_word.specs.Tallies.{key_of, count}
use Rattle.head_word.specs.Rules.{head_says, drafts_say, FitsOpened, Fits, IsKept}
use Rattle.head_word.specs.Inside.Parts.{Trades}
use Rattle.head_word.specs.Inside.Steps.{step_tells, tallied, CountsEntries, Exchanges, OpensBook}
use Rattle.head_word.proofs.Books.{drawn_more, moved_more, record_more, rising_more}
use Rattle.head_word.proofs.Books.{length-drafted, numbered_more, ordered_more}
use Rattle.head_word.proofs.Books.{drafted_ordered, spells_more, starts_more, seats_more, seats_added, next_more}
use Rattle.head_word.proofs.Counting.{count_more, count_other, count_starts}

book_draft : (means : Meanings) (log : List Entry) (by : Option ℕ) (contents : List (Node Child)) → IsBook means log
    → AreAfter (next_stamp log) 0 contents → next_stamp log + length contents ≤ stamps
    → IsBook means (log ++ drafted by (next_stamp log) contents ∷ [])
book_draft means log by contents b before room =
    let first = next_stamp log in
    let e = drafted by first contents in
    let dc = drafted_contents first contents in
    let n : (first == 0 + length (drawn log)) ≡ true = eq-eqb first (0 + length (drawn log)) (omega arith) in
    let rec : record_of log ≡ record_of (log ++ e ∷ []) = sym (record_more log (e ∷ []) ∙ append-nil (record_of log)) in
    let last : last_move log ≡ last_move (log ++ e ∷ []) = sym (moved_more nowhere log (e ∷ [])) in
    let more : AreOrdered (0 + length (drawn log)) (dc ++ []) = subst (AreOrdered (0 + length (drawn log)))
    (sym (append-nil dc)) (subst (λ k. AreOrdered k dc)
    (let k : first + 0 ≡ 0 + length (drawn log) = omega arith in k)
    (drafted_ordered first first 0 contents (omega arith) before)) in
    record {
      numbered = numbered_more 0 log (e ∷ []) ∙ rw (b.numbered, n) refl;
      room = omega (arith, room, next_more log (e ∷ []), length-append dc [], length-drafted first contents);
      ordered = subst (AreOrdered 0) (sym (drawn_more log (e ∷ [])))
          (ordered_more 0 (drawn log) (dc ++ []) b.ordered more);
      rising = rising_more nowhere log (e ∷ []) b.rising tt;
      legal = subst (IsLegal means) rec b.legal;
      spelled = subst (λ (t : Ref × List Change). Spells means (drawn (log ++ e ∷ [])) (stamp_of t.0) (after t.1))
          (λ i. (last i, rec i)) (spells_more means log (e ∷ []) (stamp_of (last_move log))
          (after (record_of log)) b.spelled);
    }

book_move : (means : Meanings) (log : List Entry) (by : Option ℕ) (to : Ref) (change : Change) → IsBook means log
    → stamp_of (last_move log) < stamp_of to → IsAccepted means (after (record_of log)) change
    → Spells means (drawn log) (stamp_of to) (after_change (after (record_of log)) change)
    → IsBook means (log ++ moved by to change ∷ [])
book_move means log by to change b above may spells =
    let e = moved by to change in
    let rec : record_of log ++ change ∷ [] ≡ record_of (log ++ e ∷ []) = sym (record_more log (e ∷ [])) in
    let state : after_change (after (record_of log)) change
    ≡ after (record_of (log ++ e ∷ [])) = sym (after-push (record_of log) change) ∙ ap after rec in
    let last : to ≡ last_move (log ++ e ∷ []) = sym (moved_more nowhere log (e ∷ [])) in
    record {
      numbered = numbered_more 0 log (e ∷ []) ∙ rw b.numbered refl;
      room = omega (arith, b.room, next_more log (e ∷ []));
      ordered = subst (AreOrdered 0) (sym (drawn_more log (e ∷ []) ∙ append-nil (drawn log))) b.ordered;
      rising = rising_more nowhere log (e ∷ []) b.rising (above, tt);
      legal = subst (IsLegal means) rec (IsLegal-push means (record_of log) change b.legal may);
      spelled = subst (λ (t : Ref × State). Spells means (drawn (log ++ e ∷ [])) (stamp_of t.0) t.1)
          (λ i. (last i, state i)) (spells_more means log (e ∷ []) (stamp_of to)
          (after_change (after (record_of log)) change) spells);
    }

-- a book that begins with an opened one is opened
pub starts_from : (v log : List Entry) → IsPrefix v log → StartsOpened v → StartsOpened log
starts_from v log pre h = subst StartsOpened pre.1 (starts_more v pre.0 h)

-- for as many seats
pub seats_from : (v log : List Entry) → IsPrefix v log → StartsOpened v → seats_of log ≡ seats_of v
seats_from v log pre h = sym (ap seats_of pre.1) ∙ seats_more v pre.0 h

-- so an entry by one of the seats of a beginning may be added to the book
by_from : (v log : List Entry) (e : Entry) → IsPrefix v log → StartsOpened v → IsBySeat (seats_of v) e
    → IsBySeat (seats_of log) e
by_from v log e pre h is = subst (λ (n : ℕ). IsBySeat n e) (sym (seats_from v log pre h)) is

pub spells_from : (means : Meanings) (v log : List Entry) (stamp : ℕ) (s : State) → IsPrefix v log
    → Spells means (drawn v) stamp s → Spells means (drawn log) stamp s
spells_from means v log stamp s pre h = subst (λ (w : List Entry). Spells means (drawn w) stamp s) pre.1
    (spells_more means v pre.0 stamp s h)

-- the states that one stamp spells are one
spells_once : (means : Meanings) (contents : Contents) (stamp : ℕ) (s t : State) → Spells means contents stamp s
    → Spells means contents stamp t → s ≡ t
spells_once means contents stamp s t p q =
    let e : Some (version_of means s) ≡ Some (version_of means t) = sym p ∙ q in
    let f : version_of means s ≡ version_of means t = cc e in ap (λ (w : Version). w.state) f

not_both : (o : Option Spelled) (s : Segment) (w : Version) → option_and_then as_segment o ≡ Some s
    → option_and_then as_version o ≡ Some w → ⊥
not_both None s w p q = absurd cc
not_both (Some (segment t)) s w p q = absurd cc
not_both (Some (version t k)) s w p q = absurd cc

-- a book that is opened begins with what it opened with
pub starts_with : (log : List Entry) → StartsOpened log → IsPrefix (book_opening (seats_of log) (opened_at log)) log
starts_with [] h = absurd cc
starts_with (x ∷ []) h = absurd cc
starts_with (x ∷ v.Draft d ∷ xs) h = absurd cc
starts_with (x ∷ v.Move m ∷ xs) h = absurd cc
starts_with (x ∷ v.Opening o ∷ xs) h = (xs, sym (ap (λ w. w ++ xs) h))

-- stamp 0 is a leaf and no commit
no_commit : (means : Meanings) (log : List Entry) (s : State) → StartsOpened log → Spells means (drawn log) 0 s → ⊥
no_commit means log s starts h =
    let begun = starts_with log starts in
    let first = book_opening (seats_of log) (opened_at log) in
    let leaf : Segment = record { depth = 1; rows = [] } in
    let all : drawn first ++ drawn begun.0 ≡ drawn log = sym (drawn_more first begun.0) ∙ ap drawn begun.1 in
    let here : segment_at (drawn log) 0 ≡ Some leaf = subst (λ cs. segment_at cs 0 ≡ Some leaf) all
    (segment-stays (drawn first) (drawn begun.0) 0 leaf refl) in
    not_both (answer_at (spelled (drawn log)) 0) leaf (version_of means s) here h

-- so the head word of an opened book isn't 0
head_some : (means : Meanings) (log : List Entry) (h : ℕ) → IsOpened means log → h ≡ (last_move log).bits
    → (h == 0) ≡ false
head_some means log h opened is = elim (eqb_tells h 0) [
  | inl zero_is ↦ absurd (no_commit means log (after (record_of log)) opened.1
      (subst (λ (n : ℕ). Spells means (drawn log) (stamp_of (record { bits = n })) (after (record_of log)))
      (sym is ∙ zero_is.1) opened.0.spelled))
  | inr not ↦ not.0
]

abbrev pub shown : List Entry → List Entry
shown log = log

-- what was opened stays so, and its words are what they say
fits_opened : (means : Meanings) (v log : List Entry) (h d : ℕ) → IsPrefix v log → StartsOpened v
    → Fits means h d log → FitsOpened means h d log
fits_opened means v log h d pre starts (inl is) = is
fits_opened means v log h d pre starts (inr un) = let s : StartsOpened [] = subst StartsOpened un.empty
    (starts_from v log pre starts) in absurd (cc s)

trades_same : (ask : Entry) (log : List Entry)
    → Trades ask log (log ++ []) (tallied (count (key_of ask) (log ++ [])) (count (key_of ask) (log ++ [])))
trades_same ask log = record {
  before = ap (count (key_of ask)) (append-nil log);
  after = refl;
  others = λ k no. ap (count k) (append-nil log);
}

trades_more : (ask : Entry) (log : List Entry)
    → Trades ask log (log ++ ask ∷ []) (tallied (count (key_of ask) log) (count (key_of ask) (log ++ ask ∷ [])))
trades_more ask log = record {
  before = refl;
  after = refl;
  others = λ k other. omega (arith, count_more k log (ask ∷ []), count_other k ask other);
}

-- a look adds nothing
same_words : (means : Meanings) (log : List Entry) (h d : ℕ) → FitsOpened means h d log
    → IsKept means ((h, true) ∷ (d, true) ∷ []) (log ++ [])
same_words means log h d fits = subst (λ (w : List Entry). IsKept means ((h, true) ∷ (d, true) ∷ []) w)
    (sym (append-nil log)) (record { head = h; drafts = d; words = refl; fits = inl fits })

same_opened : (means : Meanings) (log : List Entry) → IsOpened means log → IsOpened means (log ++ [])
same_opened means log o = subst (IsOpened means) (sym (append-nil log)) o

-- a seat's look, at either word
pub head_counted : (means : Meanings) (v : List Entry) (ask : Entry) → StartsOpened v
    → Moves (IsKept means) shown (Trades ask) 0 (v, (no_nib, None)) (λ n. n)
    (step_tells (CountsEntries head_says means) (step 0 0 0 ask) (v, (no_nib, None)))
head_counted means v ask starts cs log kept pre away =
    let fits = fits_opened means v log kept.head kept.drafts pre starts kept.fits in
    let P : List Cell → Type 0 = λ c. (0 < length c) × ((cell c 0).1 ≡ true)
    × Goes (IsKept means) shown (Trades ask) 0 (v, (no_nib, None)) (λ n. n)
    (step_tells (CountsEntries head_says means) (step 0 0 0 ask) (v, (no_nib, None))) c log in
    let n : Answer = tallied (count (key_of ask) (log ++ [])) (count (key_of ask) (log ++ [])) in
    subst P (sym kept.words) (
      omega arith,
      refl,
      (
        keeps,
        [],
        Some n,
        tt,
        same_words means log kept.head kept.drafts fits,
        inr (n, refl, refl, trades_same ask log),
        record {
          opened = same_opened means log fits.opened;
          word = ap head_says (append-nil log) ∙ sym fits.head_is;
          counted = refl;
        },
      ),
    )

pub drafts_counted : (means : Meanings) (v : List Entry) (ask : Entry) → StartsOpened v
    → Moves (IsKept means) shown (Trades ask) 1 (v, (no_nib, None)) (λ n. n)
    (step_tells (CountsEntries drafts_say means) (step 1 0 0 ask) (v, (no_nib, None)))
drafts_counted means v ask starts cs log kept pre away =
    let fits = fits_opened means v log kept.head kept.drafts pre starts kept.fits in
    let P : List Cell → Type 0 = λ c. (1 < length c) × ((cell c 1).1 ≡ true)
    × Goes (IsKept means) shown (Trades ask) 1 (v, (no_nib, None)) (λ n. n)
    (step_tells (CountsEntries drafts_say means) (step 1 0 0 ask) (v, (no_nib, None))) c log in
    let n : Answer = tallied (count (key_of ask) (log ++ [])) (count (key_of ask) (log ++ [])) in
    subst P (sym kept.words) (
      omega arith,
      refl,
      (
        keeps,
        [],
        Some n,
        tt,
        same_words means log kept.head kept.drafts fits,
        inr (n, refl, refl, trades_same ask log),
        record {
          opened = same_opened means log fits.opened;
          word = ap drafts_say (append-nil log) ∙ sym fits.drafts_are;
          counted = refl;
        },
      ),
    )

before_more : (n m place : ℕ) (c : Child) → n ≤ m → IsBefore n place c → IsBefore m place c
before_more n m place (Placed at) le h = omega (arith, le, h)
before_more n m place (Drafted earlier) le h = h

after_more : (n m place : ℕ) (cs : List (Node Child)) → n ≤ m → AreAfter n place cs → AreAfter m place cs
after_more n m place [] le h = tt
after_more n m place (c ∷ cs) le h = (
  (λ k d lt. before_more n m place _ le (h.0 k d lt)),
  after_more n m (suc place) cs le h.1,
)

-- what stood after a book stands after every longer one
pub after_from : (v log : List Entry) (contents : List (Node Child)) → IsPrefix v log
    → AreAfter (next_stamp v) 0 contents → AreAfter (next_stamp log) 0 contents
after_from v log contents pre h = after_more (next_stamp v) (next_stamp log) 0 contents
    (omega (arith, sym (ap next_stamp pre.1) ∙ next_more v pre.0)) h

draft_goes : (means : Meanings) (v log : List Entry) (by : Option ℕ) (contents : List (Node Child)) (old h d : ℕ)
    → IsPrefix v log → StartsOpened v → IsBySeat (seats_of v) (drafted by old contents)
    → AreAfter (next_stamp v) 0 contents → FitsOpened means h d log
    → old + length contents ≤ stamps → (b : Bool) → (d == old) ≡ b
    → Goes (IsKept means) shown (Trades (drafted by old contents)) 1 (v, (no_nib, None))
    (λ n. either (n == old) (old + length contents) n)
    (step_tells (Exchanges drafts_say means) (step 1 old (old + length contents) (drafted by old contents))
    (v, (no_nib, None))) ((h, true) ∷ (d, true) ∷ []) log
draft_goes means v log by contents old h d pre starts seat before fits room true is =
    let at : next_stamp log ≡ old = sym fits.drafts_are ∙ eqb-true d old is in
    let e = drafted by old contents in
    let n : Answer = tallied (count (key_of e) log) (count (key_of e) (log ++ e ∷ [])) in
    let room' : next_stamp log + length contents ≤ stamps = omega (arith, at, room) in
    let book' : IsBook means (log ++ e ∷ []) = subst (λ (k : ℕ). IsBook means (log ++ drafted by k contents ∷ [])) at
    (book_draft means log by contents fits.opened.0 (after_from v log contents pre before) room') in
    let starts' : StartsOpened (log ++ e ∷ []) = starts_more log (e ∷ []) fits.opened.1 in
    let seats' = seats_added log e fits.opened.1 fits.opened.2 (by_from v log e pre starts seat) in
    let last : h ≡ (last_move (log ++ e ∷ [])).bits = fits.head_is ∙ sym
    (ap (λ (r : Ref). r.bits) (moved_more nowhere log (e ∷ []))) in
    let next : old + length contents ≡ next_stamp (log ++ e ∷ []) = omega (
      arith,
      at,
      next_more log (e ∷ []),
      length-append (drafted_contents old contents) [],
      length-drafted old contents,
    ) in
    let d' : either (d == old) (old + length contents) d ≡ old + length contents = rw is refl in (
      keeps,
      e ∷ [],
      Some n,
      tt,
      record {
        head = h;
        drafts = old + length contents;
        words = ap (λ (k : ℕ). (h, true) ∷ (k, true) ∷ []) d';
        fits = inl (record { opened = (book', starts', seats'); head_is = last; drafts_are = next });
      },
      inr (n, refl, refl, trades_more e log),
      record {
        opened = (book', starts', seats');
        outcome = rw is
            (record { log = log; seen = pre; opened = fits.opened; word = at; added = refl; counted = refl });
      },
    )
draft_goes means v log by contents old h d pre starts seat before fits room false is =
    let e = drafted by old contents in
    let n : Answer = tallied (count (key_of e) (log ++ [])) (count (key_of e) (log ++ [])) in
    let d' : either (d == old) (old + length contents) d ≡ d = rw is refl in (
      keeps,
      [],
      Some n,
      tt,
      subst (λ (k : ℕ). IsKept means ((h, true) ∷ (k, true) ∷ []) (log ++ [])) (sym d') (same_words means log h d fits),
      inr (n, refl, refl, trades_same e log),
      record {
        opened = same_opened means log fits.opened;
        outcome = rw is (record { word = ap drafts_say (append-nil log) ∙ sym fits.drafts_are; counted = refl });
      },
    )

-- whatever the book is, the exchange adds the draft, or finds that other stamps were drawn
pub draft_moves : (means : Meanings) (v : List Entry) (by : Option ℕ) (contents : List (Node Child)) (old : ℕ)
    → StartsOpened v → IsBySeat (seats_of v) (drafted by old contents) → AreAfter (next_stamp v) 0 contents
    → old + length contents ≤ stamps
    → Moves (IsKept means) shown (Trades (drafted by old contents)) 1 (v, (no_nib, None))
    (λ n. either (n == old) (old + length contents) n)
    (step_tells (Exchanges drafts_say means) (step 1 old (old + length contents) (drafted by old contents))
    (v, (no_nib, None)))
draft_moves means v by contents old starts seat before room cs log kept pre away =
    let fits = fits_opened means v log kept.head kept.drafts pre starts kept.fits in
    let P : List Cell → Type 0 = λ c. (1 < length c) × ((cell c 1).1 ≡ true)
    × Goes (IsKept means) shown (Trades (drafted by old contents)) 1 (v, (no_nib, None))
    (λ n. either (n == old) (old + length contents) n)
    (step_tells (Exchanges drafts_say means) (step 1 old (old + length contents) (drafted by old contents))
    (v, (no_nib, None))) c log in
    subst P (sym kept.words) (
      omega arith,
      refl,
      draft_goes means v log by contents old kept.head kept.drafts pre starts seat before fits room
          (kept.drafts == old) refl,
    )

move_goes : (means : Meanings) (v log : List Entry) (by : Option ℕ) (base to : Ref) (change : Change) (h d : ℕ)
    → IsPrefix v log → StartsOpened v → IsBySeat (seats_of v) (moved by to change)
    → IsChangeFrom means (drawn v) base to change → FitsOpened means h d log
    → (b : Bool) → (h == base.bits) ≡ b
    → Goes (IsKept means) shown (Trades (moved by to change)) 0 (v, (no_nib, None))
    (λ n. either (n == base.bits) to.bits n)
    (step_tells (Exchanges head_says means) (step 0 base.bits to.bits (moved by to change)) (v, (no_nib, None)))
    ((h, true) ∷ (d, true) ∷ []) log
move_goes means v log by base to change h d pre starts seat follows fits true is =
    let at : h ≡ base.bits = eqb-true h base.bits is in
    let last : (last_move log).bits ≡ base.bits = sym fits.head_is ∙ at in
    let e = moved by to change in
    let n : Answer = tallied (count (key_of e) log) (count (key_of e) (log ++ e ∷ [])) in
    let state : State = after (record_of log) in
    let here : Spells means (drawn log) (stamp_of base) follows.state = spells_from means v log
    (stamp_of base) follows.state pre follows.before in
    let now : Spells means (drawn log) (stamp_of base) state = subst
    (λ (k : ℕ). Spells means (drawn log) (stamp_of (record { bits = k })) state) last fits.opened.0.spelled in
    let same : follows.state ≡ state = spells_once means (drawn log) (stamp_of base) follows.state state here now in
    let may : IsAccepted means state change = subst (λ (s : State). IsAccepted means s change) same follows.accepted in
    let then : Spells means (drawn log) (stamp_of to) (after_change state change) = subst
    (λ (s : State). Spells means (drawn log) (stamp_of to) (after_change s change)) same
    (spells_from means v log (stamp_of to) (after_change follows.state change) pre follows.then) in
    let above : stamp_of (last_move log) < stamp_of to = subst
    (λ (k : ℕ). stamp_of (record { bits = k }) < stamp_of to) (sym last) follows.later in
    let book' : IsBook means (log ++ e ∷ []) = book_move means log by to change fits.opened.0 above may then in
    let starts' : StartsOpened (log ++ e ∷ []) = starts_more log (e ∷ []) fits.opened.1 in
    let seats' = seats_added log e fits.opened.1 fits.opened.2 (by_from v log e pre starts seat) in
    let goes : (last_move (log ++ e ∷ [])).bits
    ≡ to.bits = ap (λ (r : Ref). r.bits) (moved_more nowhere log (e ∷ [])) in
    let h' : either (h == base.bits) to.bits h ≡ to.bits = rw is refl in
    let next : d ≡ next_stamp (log ++ e ∷ []) = let f : d ≡ next_stamp log = fits.drafts_are in
    omega (arith, f, next_more log (e ∷ [])) in (
      keeps,
      e ∷ [],
      Some n,
      tt,
      record {
        head = to.bits;
        drafts = d;
        words = ap (λ (k : ℕ). (k, true) ∷ (d, true) ∷ []) h';
        fits = inl (record { opened = (book', starts', seats'); head_is = sym goes; drafts_are = next });
      },
      inr (n, refl, refl, trades_more e log),
      record {
        opened = (book', starts', seats');
        outcome = rw is
            (record { log = log; seen = pre; opened = fits.opened; word = last; added = refl; counted = refl });
      },
    )
move_goes means v log by base to change h d pre starts seat follows fits false is =
    let e = moved by to change in
    let n : Answer = tallied (count (key_of e) (log ++ [])) (count (key_of e) (log ++ [])) in
    let h' : either (h == base.bits) to.bits h ≡ h = rw is refl in (
      keeps,
      [],
      Some n,
      tt,
      subst (λ (k : ℕ). IsKept means ((k, true) ∷ (d, true) ∷ []) (log ++ [])) (sym h') (same_words means log h d fits),
      inr (n, refl, refl, trades_same e log),
      record {
        opened = same_opened means log fits.opened;
        outcome = rw is (record { word = ap head_says (append-nil log) ∙ sym fits.head_is; counted = refl });
      },
    )

-- whatever the book is, the exchange adds the move directly after the one expected, or finds another last move
pub move_moves : (means : Meanings) (v : List Entry) (by : Option ℕ) (base to : Ref) (change : Change) → StartsOpened v
    → IsBySeat (seats_of v) (moved by to change) → IsChangeFrom means (drawn v) base to change
    → Moves (IsKept means) shown (Trades (moved by to change)) 0 (v, (no_nib, None))
    (λ n. either (n == base.bits) to.bits n)
    (step_tells (Exchanges head_says means) (step 0 base.bits to.bits (moved by to change)) (v, (no_nib, None)))
move_moves means v by base to change starts seat follows cs log kept pre away =
    let fits = fits_opened means v log kept.head kept.drafts pre starts kept.fits in
    let P : List Cell → Type 0 = λ c. (0 < length c) × ((cell c 0).1 ≡ true)
    × Goes (IsKept means) shown (Trades (moved by to change)) 0 (v, (no_nib, None))
    (λ n. either (n == base.bits) to.bits n)
    (step_tells (Exchanges head_says means) (step 0 base.bits to.bits (moved by to change))
    (v, (no_nib, None))) c log in
    subst P (sym kept.words) (
      omega arith,
      refl,
      move_goes means v log by base to change kept.head kept.drafts pre starts seat follows fits
          (kept.head == base.bits) refl,
    )

opening_counts : (n : ℕ) (r : Ref) (k : ℕ) → k ≢ 0 → count k (book_opening n r) ≡ 0
opening_counts n r k other = elim (eqb_tells 0 k) [
  | inl is ↦ absurd (other (sym is.1))
  | inr not ↦ rw not.0 refl
]

opening_child : (k : ℕ) (d : ℕ) → k < 1 → slice_index_or (0 ∷ []) k d < 1
opening_child zero d lt = omega arith
opening_child (suc k) d lt = absurd (omega (arith, lt))

-- the opening commit spells the opening state
pub opening_spells : (means : Meanings) (n : ℕ) (r : Ref) → Spells means (drawn (book_opening n r)) 1 (after [])
opening_spells means n r = ap (λ (m : Entries). Some
    (record { state = pulled_state m null_cookie finite.empty; read = m })) empty_map

-- nothing bears a smaller stamp than where the head is before it
nowhere_first : stamp_of nowhere ≡ 0
nowhere_first = refl

-- the opening book
pub opening_book : (means : Meanings) (n : ℕ) (r : Ref) → stamp_of r ≡ 1 → IsOpened means (book_opening n r)
opening_book means n r one =
    let spelled : Spells means (drawn (book_opening n r)) (stamp_of r) (after []) = subst
    (λ (k : ℕ). Spells means (drawn (book_opening n r)) k (after [])) (sym one) (opening_spells means n r) in (
      record {
        numbered = refl;
        room = lit≤ tt;
        ordered = ((λ k d lt. absurd (omega (arith, lt))), ((λ k d lt. opening_child k d lt), tt));
        rising = ((let l : stamp_of nowhere < stamp_of r = omega (arith, one, nowhere_first) in l), tt);
        legal = tt;
        spelled = spelled;
      },
      refl,
      (λ k d lt. absurd (omega (arith, lt))),
    )

opens_goes : (means : Meanings) (v log : List Entry) (seats : ℕ) (r : Ref) (h d : ℕ) → stamp_of r ≡ 1
    → Fits means h d log
    → Goes (IsKept means) shown (Trades (opened seats r)) 0 (v, (no_nib, None)) (λ n. either (n == 0) r.bits n)
    (step_tells OpensBook (step 0 0 r.bits (opened seats r)) (v, (no_nib, None))) ((h, true) ∷ (d, true) ∷ []) log
opens_goes means v log seats r h d one (inl fits) =
    let ask = opened seats r in
    let n : Answer = tallied (count (key_of ask) (log ++ [])) (count (key_of ask) (log ++ [])) in
    let is : (h == 0) ≡ false = head_some means log h fits.opened fits.head_is in
    let h' : either (h == 0) r.bits h ≡ h = rw is refl in
    let counts : 0 < count (key_of ask) (log ++ []) = rw (append-nil log) (count_starts log fits.opened.1) in (
      keeps,
      [],
      Some n,
      tt,
      subst (λ (k : ℕ). IsKept means ((k, true) ∷ (d, true) ∷ []) (log ++ [])) (sym h') (same_words means log h d fits),
      inr (n, refl, refl, trades_same ask log),
      record { counts = n; counted = refl; opened = λ none. absurd (omega (arith, none, counts)) },
    )
opens_goes means v log seats r h d one (inr un) =
    let ask = opened seats r in
    let book = book_opening seats r in
    let n : Answer = tallied 0 2 in
    let h' : either (h == 0) r.bits h ≡ r.bits = rw un.head_is refl in
    let d' : d ≡ next_stamp book = un.drafts_are in
    let all : log ++ book ≡ book = ap (λ w. w ++ book) un.empty in
    let kept : IsKept means ((r.bits, true) ∷ (d, true) ∷ []) book = record {
      head = r.bits;
      drafts = d;
      words = refl;
      fits = inl (record { opened = opening_book means seats r one; head_is = refl; drafts_are = d' });
    } in
    let trade : Trades ask log (log ++ book) n = record {
      before = sym (ap (count 0) un.empty);
      after = rw all refl;
      others = λ k other. rw (all, un.empty) (opening_counts seats r k other);
    } in (
      keeps,
      book,
      Some n,
      tt,
      subst (λ (k : ℕ × List Entry). IsKept means ((k.0, true) ∷ (d, true) ∷ []) k.1) (λ i. (sym h' i, sym all i)) kept,
      inr (n, refl, refl, trade),
      record { counts = n; counted = refl; opened = λ none. all },
    )

-- the exchange opens the book, where nothing was added by no seat
pub opens_moves : (means : Meanings) (v : List Entry) (seats : ℕ) (r : Ref) → stamp_of r ≡ 1
    → Moves (IsKept means) shown (Trades (opened seats r)) 0 (v, (no_nib, None)) (λ n. either (n == 0) r.bits n)
    (step_tells OpensBook (step 0 0 r.bits (opened seats r)) (v, (no_nib, None)))
opens_moves means v seats r one cs log kept pre away =
    let ask = opened seats r in
    let P : List Cell → Type 0 = λ c. (0 < length c) × ((cell c 0).1 ≡ true)
    × Goes (IsKept means) shown (Trades ask) 0 (v, (no_nib, None)) (λ n. either (n == 0) r.bits n)
    (step_tells OpensBook (step 0 0 r.bits ask) (v, (no_nib, None))) c log in
    subst P (sym kept.words) (omega arith, refl, opens_goes means v log seats r kept.head kept.drafts one kept.fits)
