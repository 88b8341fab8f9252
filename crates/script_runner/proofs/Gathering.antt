-- The one record of a run, by what its clients learnt at its end.
use Rattle.std.proofs.Common.{◌≡◌, ◌<◌, ◌+◌, ℕ, zero, suc, inl, inr, slice_set, List, [], ◌∷◌, ◌++◌}
use Rattle.std.proofs.Common.{Some, length, slice_index_or}
use Rattle.std.proofs.Common.{refl, sym, ap, subst, ◌∙◌, length-append, arith}
use Rattle.std.proofs.lemmas.List.{append-nil, get_or-map, get_or-set_other, get_or-set_same}
use Rattle.std.proofs.lemmas.List.{get_or_default, length-map, length-set}
use Rattle.std.specs.List.{All}
use Rattle.std.specs.Option.{option_or}
use Rattle.std.specs.Prelude.{option_map}
use mathlib.Core.List.{IsPrefix}
use Rattle.group_history.specs.Meaning.{Meanings}
use Rattle.head_word.specs.declared.entry.Entry.{Entry}
use Rattle.head_word.specs.Books.{IsOpened, book_opening, opening_ref, seats_of}
use Rattle.head_word.specs.Marks.{own, own_of}
use Rattle.head_word.specs.Tallies.{mine}
use Rattle.head_word.proofs.Counting.{mine_more}
use Rattle.commit_graph.specs.Seats.{IsSameSeat, SeatState}
use Rattle.rebase.specs.Clients.{ClientState}
use Rattle.rebase.proofs.Seating.{below_or_at}
use Rattle.client_desk.specs.Learning.{LearnsAt, sight_of}
use Rattle.script_runner.specs.declared.phase.ClientTurn.{ClientTurn}
use Rattle.script_runner.specs.Commanding.{LearnsFirst, Player}
use Rattle.script_runner.specs.Records.{IsIn, IsRecordOf}
use Rattle.script_runner.specs.Sights.{sight_at}
use Rattle.script_runner.specs.Inside.Players.{player_of, players_of}
use Rattle.script_runner.specs.Inside.Records.{AreConfirmed, AreSeated, HasSeen, HasLearnt, IsClientOf, IsManned}
use Rattle.script_runner.specs.Inside.Records.{IsSeated, IsSitting, log_at}
use Rattle.script_runner.specs.Inside.Records.{log_of}
use Rattle.script_runner.specs.Inside.Turns.{AreOf, AreOfOneGroup}
use Rattle.script_runner.proofs.Seated.{begins, one_client}

same_seat : (s : SeatState) → IsSameSeat s s
same_seat s = record {
  table = refl;
  later = record { book = refl; seat = refl; seen = ([], append-nil s.mark.log) };
}

pub still_same : (a b c : SeatState) → IsSameSeat a b → IsSameSeat b c → IsSameSeat a c
still_same a b c p q = record {
  table = q.table ∙ p.table;
  later = record {
    book = q.later.book ∙ p.later.book;
    seat = q.later.seat ∙ p.later.seat;
    seen = begins a.mark.log b.mark.log c.mark.log p.later.seen q.later.seen;
  };
}

module _ {M : Type 0} where
  -- nothing was learnt yet
  pub unlearnt : (turn : ClientTurn M) → IsSitting turn → HasLearnt turn turn
  unlearnt turn sits = record {
    client = sits.0;
    next = sits.0;
    sat = sits.1;
    sits = sits.1;
    seat = same_seat sits.0.seat;
    own = refl;
    group = refl;
  }

  -- one more was heard of, whose client sits at its place
  pub heard : (old turn new other : ClientTurn M) → HasLearnt old turn → IsSitting other
      → LearnsFirst (sight_at other.client.place) turn.client.place new.client.place → HasLearnt old new
      × IsPrefix (log_at turn) (log_at new) × HasSeen new other
  heard old turn new other were sits learns =
      let o = sits.0 in
      let by_sight = subst (λ x. LearnsFirst x turn.client.place new.client.place)
      (ap (λ x. option_map sight_of (option_or x other.client.place.reading)) sits.1) learns in
      let l = subst (λ x. LearnsAt x (sight_of o) turn.client.place new.client.place) were.sits by_sight in
      let now : new.client.place.client ≡ Some l.next = ap (λ p. p.client) l.left in (
        record {
          client = were.client;
          next = l.next;
          sat = were.sat;
          sits = now;
          seat = still_same were.client.seat were.next.seat l.next.seat were.seat l.looked.seat;
          own = l.looked.own ∙ were.own;
          group = ap (λ p. p.group) l.left ∙ were.group;
        },
        subst (λ x. IsPrefix (log_of x) (log_at new)) (sym were.sits)
            (subst (λ x. IsPrefix were.next.seat.mark.log (log_of x)) (sym now) l.looked.seat.later.seen),
        subst (λ x. IsPrefix (log_of x) (log_at new)) (sym sits.1)
            (subst (λ x. IsPrefix o.seat.mark.log (log_of x)) (sym now) l.seen),
      )

  -- those that were covered are covered still
  pub still_covers : (turn new : ClientTurn M) (others : List (ClientTurn M)) → IsPrefix (log_at turn) (log_at new)
      → All (HasSeen turn) others → All (HasSeen new) others
  still_covers turn new others more all k d below =
      begins (log_at (slice_index_or others k d)) (log_at turn) (log_at new) (all k d below) more

  -- one client more has learnt it
  pub confirmed_more : (other : ClientTurn M) (old turns : List (ClientTurn M)) (i : ℕ) (turn new : ClientTurn M)
      → i < length old
      → IsSitting other → All IsSitting old → AreConfirmed i other old turns → turn ≡ slice_index_or turns i turn
      → LearnsFirst (sight_at other.client.place) turn.client.place new.client.place
      → AreConfirmed (i + 1) other old (slice_set turns i new)
  confirmed_more other old turns i turn new low sits all were is learns =
      let was : turn ≡ slice_index_or old i turn = is ∙ were.rest i turn (omega arith) low in
      let sat : IsSitting turn = subst IsSitting (sym was) (all i turn low) in
      let h = heard turn turn new other (unlearnt turn sat) sits learns in
      let here : i < length turns = omega (low, were.count, arith) in
      record {
        count = length-set turns i new ∙ were.count;
        each = λ k d below within. elim (below_or_at k i (omega (below, arith))) [
          | inl less ↦
              let same : slice_index_or (slice_set turns i new) k d ≡ slice_index_or turns k d =
              get_or-set_other turns i k new d (λ e. absurd (let f : k ≡ i = e in omega (f, less, arith))) in
              subst (λ t. HasLearnt (slice_index_or old k d) t × HasSeen t other) (sym same) (were.each k d less within)
          | inr at ↦
              let now : slice_index_or (slice_set turns i new) k d ≡ new =
              ap (λ n. slice_index_or (slice_set turns i new) n d) at ∙ get_or-set_same turns i new d here in
              let then : turn ≡ slice_index_or old k d =
              was ∙ get_or_default old i turn d low ∙ ap (λ n. slice_index_or old n d) (sym at) in
              subst (λ t. HasLearnt (slice_index_or old k d) t × HasSeen t other) (sym now)
              (subst (λ t. HasLearnt t new) then h.0, h.2)
        ];
        rest = λ k d above within.
            get_or-set_other turns i k new d (λ e. absurd (let f : k ≡ i = e in omega (f, above, arith)))
            ∙ were.rest k d (omega (above, arith)) within;
      }

  -- the others are of the first one's group
  pub of_first : (turns rest : List (ClientTurn M)) (first : ClientTurn M) → turns ≡ first ∷ rest → AreOfOneGroup turns
      → AreOf first.client.place.group rest
  of_first turns rest first is one =
      let all = subst (AreOf one.0) is one.1 in
      λ k d below. all (suc k) d (omega (below, arith)) ∙ sym (all 0 first (omega arith))

  -- places that have clients do
  pub manned_of : (count commit : ℕ) (turns : List (ClientTurn M)) → AreSeated count commit (players_of turns)
      → All IsManned turns
  manned_of count commit turns seated k d below =
      let at = get_or-map (λ t. player_of t.client) turns k d (player_of d.client) below in
      let s = seated k (player_of d.client) (omega (below, length-map turns (λ t. player_of t.client), arith)) in
      (s.client, subst (λ (p : Player). IsClientOf s.client p.place) at s.is)

empty_of : {A : Type 0} (xs : List A) → length xs ≡ 0 → xs ≡ []
empty_of [] none = refl
empty_of (x ∷ xs) none = absurd (omega (arith, none))

-- where a book begins and ends with the same entries of a key, they are those of what lies between
between : (k : ℕ) (xs ys zs : List Entry) → IsPrefix xs ys → IsPrefix ys zs → mine k zs ≡ mine k xs
    → mine k ys ≡ mine k xs
between k xs ys zs p q same =
    let first : mine k ys ≡ mine k xs ++ mine k p.0 = ap (mine k) (sym p.1) ∙ mine_more k xs p.0 in
    let second : mine k zs ≡ mine k ys ++ mine k q.0 = ap (mine k) (sym q.1) ∙ mine_more k ys q.0 in
    let none : mine k p.0 ≡ [] = empty_of (mine k p.0) (omega (
      ap length first,
      ap length second,
      ap length same,
      length-append (mine k xs) (mine k p.0),
      length-append (mine k ys) (mine k q.0),
      arith,
    )) in
    first ∙ ap (λ w. mine k xs ++ w) none ∙ append-nil (mine k xs)

module _ {M : Type 0} (count commit : ℕ) where
  -- the client of the turn is the one that sits there
  the_client : (old : ClientTurn M) (number : ℕ) (c : ClientState) → old.client.place.client ≡ Some c
      → IsSeated count commit number old.client.place → (c.seat.mark.seat ≡ Some number)
      × IsPrefix (book_opening count (opening_ref commit)) c.seat.mark.log
  the_client old number c is seated =
      let same = one_client seated.client c old.client.place seated.is
      (ap (λ o. option_or o old.client.place.reading) is) in (
        ap (λ x. x.seat.mark.seat) (sym same) ∙ seated.seat,
        subst (λ x. IsPrefix (book_opening count (opening_ref commit)) x.seat.mark.log) same seated.opened,
      )

  own_next : (old new : ClientTurn M) (number : ℕ) (h : HasLearnt old new)
      → IsSeated count commit number old.client.place
      → own_of (Some number) h.next.seat.mark.log ≡ own h.client.seat.mark
  own_next old new number h seated =
      let seat = h.seat.later.seat ∙ (the_client old number h.client h.sat seated).0 in
      ap (λ s. own_of s h.next.seat.mark.log) (sym seat) ∙ h.own

  -- the client that heard of all others
  pub first_in : (old new : ClientTurn M) → HasLearnt old new → IsSeated count commit 0 old.client.place
      → IsIn (log_at new) 0 (player_of old.client)
  first_in old new h seated = record {
    client = h.client;
    there = ap (λ o. option_or o old.client.place.reading) h.sat;
    seat = (the_client old 0 h.client h.sat seated).0;
    seen = subst (λ x. IsPrefix h.client.seat.mark.log (log_of x)) (sym h.sits) h.seat.later.seen;
    own = ap (λ x. own_of (Some 0) (log_of x)) h.sits ∙ own_next old new 0 h seated;
  }

  -- one of the others
  pub other_in : (book : List Entry) (number : ℕ) (old new : ClientTurn M) → HasLearnt old new
      → IsSeated count commit number old.client.place → IsPrefix (log_at old) book → IsPrefix book (log_at new)
      → IsIn book number (player_of old.client)
  other_in book number old new h seated before behind =
      let early = subst (λ x. IsPrefix (log_of x) book) h.sat before in
      let late = subst (λ x. IsPrefix book (log_of x)) h.sits behind in
      let seat = (the_client old number h.client h.sat seated).0 in
      let mine_then : own h.client.seat.mark ≡ own_of (Some number) h.client.seat.mark.log =
      ap (λ s. own_of s h.client.seat.mark.log) seat in
      record {
        client = h.client;
        there = ap (λ o. option_or o old.client.place.reading) h.sat;
        seat = seat;
        seen = early;
        own = between (suc number) h.client.seat.mark.log book h.next.seat.mark.log early late
            (own_next old new number h seated ∙ mine_then) ∙ sym mine_then;
      }

  -- all clients are in the book that the first of them has seen
  pub gathered : (means : Meanings) (turns rest others : List (ClientTurn M)) (first now : ClientTurn M)
      → turns ≡ first ∷ rest
      → HasLearnt first now → All (HasSeen now) rest → AreConfirmed (length rest) now rest others
      → IsOpened means (log_at now)
      → count ≡ length turns → AreSeated count commit (players_of turns)
      → (book : List Entry) × IsRecordOf means (players_of turns) book
  gathered means turns rest others first now is learnt covers confirmed legal many seated =
      subst (λ (ts : List (ClientTurn M)). count ≡ length ts → AreSeated count commit (players_of ts)
      → (book : List Entry) × IsRecordOf means (players_of ts) book) (sym is) (λ many seated.
      let book = log_at now in let sat = seated 0 (player_of first.client) (omega arith) in
      let in_first = first_in first now learnt sat in
      let opened = begins (book_opening count (opening_ref commit)) learnt.client.seat.mark.log book
      (the_client first 0 learnt.client learnt.sat sat).1
      (subst (λ x. IsPrefix learnt.client.seat.mark.log (log_of x)) (sym learnt.sits) learnt.seat.later.seen) in (
        book,
        record {
          legal = legal;
          seats = ap seats_of (sym opened.1) ∙ many ∙ sym (length-map (first ∷ rest) (λ t. player_of t.client));
          each = λ i p below. each rest others first now learnt covers confirmed in_first seated i p below;
        },
      )) many seated
    where
      each : (rest others : List (ClientTurn M)) (first now : ClientTurn M) (learnt : HasLearnt first now)
          → All (HasSeen now) rest → AreConfirmed (length rest) now rest others
          → IsIn (log_at now) 0 (player_of first.client)
          → AreSeated count commit (players_of (first ∷ rest)) → (i : ℕ) (p : Player)
          → i < length (players_of (first ∷ rest))
          → IsIn (log_at now) i (slice_index_or (players_of (first ∷ rest)) i p)
      each rest others first now learnt covers confirmed in_first seated zero p below = in_first
      each rest others first now learnt covers confirmed in_first seated (suc k) p below =
          let below' : k < length rest = omega (below, length-map rest (λ t. player_of t.client), arith) in
          let at : slice_index_or (players_of rest) k p ≡ player_of (slice_index_or rest k first).client =
          get_or-map (λ t. player_of t.client) rest k first p below' in
          let c = confirmed.each k first below' below' in
          subst (λ q. IsIn (log_at now) (suc k) q) (sym at)
          (other_in (log_at now) (suc k) (slice_index_or rest k first) (slice_index_or others k first) c.0
          (subst (λ (q : Player). IsSeated count commit (suc k) q.place) at (seated (suc k) p below))
          (covers k first below') c.1)
