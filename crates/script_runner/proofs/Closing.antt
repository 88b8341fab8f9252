-- Readings that are open at the end of a run end, and what is known of their clients then was true before.
use Rattle.std.proofs.Common.{◌≡◌, ◌<◌, ◌+◌, ℕ, inl, inr, true, List, Some, length, slice_index_or, slice_set}
use Rattle.std.proofs.Common.{refl, sym, ap, subst, ◌∙◌, arith}
use Rattle.std.proofs.lemmas.List.{get_or-map, get_or-set_other, get_or-set_same}
use Rattle.std.proofs.lemmas.List.{get_or_default, length-map, length-set}
use Rattle.std.specs.List.{All}
use Rattle.std.specs.Option.{option_or}
use mathlib.Core.List.{IsPrefix}
use Rattle.group_history.specs.Meaning.{Meanings}
use Rattle.head_word.specs.declared.entry.Entry.{Entry}
use Rattle.head_word.specs.Books.{book_opening, opening_ref}
use Rattle.head_word.specs.Marks.{Known, own}
use Rattle.rebase.specs.Clients.{ClientState}
use Rattle.rebase.proofs.Seating.{below_or_at}
use Rattle.client_desk.specs.declared.calls.DeskCall.TheVariants as call
use Rattle.client_desk.specs.declared.faults.CallFault.TheVariants as fault
use Rattle.client_desk.specs.Answers.{At, EndsReading}
use Rattle.client_desk.specs.Calls.{MayAnswer, MayAnswerAt}
use Rattle.client_desk.specs.Places.{PlaceState}
use Rattle.client_desk.specs.Told.{Told}
use Rattle.script_runner.specs.declared.phase.ClientTurn.{ClientTurn}
use Rattle.script_runner.specs.Commanding.{Player}
use Rattle.script_runner.specs.Records.{IsIn, IsRecordOf}
use Rattle.script_runner.specs.Inside.Players.{player_of, players_of}
use Rattle.script_runner.specs.Inside.Records.{AreSeated, HasReadThrough, HaveReadThrough, IsManned}
use Rattle.script_runner.specs.Inside.Records.{IsSeated, IsSitting}
use Rattle.script_runner.specs.Inside.Turns.{AreOfOneGroup}
use Rattle.script_runner.proofs.Seated.{client_there, one_client}
use Rattle.script_runner.proofs.Turns.{some_of}

module _ {M : Type 0} where
  -- the call that ends a reading, also where none is open
  pub through : (means : Meanings) (old new : ClientTurn M) (t : Told) → IsManned old
      → MayAnswer (λ name. true) means call.EndRead old.client.place t new.client.place → HasReadThrough old new
  through means old new t was h =
      let c = was.0 in let b = old.client.place in let a = new.client.place in
      elim (subst (λ x. MayAnswerAt (λ name. true) means call.EndRead x b t a) was.1.calm h) [
        | inl dry ↦ absurd dry.0
        | inr done ↦ elim was.1.at [
          | inl sits ↦
              let e = subst (λ o. At o fault.NotRead EndsReading b t a) sits.1 done in record {
                client = c;
                next = c;
                was = was.1;
                sits = (
                  ap (λ (p : PlaceState). p.client) e.1 ∙ sits.0,
                  ap (λ (p : PlaceState). p.reading) e.1
                      ∙ sits.1,
                );
                calm = ap (λ (p : PlaceState). p.asking) e.1 ∙ was.1.calm;
                mark = refl;
                group = ap (λ (p : PlaceState). p.group) e.1;
              }
          | inr reads ↦
              let e = subst (λ o. At o fault.NotRead EndsReading b t a) reads.1 done in record {
                client = c;
                next = e.client;
                was = was.1;
                sits = (ap (λ (p : PlaceState). p.client) e.left, ap (λ (p : PlaceState). p.reading) e.left);
                calm = ap (λ (p : PlaceState). p.asking) e.left ∙ was.1.calm;
                mark = e.mark;
                group = ap (λ (p : PlaceState). p.group) e.left;
              }
        ]
      ]

  -- one client more
  pub through_more : (old turns : List (ClientTurn M)) (i : ℕ) (turn new : ClientTurn M) → i < length old
      → HaveReadThrough i old turns → turn ≡ slice_index_or turns i turn → HasReadThrough turn new
      → HaveReadThrough (i + 1) old (slice_set turns i new)
  through_more old turns i turn new low were is through =
      let was : turn ≡ slice_index_or old i turn = is ∙ were.rest i turn (omega arith) low in
      let here : i < length turns = omega (low, were.count, arith) in
      record {
        count = length-set turns i new ∙ were.count;
        each = λ k d below within. elim (below_or_at k i (omega (below, arith))) [
          | inl less ↦
              let same : slice_index_or (slice_set turns i new) k d ≡ slice_index_or turns k d =
              get_or-set_other turns i k new d (λ e. absurd (let f : k ≡ i = e in omega (f, less, arith))) in
              subst (λ t. HasReadThrough (slice_index_or old k d) t) (sym same) (were.each k d less within)
          | inr at ↦
              let now : slice_index_or (slice_set turns i new) k d ≡ new =
              ap (λ n. slice_index_or (slice_set turns i new) n d) at ∙ get_or-set_same turns i new d here in
              let then : turn ≡ slice_index_or old k d =
              was ∙ get_or_default old i turn d low ∙ ap (λ n. slice_index_or old n d) (sym at) in
              subst (λ t. HasReadThrough (slice_index_or old k d) t) (sym now)
              (subst (λ t. HasReadThrough t new) then through)
        ];
        rest = λ k d above within.
            get_or-set_other turns i k new d (λ e. absurd (let f : k ≡ i = e in omega (f, above, arith)))
            ∙ were.rest k d (omega (above, arith)) within;
      }

  -- a turn whose client may have a reading open
  pub manned_at : (old turns : List (ClientTurn M)) (i : ℕ) (turn : ClientTurn M) → i < length old → All IsManned old
      → HaveReadThrough i old turns → turn ≡ slice_index_or turns i turn → IsManned turn
  manned_at old turns i turn low all were is =
      let was : turn ≡ slice_index_or old i turn = is ∙ were.rest i turn (omega arith) low in
      subst IsManned (sym was) (all i turn low)

  -- one client was on its seat, and is in the book

  read_seated : (count commit number : ℕ) (old new : ClientTurn M) → HasReadThrough old new
      → IsSeated count commit number old.client.place → IsSeated count commit number new.client.place
  read_seated count commit number old new h was =
      let same = one_client was.client h.client old.client.place was.is
      (client_there h.client old.client.place h.was) in
      let mark : h.next.seat.mark ≡ was.client.seat.mark =
      h.mark ∙ ap (λ (c : ClientState). c.seat.mark) (sym same) in
      record {
        client = h.next;
        is = record { at = inl h.sits; calm = h.calm };
        seat = ap (λ (m : Known). m.seat) mark ∙ was.seat;
        opened = subst (λ (m : Known). IsPrefix (book_opening count (opening_ref commit)) m.log) (sym mark) was.opened;
      }

  read_in : (book : List Entry) (number : ℕ) (old new : ClientTurn M) → HasReadThrough old new
      → IsIn book number (player_of new.client) → IsIn book number (player_of old.client)
  read_in book number old new h i =
      let whole : Some i.client ≡ Some h.next =
      sym i.there ∙ ap (λ o. option_or o new.client.place.reading) h.sits.0 in
      let same : i.client ≡ h.next = cc whole in
      let mark : i.client.seat.mark ≡ h.client.seat.mark = ap (λ (c : ClientState). c.seat.mark) same ∙ h.mark in
      record {
        client = h.client;
        there = client_there h.client old.client.place h.was;
        seat = ap (λ (m : Known). m.seat) (sym mark) ∙ i.seat;
        seen = subst (λ (m : Known). IsPrefix m.log book) mark i.seen;
        own = i.own ∙ ap own mark;
      }

  -- and so are all

  module _ (old new : List (ClientTurn M)) (h : HaveReadThrough (length old) old new) where
    pub all_sit : All IsSitting new
    all_sit k d below =
        let in_old : k < length old = omega (below, h.count, arith) in
        let one = h.each k d in_old in_old in (one.next, one.sits.0)

    pub still_of_one : AreOfOneGroup old → AreOfOneGroup new
    still_of_one one = (
      one.0,
      λ k d below.
          let in_old : k < length old = omega (below, h.count, arith) in
          (h.each k d in_old in_old).group ∙ one.1 k d in_old,
    )

    abbrev player : ClientTurn M → Player
    player t = player_of t.client

    pub all_seated : (count commit : ℕ) → AreSeated count commit (players_of old)
        → AreSeated count commit (players_of new)
    all_seated count commit were i p below =
        let in_new : i < length new = omega (below, length-map new player, arith) in
        let in_old : i < length old = omega (in_new, h.count, arith) in
        let d = some_of new i in_new in
        let at_new : slice_index_or (players_of new) i p ≡ player (slice_index_or new i d) =
        get_or-map player new i d p in_new in
        let at_old : slice_index_or (players_of old) i p ≡ player (slice_index_or old i d) =
        get_or-map player old i d p in_old in
        subst (λ (q : Player). IsSeated count commit i q.place) (sym at_new)
        (read_seated count commit i (slice_index_or old i d) (slice_index_or new i d) (h.each i d in_old in_old)
        (subst (λ (q : Player). IsSeated count commit i q.place) at_old
        (were i p (omega (in_old, length-map old player, arith)))))

    pub one_record : (means : Meanings) (book : List Entry) → IsRecordOf means (players_of new) book
        → IsRecordOf means (players_of old) book
    one_record means book r =
        let olds = length-map old player in let news = length-map new player in
        record {
          legal = r.legal;
          seats = r.seats ∙ news ∙ h.count ∙ sym olds;
          each = λ i p below.
              let in_old : i < length old = omega (below, olds, arith) in
              let in_new : i < length new = omega (in_old, h.count, arith) in
              let d = some_of old i in_old in
              let at_new : slice_index_or (players_of new) i p ≡ player (slice_index_or new i d) =
              get_or-map player new i d p in_new in
              let at_old : slice_index_or (players_of old) i p ≡ player (slice_index_or old i d) =
              get_or-map player old i d p in_old in
              subst (IsIn book i) (sym at_old)
              (read_in book i (slice_index_or old i d) (slice_index_or new i d) (h.each i d in_old in_old)
              (subst (IsIn book i) at_new (r.each i p (omega (in_new, news, arith)))));
        }
