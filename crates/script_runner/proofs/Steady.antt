-- Clients whose lines are done one by one: what stays known of them, and that nobody else changes their group.
use Rattle.std.proofs.Common.{◌≡◌, ◌<◌, ◌+◌, ◌-◌, ◌≤◌, ◌++◌, ℕ, zero, suc, inl, inr, List, [], ◌∷◌, Option, Some, None}
use Rattle.std.proofs.Common.{length, map, filter, refl, sym, ap, subst, ◌∙◌, arith, slice_index_or, slice_set}
use Rattle.std.proofs.lemmas.Bool.Decides.{eqb_tells}
use Rattle.std.proofs.lemmas.List.{get_or-map, get_or-set_other, get_or-set_same, length-map, length-set}
use Rattle.std.proofs.lemmas.List.Sums.{sum-map, sum_by-cons, sum_by-set}
use Rattle.std.proofs.lemmas.Option.{get_or_from_slice_get, slice_get-get_or, slice_get_within}
use Rattle.std.specs.List.{sum, sum_by}
use Rattle.std.specs.Prelude.{option_map, slice_get}
use mathlib.Core.List.{IsPrefix}
use Rattle.group_history.specs.Map.{Bytes}
use Rattle.group_history.specs.Meaning.{Meanings}
use Rattle.head_word.specs.declared.entry.Entry.{Entry}
use Rattle.head_word.specs.Books.{book_opening, opening_ref, record_of, with_change}
use Rattle.head_word.specs.Marks.{Known, known, own}
use Rattle.head_word.specs.Tallies.{mine}
use Rattle.linearized.specs.Answered.{is_move, own_moves}
use Rattle.push_body.specs.declared.identities.Identity.{Identity}
use Rattle.rebase.specs.Clients.{ClientState}
use Rattle.client_desk.specs.Learning.{sight_of}
use Rattle.client_desk.specs.Inside.Sitting.{IsAtRest}
use Rattle.client_desk.specs.Places.{PlaceState, client_at}
use Rattle.client_desk.specs.Told.{Told}
use Rattle.script_parser.specs.declared.script.Command.{Command}
use Rattle.script_runner.specs.declared.phase.ClientTurn.{ClientTurn}
use Rattle.script_runner.specs.Answering.{record_seen}
use Rattle.script_runner.specs.Commanding.{LearnsFirst, MayTell, Player}
use Rattle.script_runner.specs.Records.{IsRecordOf}
use Rattle.script_runner.specs.Runs.{AreNewPlayers, IsNewPlayer, seats_for}
use Rattle.script_runner.specs.Settling.{AreSteady, IsWhole, StaySteady, moves_seen, own_at, own_count}
use Rattle.script_runner.specs.Sights.{seen_behind, sight_at}
use Rattle.script_runner.specs.Inside.Calls.{IsCalledAt}
use Rattle.script_runner.specs.Inside.Exact.{IsExactCall, IsExactAt}
use Rattle.script_runner.specs.Inside.Players.{player_of, players_of}
use Rattle.script_runner.specs.Inside.Records.{AreSeated, IsSeated}
use Rattle.script_runner.proofs.Gathering.{still_same}
use Rattle.script_runner.proofs.Moves.{at_point, counted_book, left_alone, moves, moves_grow, moves_opened, none_opened}
use Rattle.script_runner.proofs.Moves.{others_grow, own_within, record_same}
use Rattle.script_runner.proofs.Reading.{HasRead, has_read, learns_none}
use Rattle.script_runner.proofs.Seated.{GoesOn, HasCaughtUp, begins, begun, caught_up, client_there, later, sits_on}

-- ---- at the beginning

seats_are : (n i : ℕ) → i < n → seats_for n ≡ n
seats_are zero i below = absurd (omega (below, arith))
seats_are (suc n) i below = refl

no_moves : (players : List Player)
    → ((i : ℕ) (p : Player) → i < length players → own_at (slice_index_or players i p) ≡ 0)
    → sum_by own_at players ≡ 0
no_moves [] each = refl
no_moves (p ∷ ps) each =
    let first : own_at p ≡ 0 = each 0 p (omega arith) in
    let rest = no_moves ps (λ i q below. each (suc i) q (omega (below, arith))) in
    sum_by-cons own_at p ps ∙ (let total : own_at p + sum_by own_at ps ≡ 0 = omega (arith, first, rest) in total)

-- a new client has made no move
none_own : (means : Meanings) (group : _) (count commit number : ℕ) (p : Player)
    → IsNewPlayer means group count commit number p → own_at p ≡ 0
none_own means group count commit number p new =
    let none : own new.sat.client.seat.mark ≡ [] =
    new.sat.looked.own ∙ ap own new.mark ∙ none_opened number count (opening_ref commit) in
    ap (λ (q : PlaceState). own_count (client_at q)) new.sat.left ∙ ap (λ es. length (filter is_move es)) none

pub steady_new : (means : Meanings) (identity : Identity) (lines : List (Bytes × Bytes)) (players : List Player)
    → AreNewPlayers means identity lines players → AreSteady players None
steady_new means identity lines players new =
    let n : ℕ = length players in
    record {
      commit = new.commit;
      seated = λ i p below.
          subst (λ k. IsSeated k new.commit i (slice_index_or players i p).place) (seats_are n i below)
          (begun (seats_for n) new.commit i means new.group (slice_index_or players i p) (new.all i p below));
      counted = omega (
        no_moves players (λ i p below.
            none_own means new.group (seats_for n) new.commit i (slice_index_or players i p) (new.all i p below)),
        arith,
      );
      last = λ known is. absurd (cc is);
    }

-- ---- a line

-- the client at the place has seen all moves that the lines before have seen
sees_moves : (seen : Option Known) (log : List Entry) (count commit : ℕ)
    → IsPrefix (book_opening count (opening_ref commit)) log
    → ((known : Known) → seen ≡ Some known → IsPrefix known.log log) → moves_seen seen ≤ moves log
sees_moves None log count commit opened sees =
    omega (
      moves_grow (book_opening count (opening_ref commit)) log opened,
      moves_opened count
          (opening_ref commit),
      arith,
    )
sees_moves (Some known) log count commit opened sees = moves_grow known.log log (sees known refl)

-- and where it has seen no more moves, the record is that one
sees_record : (seen : Option Known) (log : List Entry) (count commit : ℕ)
    → IsPrefix (book_opening count (opening_ref commit)) log
    → ((known : Known) → seen ≡ Some known → IsPrefix known.log log) → moves log ≡ moves_seen seen
    → record_of log ≡ record_seen seen
sees_record None log count commit opened sees same =
    record_same (book_opening count (opening_ref commit)) log opened (same ∙ sym (moves_opened count
    (opening_ref commit)))
sees_record (Some known) log count commit opened sees same = record_same known.log log (sees known refl) same

exact_call : (means : Meanings) (seen : Option Known) (old new : Known) (seat : new.seat ≡ old.seat)
    (pre : IsPrefix old.log new.log)
    → moves old.log + length (own_moves new) ≡ moves new.log + length (own_moves old)
    → record_of old.log ≡ record_seen seen → IsExactCall means seen old new
exact_call means seen old new seat pre alone before = record {
  before = before;
  alone =
      let same : moves new.log - length (own_moves new) ≡ moves old.log - length (own_moves old) =
      omega (alone, own_within old, own_within new, arith) in same;
  point = λ change log p. (at_point old new seat pre alone means change log p).0 ∙ before;
  behind = λ change log p.
      (at_point old new seat pre alone means change log p).1 ∙ ap (λ w. w ++ with_change change []) before;
  none = λ same. left_alone old new seat pre alone same ∙ before;
}

-- what a line did of that is known of it
record HasGone (seen : Option Known) (before after : List Player) (now : Option Known) : Type 0 where
  steady : AreSteady after now
  whole : IsWhole after now → IsWhole before seen

-- the clients are on their seats still where one of them is
still_seated : (n commit place : ℕ) (before : List Player) (next : Player) → n ≡ length before → place < length before
    → AreSeated n commit before → IsSeated n commit place next.place
    → AreSeated (length (slice_set before place next)) commit (slice_set before place next)
still_seated n commit place before next many below were end i p within =
    let after : List Player = slice_set before place next in
    let long : length after ≡ n = length-set before place next ∙ sym many in
    elim (eqb_tells i place) [
      | inl is ↦
          let now : slice_index_or after i p ≡ next =
          ap (λ j. slice_index_or after j p) is.1 ∙ get_or-set_same before place next p below in
          subst (λ (q : Player). IsSeated (length after) commit i q.place) (sym now)
          (subst (λ j. IsSeated (length after) commit j next.place) (sym is.1)
          (subst (λ j. IsSeated j commit place next.place) (sym long) end))
      | inr not ↦
          let same : slice_index_or after i p ≡ slice_index_or before i p =
          get_or-set_other before place i next p not.1 in
          subst (λ (q : Player). IsSeated (length after) commit i q.place) (sym same)
          (subst (λ j. IsSeated j commit i (slice_index_or before i p).place) (sym long)
          (were i p (omega (within, long, many, arith))))
    ]

-- the player at a place where a list was set
set_there : (before : List Player) (place : ℕ) (next : Player) → place < length before
    → slice_get (slice_set before place next) place ≡ Some next
set_there before place next below =
    let after : List Player = slice_set before place next in
    let long : length after ≡ length before = length-set before place next in
    slice_get-get_or after place next (omega (below, long, arith)) ∙ ap Some
    (get_or-set_same before place next next below)

-- and at another one
set_elsewhere : (before : List Player) (place i : ℕ) (next p : Player) → (i ≡ place → ⊥) → slice_get before i ≡ Some p
    → slice_get (slice_set before place next) i ≡ Some p
set_elsewhere before place i next p other at =
    let after : List Player = slice_set before place next in
    let long : length after ≡ length before = length-set before place next in
    slice_get-get_or after i p (omega (slice_get_within before i p at, long, arith)) ∙ ap Some
    (get_or-set_other before place i next p other ∙ get_or_from_slice_get before i p p at)

module _ (means : Meanings) (sights : List (Option Known)) (seen : Option Known) (place : ℕ) (c : Command)
    (before : List Player) (client next : Player) (mid : PlaceState) (t : Told)
    (at : slice_get before place ≡ Some client) (learnt : LearnsFirst seen client.place mid)
    (may : MayTell means sights c mid t next.place) (was : AreSteady before seen) where
  abbrev ended : List Player
  ended = slice_set before place next

  below : place < length before
  below = slice_get_within before place client at

  here : slice_index_or before place client ≡ client
  here = get_or_from_slice_get before place client client at

  pub seated : IsSeated (length before) was.commit place client.place
  seated = subst (λ (p : Player). IsSeated (length before) was.commit place p.place) here
      (was.seated place client below)

  -- the client of the line sits at its place
  module _ (sits : client.place.client ≡ Some seated.client) (calm : IsAtRest client.place) where
    abbrev k : HasCaughtUp seated.client seen mid
    k = caught_up seated.client seen client.place mid sits calm learnt

    abbrev d : GoesOn k.client next.place
    d = sits_on means sights c k.client mid t next.place k.sits k.calm may

    -- it is on its seat, others moved the head no less often than it saw, and so the lines have seen its moves
    went : HasGone seen before ended (sight_at next.place)
        × (IsWhole ended (sight_at next.place) → IsExactAt means seen mid next.place)
    went =
        let n : ℕ = length before in
        let m = k.client.seat.mark in let e = d.next.seat.mark in let pre = d.seat.later.seen in
        let there = client_there d.next next.place d.is in
        let end : IsSeated n was.commit place next.place =
        later n was.commit place client.place next.place seated (record {
          next = d.next;
          is = d.is;
          seat = still_same seated.client.seat k.client.seat d.next.seat k.seat d.seat;
        }) in
        let opened = begins (book_opening n (opening_ref was.commit)) seated.client.seat.mark.log m.log seated.opened
        k.seat.later.seen in
        let sight : sight_at next.place ≡ Some (sight_of d.next) = ap (option_map sight_of) there in
        let total = sum_by-set own_at before place next client below in
        let own_c : own_at (slice_index_or before place client) ≡ length (own_moves seated.client.seat.mark) =
        ap own_at here ∙ ap own_count (client_there seated.client client.place seated.is) in
        let own_d : own_at next ≡ length (own_moves e) = ap own_count there in
        let own_m : length (own_moves m) ≡ length (own_moves seated.client.seat.mark) =
        ap (λ es. length (filter is_move es)) k.own in
        let grow = others_grow m e d.seat.later.seat pre in
        let low = sees_moves seen m.log n was.commit opened k.sees in
        let now_moves : moves_seen (sight_at next.place) ≡ moves e.log = ap moves_seen sight in (
          record {
            steady = record {
              commit = was.commit;
              seated = still_seated n was.commit place before next refl below was.seated end;
              counted = omega (total, own_c, own_d, own_m, grow, low, was.counted, now_moves, arith);
              last = λ known is. (place, next, set_there before place next below, is);
            };
            whole = λ all. omega (total, own_c, own_d, own_m, grow, low, was.counted, now_moves, all, arith);
          },
          λ all. record {
            old = k.client;
            new = d.next;
            sat = k.sits;
            there = there;
            exact = exact_call means seen m e d.seat.later.seat pre
                (omega (total, own_c, own_d, own_m, grow, low, was.counted, now_moves, all, arith))
                (sees_record seen m.log n was.commit opened k.sees
                (omega (total, own_c, own_d, own_m, grow, low, was.counted, now_moves, all, arith)));
          },
        )

    pub sat_still : mid.reading ≡ None
    sat_still = k.calm.1

  -- it has a reading open
  module _ (none : client.place.client ≡ None) (is_open : client.place.reading ≡ Some seated.client) where
    unlearnt_mid : mid ≡ client.place
    unlearnt_mid = learns_none seen client.place mid none learnt

    abbrev h : HasRead means seated.client client.place next.place t (record_seen seen) c
    h = has_read means seated.client client.place next.place t none is_open seated.is.calm (record_seen seen) sights c
        (subst (λ p. MayTell means sights c p t next.place) unlearnt_mid may)

    first : client_at client.place ≡ Some seated.client
    first = client_there seated.client client.place seated.is

    there : client_at next.place ≡ Some h.next
    there = client_there h.next next.place h.is

    same_sight : sight_at next.place ≡ sight_at client.place
    same_sight =
        ap (option_map sight_of) there ∙ ap (λ (m : Known). Some (known m.book m.log None)) h.mark
        ∙ sym (ap (option_map sight_of) first)

    -- what the lines have seen its client has still, or another one
    seen_last : (known : Known) → (i : ℕ) × (p : Player) × (slice_get before i ≡ Some p)
        × (sight_at p.place ≡ Some known)
        → (i : ℕ) × (p : Player) × (slice_get ended i ≡ Some p) × (sight_at p.place ≡ Some known)
    seen_last known l = elim (eqb_tells l.0 place) [
      | inl is ↦
          let whole : Some l.1 ≡ Some client = sym l.2 ∙ ap (slice_get before) is.1 ∙ at in
          let same : l.1 ≡ client = cc whole in (
            place,
            next,
            set_there before place next below,
            same_sight ∙ ap (λ (p : Player). sight_at p.place) (sym same) ∙ l.3,
          )
      | inr not ↦ (l.0, l.1, set_elsewhere before place l.0 next l.1 not.1 l.2, l.3)
    ]

    read_on : HasGone seen before ended seen
    read_on =
        let n : ℕ = length before in
        let end : IsSeated n was.commit place next.place =
        later n was.commit place client.place next.place seated (record { next = h.next; is = h.is; seat = h.seat }) in
        let total = sum_by-set own_at before place next client below in
        let own_c : own_at (slice_index_or before place client) ≡ length (own_moves seated.client.seat.mark) =
        ap own_at here ∙ ap own_count first in
        let own_d : own_at next ≡ length (own_moves seated.client.seat.mark) =
        ap own_count there ∙ ap (λ m. length (own_moves m)) h.mark in
        record {
          steady = record {
            commit = was.commit;
            seated = still_seated n was.commit place before next refl below was.seated end;
            counted = omega (total, own_c, own_d, was.counted, arith);
            last = λ known is. seen_last known (was.last known is);
          };
          whole = λ all. omega (total, own_c, own_d, all, arith);
        }

  -- how a line was gone on with, by what its client had open
  gone : (now : Option Known) → now ≡ seen_behind mid.reading seen (sight_at next.place)
      → HasGone seen before ended now
  gone now sees = elim seated.is.at [
    | inl s ↦
        let calm : IsAtRest client.place = (seated.is.calm, s.1) in
        subst (HasGone seen before ended)
        (sym (sees ∙ ap (λ o. seen_behind o seen (sight_at next.place)) (sat_still s.0 calm))) (went s.0 calm).0
    | inr r ↦
        let is_open : mid.reading ≡ Some seated.client =
        ap (λ (p : PlaceState). p.reading) (unlearnt_mid r.0 r.1) ∙ r.1 in
        subst (HasGone seen before ended)
        (sym (sees ∙ ap (λ o. seen_behind o seen (sight_at next.place)) is_open)) (read_on r.0 r.1)
  ]

  -- the line of a client that sits at its place is exact where all moves are the clients'
  pub exact_sitting : (now : Option Known) → client.place.client ≡ Some seated.client → IsAtRest client.place
      → now ≡ sight_at next.place → IsWhole ended now → IsExactAt means seen mid next.place
  exact_sitting now sits calm sees all = (went sits calm).1 (subst (IsWhole ended) sees all)

-- so did a line whose client made its call
pub called_steady : (means : Meanings) (sights : List (Option Known)) (seen : Option Known) (place : ℕ) (c : Command)
    (before : List Player) (t : Told) (after : List Player) (now : Option Known)
    → IsCalledAt means sights seen place c before t after now → StaySteady before seen after now
called_steady means sights seen place c before t after now h was =
    let g = gone means sights seen place c before h.client h.next h.mid t h.at h.learnt h.may was now h.sees in
    subst (λ ps. AreSteady ps now × (IsWhole ps now → IsWhole before seen)) (sym h.left) (g.steady, g.whole)

-- ---- at the end

-- where there is one record of all clients, all moves are theirs
pub settled : (means : Meanings) (players : List Player) (seen : Option Known) → AreSteady players seen
    → (0 < length players → (book : List Entry) × IsRecordOf means players book) → IsWhole players seen
settled means players None was found = omega arith
settled means players (Some known) was found =
    let l = was.last known refl in let p = l.1 in
    let below = slice_get_within players l.0 p l.2 in
    let r = found (omega (below, arith)) in let book = r.0 in
    let at = subst (λ (q : Player). (b : ClientState) × (client_at q.place ≡ Some b) × IsPrefix b.seat.mark.log book)
    (get_or_from_slice_get players l.0 p p l.2)
    (let i = r.1.each l.0 p below in (i.client, i.there, i.seen)) in
    let same : Some (sight_of at.0) ≡ Some known = ap (option_map sight_of) (sym at.1) ∙ l.3 in
    let is : sight_of at.0 ≡ known = cc same in
    let first : moves at.0.seat.mark.log ≡ moves known.log = ap (λ (m : Known). moves m.log) is in
    let bounds : List ℕ = map own_at players in
    let long : length bounds ≡ length players = length-map players own_at in
    let all : moves book ≤ suc (sum bounds) =
    counted_book book bounds r.1.legal.1 r.1.legal.2 (r.1.seats ∙ sym long)
    (λ i within.
    let there : i < length players = omega (within, long, arith) in
    let in_book = r.1.each i p there in
    let bound : slice_index_or bounds i 0 ≡ own_at (slice_index_or players i p) =
    get_or-map own_at players i p 0 there in
    let count : own_at (slice_index_or players i p) ≡ length (own_moves in_book.client.seat.mark) =
    ap own_count in_book.there in
    let own_is : moves (mine (suc i) book) ≡ length (own_moves in_book.client.seat.mark) = ap moves in_book.own in
    omega (bound, count, own_is, arith)) in
    let total : sum bounds ≡ sum_by own_at players = sum-map own_at players in
    omega (moves_grow at.0.seat.mark.log book at.2, first, all, total, arith)

-- so it is where the clients have gathered
pub settled_all : {M : Type 0} (means : Meanings) (turns slice : List (ClientTurn M)) (seen : Option Known)
    → slice ≡ turns
    → (was : AreSteady (players_of turns) seen)
    → ((count commit : ℕ) → AreSeated count commit (players_of slice) → count ≡ length slice → 0 < length slice
    → (book : List Entry) × IsRecordOf means (players_of slice) book)
    → IsWhole (players_of turns) seen
settled_all means turns slice seen is was gather =
    let n : ℕ = length (players_of turns) in
    let many : n ≡ length slice = length-map turns (λ t. player_of t.client) ∙ sym (ap length is) in
    settled means (players_of turns) seen was (λ some.
    subst (λ ts. (book : List Entry) × IsRecordOf means (players_of ts) book) is
    (gather n was.commit (subst (λ ts. AreSeated n was.commit (players_of ts)) (sym is) was.seated) many
    (omega (some, many, arith))))
