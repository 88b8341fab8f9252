-- The clients of a script before the first phase, and what its run writes from there.
use Rattle.std.proofs.Common.{◌≡◌, ◌<◌, ◌+◌, ◌-◌, ◌⊎◌, ◌≤◌, ◌++◌, ◌∷◌, [], ℕ, zero, suc, inl, inr}
use Rattle.std.proofs.Common.{arith, Option, Result}
use Rattle.std.proofs.Common.{Ok, Err, IfOk, List, map, length, vec_len, slice_index_or, refl, sym, ap, ◌∙◌, subst}
use Rattle.std.proofs.lemmas.List.{get_or-map, get_or_append_left, get_or_push, length-map, length_push}
use Rattle.std.specs.List.{All}
use Rattle.uuid.specs.Text.{hyphenated_text, lower}
use Rattle.group_history.specs.Map.{Bytes}
use Rattle.group_history.specs.Meaning.{Meanings}
use Rattle.commit_graph.specs.Seats.{SeatState}
use Rattle.push_body.specs.declared.identities.Identity.{Identity}
use Rattle.rebase.specs.Clients.{Grouped}
use Rattle.rebase.proofs.Seating.{below_or_at}
use Rattle.client_desk.specs.declared.outcomes.Outcome.TheVariants.{Done}
use Rattle.client_desk.specs.Answers.{AnswersSit, SitsDown}
use Rattle.client_desk.specs.Places.{PlaceState, free_place}
use Rattle.client_desk.specs.Told.{Told, told_alone}
use Rattle.script_mutators.specs.Mutators.{script_means}
use Rattle.script_parser.specs.declared.script.ClientLine.{ClientLine}
use Rattle.script_parser.specs.declared.script.Header.{Header}
use Rattle.script_parser.specs.declared.script.Phase.{Phase}
use Rattle.script_parser.specs.declared.script.Script.{Script}
use Rattle.script_parser.specs.Context.{Context}
use Rattle.script_parser.specs.Scripts.{IsChecked, IsScript, client_said, phase_said}
use Rattle.head_word.specs.declared.entry.Entry.{Entry}
use Rattle.script_runner.specs.declared.phase.ClientTurn.{ClientTurn}
use Rattle.script_runner.specs.Commanding.{Player}
use Rattle.script_runner.specs.Phases.{AreWritten, HasWhole, HasWrittenPhases}
use Rattle.script_runner.specs.Records.{IsRecordOf}
use Rattle.script_runner.specs.Runs.{AreNewPlayers, HasPlayed, HasStopped, IsNewPlayer, header_identity, id_at}
use Rattle.script_runner.specs.Runs.{identity_of, mark_at}
use Rattle.script_runner.specs.Runs.{seats_for}
use Rattle.script_runner.specs.Inside.Players.{AreLeftOf, AreNewIn, IsNewIn, line_of, player_of, players_of}
use Rattle.script_runner.specs.Inside.Records.{AreSeated}
use Rattle.script_runner.specs.Inside.Turns.{AreOf, AreOfOneGroup}
use Rattle.script_runner.proofs.Seated.{begun, same_many, written}
use Rattle.script_runner.proofs.Turns.{fused, some_of}

-- a fact that rests on no value
pub if_ok : {X E A : Type 0} (r : Result X E) → A → IfOk r (λ _. A)
if_ok (Ok x) a = a
if_ok (Err e) a = tt

-- two facts of one value
pub if_ok_both : {X E : Type 0} (A B : X → Type 0) (r : Result X E) → IfOk r A → IfOk r B → IfOk r (λ x. A x × B x)
if_ok_both A B (Ok x) a b = (a, b)
if_ok_both A B (Err e) a b = tt

-- the seats that are left where the last one is taken, and that one
pub left_popped : (group : Grouped) (count commit : ℕ) (all rest : List SeatState) (seat : SeatState)
    → all ≡ rest ++ seat ∷ []
    → AreLeftOf group count commit all → AreLeftOf group count commit rest
    × (seat.mark ≡ mark_at group count commit (count - length all))
left_popped group count commit all rest seat is left =
    let whole = subst (AreLeftOf group count commit) is left in
    let long : length all ≡ length rest + 1 = ap length is ∙ length_push rest seat in (
      (λ i d below. ap (λ (s : SeatState). s.mark) (sym (get_or_append_left rest (seat ∷ []) d i below))
          ∙ whole i d (omega (below, length_push rest seat, arith))),
      ap (λ (s : SeatState). s.mark) (sym (get_or_push rest seat seat (length rest) refl))
          ∙ whole (length rest) seat (omega (length_push rest seat, arith))
          ∙ ap (mark_at group count commit)
          (let n : count - 1 - length rest ≡ count - length all = omega (long, arith) in n),
    )

-- no client yet, and one more
pub none_new : {M : Type 0} (means : Meanings) (group : Grouped) (count commit : ℕ)
    → AreNewIn {M = M} means group count commit []
none_new means group count commit i d below = absurd (omega (below, arith))

pub new_more : {M : Type 0} (means : Meanings) (group : Grouped) (count commit : ℕ) (turns : List (ClientTurn M))
    (turn : ClientTurn M)
    (more : List (ClientTurn M)) (left : ℕ) → more ≡ turns ++ turn ∷ [] → length turns + left ≡ count
    → AreNewIn means group count commit turns → IsNewIn means group count commit (count - left) turn
    → AreNewIn means group count commit more
new_more means group count commit turns turn more left is number new one =
    subst (AreNewIn means group count commit) (sym is) (λ i d below. elim (below_or_at i (length turns)
    (omega (below, length_push turns turn, arith))) [
      | inl low ↦ subst (IsNewIn means group count commit i) (sym (get_or_append_left turns (turn ∷ []) d i low))
          (new i d low)
      | inr at ↦
          subst (IsNewIn means group count commit i) (sym (get_or_push turns turn d i (sym at)))
          (subst (λ n. IsNewIn means group count commit n turn)
          (let n : count - left ≡ i = omega (at, number, arith) in n) one)
    ])

-- who sat down at a new place of a group is of it, and has its ID
pub of_group : (means : Meanings) (group : Grouped) (count commit number : ℕ) (p : Player)
    → IsNewPlayer means group count commit number p → p.place.group ≡ group
of_group means group count commit number p new = ap (λ s. s.group) new.sat.left

pub has_id : {b : PlaceState} (uuid : Bytes) (means : Meanings) (seat : SeatState) (t : Told) (after : PlaceState)
    → SitsDown uuid means seat b t after → id_at after ≡ hyphenated_text lower uuid
has_id uuid means seat t after sat = ap id_at sat.left ∙ sat.id

-- at a new place that tells that it is done a client sat down
pub sat_down : {L : Type 0} (uuid : Bytes) (means : Meanings) (seat : SeatState) (group : Grouped) (t : Told)
    (after : PlaceState) → (⊥ × L) ⊎ AnswersSit means uuid (free_place group seat) t after → t ≡ told_alone Done
    → SitsDown uuid means seat (free_place group seat) (told_alone Done) after
sat_down uuid means seat group t after may done = elim may [
  | inl dry ↦ absurd dry.0
  | inr sits ↦ elim sits [
    | inl sat ↦ subst (λ u. SitsDown uuid means seat (free_place group seat) u after) done sat
    | inr away ↦ absurd (let e = ap (λ (u : Told). u.outcome) (sym done ∙ away.told) in cc e)
  ]
]

-- a group has a seat for each client, where there are some
some_seats : (n : ℕ) → 0 < n → seats_for n ≡ n
some_seats zero some = absurd (omega (some, arith))
some_seats (suc n) some = refl

-- and no fewer than clients
pub enough_seats : (n : ℕ) → n ≤ seats_for n
enough_seats zero = omega arith
enough_seats (suc n) = omega arith

-- the clients that were opened are new ones
pub are_opened : {M : Type 0} (means : Meanings) (group : Grouped) (identity : Identity) (lines : List (Bytes × Bytes))
    (turns : List (ClientTurn M)) (count commit : ℕ) → group.identity ≡ identity → map line_of turns ≡ lines
    → count ≡ seats_for (length lines) → AreNewIn means group count commit turns
    → AreNewPlayers means identity lines (players_of turns)
are_opened means group identity lines turns count commit writes named many new =
    let player : ClientTurn _ → Player = λ t. player_of t.client in
    let long : length lines ≡ length (players_of turns) =
    sym (ap length named) ∙ length-map turns line_of ∙ sym (length-map turns player) in
    let seats : count ≡ seats_for (length (players_of turns)) = many ∙ ap seats_for long in record {
      named = fused (λ p. (p.name, id_at p.place)) player turns ∙ named;
      group = group;
      writes = writes;
      commit = commit;
      all = λ i p below.
          let turn = some_of turns i (omega (below, length-map turns player, arith)) in
          let low : i < length turns = omega (below, length-map turns player, arith) in
          subst (λ n. IsNewPlayer means group n commit i (slice_index_or (players_of turns) i p)) seats
          (subst (IsNewPlayer means group count commit i) (sym (get_or-map player turns i turn p low))
          (new i turn low));
    }

pub enough_in : (header : Header) (free : List SeatState) (lines : List ClientLine) → lines ≡ header.clients.items
    → length free ≡ seats_for (vec_len header.clients) → length lines ≤ length free
enough_in header free lines are many =
    omega (ap length are, header.clients.ok.0, many, enough_seats (vec_len header.clients), arith)

-- these are on the seats of their group, one after the other
pub seated_on : {M : Type 0} (means : Meanings) (group : Grouped) (header : Header) (free : List SeatState)
    (turns : List (ClientTurn M)) → length free ≡ seats_for (vec_len header.clients)
    → (left : (commit : ℕ) × AreLeftOf group (seats_for (vec_len header.clients)) commit free)
    → ((commit : ℕ) → AreLeftOf group (length free) commit free → AreNewIn means group (length free) commit turns)
    → AreNewIn means group (length free) left.0 turns
seated_on means group header free turns many left new =
    new left.0 (subst (λ n. AreLeftOf group n left.0 free) (sym many) left.1)

pub all_opened : {M : Type 0} (means : Meanings) (group : Grouped) (header : Header) (free : List SeatState)
    (turns : List (ClientTurn M)) → group.identity ≡ header_identity header
    → length free ≡ seats_for (vec_len header.clients)
    → (left : (commit : ℕ) × AreLeftOf group (seats_for (vec_len header.clients)) commit free)
    → map line_of turns ≡ map client_said header.clients.items
    → ((commit : ℕ) → AreLeftOf group (length free) commit free → AreNewIn means group (length free) commit turns)
    → AreNewPlayers means (header_identity header) (map client_said header.clients.items) (players_of turns)
all_opened means group header free turns writes many left named new =
    let lines = map client_said header.clients.items in
    let long : vec_len header.clients ≡ length lines = header.clients.ok.0
    ∙ sym (length-map header.clients.items client_said) in
    are_opened means group (header_identity header) lines turns (length free) left.0 writes named
    (many ∙ ap seats_for long) (seated_on means group header free turns many left new)

module _ {M : Type 0} (turns : List (ClientTurn M)) (script : Script)
    (new : AreNewPlayers script_means (header_identity script.header) (map client_said script.header.clients.items)
    (players_of turns)) where
  -- there are as many as the script has client lines
  as_many : length turns ≡ length script.header.clients.items
  as_many = sym (length-map turns (λ t. player_of t.client)) ∙ sym
      (length-map (players_of turns) (λ p. (p.name, id_at p.place))) ∙ ap length new.named ∙
      length-map script.header.clients.items client_said

  -- so each phase has lines for each
  pub enough : (slice : List (ClientTurn M)) (phases : List Phase) → slice ≡ turns → phases ≡ script.phases.items
      → IsChecked script → All (λ p. p.clients ≡ length slice) phases
  enough slice phases is so checked k d below =
      (subst (λ ps. All (λ p. p.clients ≡ vec_len script.header.clients) ps) (sym so) checked.each_client) k d
      below ∙ script.header.clients.ok.0 ∙ sym as_many ∙ sym (ap length is)

  -- they are of one group
  pub of_one : (slice : List (ClientTurn M)) → slice ≡ turns → AreOfOneGroup slice
  of_one slice is =
      let player : ClientTurn M → Player = λ t. player_of t.client in (
        new.group,
        subst (AreOf new.group) (sym is) (λ k d below.
            let there : k < length (map player turns) = omega (below, length-map turns player, arith) in
            subst (λ p. p.place.group ≡ new.group) (get_or-map player turns k d (player d) below)
            (of_group script_means new.group (seats_for (length (players_of turns))) new.commit k _
            (new.all k (player d) there))),
      )

  -- and are those that the script says
  are_new : (said : Context) → IsScript said script
      → AreNewPlayers script_means (identity_of said.group said.profile said.schema) said.clients (players_of turns)
  are_new said is =
      let so : header_identity script.header ≡ identity_of said.group said.profile said.schema =
      ap (λ g. identity_of g script.header.profile script.header.schema) is.group ∙ ap
      (λ p. identity_of said.group p script.header.schema) is.profile ∙ ap
      (identity_of said.group said.profile) is.schema in
      subst (λ i. AreNewPlayers script_means i said.clients (players_of turns)) so
      (subst (λ ls. AreNewPlayers script_means (header_identity script.header) ls (players_of turns)) is.clients new)

  -- at their places
  pub are_seated : (slice : List (ClientTurn M)) → slice ≡ turns
      → AreSeated (seats_for (length (players_of turns))) new.commit (players_of slice)
  are_seated slice is =
      subst (λ ts. AreSeated (seats_for (length (players_of turns))) new.commit (players_of ts)) (sym is)
      (λ i p below. begun (seats_for (length (players_of turns))) new.commit i script_means new.group
      (slice_index_or (players_of turns) i p) (new.all i p below))

  -- so are they at the end
  pub closed_seated : (slice closed : List (ClientTurn M)) (phases : List Phase) (old after : Option Bytes)
      → slice ≡ turns
      → HasWrittenPhases script_means (players_of slice) (map phase_said phases) old after (players_of closed)
      → AreSeated (seats_for (length (players_of turns))) new.commit (players_of closed)
  closed_seated slice closed phases old after is ran =
      written script_means (seats_for (length (players_of turns))) new.commit (players_of slice) (map phase_said phases)
      ran.0 (players_of closed) ran.1 (are_seated slice is)

  -- at the end the record is there, if there are clients
  pub one_found : {X : Type 0} (slice closed : List (ClientTurn M)) (phases : List Phase) (old after : Option Bytes)
      → slice ≡ turns
      → HasWrittenPhases script_means (players_of slice) (map phase_said phases) old after (players_of closed)
      → ((count commit : ℕ) → AreSeated count commit (players_of closed) → count ≡ length closed → 0 < length closed
      → X)
      → 0 < length (players_of closed) → X
  one_found slice closed phases old after is ran found some =
      let player : ClientTurn M → Player = λ t. player_of t.client in
      let n : ℕ = length (players_of turns) in
      let same : length (players_of closed) ≡ n = same_many script_means (seats_for n) new.commit (players_of slice)
      (map phase_said phases) ran.0 (players_of closed) ran.1 ∙ ap (λ ts. length (players_of ts)) is in
      let seats : seats_for n ≡ n = some_seats n (omega (some, same, arith)) in
      found (seats_for n) new.commit
      (closed_seated slice closed phases old after is ran) (seats ∙ sym same ∙ length-map closed player)
      (omega (some, length-map closed player, arith))

  -- a run to the end
  pub has_run : (slice : List (ClientTurn M)) (phases : List Phase) (closed : List Player) (said : Context)
      (old after : Option Bytes) → slice ≡ turns → phases ≡ script.phases.items → IsScript said script
      → HasWrittenPhases script_means (players_of slice) (map phase_said phases) old after closed
      → (0 < length closed → (book : List Entry) × IsRecordOf script_means closed book)
      → HasPlayed said old after
  has_run slice phases closed said old after is so script_is ran one = record {
    opened = players_of turns;
    are = are_new said script_is;
    text = ran.0;
    closed = closed;
    written = subst (λ w. AreWritten script_means (players_of turns) w ran.0 closed)
        (ap (map phase_said) so ∙ script_is.phases)
        (subst (λ w. AreWritten script_means (players_of w) (map phase_said phases) ran.0 closed) is ran.1);
    appended = ran.2;
    one = one;
  }

  -- one that memory ended
  pub has_stopped : (slice : List (ClientTurn M)) (phases : List Phase) (said : Context) (old after : Option Bytes)
      → slice ≡ turns → phases ≡ script.phases.items → IsScript said script
      → HasWhole script_means (players_of slice) (map phase_said phases) old after
      → HasStopped said old after
  has_stopped slice phases said old after is so script_is ran =
      inr (
        players_of turns,
        record {
          are = are_new said script_is;
          written = subst (λ w. HasWhole script_means (players_of turns) w old after)
              (ap (map phase_said) so ∙ script_is.phases)
              (subst (λ w. HasWhole script_means (players_of w) (map phase_said phases) old after) is ran);
        },
      )
