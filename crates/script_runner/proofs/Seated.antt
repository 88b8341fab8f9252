-- The clients of a script stay at their places, each on its seat.
use Rattle.std.proofs.Common.{◌≡◌, ◌<◌, ℕ, inl, inr, true, List, [], ◌∷◌, ◌++◌, Option, Some, None, length}
use Rattle.std.proofs.Common.{refl, sym, ap, subst, ◌∙◌, append_assoc, arith, slice_index_or}
use Rattle.std.proofs.lemmas.List.{append-nil}
use Rattle.std.specs.Option.{option_or}
use mathlib.Core.List.{IsPrefix}
use Rattle.group_history.specs.Map.{Bytes}
use Rattle.group_history.specs.Meaning.{Meanings}
use Rattle.head_word.specs.declared.entry.Entry.{Entry}
use Rattle.head_word.specs.Books.{book_opening, opening_ref}
use Rattle.head_word.specs.Marks.{Known, own}
use Rattle.commit_graph.specs.Seats.{IsSameSeat}
use Rattle.rebase.specs.Clients.{ClientState, Grouped}
use Rattle.client_desk.specs.declared.calls.DeskCall.{DeskCall}
use Rattle.client_desk.specs.declared.calls.DeskCall.TheVariants as call
use Rattle.client_desk.specs.Learning.{LearnsAt}
use Rattle.client_desk.specs.Places.{PlaceState, client_at, with_client}
use Rattle.client_desk.specs.Answers.{At, MayBeginReading, absent}
use Rattle.client_desk.specs.Calls.{MayAnswerAt}
use Rattle.client_desk.specs.Waiting.{MayAnswerWaiting}
use Rattle.client_desk.specs.Inside.Sitting.{IsAtRest}
use Rattle.client_desk.specs.Told.{Told}
use Rattle.client_desk.proofs.Remaining.{IsSitting, remains}
use Rattle.script_parser.specs.Context.{Lines}
use Rattle.script_parser.specs.declared.script.Command.{Command}
use Rattle.script_parser.specs.declared.script.Command.TheVariants as command
use Rattle.script_parser.specs.declared.script.Query.{Query}
use Rattle.script_parser.specs.declared.script.Query.TheVariants as query
use Rattle.script_runner.specs.Commanding.{AsksDesk, AsksQuery, LearnsFirst, MayTell, Player}
use Rattle.script_runner.specs.Phases.{AreTold, AreWritten, IsPhase, all_sights}
use Rattle.script_runner.specs.Runs.{IsNewPlayer}
use Rattle.script_runner.specs.Inside.Records.{AreSeated, IsClientOf, IsSeated}
use Rattle.script_runner.proofs.Reading.{has_read}
use Rattle.client_desk.specs.Kept.{kept_at}

-- no command of a script sits down or leaves

sits_no_query : (q : Query) (id : _) → AsksQuery q (call.Sit id) → ⊥
sits_no_query (query.Get key) id h = h
sits_no_query (query.Has key) id h = h
sits_no_query (query.Scan scan) id h = h
sits_no_query query.Empty id h = h
sits_no_query query.Closed id h = h
sits_no_query query.Pending id h = h
sits_no_query query.Cookie id h = h
sits_no_query (query.Push n) id h = h
sits_no_query (query.PulledGet key) id h = h
sits_no_query (query.PulledScan scan) id h = h

leaves_no_query : (q : Query) → AsksQuery q call.Leave → ⊥
leaves_no_query (query.Get key) h = h
leaves_no_query (query.Has key) h = h
leaves_no_query (query.Scan scan) h = h
leaves_no_query query.Empty h = h
leaves_no_query query.Closed h = h
leaves_no_query query.Pending h = h
leaves_no_query query.Cookie h = h
leaves_no_query (query.Push n) h = h
leaves_no_query (query.PulledGet key) h = h
leaves_no_query (query.PulledScan scan) h = h

pub sits_none : (c : Command) (id : _) → AsksDesk c (call.Sit id) → ⊥
sits_none (command.Query q) id h = sits_no_query q id h
sits_none (command.Begin n) id h = h
sits_none (command.End n body) id h = h
sits_none (command.Mutate m) id h = h
sits_none command.Refresh id h = h
sits_none command.Moment id h = h
sits_none command.Slots id h = h
sits_none command.BeginRead id h = h
sits_none command.EndRead id h = h
sits_none (command.Learn place) id h = h
sits_none (command.Watch n scan) id h = h
sits_none (command.Poll n) id h = h
sits_none (command.Changes n) id h = h
sits_none (command.Unwatch n) id h = h

pub leaves_none : (c : Command) → AsksDesk c call.Leave → ⊥
leaves_none (command.Query q) h = leaves_no_query q h
leaves_none (command.Begin n) h = h
leaves_none (command.End n body) h = h
leaves_none (command.Mutate m) h = h
leaves_none command.Refresh h = h
leaves_none command.Moment h = h
leaves_none command.Slots h = h
leaves_none command.BeginRead h = h
leaves_none command.EndRead h = h
leaves_none (command.Learn place) h = h
leaves_none (command.Watch n scan) h = h
leaves_none (command.Poll n) h = h
leaves_none (command.Changes n) h = h
leaves_none (command.Unwatch n) h = h

-- a place with another client is as calm
pub calm_with : (before after : PlaceState) (c : ClientState) → after ≡ with_client c before → IsAtRest before
    → IsAtRest after
calm_with before after c is calm =
    (ap (λ (p : PlaceState). p.asking) is ∙ calm.0, ap (λ (p : PlaceState). p.reading) is ∙ calm.1)

-- the client of a place
pub client_there : (c : ClientState) (p : PlaceState) → IsClientOf c p → client_at p ≡ Some c
client_there c p is = elim is.at [
  | inl sits ↦ ap (λ o. option_or o p.reading) sits.0
  | inr reads ↦ ap (λ o. option_or o p.reading) reads.0 ∙ reads.1
]

pub one_client : (c d : ClientState) (p : PlaceState) → IsClientOf c p → client_at p ≡ Some d → c ≡ d
one_client c d p is there = let whole : Some c ≡ Some d = sym (client_there c p is) ∙ there in cc whole

-- it is the client of the place still, on its seat
pub record GoesOn (c : ClientState) (after : PlaceState) : Type 0 where
  pub next : ClientState
  pub is : IsClientOf next after
  pub seat : IsSameSeat c.seat next.seat

-- a client that sits at its place begins a reading, or is refused
pub begins_reading : (means : Meanings) (c : ClientState) (b : PlaceState) (t : Told) (a : PlaceState)
    → b.client ≡ Some c → IsAtRest b → MayAnswerWaiting means call.BeginRead b t a → MayBeginReading means c b t a
begins_reading means c b t a sits calm h =
    elim (subst (λ x. MayAnswerAt (λ name. true) means call.BeginRead x b t a) calm.0 h) [
      | inl dry ↦ absurd dry.0
      | inr done ↦ subst (λ o. At o (absent b.reading) (MayBeginReading means) b t a) sits done
    ]

by_begun : (means : Meanings) (c : ClientState) (b : PlaceState) (t : Told) (a : PlaceState) → IsAtRest b
    → MayBeginReading means c b t a → GoesOn c a
by_begun means c b t a calm (inl r) = record {
  next = r.reader;
  is = record {
    at = inr (ap (λ (p : PlaceState). p.client) r.left, ap (λ (p : PlaceState). p.reading) r.left);
    calm = ap (λ (p : PlaceState). p.asking) r.left ∙ calm.0;
  };
  seat = r.reads.looked.seat;
}
by_begun means c b t a calm (inr l) = record {
  next = l.next;
  is = record {
    at = inl (ap (λ (p : PlaceState). p.client) l.left, ap (λ (p : PlaceState). p.reading) l.left ∙ calm.1);
    calm = ap (λ (p : PlaceState). p.asking) l.left ∙ calm.0;
  };
  seat = l.stays.0.looked.seat;
}

by_sitting : (means : Meanings) (c : ClientState) (made : DeskCall) (b : PlaceState) (t : Told) (a : PlaceState)
    → b.client ≡ Some c → IsAtRest b → IsSitting made → MayAnswerWaiting means made b t a → GoesOn c a
by_sitting means c made b t a sits calm is h =
    let r = remains means c b a t sits calm made is h in record {
      next = r.0;
      is = record { at = inl (r.1, r.2.1); calm = r.2.0 };
      seat = r.4;
    }

-- so does each call that a command is
pub makes_on : (means : Meanings) (x : Command) (c : ClientState) (made : DeskCall) (b : PlaceState) (t : Told)
    (a : PlaceState) → b.client ≡ Some c → IsAtRest b → AsksDesk x made → MayAnswerWaiting means made b t a → GoesOn c a
makes_on means x c (call.Sit id) b t a sits calm asked h = absurd (sits_none x id asked)
makes_on means x c call.Leave b t a sits calm asked h = absurd (leaves_none x asked)
makes_on means x c call.BeginRead b t a sits calm asked h =
    by_begun means c b t a calm (begins_reading means c b t a sits calm h)
makes_on means x c other b t a sits calm asked h = by_sitting means c other b t a sits calm tt h

-- a beginning of a beginning
pub begins : {A : Type 0} (xs ys zs : List A) → IsPrefix xs ys → IsPrefix ys zs → IsPrefix xs zs
begins xs ys zs p q =
    (p.0 ++ q.0, sym (append_assoc xs p.0 q.0) ∙ ap (λ w. w ++ q.0) p.1 ∙ q.1)

-- What a client learnt that sits at its place: it is on its seat still, made no move, and the place is calm.
pub record HasCaughtUp (c : ClientState) (seen : Option Known) (after : PlaceState) : Type 0 where
  pub client : ClientState
  pub sits : after.client ≡ Some client
  pub calm : IsAtRest after
  pub seat : IsSameSeat c.seat client.seat
  pub own : own client.seat.mark ≡ own c.seat.mark
  pub sees : (known : Known) → seen ≡ Some known → IsPrefix known.log client.seat.mark.log

pub caught_up : (c : ClientState) (seen : Option Known) (before after : PlaceState) → before.client ≡ Some c
    → IsAtRest before → LearnsFirst seen before after → HasCaughtUp c seen after
caught_up c None before after sits calm h = record {
  client = c;
  sits = ap (λ (p : PlaceState). p.client) h ∙ sits;
  calm = subst IsAtRest (sym h) calm;
  seat = record {
    table = refl;
    later = record { book = refl; seat = refl; seen = ([], append-nil c.seat.mark.log) };
  };
  own = refl;
  sees = λ known is. absurd (cc is);
}
caught_up c (Some seen) before after sits calm h =
    let l = subst (λ o. LearnsAt o seen before after) sits h in
    record {
      client = l.next;
      sits = ap (λ (p : PlaceState). p.client) l.left;
      calm = calm_with before after l.next l.left calm;
      seat = l.looked.seat;
      own = l.looked.own;
      sees = λ known is.
          let same : seen ≡ known = cc is in
          subst (λ (m : Known). IsPrefix m.log l.next.seat.mark.log) same l.seen;
    }

-- a command of a client that sits at its place
pub sits_on : (means : Meanings) (sights : List (Option Known)) (x : Command) (c : ClientState) (b : PlaceState)
    (t : Told) (a : PlaceState) → b.client ≡ Some c → IsAtRest b → MayTell means sights x b t a → GoesOn c a
sits_on means sights (command.Learn place) c b t a sits calm h =
    let k = caught_up c (kept_at sights place) b a sits calm h.learnt in record {
      next = k.client;
      is = record { at = inl (k.sits, k.calm.1); calm = k.calm.0 };
      seat = k.seat;
    }
sits_on means sights other c b t a sits calm h = makes_on means other c h.made b t a sits calm h.asked h.may

-- and of one that has a reading open, or sits there
pub goes_on : (means : Meanings) (sights : List (Option Known)) (x : Command) (c : ClientState) (b : PlaceState)
    (t : Told) (a : PlaceState) → IsClientOf c b → MayTell means sights x b t a → GoesOn c a
goes_on means sights x c b t a is h = elim is.at [
  | inl sits ↦ sits_on means sights x c b t a sits.0 (is.calm, sits.1) h
  | inr reads ↦
      let r = has_read means c b a t reads.0 reads.1 is.calm [] sights x h in
      record { next = r.next; is = r.is; seat = r.seat }
]

module _ (count commit number : ℕ) where
  -- the same client, which knows no less
  pub later : (before after : PlaceState) (was : IsSeated count commit number before) → GoesOn was.client after
      → IsSeated count commit number after
  later before after was goes = record {
    client = goes.next;
    is = goes.is;
    seat = goes.seat.later.seat ∙ was.seat;
    opened = begins (book_opening count
        (opening_ref commit)) was.client.seat.mark.log goes.next.seat.mark.log was.opened
        goes.seat.later.seen;
  }

  pub tells : (means : Meanings) (sights : List (Option Known)) (c : Command) (before : PlaceState) (t : Told)
      (after : PlaceState) → MayTell means sights c before t after → IsSeated count commit number before
      → IsSeated count commit number after
  tells means sights c before t after h was =
      later before after was (goes_on means sights c was.client before t after was.is h)

  -- so does one whose lines are done
  told : (means : Meanings) (sights : List (Option Known)) (before : Player) (lines : Lines) (text : Bytes)
      (end : Player) → AreTold means sights before lines text end → IsSeated count commit number before.place
      → IsSeated count commit number end.place
  told means sights before [] text end h was =
      subst (λ (p : Player). IsSeated count commit number p.place) (sym h.1) was
  told means sights before (l ∷ ls) text end h was =
      told means sights h.1 ls h.2 end h.6 (tells means sights l.1 before.place h.3.t h.1.place h.3.may was)

  -- and a new client
  pub begun : (means : Meanings) (group : Grouped) (p : Player) → IsNewPlayer means group count commit number p
      → IsSeated count commit number p.place
  begun means group p new =
      let c = new.sat.client in let same = new.sat.looked.seat.later in record {
        client = c;
        is = record {
          at = inl (ap (λ (q : PlaceState). q.client) new.sat.left, ap (λ (q : PlaceState). q.reading) new.sat.left);
          calm = ap (λ (q : PlaceState). q.asking) new.sat.left;
        };
        seat = same.seat ∙ ap (λ (m : Known). m.seat) new.mark;
        opened = subst (λ (log : List Entry). IsPrefix log c.seat.mark.log) (ap (λ (m : Known). m.log) new.mark)
            same.seen;
      }

module _ (means : Meanings) (count commit : ℕ) where
  phase_done : (lines : List Lines) (before : List Player) (texts : List Bytes) (after : List Player)
      → IsPhase means lines before texts after → AreSeated count commit before → AreSeated count commit after
  phase_done lines before texts after h were i p below =
      let there : i < length before = omega (below, h.as_many, arith) in
      told count commit i means (all_sights before) (slice_index_or before i p) (slice_index_or lines i [])
      (slice_index_or texts i []) (slice_index_or after i p) (h.each i [] p [] p there) (were i p there)

  pub written : (before : List Player) (phases : List (List Lines)) (text : Bytes) (after : List Player)
      → AreWritten means before phases text after → AreSeated count commit before → AreSeated count commit after
  written before [] text after h were = subst (AreSeated count commit) (sym h.1) were
  written before (p ∷ ps) text after h were =
      written h.1 ps h.2 after h.5 (phase_done p before h.0 h.1 h.3 were)

  -- there are as many clients as before
  pub same_many : (before : List Player) (phases : List (List Lines)) (text : Bytes) (after : List Player)
      → AreWritten means before phases text after → length after ≡ length before
  same_many before [] text after h = ap length h.1
  same_many before (p ∷ ps) text after h = same_many h.1 ps h.2 after h.5 ∙ h.3.as_many
