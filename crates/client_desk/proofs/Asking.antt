-- A change that asks for runs: what came of it is of its group, and is told.
use Rattle.std.proofs.Common.{◌≡◌, ◌⊎◌, inl, inr, ℕ, ◌+◌, ◌<◌, List, [], ◌∷◌, ◌++◌, length, take, get_or}
use Rattle.std.proofs.Common.{None, Some, Result, Ok, Err, refl, sym, ap, ◌∙◌, subst}
use Rattle.std.specs.Prelude.{⊤, Bool, IfErr, IfOk, OnOk}
use Rattle.std.proofs.lemmas.List.{take_more}
use Rattle.std.proofs.Math.Logic.{∥∥₁_elim, ∥∥₁_map}
use Rattle.group_history.specs.declared.mutators.Ran.{Ran}
use Rattle.group_history.specs.declared.refusals.Refusal.{Refusal}
use Rattle.group_history.specs.declared.refusals.Refusal.TheVariants.{NoMemory}
use Rattle.group_history.specs.Map.{Bytes, Entries}
use Rattle.group_history.specs.Meaning.{Meanings}
use Rattle.change_tries.specs.Missing.{map_ok}
use Rattle.pull_patch.specs.declared.writes.Write.{Write}
use Rattle.pull_patch.specs.Writes.{written, wrote}
use Rattle.rebase.specs.declared.asking.Asked.{Asked}
use Rattle.rebase.specs.declared.asking.Asked.TheVariants as asked
use Rattle.rebase.specs.declared.calls.CallReply.{CallReply}
use Rattle.rebase.specs.Asked.{TellsAsked}
use Rattle.rebase.specs.Clients.{AfterChange, ClientState, Grouped}
use Rattle.rebase.specs.Replies.{Replied, reply_seen}
use Rattle.rebase.specs.Running.{BeganAs, EndsCall, Follows, IsAsked, IsUnwritten, UnderWay}
use Rattle.client_desk.specs.declared.faults.CallFault.TheVariants as fault
use Rattle.client_desk.specs.declared.outcomes.Outcome.TheVariants.{Done}
use Rattle.client_desk.specs.Drafts.{AsksRun, ByRun, ReadsMap, RepliesAsked, WritesAll, WritesDraft, WritesMap}
use Rattle.client_desk.specs.Inside.Sitting.{IsAt, IsStepAt, Stands}
use Rattle.client_desk.specs.Places.{PlaceState, with_asking}
use Rattle.client_desk.specs.Runs.{AsksNextRun, EndsRuns, IsAsking, IsBegunAt}
use Rattle.client_desk.specs.Told.{Told, dry, told}
use Rattle.client_desk.proofs.Moving.{at_later, at_prop}
use Rattle.client_desk.proofs.Telling.{at_some}

-- What a change came to is of the group of the client with which its call began.
pub step_at : (has : Bytes → Bool) (means : Meanings) (group : Grouped) (client : ClientState) {M S T : Type 0}
    (step : Asked M S T) (P : UnderWay → Type 0) (E : ClientState → Result CallReply Refusal → Type 0)
    → IsAt group client
    → ((a : UnderWay) → P a → BeganAs means ⊤ client a)
    → ((c : ClientState) (r : Result CallReply Refusal) → E c r → AfterChange ⊤ client c) → TellsAsked step P E
    → TellsAsked step (IsUnwritten has) (λ c r. Unit {0}) → IsStepAt has means group step
step_at has means group client (asked.Run a) P E at began acts is fresh =
    (fresh.1, ∣ (client, at.0, at.1, began a is) ∣₁)
step_at has means group client (asked.Ended c r) P E at began acts is fresh = at_later group client c at (acts c r is)

-- of one that is under way, whichever client its call began with
abbrev pub RunTold : Meanings → {M S T : Type 0} → Asked M S T → UnderWay → Type 0
RunTold means step was = (c : ClientState) → BeganAs means ⊤ c was
    → TellsAsked step (IsAsked means ⊤ was.tries c was.change)
    (λ client reply. EndsCall means ⊤ was.tries c client was.change (map_ok reply_seen reply))

pub step_behind : (has : Bytes → Bool) (means : Meanings) (group : Grouped) {M S T : Type 0} (step : Asked M S T)
    (was : UnderWay) → IsBegunAt means group was → RunTold means step was
    → TellsAsked step (IsUnwritten has) (λ c r. Unit {0}) → IsStepAt has means group step
step_behind has means group (asked.Run a) was begun told fresh =
    (fresh.1, ∥∥₁_map begun (λ b. (b.0, b.1, b.2, (told b.0 b.3).began)))
step_behind has means group (asked.Ended c r) was begun told fresh =
    ∥∥₁_elim begun (at_prop group c) (λ b. at_later group b.0 c (b.1, b.2) (told b.0 b.3).acts)

-- nothing but the map of a run differs
abbrev pub IsWritten : UnderWay → UnderWay → Type 0
IsWritten was now = (m : Entries) × (now ≡ record was { map = m })

pub one_written : (change : Entries → Entries) (was now : UnderWay) (t : Told) → WritesMap change was t now
    → IsWritten was now
one_written change was now t (inl (told, is)) = (change was.map, is)
one_written change was now t (inr (e, missed, told, same)) = (was.map, same)

pub all_written : (ws : List Write) (was now : UnderWay) (t : Told) → WritesAll ws was t now → IsWritten was now
all_written ws was now t (inl (told, is)) = (written ws was.map, is)
all_written ws was now t (inr (n, within, e, missed, told, is)) = (written (take n ws) was.map, is)

-- the call of a run whose map was written began as before
begun_written : (means : Meanings) (group : Grouped) (was now : UnderWay) → IsWritten was now
    → IsBegunAt means group was → IsBegunAt means group now
begun_written means group was now (m, is) begun =
    ∥∥₁_map begun (λ b.
    let began : BeganAs means ⊤ b.0 (record was { map = m }) =
    record { client = b.3.client; last = b.3.last; since = b.3.since } in
    (b.0, b.1, b.2, subst (BeganAs means ⊤ b.0) (sym is) began))

-- and its mutation is the same
pub asked_written : (has : Bytes → Bool) (means : Meanings) (group : Grouped) (was now : UnderWay) → IsWritten was now
    → IsAsking has means group was → IsAsking has means group now
asked_written has means group was now (m, is) asking =
    (ap (λ (a : UnderWay). has a.mutation.name) is ∙ asking.0, begun_written means group was now (m, is) asking.1)

-- ---- what is told of it

-- it is of the names that the group has, by either word for them
pub told_by : {M S T : Type 0} (step : Asked M S T) (P : (Bytes → Bool) → UnderWay → Type 0) (has had : Bytes → Bool)
    → has ≡ had → TellsAsked step (P has) (λ c r. Unit {0}) → TellsAsked step (P had) (λ c r. Unit {0})
told_by step P has had same is = subst (λ h. TellsAsked step (P h) (λ c r. Unit {0})) same is

-- three things are told of a run that is asked for
pub tells_all : {M S T : Type 0} (step : Asked M S T) (P Q R : UnderWay → Type 0)
    (E : ClientState → Result CallReply Refusal → Type 0) → TellsAsked step P E → TellsAsked step Q (λ c r. Unit {0})
    → TellsAsked step R (λ c r. Unit {0}) → TellsAsked step (λ a. P a × Q a × R a) E
tells_all (asked.Run a) P Q R E p q r = (p, q, r)
tells_all (asked.Ended c reply) P Q R E e q r = e

-- the next run is asked for, or the change ended, whichever client its call began with
pub tells_next : (has : Bytes → Bool) (means : Meanings) {M S T : Type 0} (step : Asked M S T) (was : UnderWay)
    (ran : Ran) → RunTold means step was → TellsAsked step (Follows has means was ran) (λ c r. Unit {0})
    → TellsAsked step (IsUnwritten has) (λ c r. Unit {0})
    → TellsAsked step (AsksNextRun has means was ran)
    (λ client reply. EndsRuns means was client (map_ok reply_seen reply))
tells_next has means (asked.Run a) was ran told next fresh = record { follows = next; fresh = fresh; asked = told }
tells_next has means (asked.Ended c r) was ran told next fresh = told

-- Who sat there was taken, and the place has what the change came to.
pub stood : {M S T : Type 0} (step : Asked M S T) (P : UnderWay → Type 0)
    (E : ClientState → Result Replied Refusal → Type 0) (b taken new : PlaceState) (t : Told) → None ≡ b.seat
    → None ≡ b.reading → taken ≡ record b { seat = None; client = None; asking = None; reading = None }
    → TellsAsked step P (λ c r. E c (map_ok reply_seen r)) → Stands step taken t new
    → AsksRun P b t new ⊎ RepliesAsked E b t new
stood (asked.Run a) P E b taken new t free closed left tells stands = inl (record {
  asking = a;
  asked = tells;
  told = stands.0;
  left = stands.1
      ∙ ap (λ (p : PlaceState). record p { seat = None; client = None; asking = Some a; reading = None }) left
      ∙ ap (λ seat. record b { seat = seat; client = None; asking = Some a; reading = None }) free
      ∙ ap (λ reading. record b { client = None; asking = Some a; reading = reading }) closed;
})
stood (asked.Ended c r) P E b taken new t free closed left tells stands = inr (record {
  client = c;
  reply = map_ok reply_seen r;
  ended = tells;
  told = stands.0;
  left = stands.1
      ∙ ap (λ (p : PlaceState). record p { seat = None; client = Some c; asking = None; reading = None }) left
      ∙ ap (λ seat. record b { seat = seat; client = Some c; asking = None; reading = None }) free
      ∙ ap (λ reading. record b { client = Some c; asking = None; reading = reading }) closed;
})

-- ---- the run's map

-- what was read of it was written, or memory was refused
pub map_told : {X A E : Type 0} (tell : X → Told) (right : Entries → X) (asking : UnderWay) (x : X)
    (written : Result A E) (t : Told) (start mid text : Bytes) → start ≡ [] → OnOk written (mid ≡ start ++ text)
    → IfOk written (λ _. t ≡ told Done mid) → IfErr written (λ _. t ≡ dry) → tell x ≡ told Done text
    → x ≡ right asking.map → ReadsMap tell right asking t
map_told tell right asking x (Ok done) t start mid text empty printed ok err is answer = record {
  reply = Ok x;
  answer = answer;
  refused = tt;
  told = ok ∙ ap (told Done) (printed ∙ ap (λ s. s ++ text) empty) ∙ sym is;
}
map_told tell right asking x (Err e) t start mid text empty printed ok err is answer = record {
  reply = Err NoMemory;
  answer = tt;
  refused = inl refl;
  told = err;
}

-- it was written, of a place that is seen so
pub written_told : (writes : UnderWay → Told → UnderWay → Type 0) (v b : PlaceState) (a next : UnderWay) (t : Told)
    → v ≡ b → v.asking ≡ Some a → writes a t next → ByRun (WritesDraft writes) b t (with_asking next v)
written_told writes v b a next t same is done =
    subst (λ s. ByRun (WritesDraft writes) s t (with_asking next v)) same
    (at_some v.asking fault.NotAsked (WritesDraft writes) a v t (with_asking next v) is (next, done, refl))

-- one write more is done behind those before it
one_more : (ws : List Write) (w : Write) (m : Entries) → written (ws ++ w ∷ []) m ≡ wrote w (written ws m)
one_more [] w m = refl
one_more (x ∷ ws) w m = one_more ws w (wrote x m)

-- of the first n + 1
taken_more : (ws : List Write) (n : ℕ) (w : Write) (m : Entries) → n < length ws → w ≡ get_or ws n w
    → written (take (n + 1) ws) m ≡ wrote w (written (take n ws) m)
taken_more ws n w m within is =
    ap (λ xs. written xs m) (take_more ws n w within ∙ ap (λ x. take n ws ++ x ∷ []) (sym is))
    ∙ one_more (take n ws) w m

-- and so of a run whose map the first n were written to
pub one_done : (ws : List Write) (n : ℕ) (w : Write) (was now new : UnderWay) → n < length ws → w ≡ get_or ws n w
    → now ≡ record was { map = written (take n ws) was.map } → new ≡ record now { map = wrote w now.map }
    → new ≡ record was { map = written (take (n + 1) ws) was.map }
one_done ws n w was now new within is before done =
    done ∙ ap (λ (a : UnderWay). record a { map = wrote w a.map }) before
    ∙ ap (λ (m : Entries). record was { map = m }) (sym (taken_more ws n w was.map within is))
