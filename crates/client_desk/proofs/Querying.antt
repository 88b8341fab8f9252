-- What a query tells, whichever it is: by a client, by a reading that is open, and where neither is there.
use Rattle.std.proofs.Common.{◌≡◌, ℕ, Bool, List, Option, Some, None, Result, Ok, Err, refl, true, ◌∙◌}
use Rattle.std.specs.Prelude.{⊤, [], IfErr, IfOk}
use Rattle.std.specs.FinMap as finite
use Rattle.group_history.specs.declared.mutations.MutationFields.{MutationFields as Mutation}
use Rattle.group_history.specs.declared.refusals.Refusal.{Refusal}
use Rattle.group_history.specs.Cookies.{Cookie}
use Rattle.group_history.specs.Map.{Bytes}
use Rattle.group_history.specs.Meaning.{Meanings}
use Rattle.group_history.specs.Queries.{get_at, has_at, is_empty_at, view_rows}
use Rattle.group_history.specs.Rows.{Rows}
use Rattle.group_history.specs.Scans.{rows_of}
use Rattle.group_history.specs.Spelling.{version_of}
use Rattle.group_history.specs.State.{State}
use Rattle.linearized.specs.Answered.{IsLinearized, IsPoint, is_mute, no_change}
use Rattle.change_tries.specs.Missing.{IsStoreOrMemory, map_ok}
use Rattle.rebase.specs.Clients.{ClientState}
use Rattle.client_desk.specs.declared.calls.DeskCall.{DeskCall}
use Rattle.client_desk.specs.declared.calls.DeskCall.TheVariants as kind
use Rattle.client_desk.specs.declared.faults.CallFault.{CallFault}
use Rattle.client_desk.specs.declared.outcomes.Outcome.TheVariants.{Faulty}
use Rattle.client_desk.specs.Answers.{AnswersReading, AnswersQuery, ReadsBy, ReadsKept, absent}
use Rattle.client_desk.specs.Answers.{moment_by, read_by_client, tries}
use Rattle.client_desk.specs.Inside.Reading.{ToldBy, ToldKept, is_of_one_commit, reading_told}
use Rattle.client_desk.specs.Places.{PlaceState, with_client, with_moment}
use Rattle.client_desk.specs.Told.{Told, cookie_told, is_told, pending_told, rows_told, tells, told, value_told}
use Rattle.client_desk.proofs.Telling.{asked_client, asked_nobody, asked_reader, refused_as}

-- ---- what holds of a reply holds of what is made of it

pub ok_mapped : {X Y : Type 0} (f : X → Y) (P : Y → Type 0) (r : Result X Refusal) → IfOk r (λ x. P (f x))
    → IfOk (map_ok f r) P
ok_mapped f P (Ok x) h = h
ok_mapped f P (Err e) h = tt

pub err_mapped : {X Y : Type 0} (f : X → Y) (P : Refusal → Type 0) (r : Result X Refusal) → IfErr r P
    → IfErr (map_ok f r) P
err_mapped f P (Ok x) h = tt
err_mapped f P (Err e) h = h

-- and so its moment
pub moment_mapped : {X Y : Type 0} (f : X → Y) (r : Result X Refusal) (reader : ClientState) (n : ℕ)
    → moment_by r reader n ≡ moment_by (map_ok f r) reader n
moment_mapped f (Ok x) reader n = refl
moment_mapped f (Err e) reader n = refl

-- ---- a query that was told so

client_read : {X : Type 0} (tell : X → Told) (right : State → X) (means : Meanings) (client next : ClientState)
    (n m : ℕ) (t : Told) → ToldBy means client next n m t (λ s. tell (right s))
    → (read : ReadsBy tell right means client t next) × (m ≡ moment_by read.reply next n)
client_read tell right means client next n m t h = by h.reply h.answer h.point h.at h.refused h.told h.moment
  where
    by : (reply : Result Told Refusal)
        → IsLinearized means tries client.seat.mark next.seat.mark reply no_change (λ s. Ok (tell (right s)))
        → IfOk reply (λ x. IsPoint means client.seat.mark next.seat.mark None next.seat.mark.log)
        → IfOk reply (λ x. x ≡ tell (right (read_by_client next))) → IfErr reply (IsStoreOrMemory ⊤)
        → t ≡ tells (λ x. x) reply → m ≡ moment_by reply next n
        → (read : ReadsBy tell right means client t next) × (m ≡ moment_by read.reply next n)
    by (Ok x) answer point at refused told when = (
      record {
        reply = Ok (right (read_by_client next));
        answer = (next.seat.mark.log, point, refl);
        at = refl;
        refused = tt;
        stays = h.stays;
        told = told ∙ at;
      },
      when,
    )
    by (Err e) answer point at refused told when = (
      record {
        reply = Err e;
        answer = refused_as means tries client.seat.mark next.seat.mark (is_mute e None) e (λ s. tell (right s)) right
            answer;
        at = tt;
        refused = refused;
        stays = h.stays;
        told = told;
      },
      when,
    )

reader_read : {X : Type 0} (tell : X → Told) (right : State → X) (reader : ClientState) (n m : ℕ) (t : Told)
    → ToldKept reader n m t (λ s. tell (right s))
    → (kept : ReadsKept tell right reader t) × (m ≡ moment_by kept.reply reader n)
reader_read tell right reader n m t h = by h.reply h.answer h.refused h.told h.moment
  where
    by : (reply : Result Told Refusal) → IfOk reply (λ x. x ≡ tell (right (read_by_client reader)))
        → IfErr reply (IsStoreOrMemory ⊤) → t ≡ tells (λ x. x) reply → m ≡ moment_by reply reader n
        → (kept : ReadsKept tell right reader t) × (m ≡ moment_by kept.reply reader n)
    by (Ok x) answer refused told when =
        (record { reply = Ok (right (read_by_client reader)); answer = refl; refused = tt; told = told ∙ answer }, when)
    by (Err e) answer refused told when =
        (record { reply = Err e; answer = tt; refused = refused; told = told }, when)

-- ---- each of them

module _ (means : Meanings) (b : PlaceState) (t : Told) (a : PlaceState) (IsTold : (State → Told) → Type 0)
    (ask : (X : Type 0) (tell : X → Told) (right : State → X) → IsTold (λ s. tell (right s))
    → AnswersQuery tell (λ c s. right s) means b t a) where
  each_query : (call : DeskCall) → is_of_one_commit call ≡ true → IsTold (λ s. reading_told (version_of means s) call)
      → AnswersReading means call b t a
  each_query (kind.Get key) q h = ask (Option Bytes) value_told (λ s. get_at means s key.now) h
  each_query (kind.Has key) q h = ask Bool is_told (λ s. has_at means s key.now) h
  each_query (kind.Scan scan) q h = ask Rows rows_told (λ s. view_rows means s scan.now) h
  each_query (kind.PulledGet key) q h = ask (Option Bytes) value_told (λ s. finite.get s.pulled key.now) h
  each_query (kind.PulledScan scan) q h = ask Rows rows_told (λ s. rows_of scan.now s.pulled) h
  each_query kind.Empty q h = ask Bool is_told (λ s. is_empty_at means s) h
  each_query kind.Pending q h = ask (List Mutation) pending_told (λ s. s.pending) h
  each_query kind.Cookie q h = ask Cookie cookie_told (λ s. s.cookie) h
  each_query kind.Closed q h = ask Bool is_told (λ s. s.closed) h
  each_query (kind.Sit id) q h = absurd (cc q)
  each_query kind.Leave q h = absurd (cc q)
  each_query (kind.Push skip) q h = absurd (cc q)
  each_query kind.Slots q h = absurd (cc q)
  each_query kind.Moment q h = absurd (cc q)
  each_query kind.BeginRead q h = absurd (cc q)
  each_query kind.EndRead q h = absurd (cc q)
  each_query kind.Refresh q h = absurd (cc q)
  each_query (kind.Begin keep) q h = absurd (cc q)
  each_query (kind.Forget n) q h = absurd (cc q)
  each_query (kind.End n body) q h = absurd (cc q)
  each_query (kind.Mutate m) q h = absurd (cc q)
  each_query (kind.Watch keep scan) q h = absurd (cc q)
  each_query (kind.Poll n) q h = absurd (cc q)
  each_query (kind.PollChanges n) q h = absurd (cc q)
  each_query (kind.Unwatch n) q h = absurd (cc q)
  each_query kind.AskedName q h = absurd (cc q)
  each_query kind.AskedArgs q h = absurd (cc q)
  each_query kind.AskedRun q h = absurd (cc q)
  each_query (kind.DraftGet key) q h = absurd (cc q)
  each_query (kind.DraftHas key) q h = absurd (cc q)
  each_query (kind.DraftScan scan) q h = absurd (cc q)
  each_query (kind.DraftPut key value) q h = absurd (cc q)
  each_query (kind.DraftDel key) q h = absurd (cc q)
  each_query (kind.DraftWrites ws) q h = absurd (cc q)
  each_query (kind.Ran ran) q h = absurd (cc q)
  each_query kind.GiveUp q h = absurd (cc q)

pub told_client : (means : Meanings) (v b : PlaceState) (client next : ClientState) (m : ℕ) (t : Told) (call : DeskCall)
    → v ≡ b → v.client ≡ Some client → v.reading ≡ None → is_of_one_commit call ≡ true
    → ToldBy means client next v.moment m t (λ s. reading_told (version_of means s) call)
    → AnswersReading means call b t (with_moment m (with_client next v))
told_client means v b client next m t call same is none query h =
    each_query means b t (with_moment m (with_client next v)) (ToldBy means client next v.moment m t) ask call query h
  where
    ask : (X : Type 0) (tell : X → Told) (right : State → X)
        → ToldBy means client next v.moment m t (λ s. tell (right s))
        → AnswersQuery tell (λ c s. right s) means b t (with_moment m (with_client next v))
    ask X tell right told =
        let read = client_read tell right means client next v.moment m t told in
        asked_client tell (λ c s. right s) means v b client next m t same is none read.0 read.1

pub told_reader : (means : Meanings) (v b : PlaceState) (reader : ClientState) (m : ℕ) (t : Told) (call : DeskCall)
    → v ≡ b
    → v.reading ≡ Some reader → is_of_one_commit call ≡ true
    → ToldKept reader v.moment m t (λ s. reading_told (version_of means s) call)
    → AnswersReading means call b t (with_moment m v)
told_reader means v b reader m t call same is query h =
    each_query means b t (with_moment m v) (ToldKept reader v.moment m t) ask call query h
  where
    ask : (X : Type 0) (tell : X → Told) (right : State → X) → ToldKept reader v.moment m t (λ s. tell (right s))
        → AnswersQuery tell (λ c s. right s) means b t (with_moment m v)
    ask X tell right told =
        let kept = reader_read tell right reader v.moment m t told in
        asked_reader tell (λ c s. right s) means v b reader m t same is kept.0 kept.1

pub told_nobody : (means : Meanings) (v b : PlaceState) (f : CallFault) (bytes : Bytes) (call : DeskCall) → v ≡ b
    → v.client ≡ None → v.reading ≡ None → f ≡ absent v.reading → bytes ≡ [] → is_of_one_commit call ≡ true
    → AnswersReading means call b (told (Faulty f) bytes) v
told_nobody means v b f bytes call same none closed is empty query =
    each_query means b (told (Faulty f) bytes) v (λ right. ⊤) ask call query tt
  where
    ask : (X : Type 0) (tell : X → Told) (right : State → X) → ⊤
        → AnswersQuery tell (λ c s. right s) means b (told (Faulty f) bytes) v
    ask X tell right it = asked_nobody tell (λ c s. right s) means v b f bytes same none closed is empty
