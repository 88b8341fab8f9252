-- What a call of a place may tell.
use Rattle.std.proofs.Common.{◌≡◌, ◌⊎◌, ◌+◌, inl, inr, ℕ, [], ◌++◌, Option, Some, None, Result, Ok, Err, refl}
use Rattle.std.proofs.Common.{sym, ap, ◌∙◌, subst}
use Rattle.std.specs.Prelude.{⊤, Bool, true, false, if◌then◌else◌, is_ok, IfErr, IfOk, OnOk}
use Rattle.group_history.specs.Meaning.{Meanings}
use Rattle.group_history.specs.declared.refusals.Refusal.{Refusal}
use Rattle.group_history.specs.Map.{Bytes}
use Rattle.group_history.specs.State.{State, last_id}
use Rattle.linearized.specs.Answered.{IsLinearized, IsPoint, IsRefused, no_change}
use Rattle.commit_graph.specs.Seats.{HasLooked}
use Rattle.change_tries.specs.Missing.{IsStoreRefusal}
use Rattle.head_word.specs.Laws.{moment}
use Rattle.head_word.specs.Marks.{Known}
use Rattle.rebase.specs.Clients.{ClientState, IsSameClient, AfterLook}
use Rattle.client_desk.specs.declared.faults.CallFault.{CallFault}
use Rattle.client_desk.specs.declared.outcomes.Outcome.{Outcome}
use Rattle.client_desk.specs.declared.outcomes.Outcome.TheVariants.{Done, Faulty, Number}
use Rattle.client_desk.specs.declared.sitting.Sitting.{Sitting}
use Rattle.client_desk.specs.declared.sitting.Sitting.TheVariants as sits
use Rattle.client_desk.specs.Answers.{AnswersQuery, AsksAs, At, ByClient, AnswersRead, ReadsBy}
use Rattle.client_desk.specs.Answers.{ReadsKept, Refreshes, Rule}
use Rattle.client_desk.specs.Answers.{TellsMoment, TellsMomentAs, absent, moment_by, tries}
use Rattle.client_desk.specs.Places.{PlaceState, with_client, with_moment}
use Rattle.client_desk.specs.Sitting.{client_of, reading_of}
use Rattle.client_desk.specs.Told.{Told, dry, id_told, tells, told, told_alone}

-- by what is there, and where it isn't
pub at_some : {X : Type 0} (o : Option X) (none : CallFault) (rule : X → Rule) (x : X) (b : PlaceState) (t : Told)
    (a : PlaceState) → o ≡ Some x → rule x b t a → At o none rule b t a
at_some o none rule x b t a is done = subst (λ p. At p none rule b t a) (sym is) done

-- ---- where no client sits

pub no_client : {M : Type 0} (s : Sitting M) → ((x : _) → s ≡ sits.Client x → ⊥) → client_of s ≡ None
no_client (sits.Nobody x) other = refl
no_client (sits.Client x) other = absurd (other x refl)
no_client (sits.Asking x) other = refl
no_client (sits.Reading x) other = refl
no_client sits.Moving other = refl

pub by_nobody : (rule : ClientState → Rule) (v b : PlaceState) (f : CallFault) (bytes : Bytes) → v ≡ b → v.client ≡ None
    → f ≡ absent v.reading → bytes ≡ [] → ByClient rule b (told (Faulty f) bytes) v
by_nobody rule v b f bytes same none is empty =
    let t = told (Faulty f) bytes in
    subst (λ s. ByClient rule s t v) same
    (subst (λ o. At o (absent v.reading) rule v t v) (sym none)
    (ap (λ e. told (Faulty e) bytes) is ∙ ap (told (Faulty (absent v.reading))) empty, refl))

-- ---- queries, of a place that is seen so

-- where no reading is open
asks_none : {X : Type 0} (tell : X → Told) (right : ClientState → State → X) (means : Meanings) (b : PlaceState)
    (t : Told) (a : PlaceState) → b.reading ≡ None → ByClient (λ c. AnswersRead tell (right c) means c) b t a
    → AnswersQuery tell right means b t a
asks_none tell right means b t a none is = subst (λ o. AsksAs tell right means o b t a) (sym none) is

-- what a client tells that read
asks_client : {X : Type 0} (tell : X → Told) (right : ClientState → State → X) (means : Meanings) (b : PlaceState)
    (client next : ClientState) (m : ℕ) (t : Told) → b.client ≡ Some client → b.reading ≡ None
    → (read : ReadsBy tell (right client) means client t next) → m ≡ moment_by read.reply next b.moment
    → AnswersQuery tell right means b t (with_moment m (with_client next b))
asks_client tell right means b client next m t is none read at =
    let a = with_moment m (with_client next b) in
    asks_none tell right means b t a none
    (at_some b.client (absent b.reading) (λ c. AnswersRead tell (right c) means c) client b t a is
    (next, read, ap (λ n. with_moment n (with_client next b)) at))

pub asked_client : {X : Type 0} (tell : X → Told) (right : ClientState → State → X) (means : Meanings)
    (v b : PlaceState) (client next : ClientState) (m : ℕ) (t : Told) → v ≡ b → v.client ≡ Some client
    → v.reading ≡ None → (read : ReadsBy tell (right client) means client t next)
    → m ≡ moment_by read.reply next v.moment → AnswersQuery tell right means b t (with_moment m (with_client next v))
asked_client tell right means v b client next m t same is none read at =
    subst (λ s. AnswersQuery tell right means s t (with_moment m (with_client next v))) same
    (asks_client tell right means v client next m t is none read at)

-- what an open reading tells
pub asked_reader : {X : Type 0} (tell : X → Told) (right : ClientState → State → X) (means : Meanings)
    (v b : PlaceState) (reader : ClientState) (m : ℕ) (t : Told) → v ≡ b → v.reading ≡ Some reader
    → (kept : ReadsKept tell (right reader) reader t) → m ≡ moment_by kept.reply reader v.moment
    → AnswersQuery tell right means b t (with_moment m v)
asked_reader tell right means v b reader m t same is kept at =
    subst (λ s. AnswersQuery tell right means s t (with_moment m v)) same
    (subst (λ o. AsksAs tell right means o v t (with_moment m v)) (sym is) (kept, ap (λ n. with_moment n v) at))

-- where neither is there
pub asked_nobody : {X : Type 0} (tell : X → Told) (right : ClientState → State → X) (means : Meanings)
    (v b : PlaceState) (f : CallFault) (bytes : Bytes) → v ≡ b → v.client ≡ None → v.reading ≡ None
    → f ≡ absent v.reading → bytes ≡ [] → AnswersQuery tell right means b (told (Faulty f) bytes) v
asked_nobody tell right means v b f bytes same none closed is empty =
    let t = told (Faulty f) bytes in
    subst (λ s. AnswersQuery tell right means s t v) same
    (asks_none tell right means v t v closed
    (by_nobody (λ c. AnswersRead tell (right c) means c) v v f bytes refl none is empty))

-- who neither is a client nor has a reading open
pub neither : {M : Type 0} (s : Sitting M) → ((x : _) → s ≡ sits.Client x → ⊥) → ((x : _) → s ≡ sits.Reading x → ⊥)
    → (client_of s ≡ None) × (reading_of s ≡ None)
neither (sits.Nobody x) client reading = (refl, refl)
neither (sits.Client x) client reading = absurd (client x refl)
neither (sits.Asking x) client reading = (refl, refl)
neither (sits.Reading x) client reading = absurd (reading x refl)
neither sits.Moving client reading = (refl, refl)

-- ---- the moment, of a place that is seen so

pub moment_client : (means : Meanings) (v b : PlaceState) (client next : ClientState) (n : ℕ) → v ≡ b
    → v.client ≡ Some client → v.reading ≡ None
    → IsPoint means client.seat.mark next.seat.mark None next.seat.mark.log → HasLooked ⊤ client.seat next.seat
    → next.seat.view ≡ client.seat.view → IsSameClient client next × (next.last ≡ client.last)
    → n ≡ moment next.seat.mark.log → TellsMomentAs means b.reading b (told_alone (Number n)) (with_client next v)
moment_client means v b client next n same is none point looked view kept tells =
    let t = told_alone (Number n) in let after = with_client next v in
    subst (λ (s : PlaceState). TellsMomentAs means s.reading s t after) same
    (subst (λ o. TellsMomentAs means o v t after) (sym none)
    (at_some v.client (absent v.reading) (TellsMoment means) client v t after is (record {
      next = next;
      point = point;
      looked = looked;
      view = view;
      same = kept;
      told = ap (λ m. told_alone (Number m)) tells;
      left = refl;
    })))

pub moment_reader : (means : Meanings) (v b : PlaceState) (reader : ClientState) (n : ℕ) → v ≡ b
    → v.reading ≡ Some reader → n ≡ moment reader.seat.mark.log
    → TellsMomentAs means b.reading b (told_alone (Number n)) v
moment_reader means v b reader n same is tells =
    let t = told_alone (Number n) in
    subst (λ (s : PlaceState). TellsMomentAs means s.reading s t v) same
    (subst (λ o. TellsMomentAs means o v t v) (sym is) (ap (λ m. told_alone (Number m)) tells, refl))

pub moment_nobody : (means : Meanings) (v b : PlaceState) (f : CallFault) → v ≡ b → v.client ≡ None → v.reading ≡ None
    → f ≡ absent v.reading → TellsMomentAs means b.reading b (told_alone (Faulty f)) v
moment_nobody means v b f same none closed is =
    let t = told_alone (Faulty f) in
    subst (λ (s : PlaceState). TellsMomentAs means s.reading s t v) same
    (subst (λ o. TellsMomentAs means o v t v) (sym closed) (by_nobody (TellsMoment means) v v f [] refl none is refl))

-- ---- replies

-- bytes that were appended are behind those that were there
pub appended : {A E : Type 0} (written : Result A E) (new old text : Bytes)
    → new ≡ (if is_ok written then old ++ text else old) → OnOk written (new ≡ old ++ text)
appended (Ok done) new old text is = is
appended (Err e) new old text is = tt

-- a refusal of one query is one of another
pub refused_as : {X Y : Type 0} (means : Meanings) (n : ℕ) (old new : Known) (is_mute : Bool) (e : Refusal)
    (f : State → X) (g : State → Y) → IsRefused means n old new is_mute e None (λ s. Ok (f s) ≡ Err e)
    → IsRefused means n old new is_mute e None (λ s. Ok (g s) ≡ Err e)
refused_as means n old new true e f g is = is
refused_as means n old new false e f g (log, point, never) = absurd (cc never)

-- bytes that were written, or memory was refused for them
pub written_told : {A E : Type 0} (written : Result A E) (t : Told) (start mid text : Bytes) → start ≡ []
    → OnOk written (mid ≡ start ++ text) → IfOk written (λ _. t ≡ told Done mid) → IfErr written (λ _. t ≡ dry)
    → (t ≡ told Done text) ⊎ (t ≡ dry)
written_told (Ok done) t start mid text empty printed ok err =
    inl (ok ∙ ap (told Done) (printed ∙ ap (λ s. s ++ text) empty))
written_told (Err e) t start mid text empty printed ok err = inr err

-- the client looked for its last id
pub refreshed : (means : Meanings) (v b : PlaceState) (client next : ClientState) (reply : Result ℕ Refusal)
    (o : Outcome) → v ≡ b → v.client ≡ Some client
    → IsLinearized means tries client.seat.mark next.seat.mark reply no_change (λ s. Ok (last_id s client.id))
    → IfOk reply (λ n. next.last ≡ n) → IfErr reply (λ _. next.last ≡ client.last) → IfErr reply (IsStoreRefusal ⊤)
    → AfterLook ⊤ client next → told_alone o ≡ tells id_told reply
    → ByClient (Refreshes means) b (told_alone o) (with_client next v)
refreshed means v b client next reply o same is answer id last refused looks told =
    subst (λ s. ByClient (Refreshes means) s (told_alone o) (with_client next v)) same
    (at_some v.client (absent v.reading) (Refreshes means) client v (told_alone o) (with_client next v) is (record {
      reply = reply;
      next = next;
      answer = answer;
      id = id;
      last = last;
      refused = refused;
      looks = looks;
      told = told;
      left = refl;
    }))
