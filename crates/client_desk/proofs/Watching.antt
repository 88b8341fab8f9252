-- Watches that a place keeps.
use Rattle.std.proofs.Common.{◌≡◌, ◌⊎◌, inl, inr, ℕ, List, Option, Some, None, refl, sym, ap, ◌∙◌, subst}
use Rattle.std.proofs.Common.{slice_set}
use Rattle.std.specs.Prelude.{⊤, IfSome}
use Rattle.std.proofs.lemmas.List.{set-get_or}
use Rattle.group_history.specs.declared.scans.Scan.{Scan}
use Rattle.group_history.specs.Meaning.{Meanings}
use Rattle.commit_graph.specs.Seats.{IsSeatOf}
use Rattle.rebase.specs.Clients.{ClientState, Grouped, AfterQuery}
use Rattle.rebase.specs.Watching.{Watched}
use Rattle.client_desk.specs.declared.calls.Keep.{Keep}
use Rattle.client_desk.specs.declared.faults.CallFault.TheVariants as fault
use Rattle.client_desk.specs.Answers.{At, ByClient, AnswersLack, PollsAs, Rule, Telling, Watches, absent}
use Rattle.client_desk.specs.Inside.Keeping.{AreFor, IsPolled, KeepsWatch}
use Rattle.client_desk.specs.Kept.{kept_at, room_for}
use Rattle.client_desk.specs.Places.{PlaceState, with_client, with_watches}
use Rattle.client_desk.specs.Told.{Told, dry}
use Rattle.client_desk.proofs.Numbers.{kept_of}
use Rattle.client_desk.proofs.Telling.{at_some}

-- each watch is one of the group's book, also the one that was kept
pub kept_watch : (group : Grouped) (sits : Option ClientState) (client : ClientState) (keep : Keep) (watch : Watched)
    (t : Told) (old new : List (Option Watched)) → sits ≡ Some client
    → IfSome sits (λ c. (c.group ≡ group) × IsSeatOf group.group c.seat) → watch.book ≡ client.seat.mark.book
    → AreFor group.group.book old → KeepsWatch keep watch t old new → AreFor group.group.book new
kept_watch group sits client keep watch t old new is sat book all (inl (n, told, kept)) =
    let home = subst (λ s. IfSome s (λ c. (c.group ≡ group) × IsSeatOf group.group c.seat)) is sat in
    kept_of group.group.book n watch old new (book ∙ home.1.0) all kept.there
kept_watch group sits client keep watch t old new is sat book all (inr (told, same)) =
    subst (AreFor group.group.book) (sym same) all

-- a watch that has answered nothing yet
abbrev pub new_watch : ClientState → Scan → Watched
new_watch client scan = record { book = client.seat.mark.book; scan = scan; last = None }

-- a watch where room was made for it
abbrev pub WatchesThere : Keep → Scan → ClientState → Rule
WatchesThere keep scan c b = Watches keep scan c (record b { watches = room_for keep b.watches })

watched_here : (keep : Keep) (scan : Scan) (v : PlaceState) (client : ClientState) (t : Told)
    (new : List (Option Watched)) → v.client ≡ Some client
    → KeepsWatch keep (new_watch client scan) t (room_for keep v.watches) new
    → AnswersLack (record v { watches = room_for keep v.watches }) t (record v { watches = new })
    ⊎ ByClient (WatchesThere keep scan) v t (record v { watches = new })
watched_here keep scan v client t new is (inl (n, told, kept)) =
    inr (at_some v.client (absent v.reading) (WatchesThere keep scan) client v t (record v { watches = new }) is
    (record {
      number = n;
      watches = new;
      where_ = kept.where_;
      there = kept.there;
      told = told;
      left = refl;
    }))
watched_here keep scan v client t new is (inr (lack, same)) =
    inl (record { told = lack; left = inl (ap (λ ws. record v { watches = ws }) same) })

pub watched : (keep : Keep) (scan : Scan) (v b : PlaceState) (client : ClientState) (watch : Watched) (t : Told)
    (room new : List (Option Watched)) → v ≡ b → v.client ≡ Some client
    → watch ≡ new_watch client scan → room ≡ room_for keep v.watches
    → KeepsWatch keep watch t room new
    → AnswersLack (record b { watches = room_for keep b.watches }) t (record v { watches = new })
    ⊎ ByClient (WatchesThere keep scan) b t (record v { watches = new })
watched keep scan v b client watch t room new same is anew made kept =
    subst (λ s. AnswersLack (record s { watches = room_for keep s.watches }) t (record v { watches = new })
    ⊎ ByClient (WatchesThere keep scan) s t (record v { watches = new })) same
    (watched_here keep scan v client t new is
    (subst (λ ws. KeepsWatch keep (new_watch client scan) t ws new) made
    (subst (λ w. KeepsWatch keep w t room new) anew kept)))

-- the watch of a number, of the client that sits there
abbrev pub PollsAt : Telling → Meanings → ℕ → ClientState → Rule
PollsAt telling means n c p = At (kept_at p.watches n) fault.NoWatch (λ w. PollsAs telling means c n w) p

-- a watch that is as it was is where it was
as_it_was : (v : PlaceState) (next : ClientState) (n : ℕ) (watch new : Watched)
    → kept_at v.watches n ≡ Some watch → new ≡ watch
    → with_watches next (slice_set v.watches n (Some new)) v ≡ with_client next v
as_it_was v next n watch new there same =
    ap (λ ws. with_watches next ws v) (ap (slice_set v.watches n) (ap Some same ∙ sym there)
    ∙ set-get_or v.watches n None)

polled_here : (telling : Telling) (means : Meanings) (v : PlaceState) (client next : ClientState) (n : ℕ)
    (watch new : Watched) (t : Told) → v.client ≡ Some client → kept_at v.watches n ≡ Some watch
    → IsPolled telling means client next watch new t
    → AfterQuery ⊤ client next ⊎ ((next ≡ client) × (t ≡ dry) × (new ≡ watch))
    → AnswersLack v t (with_watches next (slice_set v.watches n (Some new)) v)
    ⊎ ByClient (PollsAt telling means n) v t (with_watches next (slice_set v.watches n (Some new)) v)
polled_here telling means v client next n watch new t is there how (inr (same, lack, kept)) =
    inl (record {
      told = lack;
      left = inl (as_it_was v next n watch new there kept ∙ ap (λ c. with_client c v) same
          ∙ ap (λ o. record v { client = o }) (sym is));
    })
polled_here telling means v client next n watch new t is there (inr (lack, kept)) (inl stays) =
    inl (record {
      told = lack;
      left = inr (record {
        old = client;
        new = next;
        sits = is;
        stays = stays;
        left = as_it_was v next n watch new there kept;
      });
    })
polled_here telling means v client next n watch new t is there (inl (reply, answer, refused, told, kept)) (inl stays) =
    let after = with_watches next (slice_set v.watches n (Some new)) v in
    inr (at_some v.client (absent v.reading) (PollsAt telling means n) client v t after is
    (at_some (kept_at v.watches n) fault.NoWatch (λ w. PollsAs telling means client n w) watch v t after there (record {
      reply = reply;
      next = next;
      answer = answer;
      refused = refused;
      stays = stays;
      told = told;
      left = ap (λ w. with_watches next (slice_set v.watches n (Some w)) v) kept;
    })))

-- of a place that is seen so
pub polled : (telling : Telling) (means : Meanings) (v b : PlaceState) (client next : ClientState) (n : ℕ)
    (watch new : Watched) (t : Told) → v ≡ b → v.client ≡ Some client → kept_at v.watches n ≡ Some watch
    → IsPolled telling means client next watch new t
    → AfterQuery ⊤ client next ⊎ ((next ≡ client) × (t ≡ dry) × (new ≡ watch))
    → AnswersLack b t (with_watches next (slice_set v.watches n (Some new)) v)
    ⊎ ByClient (PollsAt telling means n) b t (with_watches next (slice_set v.watches n (Some new)) v)
polled telling means v b client next n watch new t same is there how stays =
    let after = with_watches next (slice_set v.watches n (Some new)) v in
    subst (λ s. AnswersLack s t after ⊎ ByClient (PollsAt telling means n) s t after) same
    (polled_here telling means v client next n watch new t is there how stays)
