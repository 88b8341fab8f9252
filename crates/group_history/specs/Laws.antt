-- What is proved of the definitions, in words of their own.
use Rattle.std.specs.Prelude.{◌≡◌, ◌⊎◌, true, map, ℕ, ◌<◌, ◌≤◌, ◌+◌, ◌^◌, List, [], ◌∷◌, ◌++◌, All, length, Ok, Err}
use Rattle.std.specs.Prelude.{if◌then◌else◌}
use Rattle.std.specs.Ordering.{nat_cmp}
use Rattle.std.specs.List.Sorted.{IsStrictlySortedBy}
use Rattle.group_history.specs.declared.cookies.Order.{Order}
use Rattle.group_history.specs.declared.changes.Change.{Change}
use Rattle.group_history.specs.declared.changes.Change.TheVariants.{Mutated, Pulled, Closed}
use Rattle.group_history.specs.declared.mutations.MutationFields.{MutationFields as Mutation}
use Rattle.group_history.specs.declared.responses.Response.{Response}
use Rattle.group_history.specs.declared.responses.Ended.TheVariants as ended
use Rattle.group_history.specs.declared.refusals.Refusal.{Refusal}
use Rattle.group_history.specs.declared.refusals.Refusal.TheVariants as refusal
use Rattle.group_history.specs.declared.responses.Response.TheVariants as response
use Rattle.group_history.specs.Map.{Bytes, same_text, patched}
use Rattle.group_history.specs.Meaning.{Meanings, done, meaning_of}
use Rattle.group_history.specs.Cookies.{order_cmp}
use Rattle.group_history.specs.Pull.{Pull}
use Rattle.group_history.specs.State.{State, view_of, confirmed_id, last_id, rebased}
use Rattle.group_history.specs.Mutating.{after_mutate, left_by_mutate}
use Rattle.group_history.specs.Pulling.{overwritten, end_reply, after_pull, after_closing, left_by_end}
use Rattle.group_history.specs.Record.{IsAccepted, AllAccepted, IsLegal, after, after_all}
use Rattle.group_history.specs.Ids.{IdsFollow}

-- the ids of a client's accepted mutations, in the order of the record
abbrev pub ids_made : Bytes → List Change → List ℕ
ids_made client [] = []
ids_made client (Mutated x ∷ cs) = if same_text x.client client then x.id ∷ ids_made client cs else ids_made client cs
ids_made client (Pulled ticket r ∷ cs) = ids_made client cs
ids_made client (Closed ∷ cs) = ids_made client cs

-- what the cookies of applied pulls are compared by, in the order of the record
abbrev pub orders_of : List Change → List Order
orders_of [] = []
orders_of (Mutated x ∷ cs) = orders_of cs
orders_of (Pulled ticket r ∷ cs) = r.cookie.order ∷ orders_of cs
orders_of (Closed ∷ cs) = orders_of cs

-- The first list is the second without some of its members, in the same order.
pub data IsPart {A : Type 0} : List A → List A → Type 0 where
  nothing : IsPart [] []
  kept : (x : A) (xs ys : List A) → IsPart xs ys → IsPart (x ∷ xs) (x ∷ ys)
  left_out : (x : A) (xs ys : List A) → IsPart xs ys → IsPart xs (x ∷ ys)

-- the mutation is among these, for whatever reason it is to be replayed
abbrev pub IsAmong : Mutation → List Mutation → Type 0
IsAmong x [] = ⊥
IsAmong x (y ∷ ys) = (rebased y ≡ rebased x) ⊎ IsAmong x ys

-- Laws of the record, for mutators of any meaning.
pub record RecordLaws (means : Meanings) : Type 0 where
  -- At every state the ids of a client's mutations that are accepted from there on rise strictly, and begin above its
  -- last id, so above all that was confirmed of it.
  pub ids_rise : (s : State) (cs : List Change) → AllAccepted means s cs → (client : Bytes)
      → IsStrictlySortedBy nat_cmp (last_id s client ∷ ids_made client cs)
  pub last_above_confirmed : (s : State) (client : Bytes) → confirmed_id s.confirmed client ≤ last_id s client
  -- the cookies of applied pulls rise strictly, beginning above the state's
  pub cookies_rise : (s : State) (cs : List Change) → AllAccepted means s cs
      → IsStrictlySortedBy order_cmp (s.cookie.order ∷ orders_of cs)
  -- after an accepted mutation the view is the map that the mutation means at the view before
  pub mutated_view : (s : State) (x : Mutation) → IsAccepted means s (Mutated x)
      → meaning_of means x (view_of means s) ≡ done (view_of means (after_mutate s x))
  -- a refused change leaves the state, and so does Same; only StateNotFound is an answer that changes it
  pub refused_mutation : (s : State) (x : Mutation) (e : Refusal) → left_by_mutate (Err e) s x ≡ s
  pub refused_end : (s : State) (r : Response) (e : Refusal) → (e ≡ refusal.StateNotFound → ⊥)
      → left_by_end (Err e) s r ≡ s
  pub same_end : (s : State) (r : Response) → left_by_end (Ok ended.Same) s r ≡ s
  -- after an applied pull no mutation is pending that is confirmed, and those that stay keep their order, each for the
  -- reason Rebase
  pub still_unconfirmed : (s : State) (r : Pull)
      → All (λ x. confirmed_id (after_pull s r).confirmed x.client < x.id) (after_pull s r).pending
  pub kept_in_order : (s : State) (r : Pull) → IsPart (after_pull s r).pending (map rebased s.pending)
  -- each beginning of a legal record is legal
  pub beginning_legal : (cs ds : List Change) → IsLegal means (cs ++ ds) → IsLegal means cs
  -- after a legal record each client's pending ids are the numbers that follow its confirmed id, which is at most 2^52;
  -- so a client's next id fits 64 bits
  pub ids_follow : (cs : List Change) → IsLegal means cs → IdsFollow (after cs).confirmed (after cs).pending
  pub ids_fit : (cs : List Change) → IsLegal means cs → (client : Bytes)
      → last_id (after cs) client ≤ 2 ^ 52 + length cs
  -- Agreement: after an applied pull that confirms every pending mutation nothing is pending, and the view is the
  -- pulled map patched.
  pub agreement : (s : State) (r : Pull) → All
      (λ x. x.id ≤ confirmed_id (overwritten s.confirmed r.changes) x.client) s.pending
      → ((after_pull s r).pending ≡ []) × (view_of means (after_pull s r) ≡ patched s.pulled r.patch)
  -- No lost write: an accepted mutation is pending at every later state until a pull confirms an id at least its own.
  pub no_lost_write : (s : State) (x : Mutation) (cs : List Change) → IsAccepted means s (Mutated x)
      → AllAccepted means (after_mutate s x) cs
      → let t = after_all (after_mutate s x) cs in IsAmong x t.pending ⊎ (x.id ≤ confirmed_id t.confirmed x.client)
  -- A ticket is good until another pull is applied: no other change makes its end Overtaken.
  pub ticket_good : (s : State) (cs : List Change) (r : Response) → orders_of cs ≡ []
      → end_reply (after_all s cs) s.cookie.text r ≡ Err refusal.Overtaken → ⊥
  -- The end of a pull that closes the group is answered with StateNotFound, and a closed group answers each end with
  -- Closed.
  pub closing_reply : (s : State) (ticket : Bytes) → IsAccepted means s Closed
      → end_reply s ticket response.StateNotFound ≡ Err refusal.StateNotFound
  pub closed_reply : (s : State) (ticket : Bytes) (r : Response) → s.closed ≡ true
      → end_reply s ticket r ≡ Err refusal.Closed
  -- After the closing no change is accepted, so it stands in a legal record once at most, as its last change.
  pub closed_final : (s : State) (c : Change) → s.closed ≡ true → IsAccepted means s c → ⊥
  pub closing_last : (cs ds : List Change) → IsLegal means (cs ++ Closed ∷ ds) → ds ≡ []
  -- The closing changes nothing that queries and requests read, but that the group is closed.
  pub closing_shows : (s : State) → (view_of means (after_closing s) ≡ view_of means s)
      × ((after_closing s).pending ≡ s.pending) × ((after_closing s).cookie ≡ s.cookie)
      × ((client : Bytes) → last_id (after_closing s) client ≡ last_id s client)
