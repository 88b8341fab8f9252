-- The state of a client group, its view, and the last ids of its clients.
-- Source: Replicache, How It Works, "The Client View" and "Rebase".
use Rattle.std.specs.Prelude.{ℕ, Bool, false, List, [], ◌∷◌, map, filter, fold, max, unwrap_or}
use Rattle.std.specs.Ordering.{nat_cmp}
use Rattle.std.specs.Cmp.Lexicographic.{slice_cmp}
use Rattle.std.specs.FinMap as finite
use Rattle.std.specs.Coded.{Coded, coded_list, coded_ℕ}
use Rattle.group_history.specs.declared.mutations.MutationFields.{MutationFields as Mutation}
use Rattle.group_history.specs.declared.mutations.Reason.TheVariants.{Initial, Rebase}
use Rattle.group_history.specs.Map.{Bytes, Entries, same_text}
use Rattle.group_history.specs.Meaning.{Meanings, left_by, meaning_of}
use Rattle.group_history.specs.Cookies.{Cookie, null_cookie}

-- each client's confirmed id
abbrev pub Ids : Type 0
Ids = finite.FinMap (slice_cmp nat_cmp) ℕ

-- ids can be told apart, so a type's value may hold them; so can maps
pub ids_coded : Coded Ids
ids_coded = finite.code (coded_list coded_ℕ) coded_ℕ

pub entries_coded : Coded Entries
entries_coded = finite.code (coded_list coded_ℕ) (coded_list coded_ℕ)

pub record State : Type 0 where
  -- the map as the server last sent it
  pub pulled : Entries
  pub cookie : Cookie
  pub confirmed : Ids
  -- the mutations that are not confirmed, the oldest first
  pub pending : List Mutation
  -- whether the server said that it doesn't know the group
  pub closed : Bool

-- the state of these parts
abbrev pub state : Entries → Cookie → Ids → List Mutation → Bool → State
state pulled cookie confirmed pending closed =
    record { pulled = pulled; cookie = cookie; confirmed = confirmed; pending = pending; closed = closed }

-- a state with nothing pending
abbrev pub pulled_state : Entries → Cookie → Ids → State
pulled_state pulled cookie confirmed = state pulled cookie confirmed [] false

-- the state in which a group opens
abbrev pub opening : State
opening = pulled_state finite.empty null_cookie finite.empty

-- a mutation as its client makes it
abbrev pub made : Bytes → ℕ → Bytes → Bytes → ℕ → Mutation
made client id name args time = record {
  client = client;
  id = id;
  name = name;
  args = args;
  timestamp = time;
  reason = Initial;
}

-- a mutation as an applied pull leaves it
abbrev pub rebased : Mutation → Mutation
rebased x = record {
  client = x.client;
  id = x.id;
  name = x.name;
  args = x.args;
  timestamp = x.timestamp;
  reason = Rebase;
}

-- the map after one mutation is replayed on it
abbrev pub replayed_once : Meanings → Entries → Mutation → Entries
replayed_once means m x = left_by (meaning_of means x m) m

-- the map after mutations are replayed on it, in order, each for its own reason
abbrev pub replayed : Meanings → Entries → List Mutation → Entries
replayed means m [] = m
replayed means m (x ∷ xs) = replayed means (replayed_once means m x) xs

-- the view: the pulled map with the pending mutations replayed on it
abbrev pub view_of : Meanings → State → Entries
view_of means s = replayed means s.pulled s.pending

-- a client's confirmed id, 0 where there is none
abbrev pub confirmed_id : Ids → Bytes → ℕ
confirmed_id ids client = unwrap_or (finite.get ids client) 0

-- the ids of a client's mutations
abbrev pub ids_of : Bytes → List Mutation → List ℕ
ids_of client xs = map (λ x. x.id) (filter (λ x. same_text x.client client) xs)

-- a client's last id: the greatest of its confirmed id and its pending ids
abbrev pub last_id : State → Bytes → ℕ
last_id s client = fold max (confirmed_id s.confirmed client) (ids_of client s.pending)
