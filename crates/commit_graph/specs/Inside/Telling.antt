-- Ids that are gathered on the way down a chain, the newest first.
use Rattle.std.specs.Prelude.{◌≡◌, List, [], ◌∷◌, ◌++◌, reverse, Option, Some, None}
use Rattle.group_history.specs.declared.responses.Confirmed.{Confirmed}
use Rattle.group_history.specs.Map.{Bytes}
use Rattle.group_history.specs.Pulling.{overwritten}
use Rattle.group_history.specs.State.{Ids}
use Rattle.commit_graph.specs.declared.chains.SaidIds.{SaidIds}
use Rattle.commit_graph.specs.Inside.Chains.{listed}

-- the last of them is the client's
abbrev pub IsLastOf : Bytes → List Confirmed → Type 0
IsLastOf client ids = (front : List Confirmed) × (last : Confirmed) × (ids ≡ front ++ last ∷ [])
    × (last.client ≡ client)

-- with older ones they overwrite what is older still as those do and then these
abbrev pub IsOlder : List Confirmed → List Confirmed → List Confirmed → Type 0
IsOlder newer said all = (ids : Ids)
    → overwritten (overwritten ids said) (reverse newer) ≡ overwritten ids (reverse all)

-- A commit that tells last ids says them overwritten by its own one; another one says its own, so far as it isn't
-- known from newer ones.
abbrev pub SaysBy : List Confirmed → Option Confirmed → Option Ids → SaidIds → Type 0
SaysBy newer own None said = IsOlder newer (listed own) (newer ++ listed said.said) × (said.told ≡ None)
SaysBy newer own (Some ids) said = (said.said ≡ None) × (said.told ≡ Some (overwritten ids (listed own)))

-- What a commit says of clients' last ids
pub record SaysIds (newer : List Confirmed) (whole said : SaidIds) : Type 0 where
  pub ids : SaysBy newer whole.said whole.told said
  pub next : said.next ≡ whole.next
