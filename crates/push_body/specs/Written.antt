-- What stands in the body of a push while it is being written.
use Rattle.std.specs.Prelude.{◌≡◌, List, [], ◌∷◌, ◌++◌, Bool, true, false, codes}
use Rattle.std.specs.List.{concat}
use Rattle.group_history.specs.declared.mutations.MutationFields.{MutationFields as Mutation}
use Rattle.group_history.specs.Map.{Bytes}
use Rattle.push_body.specs.declared.identities.Identity.{Identity}
use Rattle.push_body.specs.declared.writer.PushWriter.{PushWriter}
use Rattle.push_body.specs.Bodies.{quoted, mutations_text}

-- what stands before the mutations
unfoldable pub head_text : Identity → Bytes
head_text i = concat (codes "{\"clientGroupID\":" ∷ quoted i.group ∷ codes ",\"mutations\":[" ∷ [])

-- what stands behind them
unfoldable pub tail_text : Identity → Bytes
tail_text i =
    concat (codes "],\"profileID\":" ∷ quoted i.profile ∷ codes ",\"pushVersion\":1,\"schemaVersion\":"
    ∷ quoted i.schema ∷ codes "}" ∷ [])

-- whether there is one, and what goes before one more
abbrev pub has_any : List Mutation → Bool
has_any [] = false
has_any (m ∷ ms) = true

abbrev pub comma_text : Bool → Bytes
comma_text true = 44 ∷ []
comma_text false = []

-- The head of this identity's body and these mutations have been written, and nothing else.
pub record HasWritten (i : Identity) (ms : List Mutation) (w : PushWriter) : Type 0 where
  pub identity : w.identity.now ≡ i
  pub body : w.body ≡ head_text i ++ mutations_text ms
  pub any : w.any ≡ has_any ms
