-- What the grammar says of a response, in words of its own.
use Rattle.std.specs.Prelude.{◌≡◌, ◌≢◌, true, Err, codes}
use Rattle.serde_json.specs.Data.{Data, Members, object, put}
use Rattle.serde_json.specs.Written.{has_float}
use Rattle.group_history.specs.declared.refusals.Refusal.TheVariants.{NotWhole}
use Rattle.group_history.specs.Map.{Bytes}
use Rattle.pull_patch.specs.Operations.{edit_of}
use Rattle.pull_patch.specs.Grammar.{response_of}

-- a name that no rule on responses speaks of
pub record IsUnknown (name : Bytes) : Type 0 where
  pub error : codes "error" ≢ name
  pub version : codes "versionType" ≢ name
  pub cookie : codes "cookie" ≢ name
  pub changes : codes "lastMutationIDChanges" ≢ name
  pub patch : codes "patch" ≢ name

-- a name that no rule on operations speaks of
pub record IsUnknownToOperations (name : Bytes) : Type 0 where
  pub op : codes "op" ≢ name
  pub key : codes "key" ≢ name
  pub value : codes "value" ≢ name

-- a field of an unknown name, whatever it holds, changes nothing
pub record UnknownFieldsDontCount : Type 0 where
  pub of_response : (name : Bytes) (d : Data) (ms : Members) → IsUnknown name
      → response_of (object (put name d ms)) ≡ response_of (object ms)
  pub of_operation : (name : Bytes) (d : Data) (ms : Members) → IsUnknownToOperations name
      → edit_of (object (put name d ms)) ≡ edit_of (object ms)

-- NotWhole is told only where some number isn't whole: a response of the right shape with whole numbers alone is read
abbrev pub OnlyNumbersAreNotWhole : Type 0
OnlyNumbersAreNotWhole = (d : Data) → response_of d ≡ Err NotWhole → has_float d ≡ true
