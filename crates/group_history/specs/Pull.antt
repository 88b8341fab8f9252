-- What a pull's response says where it carries no error.
-- Source: Pull Endpoint Reference, "cookie", "lastMutationIDChanges", "patch".
use Rattle.std.specs.Prelude.{◌≤◌, ◌^◌, List, All, codes}
use Rattle.group_history.specs.declared.responses.Confirmed.{Confirmed}
use Rattle.group_history.specs.declared.responses.Patch.{Patch}
use Rattle.group_history.specs.declared.responses.VersionKind.{VersionKind}
use Rattle.group_history.specs.declared.responses.VersionKind.TheVariants.{Push, Pull as PullKind, Schema, Unknown}
use Rattle.group_history.specs.Map.{Bytes}
use Rattle.group_history.specs.Cookies.{Cookie}

pub record Pull : Type 0 where
  pub cookie : Cookie
  pub changes : List Confirmed
  pub patch : List Patch

-- each id is at most 2^52 (this project's own rule)
abbrev pub AreInRange : List Confirmed → Type 0
AreInRange changes = All (λ c. c.id ≤ 2 ^ 52) changes

-- the printed name of a kind of version
abbrev pub kind_text : VersionKind → Bytes
kind_text Push = codes "push"
kind_text PullKind = codes "pull"
kind_text Schema = codes "schema"
kind_text Unknown = codes "unknown"
