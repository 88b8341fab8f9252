-- Which response bytes are.
-- Source: Replicache, Pull Endpoint Reference, "cookie", "lastMutationIDChanges", "patch" and "Errors" (pull version
-- 1).
-- Which refusal comes first, that numbers are whole and that all three fields are needed are this project's own rules.
use Rattle.std.specs.Prelude.{◌≡◌, List, Bool, true, false, if◌then◌else◌, Option, Some, None, option_map, unwrap_or}
use Rattle.std.specs.Prelude.{ok_or, Result, Ok, Err, codes, bytes_eq}
use Rattle.serde_json.specs.Data.{Data, null, boolean, number, string, array, object}
use Rattle.serde_json.specs.Find.{get, get_member, as_str}
use Rattle.group_history.specs.declared.refusals.Refusal.{Refusal}
use Rattle.group_history.specs.declared.refusals.Refusal.TheVariants.{BadShape, NotWhole}
use Rattle.group_history.specs.declared.responses.Response.{Response}
use Rattle.group_history.specs.declared.responses.Response.TheVariants as response
use Rattle.group_history.specs.declared.responses.VersionKind.{VersionKind}
use Rattle.group_history.specs.declared.responses.VersionKind.TheVariants as kind
use Rattle.group_history.specs.Answers.{◌>>=◌}
use Rattle.group_history.specs.Map.{Bytes}
use Rattle.group_history.specs.Json.{reading}
use Rattle.group_history.specs.Cookies.{cookie_of}
use Rattle.group_history.specs.Pull.{Pull}
use Rattle.pull_patch.specs.Fields.{text_at, array_at, object_at, each, ◌>>-◌}
use Rattle.pull_patch.specs.Operations.{Edit, edits_of, operation_of}
use Rattle.pull_patch.specs.Changes.{Entry, entries_of, confirmed_said}

-- ---- the shape of a response without an error

-- a number or a text
abbrev pub is_plain_order : Data → Bool
is_plain_order null = false
is_plain_order (boolean b) = false
is_plain_order (number n) = true
is_plain_order (string s) = true
is_plain_order (array ds) = false
is_plain_order (object ms) = false

-- such a field is there
abbrev pub has_plain_order : Option Data → Bool
has_plain_order None = false
has_plain_order (Some d) = is_plain_order d

-- a cookie is null, a number, a text, or an object whose field `order` is a number or a text
abbrev pub is_cookie : Data → Bool
is_cookie null = true
is_cookie (boolean b) = false
is_cookie (number n) = true
is_cookie (string s) = true
is_cookie (array ds) = false
is_cookie (object ms) = has_plain_order (get_member (codes "order") ms)

-- none where the value is no cookie
unfoldable pub cookie_said : Data → Option Data
cookie_said d = if is_cookie d then Some d else None

-- the three fields as they stand in the tree
pub record Fields : Type 0 where
  pub cookie : Data
  pub entries : List Entry
  pub edits : List Edit

-- all three are there and have their shapes; other fields don't count
unfoldable pub fields_of : Data → Option Fields
fields_of d =
    get (codes "cookie") d >>- cookie_said >>- λ c.
    object_at (codes "lastMutationIDChanges") d >>- entries_of >>- λ ms.
    array_at (codes "patch") d >>- edits_of >>- λ es.
    Some (record { cookie = c; entries = ms; edits = es })

-- ---- what the fields say

-- none where a number isn't whole: in the cookie, in a client's id, or in what is put
unfoldable pub pull_of : Fields → Option Pull
pull_of f =
    cookie_of f.cookie >>- λ c. each confirmed_said f.entries >>- λ cs. each operation_of f.edits >>- λ ops.
    Some (record { cookie = c; changes = cs; patch = ops })

-- the shape goes first, and whole numbers second
unfoldable pub pull_response : Data → Result Response Refusal
pull_response d = ok_or (fields_of d) BadShape >>= λ f. ok_or (option_map response.Ok (pull_of f)) NotWhole

-- ---- error responses

-- by the text `versionType`
abbrev pub kind_named : Bytes → VersionKind
kind_named name =
    if bytes_eq name (codes "push") then kind.Push
    else (if bytes_eq name (codes "pull") then kind.Pull
    else (if bytes_eq name (codes "schema") then kind.Schema else kind.Unknown))

-- which version isn't supported; unknown where the response doesn't say, or says something else
unfoldable pub kind_of : Data → VersionKind
kind_of d = unwrap_or (option_map kind_named (text_at (codes "versionType") d)) kind.Unknown

-- by the text `error`
abbrev pub error_named : Bytes → Data → Result Response Refusal
error_named name d =
    if bytes_eq name (codes "ClientStateNotFound") then Ok response.StateNotFound
    else (if bytes_eq name (codes "VersionNotSupported") then Ok
    (response.VersionNotSupported (kind_of d)) else Err BadShape)

-- the response d, whose field `error` is e: a text, and one of two
unfoldable pub error_of : Data → Data → Result Response Refusal
error_of e d = ok_or (as_str e) BadShape >>= λ name. error_named name d

-- ---- a response

-- by the field `error`
abbrev pub by_error : Option Data → Data → Result Response Refusal
by_error None d = pull_response d
by_error (Some e) d = error_of e d

-- a response with a field `error`, whatever its value, is an error response
unfoldable pub response_of : Data → Result Response Refusal
response_of d = by_error (get (codes "error") d) d

-- the right answer to bytes: the response that they are, or why they are none
unfoldable pub answer_to : Bytes → Result Response Refusal
answer_to bytes = reading bytes >>= response_of

-- the bytes read as x, a response or a refusal
abbrev pub ReadsAs : Bytes → Result Response Refusal → Type 0
ReadsAs bytes x = answer_to bytes ≡ x
