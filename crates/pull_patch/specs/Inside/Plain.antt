-- Words for bodies that are read from token to token.
use Rattle.std.specs.Prelude.{◌≡◌, ℕ, List, [], length, Some, None, codes, IfSome, Ok}
use Rattle.json.specs.Token.{Token}
use Rattle.json.specs.Json.{value, items, members}
use Rattle.serde_json.specs.Data.{Data, string, array, object, Items, Members, no_members, put}
use Rattle.serde_json.specs.Find.{get_member, as_object}
use Rattle.serde_json.specs.Read.{of_json, of_items, of_members, converted}
use Rattle.group_history.specs.declared.responses.Confirmed.{Confirmed}
use Rattle.group_history.specs.declared.responses.Patch.{Patch}
use Rattle.group_history.specs.declared.responses.Response.{Response}
use Rattle.group_history.specs.Cookies.{Cookie, whole_text, cookie_of}
use Rattle.group_history.specs.Map.{Bytes}
use Rattle.group_history.specs.Pull.{AreInRange}
use Rattle.pull_patch.specs.declared.plain.ResponseParts.{ResponseParts}
use Rattle.pull_patch.specs.declared.plain.puts.OperationParts.{OperationParts}
use Rattle.pull_patch.specs.Changes.{Entry, entries_of, confirmed_said}
use Rattle.pull_patch.specs.Fields.{each, ◌>>-◌}
use Rattle.pull_patch.specs.Grammar.{cookie_said, response_of}
use Rattle.pull_patch.specs.Operations.{Edit, edit_of, edits_of, operation_of}

-- of the tokens `old` this is read, nested at most so deep, and `new` are left
abbrev pub ReadsValue : ℕ → List Token → Data → List Token → Type 0
ReadsValue depth old d new = converted of_json (value depth old) ≡ Some (d, new)

abbrev pub ReadsItems : ℕ → List Token → Items → List Token → Type 0
ReadsItems depth old ds new = converted of_items (items (value depth) (length old) old) ≡ Some (ds, new)

abbrev pub ReadsMembers : ℕ → List Token → Members → List Token → Type 0
ReadsMembers depth old ms new = converted (λ xs. of_members xs no_members) (members (value depth) (length old) old)
    ≡ Some (ms, new)

-- some value is read
pub record PassesValue (depth : ℕ) (old new : List Token) : Type 0 where
  pub tree : Data
  pub reads : ReadsValue depth old tree new

-- a value with whole numbers alone, and its compact text
pub record ReadsText (old : List Token) (text : Bytes) (new : List Token) : Type 0 where
  pub tree : Data
  pub reads : ReadsValue 124 old tree new
  pub whole : whole_text tree ≡ Some text

-- ---- an operation

pub record IsText (name : Bytes) (ms : Members) (text : Bytes) : Type 0 where
  pub at : get_member name ms ≡ Some (string text)

pub record IsValue (ms : Members) (text : Bytes) : Type 0 where
  pub tree : Data
  pub at : get_member (codes "value") ms ≡ Some tree
  pub whole : whole_text tree ≡ Some text

-- what was found is in the object of these members
pub record IsFoundIn (f : OperationParts) (ms : Members) : Type 0 where
  pub op : IfSome f.op (λ s. IsText (codes "op") ms s.now)
  pub key : IfSome f.key (λ s. IsText (codes "key") ms s.now)
  pub value : IfSome f.value (λ t. IsValue ms t)

-- a value goes to a name, and what was found goes with it
pub record ReadsField (old : List Token) (name : Bytes) (f g : OperationParts) (new : List Token) : Type 0 where
  pub tree : Data
  pub reads : ReadsValue 124 old tree new
  pub found : (ms : Members) → IsFoundIn f ms → IsFoundIn g (put name tree ms)

pub record IsOperation (d : Data) (p : Patch) : Type 0 where
  pub edit : Edit
  pub shape : edit_of d ≡ Some edit
  pub says : operation_of edit ≡ Some p

pub record ReadsFields (old : List Token) (f : OperationParts) (new : List Token) : Type 0 where
  pub tree : Members
  pub reads : ReadsMembers 124 old tree new
  pub found : IsFoundIn f tree

pub record ReadsOperation (old : List Token) (p : Patch) (new : List Token) : Type 0 where
  pub tree : Data
  pub reads : ReadsValue 125 old tree new
  pub says : IsOperation tree p

pub record ArePatch (ds : Items) (ps : List Patch) : Type 0 where
  pub edits : List Edit
  pub shape : edits_of ds ≡ Some edits
  pub say : each operation_of edits ≡ Some ps

pub record ReadsOperations (old : List Token) (ps : List Patch) (new : List Token) : Type 0 where
  pub tree : Items
  pub reads : ReadsItems 125 old tree new
  pub say : ArePatch tree ps

pub record ReadsPatch (old : List Token) (ps : List Patch) (new : List Token) : Type 0 where
  pub tree : Items
  pub reads : ReadsValue 126 old (array tree) new
  pub say : ArePatch tree ps

-- ---- a response

pub record IsCookie (d : Data) (c : Cookie) : Type 0 where
  pub shape : cookie_said d ≡ Some d
  pub says : cookie_of d ≡ Some c

pub record AreLastIds (d : Data) (cs : List Confirmed) : Type 0 where
  pub entries : List Entry
  pub shape : (as_object d >>- entries_of) ≡ Some entries
  pub say : each confirmed_said entries ≡ Some cs

pub record ReadsCookie (old : List Token) (c : Cookie) (new : List Token) : Type 0 where
  pub tree : Data
  pub reads : ReadsValue 126 old tree new
  pub is : IsCookie tree c

pub record ReadsChanges (old : List Token) (cs : List Confirmed) (new : List Token) : Type 0 where
  pub tree : Data
  pub reads : ReadsValue 126 old tree new
  pub are : AreLastIds tree cs
  pub in_range : AreInRange cs

pub record HoldsCookie (ms : Members) (c : Cookie) : Type 0 where
  pub tree : Data
  pub at : get_member (codes "cookie") ms ≡ Some tree
  pub is : IsCookie tree c

pub record HasChanges (ms : Members) (cs : List Confirmed) : Type 0 where
  pub tree : Data
  pub at : get_member (codes "lastMutationIDChanges") ms ≡ Some tree
  pub are : AreLastIds tree cs
  pub in_range : AreInRange cs

pub record HasPatch (ms : Members) (ps : List Patch) : Type 0 where
  pub tree : Items
  pub at : get_member (codes "patch") ms ≡ Some (array tree)
  pub are : ArePatch tree ps

-- the parts are in the object of these members, which has no error
pub record ArePartsOf (p : ResponseParts) (ms : Members) : Type 0 where
  pub cookie : IfSome p.cookie (λ c. HoldsCookie ms c)
  pub changes : IfSome p.changes (λ v. HasChanges ms v.items)
  pub patch : IfSome p.patch (λ v. HasPatch ms v.items)
  pub no_error : get_member (codes "error") ms ≡ None

-- a value goes to a name, and the parts go with it
pub record ReadsPart (old : List Token) (name : Bytes) (p q : ResponseParts) (new : List Token) : Type 0 where
  pub tree : Data
  pub reads : ReadsValue 126 old tree new
  pub parts : (ms : Members) → ArePartsOf p ms → ArePartsOf q (put name tree ms)

pub record ReadsParts (old : List Token) (p : ResponseParts) (new : List Token) : Type 0 where
  pub tree : Members
  pub reads : ReadsMembers 126 old tree new
  pub parts : ArePartsOf p tree

-- the tokens are those of a response
pub record ReadsBody (old : List Token) (r : Response) : Type 0 where
  pub tree : Members
  pub reads : ReadsValue 127 old (object tree) []
  pub is : response_of (object tree) ≡ Ok r
