-- Words for values that are copied from token to token.
use Rattle.std.specs.Prelude.{◌≡◌, ℕ, List, ◌++◌, Bool, true, false, Option, Some}
use Rattle.json.specs.Token.{Token}
use Rattle.json.specs.Json.{Json, Items, Members}
use Rattle.json.specs.Lex.{tokens}
use Rattle.json.specs.Print.{print}
use Rattle.json.specs.Tree.{json_tokens, items_tokens, members_tokens}
use Rattle.serde_json.specs.Data as data_of
use Rattle.serde_json.specs.Data.{Num}
use Rattle.serde_json.specs.Find.{is_float}
use Rattle.serde_json.specs.Read.{number_of, of_json, of_items, of_members}
use Rattle.serde_json.specs.Written.{number_text, outline, items_outline, members_outline}
use Rattle.serde_json.specs.Written.{has_float, items_have_float, members_have_float}

-- the text is the one that is written for a number
pub record IsNumberText (s : List ℕ) (num : Num) : Type 0 where
  pub reads : number_of s ≡ Some num
  pub same : number_text num ≡ s
  pub whole : is_float num ≡ false

-- a number's text is the one that is written for it
pub record IsPlainNumber (s : List ℕ) : Type 0 where
  pub num : Num
  pub reads : number_of s ≡ Some num
  pub same : number_text num ≡ s
  pub whole : is_float num ≡ false

-- what is read as d is written as it stands
pub record IsPlain (j : Json) : Type 0 where
  pub tree : data_of.Data
  pub reads : of_json j ≡ Some tree
  pub same : outline tree ≡ j
  pub whole : has_float tree ≡ false

pub record ItemsArePlain (js : Items) : Type 0 where
  pub tree : data_of.Items
  pub reads : of_items js ≡ Some tree
  pub same : items_outline tree ≡ js
  pub whole : items_have_float tree ≡ false

pub record MembersArePlain (ms : Members) : Type 0 where
  pub tree : data_of.Members
  pub reads : of_members ms data_of.no_members ≡ Some tree
  pub same : members_outline tree ≡ ms
  pub whole : members_have_float tree ≡ false

-- what the grammar read was written behind what stood there, and is plain where `plain` says so
pub record CopiesValue (plain : Bool) (read : Option (Json × List Token)) (rest old new : List Token) : Type 0 where
  pub what : Json
  pub reads : read ≡ Some (what, rest)
  pub written : new ≡ old ++ json_tokens what
  pub is_plain : plain ≡ true → IsPlain what

pub record CopiesItems (plain : Bool) (read : Option (Items × List Token)) (rest old new : List Token) : Type 0 where
  pub what : Items
  pub reads : read ≡ Some (what, rest)
  pub written : new ≡ old ++ items_tokens what
  pub is_plain : plain ≡ true → ItemsArePlain what

pub record CopiesMembers (plain : Bool) (read : Option (Members × List Token))
    (rest old new : List Token) : Type 0 where
  pub what : Members
  pub reads : read ≡ Some (what, rest)
  pub written : new ≡ old ++ members_tokens what
  pub is_plain : plain ≡ true → MembersArePlain what

-- the text of the next value
pub record CopiesText (plain : Bool) (read : Option (Json × List Token)) (rest : List Token) (s : List ℕ) : Type 0 where
  pub what : Json
  pub reads : read ≡ Some (what, rest)
  pub printed : s ≡ print (json_tokens what)
  pub reads_back : tokens s ≡ json_tokens what
  pub is_plain : plain ≡ true → IsPlain what
