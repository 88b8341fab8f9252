-- Looking into the tree of a JSON text.
-- Source: RFC 8259. Of two fields of one name the last counts: this is how `serde_json` reads a text.
use Rattle.std.specs.Prelude.{List, [], ◌∷◌, Option, Some, option_map, option_and_then}
use Rattle.serde_json.specs.Data.{Data, Items, no_items, item, Members, no_members, member}
use Rattle.serde_json.specs.Find.{get, as_str, as_array, as_object}
use Rattle.group_history.specs.Map.{Bytes}

-- a field that is a text, an array, an object; none where it is missing or of another type
abbrev pub text_at : Bytes → Data → Option Bytes
text_at name d = option_and_then as_str (get name d)

abbrev pub array_at : Bytes → Data → Option Items
array_at name d = option_and_then as_array (get name d)

abbrev pub object_at : Bytes → Data → Option Members
object_at name d = option_and_then as_object (get name d)

-- the items of an array, and the members of an object by their names
abbrev pub items_list : Items → List Data
items_list no_items = []
items_list (item d ds) = d ∷ items_list ds

abbrev pub members_list : Members → List (Bytes × Data)
members_list no_members = []
members_list (member name d ms) = (name, d) ∷ members_list ms

-- what f finds in each, in order; none where it finds nothing in one of them
abbrev pub each : {A B : Type 0} → (A → Option B) → List A → Option (List B)
each f [] = Some []
each f (x ∷ xs) = option_and_then (λ y. option_map (λ ys. y ∷ ys) (each f xs)) (f x)

-- what f finds in what is there
infixl 10 ◌>>-◌
abbrev pub ◌>>-◌ : {A B : Type 0} → Option A → (A → Option B) → Option B
o >>- f = option_and_then f o
