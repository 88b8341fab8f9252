-- What a tree from names to numbers stands for.
use Rattle.std.specs.Prelude.{◌≡◌, ℕ, ◌<◌, ◌==◌, List, [], ◌∷◌, map, length, String, if◌then◌else◌}
use Rattle.std.specs.List.{range_with_len}
use Rattle.std.specs.BTreeMap.{BTreeMap, get_by_text}
use Rattle.std.specs.String.{string_bytes}
use Rattle.group_history.specs.Map.{Bytes}
use Rattle.script_parser.specs.Names.{number_among}

module _ {A : Type 0} where
  -- the name that has a number; empty where none has it
  abbrev pub name_at : List (String A × ℕ) → ℕ → Bytes
  name_at [] number = []
  name_at (e ∷ es) number = if e.1 == number then string_bytes e.0 else name_at es number

  -- the names, in the order of their numbers
  abbrev pub names_in : List (String A × ℕ) → List Bytes
  names_in es = map (name_at es) (range_with_len 0 (length es))

  -- each number is below this one
  abbrev pub AreNumbersBelow : ℕ → List (String A × ℕ) → Type 0
  AreNumbersBelow n [] = Unit {0}
  AreNumbersBelow n (e ∷ es) = (e.1 < n) × AreNumbersBelow n es

  -- The names are numbered from 0 on: what is found for a name is its place among them.
  pub record IsNumbering (tree : BTreeMap (String A) ℕ) : Type 0 where
    pub below : AreNumbersBelow (length tree.entries) tree.entries
    pub found : (name : Bytes) → get_by_text tree name ≡ number_among name (names_in tree.entries)
