-- The parts of an array that begins with a word.
use Rattle.std.specs.Prelude.{List}
use Rattle.serde_json.specs.Data.{Items, no_items, item}
use Rattle.group_history.specs.Map.{Bytes}
use Rattle.rule_mutators.specs.Reading.{SaidPart, Branch, parts_of, branches_of}

-- what stands behind the word
abbrev pub behind_word : Items → Items
behind_word no_items = no_items
behind_word (item w ds) = ds

-- its parts, and its parts as those of an `if`
abbrev pub parts_behind : Bytes → Items → List SaidPart
parts_behind place ds = parts_of place 1 (behind_word ds)

abbrev pub branches_behind : Bytes → Items → List Branch
branches_behind place ds = branches_of place 1 (behind_word ds)
