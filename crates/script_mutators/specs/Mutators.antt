-- What the mutators of scripts mean. These are this project's own rules.
use Rattle.std.specs.Prelude.{ℕ, ◌^◌, ℤ, pos, neg_ℤ, ◌+ℤ◌, int_le, int_lt, ◌&&◌, [], ◌++◌, codes, if◌then◌else◌, Option}
use Rattle.std.specs.Prelude.{Some, None, option_map, option_and_then}
use Rattle.std.specs.Fmt.{signed_decimal}
use Rattle.std.specs.FinMap as finite
use Rattle.serde_json.specs.Data.{Data, string, Items, no_items, item}
use Rattle.serde_json.specs.Find.{as_array, as_str, as_number, as_i64}
use Rattle.serde_json.specs.Written.{compact_text}
use Rattle.group_history.specs.declared.mutations.Reason.{Reason}
use Rattle.group_history.specs.Examples.{tagged}
use Rattle.group_history.specs.Map.{Bytes, Entries, same_text}
use Rattle.group_history.specs.Meaning.{Meaning, Meanings, unknown, done, needs, value_of}

-- the codes with which they refuse
abbrev pub wrong_arguments : ℕ
wrong_arguments = 1

abbrev pub key_not_there : ℕ
key_not_there = 2

abbrev pub other_kind : ℕ
other_kind = 3

abbrev pub code_out_of_range : ℕ
code_out_of_range = 4

-- the one member
abbrev pub one_item : Items → Option Data
one_item no_items = None
one_item (item a no_items) = Some a
one_item (item a (item b ds)) = None

-- the two members
abbrev pub two_items : Items → Option (Data × Data)
two_items no_items = None
two_items (item a no_items) = None
two_items (item a (item b no_items)) = Some (a, b)
two_items (item a (item b (item c ds))) = None

-- the whole number from -2^63 to 2^63 - 1 that a value is
abbrev pub number_of : Data → Option ℤ
number_of d = option_and_then as_i64 (as_number d)

-- arguments that are one text
unfoldable pub text_alone : Data → Option Bytes
text_alone args = option_and_then as_str (option_and_then one_item (as_array args))

-- arguments that are a text and any value
unfoldable pub text_and_value : Data → Option (Bytes × Data)
text_and_value args = option_and_then (λ both. option_map (λ s. (s, both.1)) (as_str both.0))
    (option_and_then two_items (as_array args))

-- arguments that are a text and a number
unfoldable pub text_and_number : Data → Option (Bytes × ℤ)
text_and_number args = option_and_then (λ both. option_map (λ z. (both.0, z)) (number_of both.1)) (text_and_value args)

-- arguments that are two texts
unfoldable pub text_and_text : Data → Option (Bytes × Bytes)
text_and_text args = option_and_then (λ both. option_map (λ t. (both.0, t)) (as_str both.1)) (text_and_value args)

-- a sum from -2^63 to 2^63 - 1
unfoldable pub sum_of : ℤ → ℤ → Option ℤ
sum_of a b = if int_le (neg_ℤ (pos (2 ^ 63))) (a +ℤ b) && int_lt (a +ℤ b) (pos (2 ^ 63)) then Some (a +ℤ b) else None

-- the text that is there, the empty one where the key isn't
unfoldable pub text_there : Option Bytes → Option Bytes
text_there None = Some []
text_there (Some there) = option_and_then as_str (value_of there)

-- the JSON text of the text that is there with another behind it
unfoldable pub followed : Option Bytes → Bytes → Option Bytes
followed there added = option_map (λ s. compact_text (string (s ++ added))) (text_there there)

-- `set`: the key has the value
unfoldable pub set_means : Data → Entries → Meaning
set_means args m = needs wrong_arguments (text_and_value args) (λ a. done (finite.insert m a.0 (compact_text a.1)))

-- `del`: the key is not there
unfoldable pub del_means : Data → Entries → Meaning
del_means args m = needs wrong_arguments (text_alone args) (λ key. done (finite.remove m key))

-- `incr`: the number at the key, which is there, is raised by a number
unfoldable pub incr_means : Data → Entries → Meaning
incr_means args m =
    needs wrong_arguments (text_and_number args) (λ a.
    needs key_not_there (finite.get m a.0) (λ there.
    needs other_kind (option_and_then number_of (value_of there)) (λ n.
    needs code_out_of_range (sum_of n a.1) (λ sum.
    done (finite.insert m a.0 (signed_decimal sum))))))

-- the text at a key, followed by another
unfoldable pub appended : Bytes → Bytes → Entries → Meaning
appended key added m = needs other_kind (followed (finite.get m key) added) (λ s. done (finite.insert m key s))

-- `append`: the text at the key is followed by a text
unfoldable pub append_means : Data → Entries → Meaning
append_means args m = needs wrong_arguments (text_and_text args) (λ a. appended a.0 a.1 m)

-- `tag`: the text at the key is followed by the text of the reason
unfoldable pub tag_means : Reason → Data → Entries → Meaning
tag_means why args m = needs wrong_arguments (text_alone args) (λ key. appended key (tagged why) m)

-- the mutator of a name as it is run for a reason, where there is one; only `tag` looks at the reason
unfoldable pub mutator_of : Bytes → Reason → Option (Data → Entries → Meaning)
mutator_of name why =
    if same_text name (codes "set") then Some set_means
    else (if same_text name (codes "incr") then Some incr_means
    else (if same_text name (codes "del") then Some del_means
    else (if same_text name (codes "append") then Some append_means
    else (if same_text name (codes "tag") then Some (tag_means why)
    else None))))

-- what a mutator means at the value that the arguments' text is; without one it is unknown
abbrev pub meaning_at_text : Option (Data → Entries → Meaning) → Bytes → Entries → Meaning
meaning_at_text None args m = unknown
meaning_at_text (Some means) args m = needs wrong_arguments (value_of args) (λ d. means d m)

-- what a name means
unfoldable pub script_means : Meanings
script_means name args why m = meaning_at_text (mutator_of name why) args m
