-- What the mutators of a to-do list mean: `add`, `toggle` and `rename`.
-- An item lies at the key "todo/ID", as an object with its members "done" and "text".
use Rattle.std.specs.Prelude.{ℕ, Bool, false, not, ◌++◌, codes, if◌then◌else◌, Option}
use Rattle.std.specs.Prelude.{option_map, option_and_then}
use Rattle.std.specs.FinMap as finite
use Rattle.serde_json.specs.Data.{Data, boolean, string, object, no_members, member}
use Rattle.serde_json.specs.Find.{get, as_bool, as_str}
use Rattle.serde_json.specs.Written.{compact_text}
use Rattle.group_history.specs.Map.{Bytes, Entries, same_text}
use Rattle.group_history.specs.Meaning.{Meaning, Meanings, unknown, done, needs, value_of}

-- the codes with which they refuse
abbrev pub wrong_todo_arguments : ℕ
wrong_todo_arguments = 1

abbrev pub no_such_todo : ℕ
no_such_todo = 2

-- the text of a member
abbrev pub text_in : Data → Bytes → Option Bytes
text_in d name = option_and_then as_str (get name d)

-- an item: whether it is done, and its text
pub record Todo : Type 0 where
  pub done : Bool
  pub text : Bytes

-- the key of an item
abbrev pub todo_key : Bytes → Bytes
todo_key id = codes "todo/" ++ id

-- an item as a value
abbrev pub value_with : Bool → Bytes → Data
value_with is_done text =
    object (member (codes "done") (boolean is_done) (member (codes "text") (string text) no_members))

-- the JSON text of an item
abbrev pub item_text : Bool → Bytes → Bytes
item_text is_done text = compact_text (value_with is_done text)

-- the item that a value is
abbrev pub todo_of : Data → Option Todo
todo_of d = option_and_then (λ is_done. option_map (λ text. record { done = is_done; text = text })
    (text_in d (codes "text"))) (option_and_then as_bool (get (codes "done") d))

-- the item that lies there
abbrev pub todo_in : Option Bytes → Option Todo
todo_in there = option_and_then todo_of (option_and_then value_of there)

-- the item at a key
abbrev pub todo_at : Entries → Bytes → Option Todo
todo_at m key = todo_in (finite.get m key)

-- `add`: the item has the text, and is not done
unfoldable pub add_means : Data → Entries → Meaning
add_means args m =
    needs wrong_todo_arguments (text_in args (codes "id")) (λ id.
    needs wrong_todo_arguments (text_in args (codes "text")) (λ text.
    done (finite.insert m (todo_key id) (item_text false text))))

-- `toggle`: the item is done, or not done where it was
unfoldable pub toggle_means : Data → Entries → Meaning
toggle_means args m =
    needs wrong_todo_arguments (text_in args (codes "id")) (λ id.
    needs no_such_todo (todo_at m (todo_key id)) (λ todo.
    done (finite.insert m (todo_key id) (item_text (not todo.done) todo.text))))

-- `rename`: the item has another text
unfoldable pub rename_means : Data → Entries → Meaning
rename_means args m =
    needs wrong_todo_arguments (text_in args (codes "id")) (λ id.
    needs wrong_todo_arguments (text_in args (codes "text")) (λ text.
    needs no_such_todo (todo_at m (todo_key id)) (λ todo.
    done (finite.insert m (todo_key id) (item_text todo.done text)))))

-- what a name means
unfoldable pub todo_means : Meanings
todo_means name args why m =
    if same_text name (codes "add") then needs wrong_todo_arguments (value_of args) (λ d. add_means d m)
    else (if same_text name (codes "toggle") then needs wrong_todo_arguments (value_of args) (λ d. toggle_means d m)
    else (if same_text name (codes "rename") then needs wrong_todo_arguments (value_of args) (λ d. rename_means d m)
    else unknown))
