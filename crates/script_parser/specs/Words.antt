-- The words of a line, and which of them are names and numbers. Words are parted by one space.
use Rattle.std.specs.Prelude.{codes, ℕ, ◌^◌, ◌-◌, Bool, ◌&&◌, ◌||◌, not, ◌==◌, nat_lt, nat_le, [], length, drop}
use Rattle.std.specs.Prelude.{slice_index, Option, Some, None, unwrap_or, is_some, Result, Ok, Err, is_ok}
use Rattle.std.specs.Prelude.{if◌then◌else◌}
use Rattle.std.specs.Char.{is_ascii_alphabetic, is_ascii_alphanumeric}
use Rattle.std.specs.List.{position_or_len, before_first, after_first, list_all, list_any}
use Rattle.std.specs.Str.{all_ascii_digits}
use Rattle.std.specs.Str.Parse.{digits_value}
use Rattle.uuid.specs.Text.{parsed, hyphenated_text, lower}
use Rattle.group_history.specs.declared.refusals.Refusal.{Refusal}
use Rattle.group_history.specs.declared.scans.Start.{Start}
use Rattle.group_history.specs.declared.scans.Start.TheVariants.{Any, At, After}
use Rattle.group_history.specs.Json.{json_text}
use Rattle.group_history.specs.Map.{Bytes, same_text}

-- what stands before the first space; the whole text where there is none
unfoldable pub word : Bytes → Bytes
word line = before_first (λ b. b == 32) line

-- what follows the first space, where there is one
unfoldable pub more : Bytes → Option Bytes
more line = if nat_lt (position_or_len (λ b. b == 32) line) (length line) then Some
    (after_first (λ b. b == 32) line) else None

-- what follows, empty where nothing does
unfoldable pub text : Option Bytes → Bytes
text rest = unwrap_or rest []

-- one word: not empty, and without a space
unfoldable pub is_word : Bytes → Bool
is_word t = not (length t == 0) && not (list_any (λ b. b == 32) t)

-- the first word isn't empty
unfoldable pub begins_with_word : Bytes → Bool
begins_with_word t = not (length (word t) == 0)

-- the name of a ticket: 1 to 16 ASCII letters or digits
unfoldable pub is_ticket_name : Bytes → Bool
is_ticket_name t = not (length t == 0) && nat_le (length t) 16 && list_all is_ascii_alphanumeric t

-- the name of a client: the same, the first a letter, and not `phase`
unfoldable pub is_client_name : Bytes → Bool
is_client_name t = is_ascii_alphabetic (slice_index t 0) && is_ticket_name t && not (same_text t (codes "phase"))

-- decimal digits, one or more, and no sign
unfoldable pub is_decimal : Bytes → Bool
is_decimal t = not (length t == 0) && all_ascii_digits t

-- decimal digits whose number is from low to high
unfoldable pub is_number : ℕ → ℕ → Bytes → Bool
is_number low high t = is_decimal t && nat_le low (digits_value 10 t) && nat_le (digits_value 10 t) high

-- `-`, `=KEY` or `>KEY`
unfoldable pub is_start : Bytes → Bool
is_start t = same_text t (codes "-") || (slice_index t 0 == 61) || (slice_index t 0 == 62)

-- `-` or a number of 64 bits
unfoldable pub is_limit : Bytes → Bool
is_limit t = same_text t (codes "-") || is_number 0 (2 ^ 64 - 1) t

-- one of the text forms of a UUID (RFC 9562)
unfoldable pub is_uuid : Bytes → Bool
is_uuid t = is_some (parsed t)

-- the UUID's lower-case hyphenated form
unfoldable pub uuid_said : Bytes → Bytes
uuid_said t = hyphenated_text lower (unwrap_or (parsed t) [])

-- JSON whose numbers are whole
unfoldable pub is_json : Bytes → Bool
is_json t = is_ok (json_text t)

-- the text that was read, empty where none was
abbrev pub read_text : Result Bytes Refusal → Bytes
read_text (Ok t) = t
read_text (Err e) = []

-- its compact text
unfoldable pub json_said : Bytes → Bytes
json_said t = read_text (json_text t)

-- the prefix of a scan: `-` is the empty one
unfoldable pub prefix_said : Bytes → Bytes
prefix_said t = if same_text t (codes "-") then [] else t

-- the start of a scan: at the key after `=`, after the key behind `>`
unfoldable pub start_said : Bytes → Start
start_said t = if same_text t (codes "-") then Any else
    (if slice_index t 0 == 61 then At (drop 1 t) else After (drop 1 t))

-- the limit of a scan: `-` is none
unfoldable pub limit_said : Bytes → Option ℕ
limit_said t = if same_text t (codes "-") then None else Some (digits_value 10 t)
