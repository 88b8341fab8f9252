-- JSON as this product reads and writes it, by the reading and the compact text of `serde_json`.
-- Source: RFC 8259; the limits of depth and whole numbers are this project's own rules.
use Rattle.std.specs.Prelude.{ℕ, List, Option, Some, None, Result, Ok, Err, nat_le, if◌then◌else◌}
use Rattle.std.specs.Str.{is_utf8}
use Rattle.serde_json.specs.Data.{Data, depth}
use Rattle.serde_json.specs.Read.{read}
use Rattle.serde_json.specs.Written.{has_float, compact_text}
use Rattle.group_history.specs.declared.refusals.Refusal.{Refusal}
use Rattle.group_history.specs.declared.refusals.Refusal.TheVariants.{NotJson, NotWhole}
use Rattle.group_history.specs.Answers.{◌>>=◌}

-- a value, or NotJson where there is none
abbrev pub or_not_json : Option Data → Result Data Refusal
or_not_json None = Err NotJson
or_not_json (Some d) = Ok d

-- the value that bytes are: UTF-8, one JSON text, nested at most 127 deep
unfoldable pub reading : List ℕ → Result Data Refusal
reading bytes = if is_utf8 bytes then or_not_json (read bytes) else Err NotJson

-- the compact text of a value nested at most 124 deep, whose numbers are whole; depth goes first
unfoldable pub text_of : Data → Result (List ℕ) Refusal
text_of d = if nat_le (depth d) 124 then (if has_float d then Err NotWhole else Ok (compact_text d)) else Err NotJson

-- the compact text of what bytes are
abbrev pub json_text : List ℕ → Result (List ℕ) Refusal
json_text bytes = reading bytes >>= text_of
