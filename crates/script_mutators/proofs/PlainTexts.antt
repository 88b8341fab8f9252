-- What plain texts are read as.
use Rattle.std.proofs.Common.{◌≡◌, ◌<◌, ◌≤◌, ◌^◌, ℤ, pos, negsuc, List, [], ◌∷◌, ◌++◌, Some, option_map, Ok, false}
use Rattle.std.proofs.Common.{option_and_then, IsUtf8, refl, sym, ap, ◌∙◌, arith, append_assoc, append-nil, lt-ltb}
use Rattle.std.specs.Prelude.{Option}
use Rattle.std.specs.Fmt.{signed_decimal}
use Rattle.std.proofs.lemmas.Str.{is_utf8-from_IsUtf8}
use lib.Signed.{mag}
use Rattle.json.specs.Json as json
use Rattle.json.specs.Json.{if_last, value}
use Rattle.json.specs.Print.{escape, quoted}
use Rattle.json.specs.Token.{Token}
use Rattle.json.specs.Tree as tree
use Rattle.json.specs.Tree.{json_tokens, HasNumbers}
use Rattle.json.proofs.Printed.Decimals.{IsNumber-decimal, IsNumber-signed_decimal}
use Rattle.json.proofs.Printed.Tokens.{tokens-print}
use Rattle.json.proofs.Printed.Trees.{value-json_tokens, ArePrintable-json_tokens}
use Rattle.serde_json.specs.Data.{Data, number, string, array, no_items, item}
use Rattle.serde_json.specs.Read.{of_json, read, max_depth}
use Rattle.serde_json.specs.Written.{outline, has_float, compact_text}
use Rattle.serde_json.proofs.Numbers.{number_of-decimal, number_of-negative}
use Rattle.serde_json.proofs.Texts.{print-outline}
use Rattle.group_history.specs.Cookies.{value_read}
use Rattle.group_history.specs.Json.{reading, or_not_json, json_text}
use Rattle.group_history.specs.Map.{Bytes}
use Rattle.group_history.specs.Meaning.{value_of}
use Rattle.group_history.proofs.Readings.{json_text-compact}
use Rattle.script_mutators.specs.Mutators.{number_of}
use Rattle.script_mutators.specs.Inside.Arguments.{integer}

-- the JSON that tokens are
abbrev json_at : List Token → Option json.Json
json_at ts = option_and_then (λ p. if_last p.0 p.1) (value max_depth ts)

read-compact_text : (d : Data) → HasNumbers (outline d) → tree.depth (outline d) ≤ max_depth
    → read (compact_text d) ≡ of_json (outline d)
read-compact_text d numbers shallow =
    let ts = json_tokens (outline d) in
    ap read (sym (print-outline d))
    ∙ ap (λ us. option_and_then of_json (json_at us))
    (tokens-print ts (ArePrintable-json_tokens (outline d) numbers) ∙ sym (append-nil ts))
    ∙ ap (λ o. option_and_then of_json (option_and_then (λ p. if_last p.0 p.1) o))
    (value-json_tokens (outline d) max_depth [] shallow)

value_of-read : (text : Bytes) (d : Data) → IsUtf8 text → read text ≡ Some d → value_of text ≡ Some d
unfolding reading
value_of-read text d utf8 is = rw (is_utf8-from_IsUtf8 text utf8) (ap (λ o. value_read (or_not_json o)) is)

-- a text that is what is written for a value
pub record IsWritten (text : Bytes) (d : Data) : Type 0 where
  pub same : text ≡ compact_text d
  pub numbers : HasNumbers (outline d)
  pub shallow : tree.depth (outline d) ≤ 0
  pub back : of_json (outline d) ≡ Some d

value_of-compact : (text : Bytes) (d : Data) → IsUtf8 text → text ≡ compact_text d → HasNumbers (outline d)
    → tree.depth (outline d) ≤ max_depth → of_json (outline d) ≡ Some d
    → value_of text ≡ Some d
value_of-compact text d utf8 same numbers shallow back =
    value_of-read text d utf8 (ap read same ∙ read-compact_text d numbers shallow ∙ back)

value_of-written : (text : Bytes) (d : Data) → IsUtf8 text → IsWritten text d → value_of text ≡ Some d
value_of-written text d utf8 w = value_of-compact text d utf8 w.same w.numbers (omega (arith, w.shallow)) w.back

-- ---- a whole number

compact_text-whole : (z : ℤ) → compact_text (integer z) ≡ signed_decimal z
compact_text-whole (pos n) = refl
compact_text-whole (negsuc n) = refl

HasNumbers-whole : (z : ℤ) → mag z < 2 ^ 63 → HasNumbers (outline (integer z))
HasNumbers-whole (pos n) h = IsNumber-decimal n (omega arith)
HasNumbers-whole (negsuc n) h = IsNumber-signed_decimal (negsuc n) h

back-whole : (z : ℤ) → mag z < 2 ^ 63 → of_json (outline (integer z)) ≡ Some (integer z)
back-whole (pos n) h = ap (option_map number) (number_of-decimal n (omega arith))
back-whole (negsuc n) h = ap (option_map number) (number_of-negative n (omega arith))

pub written-whole : (text : Bytes) (z : ℤ) → text ≡ signed_decimal z → mag z < 10 ^ 18 → IsWritten text (integer z)
written-whole text z same low = record {
  same = same ∙ sym (compact_text-whole z);
  numbers = HasNumbers-whole z (omega arith);
  shallow = omega arith;
  back = back-whole z (omega arith);
}

-- a number's text is its own compact text
pub json_text-whole : (text : Bytes) (z : ℤ) → IsUtf8 text → text ≡ signed_decimal z → mag z < 2 ^ 63
    → json_text text ≡ Ok text
json_text-whole text z utf8 same fits =
    let to = same ∙ sym (compact_text-whole z) in
    let is = ap read to ∙ read-compact_text (integer z) (HasNumbers-whole z fits) (omega arith) ∙ back-whole z fits in
    json_text-compact (integer z) text utf8 is to (omega arith) (is_no_float z)
  where
    is_no_float : (z : ℤ) → has_float (integer z) ≡ false
    is_no_float (pos n) = refl
    is_no_float (negsuc n) = refl

number_of-whole : (z : ℤ) → mag z < 2 ^ 63 → number_of (integer z) ≡ Some z
number_of-whole (pos n) h = rw (lt-ltb n (2 ^ 63) h) refl
number_of-whole (negsuc n) h = refl

-- the number that such a text is
pub number_at-plain : (text : Bytes) (z : ℤ) → IsUtf8 text → text ≡ signed_decimal z → mag z < 10 ^ 18
    → Some z ≡ option_and_then number_of (value_of text)
number_at-plain text z utf8 same low =
    let is = value_of-written text (integer z) utf8 (written-whole text z same low) in
    sym (ap (option_and_then number_of) is ∙ number_of-whole z (omega arith))

-- ---- a text without escapes

pub written-text : (text s : Bytes) → text ≡ quoted s → IsWritten text (string s)
written-text text s same = record { same = same; numbers = tt; shallow = omega arith; back = refl }

pub value_of-plain_text : (text s : Bytes) → IsUtf8 text → text ≡ quoted s → value_of text ≡ Some (string s)
value_of-plain_text text s utf8 same = value_of-written text (string s) utf8 (written-text text s same)

-- ---- plain arguments

pub value_of-alone : (text key : Bytes) → IsUtf8 text → text ≡ 91 ∷ 34 ∷ (key ++ 34 ∷ 93 ∷ []) → escape key ≡ key
    → value_of text ≡ Some (array (item (string key) no_items))
value_of-alone text key utf8 same plain =
    value_of-compact text (array (item (string key) no_items)) utf8
    (same ∙ rw plain (ap (λ s. 91 ∷ 34 ∷ s) (sym (append_assoc key (34 ∷ []) (93 ∷ [])))))
    (tt, tt) (omega arith) refl

pub value_of-both : (text key other : Bytes) (d : Data) → IsUtf8 text
    → text ≡ 91 ∷ 34 ∷ (key ++ 34 ∷ 44 ∷ (other ++ 93 ∷ [])) → escape key ≡ key → IsWritten other d
    → value_of text ≡ Some (array (item (string key) (item d no_items)))
value_of-both text key other d utf8 same plain w =
    value_of-compact text (array (item (string key) (item d no_items))) utf8
    (same ∙ rw (plain, sym w.same) (ap (λ s. 91 ∷ 34 ∷ s) (sym (append_assoc key (34 ∷ []) (44 ∷ (other ++ 93 ∷ []))))))
    (tt, (w.numbers, tt)) (omega (arith, w.shallow)) (rw w.back refl)
