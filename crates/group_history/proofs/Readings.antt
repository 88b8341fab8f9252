-- What the reading of bytes is.
use Rattle.std.proofs.Common.{◌≡◌, ℕ, ◌≤◌, List, Bool, true, false, cond, Some, None, Ok, Err, refl, sym, ap, ◌∙◌}
use Rattle.std.proofs.Common.{IsUtf8, nat_le, not}
use Rattle.std.specs.Str.{is_utf8}
use Rattle.std.proofs.lemmas.Bool.{le-leb, leb-true}
use Rattle.std.proofs.lemmas.Str.{IsUtf8-from_is_utf8, is_utf8-from_IsUtf8}
use Rattle.serde_json.specs.Data.{Data, depth}
use Rattle.serde_json.specs.Written.{has_float, compact_text}
use Rattle.group_history.specs.Answers.{◌>>=◌}
use Rattle.serde_json.specs.Read.{read}
use Rattle.group_history.specs.declared.refusals.Refusal.TheVariants.{NotJson, NotWhole}
use Rattle.group_history.specs.declared.cookies.Order.{Order}
use Rattle.group_history.specs.Cookies.{order_of, cookie_of, cookie_at}
use Rattle.group_history.specs.Json.{reading, or_not_json, text_of, json_text}

pub reading-ok : (bytes : List ℕ) (d : Data) → IsUtf8 bytes → read bytes ≡ Some d → reading bytes ≡ Ok d
unfolding reading
reading-ok bytes d utf8 is = rw (is_utf8-from_IsUtf8 bytes utf8) (ap or_not_json is)

none_at : (b : Bool) (bytes : List ℕ) → is_utf8 bytes ≡ b → (IsUtf8 bytes → read bytes ≡ None)
    → cond b (or_not_json (read bytes)) (Err NotJson) ≡ Err NotJson
none_at true bytes is none = ap or_not_json (none (IsUtf8-from_is_utf8 bytes is))
none_at false bytes is none = refl

pub reading-none : (bytes : List ℕ) → (IsUtf8 bytes → read bytes ≡ None) → reading bytes ≡ Err NotJson
unfolding reading
reading-none bytes none = none_at (is_utf8 bytes) bytes refl none

pub text_of-deep : (d : Data) → nat_le (depth d) 124 ≡ false → text_of d ≡ Err NotJson
unfolding text_of
text_of-deep d deep = rw deep

pub text_of-float : (d : Data) → depth d ≤ 124 → has_float d ≡ true → text_of d ≡ Err NotWhole
unfolding text_of
text_of-float d shallow float = rw (le-leb (depth d) 124 shallow, float)

pub text_of-ok : (d : Data) → depth d ≤ 124 → has_float d ≡ false → text_of d ≡ Ok (compact_text d)
unfolding text_of
text_of-ok d shallow whole = rw (le-leb (depth d) 124 shallow, whole)

-- a value's compact text is its own
pub json_text-compact : (d : Data) (text : List ℕ) → IsUtf8 text → read text ≡ Some d → text ≡ compact_text d
    → depth d ≤ 124 → has_float d ≡ false → json_text text ≡ Ok text
json_text-compact d text utf8 is same shallow whole =
    ap (λ r. r >>= text_of) (reading-ok text d utf8 is) ∙ text_of-ok d shallow whole ∙ ap Ok (sym same)

pub not-true : (b : Bool) → not b ≡ true → b ≡ false
not-true true h = sym h
not-true false h = refl

pub not-false : (b : Bool) → not b ≡ false → b ≡ true
not-false true h = refl
not-false false h = sym h

-- a compact text is the cookie that its value is
pub cookie_at-compact : (d : Data) (text : List ℕ) (o : Order) → IsUtf8 text → read text ≡ Some d
    → text ≡ compact_text d → depth d ≤ 126 → has_float d ≡ false → order_of d ≡ Some o
    → cookie_at text ≡ Some (record { text = text; order = o })
unfolding cookie_at cookie_of
cookie_at-compact d text o utf8 is same shallow whole order =
    rw (reading-ok text d utf8 is, le-leb (depth d) 126 shallow, whole, order)
    (ap (λ t. Some (record { text = t; order = o })) (sym same))

-- A value that has a compact text: it nests at most 124 deep, and no number in it is a float.
abbrev pub HasText : Data → Type 0
HasText d = (depth d ≤ 124) × (has_float d ≡ false)

-- by what the two tests on a value answer
HasText-at : (shallow float : Bool) (d : Data) (text : List ℕ) → nat_le (depth d) 124 ≡ shallow → has_float d ≡ float
    → cond shallow (cond float (Err NotWhole) (Ok (compact_text d))) (Err NotJson) ≡ Ok text → HasText d
HasText-at true false d text shallow whole is = (leb-true _ _ shallow, whole)
HasText-at true true d text shallow float is = cc
HasText-at false float d text deep e is = cc

-- a value that has a compact text
pub HasText-text_of : (d : Data) (text : List ℕ) → text_of d ≡ Ok text → HasText d
unfolding text_of
HasText-text_of d text is = HasText-at _ _ d text refl refl is
