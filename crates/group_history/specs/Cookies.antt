-- Cookies, and their order.
-- Source: Pull Endpoint Reference, "cookie"; the order is this project's own rule.
use Rattle.std.specs.Prelude.{nat_le, codes, if◌then◌else◌, Option, Some, None, Result, Ok, Err, option_and_then}
use Rattle.std.specs.Prelude.{option_map}
use Rattle.std.specs.Ordering.{nat_cmp, int_cmp}
use Rattle.std.specs.Cmp.Lexicographic.{slice_cmp}
use Rattle.std.specs.declared.cmp.Ordering.{Ordering}
use Rattle.std.specs.declared.cmp.Ordering.TheVariants.{Less, Equal, Greater}
use Rattle.serde_json.specs.Data as tree
use Rattle.serde_json.specs.Data.{Data, boolean, string, array, object, depth}
use Rattle.serde_json.specs.Find.{get_member, as_integer}
use Rattle.serde_json.specs.Written.{has_float, compact_text}
use Rattle.group_history.specs.declared.refusals.Refusal.{Refusal}
use Rattle.group_history.specs.declared.cookies.Order.{Order}
use Rattle.group_history.specs.declared.cookies.Order.TheVariants as order
use Rattle.group_history.specs.Map.{Bytes}
use Rattle.group_history.specs.Json.{reading}

-- a cookie: its compact text, and what it is compared by
pub record Cookie : Type 0 where
  pub text : Bytes
  pub order : Order

-- the cookie with which a group opens
abbrev pub null_cookie : Cookie
null_cookie = record { text = codes "null"; order = order.Null }

-- null is below every number, every number below every text; numbers by value, texts by their bytes
abbrev pub order_cmp : Order → Order → Ordering
order_cmp order.Null order.Null = Equal
order_cmp order.Null (order.Number b) = Less
order_cmp order.Null (order.Text b) = Less
order_cmp (order.Number a) order.Null = Greater
order_cmp (order.Number a) (order.Number b) = int_cmp a b
order_cmp (order.Number a) (order.Text b) = Less
order_cmp (order.Text a) order.Null = Greater
order_cmp (order.Text a) (order.Number b) = Greater
order_cmp (order.Text a) (order.Text b) = slice_cmp nat_cmp a b

-- what a number or a text is compared by
abbrev pub plain_order_of : Data → Option Order
plain_order_of tree.null = None
plain_order_of (boolean b) = None
plain_order_of (tree.number n) = option_map order.Number (as_integer n)
plain_order_of (string s) = Some (order.Text s)
plain_order_of (array ds) = None
plain_order_of (object ms) = None

-- what a value is compared by as a cookie; an object by its field `order`
abbrev pub order_of : Data → Option Order
order_of tree.null = Some order.Null
order_of (boolean b) = None
order_of (tree.number n) = plain_order_of (tree.number n)
order_of (string s) = plain_order_of (string s)
order_of (array ds) = None
order_of (object ms) = option_and_then plain_order_of (get_member (codes "order") ms)

-- the compact text of a value whose numbers are whole
abbrev pub whole_text : Data → Option Bytes
whole_text d = if has_float d then None else Some (compact_text d)

-- the cookie that a value is
unfoldable pub cookie_of : Data → Option Cookie
cookie_of d = option_and_then (λ s. option_map (λ o. record { text = s; order = o }) (order_of d)) (whole_text d)

abbrev pub value_read : Result Data Refusal → Option Data
value_read (Ok d) = Some d
value_read (Err e) = None

-- the cookie that a text is: what it is read as, nested at most 126 deep, one level less than a body
unfoldable pub cookie_at : Bytes → Option Cookie
cookie_at s = option_and_then (λ d. if nat_le (depth d) 126 then cookie_of d else None) (value_read (reading s))
