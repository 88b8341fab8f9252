-- The worked examples hold.
use Rattle.std.proofs.Common.{◌≡◌, ℕ, codes, Some, refl, List}
use Rattle.std.specs.Prelude.{pos}
use Rattle.std.specs.Str.{is_utf8, chars}
use Rattle.std.specs.FinMap.{gets, entries-insert}
use Rattle.std.specs.Cmp.Lexicographic.{nat_list_cmp_total}
use Rattle.serde_json.proofs.OnLiterals.{serde_json_on_literals}
use Rattle.group_history.specs.declared.cookies.Order.TheVariants as order
use Rattle.group_history.specs.Json.{reading}
use Rattle.group_history.specs.Cookies.{cookie_at, cookie_of}
use Rattle.group_history.specs.Examples.{WorkedExamples, order_at}
use Rattle.group_history.proofs.TextMaps.{entries-empty}

cookies_read :
    (order_at (codes "7") ≡ Some (order.Number (pos 7))) × (order_at (codes "\"1\"") ≡ Some (order.Text (codes "1")))
    × (order_at (codes "{\"order\":\"1\"}") ≡ Some (order.Text (codes "1")))
unfolding cookie_at cookie_of reading is_utf8 chars serde_json_on_literals
cookies_read = (refl, refl, refl)

pub worked : WorkedExamples
worked = record {
  patch_in_order = refl;
  scan_after_put = simp (entries-insert {X = List ℕ} nat_list_cmp_total, entries-empty) refl;
  optimistic = simp gets refl;
  replayed_on_pull = simp gets refl;
  confirmed = simp gets refl;
  cleared_under_pending = (simp gets refl, simp gets refl, simp gets refl);
  refused_while_cleared = simp gets refl;
  comes_back = simp gets refl;
  overtaken = refl;
  cookies_in_order = (cookies_read.0, cookies_read.1, cookies_read.2, refl, refl);
  same_or_not_new = (refl, refl, refl);
  id_went_back = simp gets refl;
  reasons = (simp gets refl, simp gets refl);
  closes = (refl, simp gets refl);
  closed_for_all = (refl, refl);
}
