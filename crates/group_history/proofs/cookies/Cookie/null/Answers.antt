use Rattle.std.proofs.Common.{◌≡◌, codes, Some, refl}
use Rattle.std.specs.Str.{is_utf8, chars}
use Rattle.group_history.specs.Cookies.{cookie_at, cookie_of, null_cookie}
use Rattle.group_history.specs.Json.{reading}
use Rattle.serde_json.proofs.OnLiterals.{serde_json_on_literals}
use Rattle.group_history.proofs.cookies.Cookie.null.Goals as goal

null_at : cookie_at (codes "null") ≡ Some null_cookie
unfolding cookie_at cookie_of reading is_utf8 chars serde_json_on_literals
null_at = refl

pub invariant_of-result : goal.invariant_of-result
invariant_of-result c = rw c.in_ok-new.ensures null_at
