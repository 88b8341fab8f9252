-- What bytes say.
use Rattle.std.proofs.Common.{◌≡◌, Option, Some, None, Ok, Err, refl, ap}
use Rattle.std.proofs.lemmas.Bool.{false_from_ne_true}
use Rattle.std.proofs.lemmas.Str.{is_utf8-from_IsUtf8, IsUtf8-from_is_utf8}
use Rattle.std.specs.Str.{IsUtf8, is_utf8}
use Rattle.group_history.specs.Map.{Bytes}
use Rattle.client_desk.specs.declared.faults.CallFault.TheVariants.{BadUuid, NotUtf8}
use Rattle.client_desk.specs.declared.outcomes.Outcome.TheVariants.{Faulty}
use Rattle.host_places.specs.Asking.{or_bad_uuid, text_said}
use Rattle.uuid.specs.Text.{parsed}

pub text_utf8 : (bytes : Bytes) → IsUtf8 bytes → text_said bytes ≡ Ok bytes
text_utf8 bytes is = rw (is_utf8-from_IsUtf8 bytes is)

pub text_other : (bytes : Bytes) → (IsUtf8 bytes → ⊥) → text_said bytes ≡ Err (Faulty NotUtf8)
text_other bytes other = rw (false_from_ne_true (is_utf8 bytes) (λ e. other (IsUtf8-from_is_utf8 bytes e)))

-- a text that is no UUID
pub no_uuid : (text : Bytes) → ((u : Bytes) × (parsed text ≡ Some u) → ⊥)
    → or_bad_uuid (parsed text) ≡ Err (Faulty BadUuid)
no_uuid text none = by_cases (parsed text) refl where
  by_cases : (p : Option Bytes) → parsed text ≡ p → or_bad_uuid (parsed text) ≡ Err (Faulty BadUuid)
  by_cases None is = ap or_bad_uuid is
  by_cases (Some u) is = absurd (none (u, is))
