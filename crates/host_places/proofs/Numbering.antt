-- Calls by numbers.
use Rattle.std.proofs.Common.{ℕ, ◌≡◌, inl, inr, arith}
use Rattle.std.specs.Prelude.{Bool}
use Rattle.group_history.specs.Map.{Bytes}
use Rattle.group_history.specs.Meaning.{Meanings}
use Rattle.client_desk.specs.declared.calls.DeskCall.{DeskCall}
use Rattle.client_desk.specs.declared.calls.DeskCall.TheVariants as call
use Rattle.client_desk.specs.Drafts.{HasRunAsMeant}
use Rattle.client_desk.specs.Places.{PlaceState}
use Rattle.host_places.specs.Numbers.{HasKey, IsCall}

-- a call that has a key tells of no run
no_run_key : (what : ℕ) → HasKey what → what ≡ 23 → ⊥
no_run_key what (inl e) is = omega (arith, e, is)
no_run_key what (inr (inl e)) is = omega (arith, e, is)
no_run_key what (inr (inr (inl e))) is = omega (arith, e, is)
no_run_key what (inr (inr (inr (inl e)))) is = omega (arith, e, is)
no_run_key what (inr (inr (inr (inr (inl e))))) is = omega (arith, e, is)
no_run_key what (inr (inr (inr (inr (inr e))))) is = omega (arith, e, is)

pub key_run : (has : Bytes → Bool) (means : Meanings) (place : PlaceState) (c : DeskCall) (what m n : ℕ) (a b : Bytes)
    → HasKey what → IsCall c what m n a b → HasRunAsMeant has means place c
key_run has means place (call.Ran ran) what m n a b key (is, said) = absurd (no_run_key what key is)
key_run has means place other what m n a b key is = tt
