-- What stops a proposal, and what causes a refusal has.
use Rattle.std.proofs.Common.{◌≡◌, inl, inr, true, ap}
use Rattle.group_history.specs.declared.refusals.Refusal.{Refusal}
use Rattle.linearized.specs.Answered.{is_resource_refusal}
use Rattle.change_tries.specs.Missing.{IsStop}

-- it is a want of something
pub stop_wants : (reused : Type 0) (e : Refusal) → IsStop reused e → is_resource_refusal e ≡ true
stop_wants reused e (inl is) = ap is_resource_refusal is
stop_wants reused e (inr (inl is)) = ap is_resource_refusal is
stop_wants reused e (inr (inr (inl is))) = ap is_resource_refusal is
stop_wants reused e (inr (inr (inr is))) = ap is_resource_refusal is.1
