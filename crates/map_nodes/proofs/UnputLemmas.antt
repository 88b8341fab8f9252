-- Why a row isn't put, and what a put finds at its key.
use Rattle.std.proofs.Common.{inl, inr, Option, Result, Ok, Err, IfErr}
use Rattle.std.specs.Result.{IsErrAnd}
use Rattle.group_history.specs.declared.mutators.Stop.{Stop}
use Rattle.group_history.specs.declared.mutators.Update.{Update}
use Rattle.group_history.specs.Map.{Bytes}
use Rattle.map_nodes.specs.Inside.Unput.{IsUnput}
use Rattle.map_nodes.specs.declared.nodes.putting.PutRefused.{PutRefused}
use Rattle.map_nodes.specs.declared.nodes.putting.PutRefused.TheVariants.{Stopped, Same, Refused}

-- where no chunk was read
pub unput_anyhow : {A : Type 0} (makes : Result Update Stop → Type 0) (stops : Stop → Type 0)
    (found : Option Bytes) (r : Result A PutRefused) → IfErr r (IsUnput makes (λ _. ⊥) found)
    → IfErr r (IsUnput makes stops found)
unput_anyhow makes stops found (Ok x) h = tt
unput_anyhow makes stops found (Err (Stopped s)) h =
    elim h [ inl e ↦ inl e | inr e ↦ elim e [ inl f ↦ absurd f | inr f ↦ inr (inr f) ] ]
unput_anyhow makes stops found (Err Same) h = h
unput_anyhow makes stops found (Err (Refused code)) h = h

-- a refusal that is handed on
pub handed_on : {A E : Type 0} {P Q : E → Type 0} (r : Result A E) → IsErrAnd r Q → ((e : E) → Q e → P e) → IfErr r P
handed_on (Ok x) a f = absurd a
handed_on (Err e) a f = f e a
