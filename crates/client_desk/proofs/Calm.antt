-- A call where no run is asked for, that is no change.
use Rattle.std.proofs.Common.{◌≡◌, ◌⊎◌, inl, inr, Option, Some, None, refl, sym, subst}
use Rattle.std.specs.Prelude.{Bool, false, is_some}
use Rattle.group_history.specs.Map.{Bytes}
use Rattle.group_history.specs.Meaning.{Meanings}
use Rattle.rebase.specs.Running.{UnderWay}
use Rattle.client_desk.specs.declared.calls.DeskCall.{DeskCall}
use Rattle.client_desk.specs.declared.calls.DeskCall.TheVariants as call
use Rattle.client_desk.specs.Answers.{AnswersLooking, AnswersLack, made_room}
use Rattle.client_desk.specs.Calls.{AnswersCalm, MayAnswer, MayAnswerAt, MayLack}
use Rattle.client_desk.specs.Places.{PlaceState}
use Rattle.client_desk.specs.Told.{Told}

pub none_asked : (o : Option UnderWay) (is : Bool) → is ≡ is_some o → is ≡ false → o ≡ None
none_asked None is same off = refl
none_asked (Some a) is same off = cc

left_to_looking : (has : Bytes → Bool) (means : Meanings) (what : DeskCall) (b : PlaceState) (t : Told) (a : PlaceState)
    → ((x : _) → what ≡ call.Mutate x → ⊥) → ((x : _) (y : _) → what ≡ call.End x y → ⊥)
    → AnswersLooking means what b t a → AnswersCalm has means what b t a
left_to_looking has means (call.Mutate x) b t a never _ is = absurd (never x refl)
left_to_looking has means (call.End x y) b t a _ never is = absurd (never x y refl)
left_to_looking has means other b t a _ _ is = is

pub calm_told : (has : Bytes → Bool) (means : Meanings) (what : DeskCall) (b : PlaceState) (t : Told) (a : PlaceState)
    → b.asking ≡ None → ((x : _) → what ≡ call.Mutate x → ⊥) → ((x : _) (y : _) → what ≡ call.End x y → ⊥)
    → (MayLack what × AnswersLack (made_room what b) t a) ⊎ AnswersLooking means what b t a
    → MayAnswer has means what b t a
calm_told has means what b t a none no_mutation no_end (inl lacks) =
    subst (λ o. MayAnswerAt has means what o b t a) (sym none) (inl lacks)
calm_told has means what b t a none no_mutation no_end (inr is) =
    subst (λ o. MayAnswerAt has means what o b t a) (sym none)
    (inr (left_to_looking has means what b t a no_mutation no_end is))
