-- What holds of the arguments of a mutator and of their parts.
use Rattle.std.proofs.Common.{◌≡◌, ◌≢◌, List, [], ◌∷◌, length, Bool, true, false, ◌||◌, Some, None}
use Rattle.std.proofs.Common.{IfSome, refl, sym, ap, subst, arith}
use Rattle.serde_json.specs.Data.{Data, null, boolean, number, string, array, object, no_items, item}
use Rattle.serde_json.specs.View.{items_view}
use Rattle.serde_json.specs.declared.value.Value.{Value}
use Rattle.group_history.specs.Map.{Bytes, Entries}
use Rattle.group_history.specs.Meaning.{Meaning}
use Rattle.std.specs.Prelude.{Option}
use Rattle.group_history.specs.Meaning.{needs, value_of}
use Rattle.group_history.proofs.Readings.{HasText}
use Rattle.script_mutators.specs.Mutators.{wrong_arguments, one_item, two_items, text_and_value}
use Rattle.script_mutators.specs.Mutators.{meaning_at_text}
use Rattle.script_mutators.specs.Inside.Mutators.{meaning_at}

-- where the arguments are of another number
pub no_one_item : (vs : List Value) → length vs ≢ 1 → one_item (items_view vs) ≡ None
no_one_item [] other = refl
no_one_item (a ∷ []) other = absurd (other refl)
no_one_item (a ∷ b ∷ vs) other = refl

pub no_two_items : (vs : List Value) → length vs ≢ 2 → two_items (items_view vs) ≡ None
no_two_items [] other = refl
no_two_items (a ∷ []) other = refl
no_two_items (a ∷ b ∷ []) other = absurd (other refl)
no_two_items (a ∷ b ∷ v ∷ vs) other = refl

left_of_or : (b : Bool) → (b || false) ≡ false → b ≡ false
left_of_or true h = h
left_of_or false h = refl

-- by the forms that arguments have
HasText-part : (args : Data) → HasText args → IfSome (text_and_value args) (λ both. HasText both.1)
unfolding text_and_value
HasText-part null h = tt
HasText-part (boolean b) h = tt
HasText-part (number n) h = tt
HasText-part (string s) h = tt
HasText-part (object ms) h = tt
HasText-part (array no_items) h = tt
HasText-part (array (item a no_items)) h = tt
HasText-part (array (item null (item v no_items))) h = tt
HasText-part (array (item (boolean b) (item v no_items))) h = tt
HasText-part (array (item (number n) (item v no_items))) h = tt
HasText-part (array (item (string s) (item v no_items))) h = (omega (arith, h.0), left_of_or _ h.1)
HasText-part (array (item (array ds) (item v no_items))) h = tt
HasText-part (array (item (object ms) (item v no_items))) h = tt
HasText-part (array (item a (item v (item b ds)))) h = tt

-- the value beside a key, where the arguments have a compact text
pub HasText-value : (args : Data) (both : Bytes × Data) → HasText args → Some both ≡ text_and_value args
    → HasText both.1
HasText-value args both h is = subst (λ o. IfSome o (λ both. HasText both.1)) (sym is) (HasText-part args h)

-- at arguments that read as a value a mutator means what it means at the value
pub means_read : (means : Option (Data → Entries → Meaning)) (args : Bytes) (d : Data) (m : Entries)
    → value_of args ≡ Some d → meaning_at_text means args m ≡ meaning_at means d m
means_read None args d m is = refl
means_read (Some means) args d m is = ap (λ o. needs wrong_arguments o (λ a. means a m)) is
