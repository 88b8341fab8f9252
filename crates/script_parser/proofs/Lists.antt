-- Searches in a list of views, and the first byte of a text.
use Rattle.std.proofs.Common.{Option, Some, None, is_some, ◌≡◌, ◌≢◌, ◌<◌, ℕ, Bool, false, ◌&&◌, ◌==◌, not, List}
use Rattle.std.proofs.Common.{[], ◌∷◌, map, slice_index, refl, ap, arith}
use Rattle.std.proofs.lemmas.Bool.{ne_eqb}
use Rattle.std.proofs.lemmas.List.{length-map}
use Rattle.std.specs.Char.{is_ascii_digit}
use Rattle.std.specs.List.{prefix_len, position, list_all}
use Rattle.std.specs.Str.{all_ascii_digits}

prefix_len-map : {X Y : Type 0} (p : Y → Bool) (f : X → Y) (xs : List X)
    → prefix_len p (map f xs) ≡ prefix_len (λ x. p (f x)) xs
prefix_len-map p f [] = refl
prefix_len-map p f (x ∷ xs) = rw (prefix_len-map p f xs)

-- the first of the views that passes stands where its value does
pub position-map : {X Y : Type 0} (p : Y → Bool) (f : X → Y) (xs : List X)
    → position p (map f xs) ≡ position (λ x. p (f x)) xs
position-map p f xs = rw (prefix_len-map (λ y. not (p y)) f xs, length-map xs f)

-- the test of each byte for a digit
pub all_digits : (bs : List ℕ) → list_all is_ascii_digit bs ≡ all_ascii_digits bs
all_digits [] = refl
all_digits (b ∷ bs) = ap (λ rest. is_ascii_digit b && rest) (all_digits bs)

-- a text that is no c with a rest begins with another byte, or is empty
pub begins_otherwise : (c : ℕ) (bs : List ℕ) → 0 < c → ((rest : List ℕ) → bs ≢ c ∷ rest)
    → (slice_index bs 0 == c) ≡ false
begins_otherwise c [] above other = ne_eqb 0 c (λ e. absurd (omega arith))
begins_otherwise c (b ∷ bs) above other = ne_eqb b c (λ e. other bs (ap (λ x. x ∷ bs) e))

-- an option that is no value is none
pub none_from : {A : Type 0} (o : Option A) → ((u : A) × (o ≡ Some u) → ⊥) → is_some o ≡ false
none_from None never = refl
none_from (Some x) never = absurd (never (x, refl))
