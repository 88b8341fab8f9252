-- A read through the next line feed reads a line.
use Rattle.std.proofs.Common.{◌≡◌, ℕ, ◌==◌, Bool, true, false, not, [], ◌∷◌, ◌++◌, length, refl, sym, ap, subst, ◌∙◌}
use Rattle.std.proofs.Common.{arith}
use Rattle.std.proofs.Math.Dec.{eqb-suc-zero}
use Rattle.std.specs.Prelude.{Option, Some, None, IfSome, if◌then◌else◌}
use Rattle.std.specs.Io.BufRead.{take_through, drop_through, strip_last, DropsThrough}
use Rattle.group_history.specs.Map.{Bytes}
use Rattle.script_server.specs.Lines.{HasTakenLine}
use Rattle.script_server.specs.Inside.Reads.{HasRead}

-- of bytes that are there, one at least is before the next line feed, or it is that one
some_through : (x : ℕ) (xs : Bytes) → not (length (take_through 10 (x ∷ xs)) == 0) ≡ true
some_through x xs =
    elim (x == 10) as (λ b. not (length (if b then x ∷ [] else x ∷ take_through 10 xs) == 0) ≡ true)
    [ true ↦ refl | false ↦ ap not (eqb-suc-zero (length (take_through 10 xs))) ]

any_read : (b : Bool) (line : Bytes) (new : Option Bytes) → HasRead None b line new
any_read true line new = tt
any_read false line new = tt

line_taken : (x : ℕ) (xs line : Bytes) (new : Option Bytes) → line ≡ strip_last 10 (take_through 10 (x ∷ xs))
    → new ≡ Some (drop_through 10 (x ∷ xs)) → HasTakenLine (Some (x ∷ xs)) (line ∷ []) new
line_taken x xs line new first rest =
    subst (HasTakenLine (Some (x ∷ xs)) (line ∷ [])) (sym rest) (
      drop_through 10 (x ∷ xs),
      record { more = omega arith; first = first; left = refl },
      refl,
    )

pub read_is : (old new : Option Bytes) (start read line : Bytes) → start ≡ []
    → IfSome old (λ xs. read ≡ start ++ take_through 10 xs) → DropsThrough old new 10 → line ≡ strip_last 10 read
    → HasRead old (not (length read == 0)) line new
read_is None new start read line none is rest first = any_read (not (length read == 0)) line new
read_is (Some []) new start read line none is rest first =
    subst (λ r. HasRead (Some []) (not (length r == 0)) line new)
    (sym (is ∙ ap (λ s. s ++ take_through 10 []) none)) refl
read_is (Some (x ∷ xs)) new start read line none is rest first =
    let e : read ≡ take_through 10 (x ∷ xs) = is ∙ ap (λ s. s ++ take_through 10 (x ∷ xs)) none in
    subst (λ b. HasRead (Some (x ∷ xs)) b line new)
    (sym (ap (λ r. not (length r == 0)) e ∙ some_through x xs))
    (line_taken x xs line new (first ∙ ap (strip_last 10) e) rest)

-- a line that was read was taken
pub was_read : (b : Bool) (old new : Option Bytes) (line : Bytes) → b ≡ true → HasRead old b line new
    → HasTakenLine old (line ∷ []) new
was_read b old new line is read = subst (λ there. HasRead old there line new) is read
