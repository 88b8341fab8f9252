-- What holds of an answer, by the branches of a test.
use Rattle.std.proofs.Common.{◌≡◌, Bool, true, false, Option, Result, IfSome, IfOk, if◌then◌else◌, refl}

pub IfOk-if : {X E : Type 0} (test : Bool) (first second : Result X E) (P : X → Type 0) → (test ≡ true → IfOk first P)
    → (test ≡ false → IfOk second P) → IfOk (if test then first else second) P
IfOk-if true first second P here there = here refl
IfOk-if false first second P here there = there refl

pub IfSome-if : {X : Type 0} (test : Bool) (first second : Option X) (P : X → Type 0) → (test ≡ true → IfSome first P)
    → (test ≡ false → IfSome second P) → IfSome (if test then first else second) P
IfSome-if true first second P here there = here refl
IfSome-if false first second P here there = there refl
