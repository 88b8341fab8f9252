-- Facts of an answer that is Ok, or Err.
use Rattle.std.proofs.Common.{Result, Ok, Err, OnOk, OnErr, IfOk}

pub on_ok : {A E P Q : Type 0} (r : Result A E) → OnOk r P → (P → Q) → OnOk r Q
on_ok (Ok a) p f = f p
on_ok (Err e) p f = tt

pub on_err : {A E P Q : Type 0} (r : Result A E) → OnErr r P → (P → Q) → OnErr r Q
on_err (Ok a) p f = tt
on_err (Err e) p f = f p

pub either_way : {A E P Q R : Type 0} (r : Result A E) → OnOk r P → OnErr r Q → (P → R) → (Q → R) → R
either_way (Ok a) p q f g = f p
either_way (Err e) p q f g = g q

pub both_ok : {A E P Q R : Type 0} (r : Result A E) → OnOk r P → OnOk r Q → (P → Q → R) → OnOk r R
both_ok (Ok a) p q f = f p q
both_ok (Err e) p q f = tt

pub if_ok_so : {A E : Type 0} {P R : A → Type 0} (r : Result A E) → IfOk r P → ((x : A) → P x → R x) → IfOk r R
if_ok_so (Ok x) p f = f x p
if_ok_so (Err e) p f = tt
