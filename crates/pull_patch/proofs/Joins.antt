-- A response of three fields.
use Rattle.std.proofs.Common.{◌≡◌, List, Option, Some, None, option_map, Result, Ok, Err, refl, sym}
use Rattle.std.specs.Prelude.{ok_or}
use Rattle.serde_json.specs.Data.{Data}
use Rattle.group_history.specs.declared.refusals.Refusal.{Refusal}
use Rattle.group_history.specs.declared.refusals.Refusal.TheVariants.{NoMemory, BadShape, NotWhole}
use Rattle.group_history.specs.declared.responses.Confirmed.{Confirmed}
use Rattle.group_history.specs.declared.responses.Patch.{Patch}
use Rattle.group_history.specs.declared.responses.Response.{Response}
use Rattle.group_history.specs.declared.responses.Response.TheVariants as response
use Rattle.group_history.specs.Answers.{◌>>=◌, AnswersOrNoMemory, Refuses}
use Rattle.group_history.specs.Cookies.{Cookie, cookie_of}
use Rattle.pull_patch.specs.Fields.{◌>>-◌, each}
use Rattle.pull_patch.specs.Operations.{Edit, operation_of}
use Rattle.pull_patch.specs.Changes.{Entry, confirmed_said}
use Rattle.pull_patch.specs.Grammar.{Fields, pull_of, pull_response, fields_of}
use Rattle.pull_patch.specs.Inside.Parts.{cookie_field, changes_field, patch_field, united}

-- what is right of the whole is right of the part that was refused
pub Refuses-through : {A B : Type 0} (e : Refusal) (part : Result A Refusal) (whole : Result B Refusal)
    → ((r : Refusal) → part ≡ Err r → whole ≡ Err r) → Refuses e part → Refuses e whole
Refuses-through NoMemory part whole h p = tt
Refuses-through e part whole h p = h e p

abbrev pub shape : Option Data → Option (List Entry) → Option (List Edit) → Option Fields
shape o p q = o >>- λ c. p >>- λ ms. q >>- λ es. Some (record { cookie = c; entries = ms; edits = es })

abbrev pub said : Option Fields → Result Response Refusal
said o = ok_or o BadShape >>= λ f. ok_or (option_map response.Ok (pull_of f)) NotWhole

abbrev part : {A B : Type 0} → (A → Option B) → Option A → Result (Option B) Refusal
part f o = ok_or (option_map f o) BadShape

first : (o : Option Data) (p : Option (List Entry)) (q : Option (List Edit)) (r : Refusal) → part cookie_of o ≡ Err r
    → said (shape o p q) ≡ Err r
first None p q r h = cc
first (Some c) p q r h = cc

second : (o : Option Data) (p : Option (List Entry)) (q : Option (List Edit)) (r : Refusal)
    → part (each confirmed_said) p ≡ Err r → said (shape o p q) ≡ Err r
second None None q r h = cc
second (Some c) None q r h = cc
second o (Some cs) q r h = cc

third : (o : Option Data) (p : Option (List Entry)) (q : Option (List Edit)) (r : Refusal)
    → part (each operation_of) q ≡ Err r → said (shape o p q) ≡ Err r
third None p None r h = cc
third (Some c) None None r h = cc
third (Some c) (Some cs) None r h = cc
third o p (Some es) r h = cc

whole : (o : Option Data) (p : Option (List Entry)) (q : Option (List Edit)) (c : Option Cookie)
    (cs : Option (List Confirmed)) (ops : Option (List Patch))
    → part cookie_of o ≡ Ok c → part (each confirmed_said) p ≡ Ok cs → part (each operation_of) q ≡ Ok ops
    → said (shape o p q) ≡ united c cs ops
unfolding pull_of
whole None p q c cs ops x y z = absurd (cc)
whole (Some d) None q c cs ops x y z = absurd (cc)
whole (Some d) (Some ds) None c cs ops x y z = absurd (cc)
whole (Some d) (Some ds) (Some es) c cs ops x y z =
    let x' : cookie_of d ≡ c = cc in
    let y' : each confirmed_said ds ≡ cs = cc in
    let z' : each operation_of es ≡ ops = cc in
    rw (x', y', z') refl

pub cookie-refused : (d : Data) (r : Refusal) → cookie_field d ≡ Err r → pull_response d ≡ Err r
unfolding cookie_field pull_response fields_of
cookie-refused d r h = first _ _ _ r h

pub changes-refused : (d : Data) (r : Refusal) → changes_field d ≡ Err r → pull_response d ≡ Err r
unfolding changes_field pull_response fields_of
changes-refused d r h = second _ _ _ r h

pub patch-refused : (d : Data) (r : Refusal) → patch_field d ≡ Err r → pull_response d ≡ Err r
unfolding patch_field pull_response fields_of
patch-refused d r h = third _ _ _ r h

pub fields-joined : (d : Data) (c : Option Cookie) (cs : Option (List Confirmed)) (ops : Option (List Patch))
    → cookie_field d ≡ Ok c → changes_field d ≡ Ok cs → patch_field d ≡ Ok ops → pull_response d ≡ united c cs ops
unfolding cookie_field changes_field patch_field pull_response fields_of
fields-joined d c cs ops x y z = whole _ _ _ c cs ops x y z

pub no_changes : (c : Option Cookie) (ops : Option (List Patch)) → united c None ops ≡ Err NotWhole
no_changes None ops = refl
no_changes (Some c) ops = refl

pub no_patch : (c : Option Cookie) (cs : Option (List Confirmed)) → united c cs None ≡ Err NotWhole
no_patch None cs = refl
no_patch (Some c) None = refl
no_patch (Some c) (Some cs) = refl

-- what is right is an answer
pub AnswersOrNoMemory-is : {X : Type 0} (r right : Result X Refusal) → r ≡ right → AnswersOrNoMemory r right
AnswersOrNoMemory-is (Ok x) right is = sym is
AnswersOrNoMemory-is (Err NoMemory) right is = tt
AnswersOrNoMemory-is (Err e) right is = sym is
