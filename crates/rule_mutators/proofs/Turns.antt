-- Lists that are read an item at a time: what was read so far stands before what is left.
use Rattle.std.proofs.Common.{◌≡◌, ◌+◌, ◌<◌, ◌≤◌, ℕ, List, [], ◌∷◌, ◌++◌, length, drop, get_or, map, Ok, Err, refl}
use Rattle.std.proofs.Common.{sym, ap, ◌∙◌, append_assoc, string_bytes}
use Rattle.std.proofs.lemmas.List.{at_drop_more, at_drop_all, map-append}
use Rattle.std.specs.Prelude.{Result, Vec}
use Rattle.std.specs.declared.alloc.Global.{Global}
use Rattle.serde_json.specs.View.{view, items_view, members_view}
use Rattle.serde_json.specs.declared.value.Value.{Value}
use Rattle.serde_json.proofs.Views.{Entry}
use Rattle.group_history.specs.Map.{Bytes}
use Rattle.rule_mutators.specs.declared.faults.RuleFault.{RuleFault}
use Rattle.rule_mutators.specs.declared.language.Expr.{Expr}
use Rattle.rule_mutators.specs.declared.language.RuleStep.{RuleStep}
use Rattle.group_history.specs.Answers.{◌>>=◌}
use Rattle.rule_mutators.specs.Reading.{all_said, parts_of, fields_said, list_said, named_said}
use Rattle.rule_mutators.specs.Reading.{expression_said, step_said, rule_said, item_at, member_at}
use Rattle.rule_mutators.specs.Rules as rule
use Rattle.rule_mutators.specs.Views.{expression_of, all_expressions, all_fields, step_of, all_steps, rule_of}

-- what was read, before more
abbrev pub expressions_before : List Expr → rule.Expressions → rule.Expressions
expressions_before [] es = es
expressions_before (x ∷ xs) es = rule.expression (expression_of x) (expressions_before xs es)

abbrev pub fields_before : List (Bytes × Expr) → rule.ObjectFields → rule.ObjectFields
fields_before [] fs = fs
fields_before (x ∷ xs) fs = rule.member x.0 (expression_of x.1) (fields_before xs fs)

abbrev pub steps_before : List RuleStep → rule.StepList → rule.StepList
steps_before [] ss = ss
steps_before (x ∷ xs) ss = rule.step (step_of x) (steps_before xs ss)

pub expressions_before-none : (xs : List Expr) → expressions_before xs rule.no_expressions ≡ all_expressions xs
expressions_before-none [] = refl
expressions_before-none (x ∷ xs) = ap (rule.expression (expression_of x)) (expressions_before-none xs)

pub fields_before-none : (xs : List (Bytes × Expr)) → fields_before xs rule.no_fields ≡ all_fields xs
fields_before-none [] = refl
fields_before-none (x ∷ xs) = ap (rule.member x.0 (expression_of x.1)) (fields_before-none xs)

pub steps_before-none : (xs : List RuleStep) → steps_before xs rule.no_steps ≡ all_steps xs
steps_before-none [] = refl
steps_before-none (x ∷ xs) = ap (rule.step (step_of x)) (steps_before-none xs)

pub expressions_before-push : (xs : List Expr) (x : Expr) (es : rule.Expressions)
    → expressions_before (xs ++ x ∷ []) es ≡ expressions_before xs (rule.expression (expression_of x) es)
expressions_before-push [] x es = refl
expressions_before-push (y ∷ ys) x es = ap (rule.expression (expression_of y)) (expressions_before-push ys x es)

pub fields_before-push : (xs : List (Bytes × Expr)) (x : Bytes × Expr) (fs : rule.ObjectFields)
    → fields_before (xs ++ x ∷ []) fs ≡ fields_before xs (rule.member x.0 (expression_of x.1) fs)
fields_before-push [] x fs = refl
fields_before-push (y ∷ ys) x fs = ap (rule.member y.0 (expression_of y.1)) (fields_before-push ys x fs)

pub steps_before-push : (xs : List RuleStep) (x : RuleStep) (ss : rule.StepList)
    → steps_before (xs ++ x ∷ []) ss ≡ steps_before xs (rule.step (step_of x) ss)
steps_before-push [] x ss = refl
steps_before-push (y ∷ ys) x ss = ap (rule.step (step_of y)) (steps_before-push ys x ss)

-- one turn of such a loop, where the item says x
abbrev turned : {A L : Type 0} → (A → L → L) → Result A RuleFault → Result L RuleFault → (L → L) → Result L RuleFault
turned cons said left old = (said >>= (λ a. left >>= (λ l. Ok (cons a l)))) >>= (λ l. Ok (old l))

turned-ok : {A L : Type 0} (cons : A → L → L) (left : Result L RuleFault) (old new : L → L) (x : A)
    → ((l : L) → new l ≡ old (cons x l)) → (left >>= (λ l. Ok (new l))) ≡ turned cons (Ok x) left old
turned-ok cons (Ok l) old new x same = ap Ok (same l)
turned-ok cons (Err e) old new x same = refl

turn : {A L : Type 0} (cons : A → L → L) (said : Result A RuleFault) (left : Result L RuleFault) (old new : L → L)
    (x : A) → said ≡ Ok x → ((l : L) → new l ≡ old (cons x l))
    → (left >>= (λ l. Ok (new l))) ≡ turned cons said left old
turn cons said left old new x is same =
    turned-ok cons left old new x same ∙ ap (λ s. turned cons s left old) (sym is)

-- expressions, of which the next has the number i
abbrev pub expressions_left : Bytes → ℕ → List Value → List Expr → Result rule.Expressions RuleFault
expressions_left place i vs xs =
    all_said (parts_of place i (items_view vs)) >>= (λ es. Ok (expressions_before xs es))

pub expressions-turn : (place : Bytes) (i : ℕ) (vs : List Value) (v : Value) (xs ys : List Expr) (x : Expr)
    → i < length vs → v ≡ get_or vs i v → expression_said (item_at place i) (view v) ≡ Ok (expression_of x)
    → ys ≡ xs ++ x ∷ []
    → expressions_left place (i + 1) (drop (i + 1) vs) ys ≡ expressions_left place i (drop i vs) xs
expressions-turn place i vs v xs ys x inside at is pushed =
    turn rule.expression (expression_said (item_at place i) (view v))
    (all_said (parts_of place (i + 1) (items_view (drop (i + 1) vs)))) (expressions_before xs) (expressions_before ys)
    (expression_of x) is (λ es. ap (λ zs. expressions_before zs es) pushed ∙ expressions_before-push xs x es)
    ∙ ap (λ w. expressions_left place i (w ∷ drop (i + 1) vs) xs) at
    ∙ sym (at_drop_more (λ ws. expressions_left place i ws xs) vs i v inside)

pub expressions-end : (place : Bytes) (i : ℕ) (vs : List Value) (xs : List Expr) → length vs ≤ i
    → expressions_left place i (drop i vs) xs ≡ Ok (all_expressions xs)
expressions-end place i vs xs over =
    at_drop_all (λ ws. expressions_left place i ws xs) vs i over ∙ ap Ok (expressions_before-none xs)

-- steps, of which the next has the number i
abbrev pub steps_left : Bytes → ℕ → List Value → List RuleStep → Result rule.StepList RuleFault
steps_left place i vs xs = list_said place i (items_view vs) >>= (λ ss. Ok (steps_before xs ss))

pub steps-turn : (place : Bytes) (i : ℕ) (vs : List Value) (v : Value) (xs ys : List RuleStep) (x : RuleStep)
    → i < length vs → v ≡ get_or vs i v → step_said (item_at place i) (view v) ≡ Ok (step_of x) → ys ≡ xs ++ x ∷ []
    → steps_left place (i + 1) (drop (i + 1) vs) ys ≡ steps_left place i (drop i vs) xs
steps-turn place i vs v xs ys x inside at is pushed =
    turn rule.step (step_said (item_at place i) (view v)) (list_said place (i + 1) (items_view (drop (i + 1) vs)))
    (steps_before xs) (steps_before ys) (step_of x) is
    (λ ss. ap (λ zs. steps_before zs ss) pushed ∙ steps_before-push xs x ss)
    ∙ ap (λ w. steps_left place i (w ∷ drop (i + 1) vs) xs) at
    ∙ sym (at_drop_more (λ ws. steps_left place i ws xs) vs i v inside)

pub steps-end : (place : Bytes) (i : ℕ) (vs : List Value) (xs : List RuleStep) → length vs ≤ i
    → steps_left place i (drop i vs) xs ≡ Ok (all_steps xs)
steps-end place i vs xs over =
    at_drop_all (λ ws. steps_left place i ws xs) vs i over ∙ ap Ok (steps_before-none xs)

-- fields, by their members
abbrev pub fields_left : Bytes → List Entry → List (Bytes × Expr) → Result rule.ObjectFields RuleFault
fields_left place es xs = fields_said place (members_view es) >>= (λ fs. Ok (fields_before xs fs))

pub fields-turn : (place : Bytes) (es left : List Entry) (m : Entry) (xs ys : List (Bytes × Expr)) (x : Bytes × Expr)
    → es ≡ m ∷ left → x.0 ≡ string_bytes m.0
    → expression_said (member_at place (string_bytes m.0)) (view m.1) ≡ Ok (expression_of x.1) → ys ≡ xs ++ x ∷ []
    → fields_left place left ys ≡ fields_left place es xs
fields-turn place es left m xs ys x at named is pushed =
    turn (λ e fs. rule.member (string_bytes m.0) e fs) (expression_said (member_at place (string_bytes m.0)) (view m.1))
    (fields_said place (members_view left)) (fields_before xs) (fields_before ys) (expression_of x.1) is
    (λ fs. ap (λ zs. fields_before zs fs) pushed ∙ fields_before-push xs x fs
    ∙ ap (λ k. fields_before xs (rule.member k (expression_of x.1) fs)) named)
    ∙ ap (λ ws. fields_left place ws xs) (sym at)

-- rules, by their members
abbrev pub rules_left : List Entry → List (Bytes × Vec RuleStep Global) → Result rule.Rules RuleFault
rules_left es xs = named_said (members_view es) >>= (λ rs. Ok (map rule_of xs ++ rs))

pub rules-turn : (es left : List Entry) (m : Entry) (xs ys : List (Bytes × Vec RuleStep Global))
    (x : Bytes × Vec RuleStep Global) → es ≡ m ∷ left → rule_said (string_bytes m.0) (view m.1) ≡ Ok (rule_of x)
    → ys ≡ xs ++ x ∷ [] → rules_left left ys ≡ rules_left es xs
rules-turn es left m xs ys x at is pushed =
    turn (λ r rs. r ∷ rs) (rule_said (string_bytes m.0) (view m.1)) (named_said (members_view left))
    (λ rs. map rule_of xs ++ rs) (λ rs. map rule_of ys ++ rs) (rule_of x) is
    (λ rs. ap (λ zs. map rule_of zs ++ rs) pushed
    ∙ ap (λ zs. zs ++ rs) (map-append rule_of xs (x ∷ []))
    ∙ append_assoc (map rule_of xs) (rule_of x ∷ []) rs)
    ∙ ap (λ ws. rules_left ws xs) (sym at)
