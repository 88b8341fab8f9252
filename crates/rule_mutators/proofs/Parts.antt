-- Parts behind a word: none but so many, and so many.
use Rattle.std.proofs.Common.{◌≡◌, ◌≢◌, ℕ, List, [], ◌∷◌, length, get_or, Ok, Err, refl, sym, ap, ap₂, ◌∙◌, subst}
use Rattle.std.proofs.Common.{arith}
use Rattle.serde_json.specs.View.{view, items_view}
use Rattle.serde_json.specs.declared.value.Value.{Value}
use Rattle.group_history.specs.Map.{Bytes}
use Rattle.std.specs.Prelude.{Result}
use Rattle.rule_mutators.specs.declared.faults.RuleFault.{RuleFault}
use Rattle.rule_mutators.specs.declared.faults.RuleFault.TheVariants.{At}
use Rattle.rule_mutators.specs.declared.faults.Wrong.TheVariants as wrong
use Rattle.rule_mutators.specs.Reading.{SaidPart, the_one, the_two, choice_said}
use Rattle.group_history.specs.Answers.{◌>>=◌}
use Rattle.rule_mutators.specs.Reading.{expression_said, steps_said, item_at}
use Rattle.rule_mutators.specs.Reading.{field_said, need_said, name_said, code_said}
use Rattle.rule_mutators.specs.Answers.{IsFaultOf}
use Rattle.rule_mutators.specs.Inside.Parts.{parts_behind, branches_behind}
use Rattle.rule_mutators.specs.Rules as rule
use Rattle.rule_mutators.proofs.Answering.{refuses_on, refuses_by}

abbrev pub part_at : Bytes → ℕ → Value → SaidPart
part_at place n v = record { value = view v; said = expression_said (item_at place n) (view v) }

pub not_the_one : (place : Bytes) (vs : List Value) → length vs ≢ 2
    → the_one place (parts_behind place (items_view vs)) ≡ Err (At place wrong.Parts)
not_the_one place [] other = refl
not_the_one place (w ∷ []) other = refl
not_the_one place (w ∷ a ∷ []) other = absurd (other refl)
not_the_one place (w ∷ a ∷ b ∷ vs) other = refl

pub not_the_two : (place : Bytes) (vs : List Value) → length vs ≢ 3
    → the_two place (parts_behind place (items_view vs)) ≡ Err (At place wrong.Parts)
not_the_two place [] other = refl
not_the_two place (w ∷ []) other = refl
not_the_two place (w ∷ a ∷ []) other = refl
not_the_two place (w ∷ a ∷ b ∷ []) other = absurd (other refl)
not_the_two place (w ∷ a ∷ b ∷ v ∷ vs) other = refl

pub the_two-at : (place : Bytes) (vs : List Value) (a b : Value) → length vs ≡ 3 → a ≡ get_or vs 1 a
    → b ≡ get_or vs 2 b → the_two place (parts_behind place (items_view vs)) ≡ Ok (part_at place 1 a, part_at place 2 b)
the_two-at place [] a b long first second = absurd (omega arith)
the_two-at place (w ∷ []) a b long first second = absurd (omega arith)
the_two-at place (w ∷ x ∷ []) a b long first second = absurd (omega arith)
the_two-at place (w ∷ x ∷ y ∷ []) a b long first second =
    ap₂ (λ (u v : Value). Ok (part_at place 1 u, part_at place 2 v)) (sym first) (sym second)
the_two-at place (w ∷ x ∷ y ∷ z ∷ vs) a b long first second = absurd (omega arith)

-- a fault in the first of two parts, and in what follows the first
pub first_refuses : {B : Type 0} (e : RuleFault) (place : Bytes) (vs : List Value) (a : Value)
    (f : SaidPart × SaidPart → rule.Expression → Result B RuleFault) → length vs ≡ 3 → a ≡ get_or vs 1 a
    → IsFaultOf e (expression_said (item_at place 1) (view a))
    → IsFaultOf e (the_two place (parts_behind place (items_view vs)) >>= (λ both. both.0.said >>= f both))
first_refuses e place [] a f long first h = absurd (omega arith)
first_refuses e place (w ∷ []) a f long first h = absurd (omega arith)
first_refuses e place (w ∷ x ∷ []) a f long first h = absurd (omega arith)
first_refuses e place (w ∷ x ∷ y ∷ []) a f long first h =
    refuses_on e (expression_said (item_at place 1) (view x)) (f (part_at place 1 x, part_at place 2 y))
    (subst (λ v. IsFaultOf e (expression_said (item_at place 1) (view v))) first h)
first_refuses e place (w ∷ x ∷ y ∷ z ∷ vs) a f long first h = absurd (omega arith)

pub second_refuses : {B : Type 0} (e : RuleFault) (place : Bytes) (vs : List Value) (a b : Value) (x : rule.Expression)
    (f : SaidPart × SaidPart → rule.Expression → Result B RuleFault) → length vs ≡ 3 → a ≡ get_or vs 1 a
    → b ≡ get_or vs 2 b
    → expression_said (item_at place 1) (view a) ≡ Ok x → IsFaultOf e (f (part_at place 1 a, part_at place 2 b) x)
    → IsFaultOf e (the_two place (parts_behind place (items_view vs)) >>= (λ both. both.0.said >>= f both))
second_refuses e place vs a b x f long first second is h =
    refuses_by e (f (part_at place 1 a, part_at place 2 b) x) _
    (ap (λ (t : Result (SaidPart × SaidPart) RuleFault). t >>= (λ both. both.0.said >>= f both))
    (the_two-at place vs a b long first second)
    ∙ ap (λ (r : Result rule.Expression RuleFault). r >>= f (part_at place 1 a, part_at place 2 b)) is) h

pub field_said-at : (place : Bytes) (vs : List Value) (a b : Value) → length vs ≡ 3 → a ≡ get_or vs 1 a
    → b ≡ get_or vs 2 b → field_said place (parts_behind place (items_view vs))
    ≡ (expression_said (item_at place 1) (view a)
    >>= (λ e. name_said (item_at place 2) (view b) >>= (λ s. Ok (rule.field e s))))
field_said-at place vs a b long first second =
    ap (λ (t : Result (SaidPart × SaidPart) RuleFault). t
    >>= (λ both. both.0.said >>= (λ e. name_said (item_at place 2) both.1.value >>= (λ s. Ok (rule.field e s)))))
    (the_two-at place vs a b long first second)

pub need_said-at : (place : Bytes) (vs : List Value) (a b : Value) → length vs ≡ 3 → a ≡ get_or vs 1 a
    → b ≡ get_or vs 2 b → need_said place (parts_behind place (items_view vs))
    ≡ (expression_said (item_at place 1) (view a)
    >>= (λ e. code_said (item_at place 2) (view b) >>= (λ n. Ok (rule.need e n))))
need_said-at place vs a b long first second =
    ap (λ (t : Result (SaidPart × SaidPart) RuleFault). t
    >>= (λ both. both.0.said >>= (λ e. code_said (item_at place 2) both.1.value >>= (λ n. Ok (rule.need e n)))))
    (the_two-at place vs a b long first second)

pub not_a_choice : (place : Bytes) (vs : List Value) → length vs ≢ 4
    → choice_said place (branches_behind place (items_view vs)) ≡ Err (At place wrong.Parts)
not_a_choice place [] other = refl
not_a_choice place (w ∷ []) other = refl
not_a_choice place (w ∷ a ∷ []) other = refl
not_a_choice place (w ∷ a ∷ b ∷ []) other = refl
not_a_choice place (w ∷ a ∷ b ∷ d ∷ []) other = absurd (other refl)
not_a_choice place (w ∷ a ∷ b ∷ d ∷ e ∷ vs) other = refl

-- what follows the expression, and the first list
abbrev pub after_first : Bytes → Value → rule.Expression → rule.StepList → Result rule.RuleStep RuleFault
after_first place d e on_true =
    steps_said (item_at place 3) (view d) >>= (λ on_false. Ok (rule.choice e on_true on_false))

abbrev pub after_test : Bytes → Value → Value → rule.Expression → Result rule.RuleStep RuleFault
after_test place b d e = steps_said (item_at place 2) (view b) >>= after_first place d e

pub choice-at : (place : Bytes) (vs : List Value) (a b d : Value) → length vs ≡ 4 → a ≡ get_or vs 1 a
    → b ≡ get_or vs 2 b → d ≡ get_or vs 3 d
    → choice_said place (branches_behind place (items_view vs))
    ≡ (expression_said (item_at place 1) (view a) >>= after_test place b d)
choice-at place [] a b d long first second third = absurd (omega arith)
choice-at place (w ∷ []) a b d long first second third = absurd (omega arith)
choice-at place (w ∷ x ∷ []) a b d long first second third = absurd (omega arith)
choice-at place (w ∷ x ∷ y ∷ []) a b d long first second third = absurd (omega arith)
choice-at place (w ∷ x ∷ y ∷ z ∷ []) a b d long first second third = rw (first, second, third)
choice-at place (w ∷ x ∷ y ∷ z ∷ v ∷ vs) a b d long first second third = absurd (omega arith)

-- a fault in the first of three parts, in the second and in the third
pub choice_first : (e : RuleFault) (place : Bytes) (vs : List Value) (a : Value) → length vs ≡ 4 → a ≡ get_or vs 1 a
    → IsFaultOf e (expression_said (item_at place 1) (view a))
    → IsFaultOf e (choice_said place (branches_behind place (items_view vs)))
choice_first e place [] a long first h = absurd (omega arith)
choice_first e place (w ∷ []) a long first h = absurd (omega arith)
choice_first e place (w ∷ x ∷ []) a long first h = absurd (omega arith)
choice_first e place (w ∷ x ∷ y ∷ []) a long first h = absurd (omega arith)
choice_first e place (w ∷ x ∷ y ∷ z ∷ []) a long first h =
    refuses_on e (expression_said (item_at place 1) (view x)) (after_test place y z)
    (subst (λ v. IsFaultOf e (expression_said (item_at place 1) (view v))) first h)
choice_first e place (w ∷ x ∷ y ∷ z ∷ v ∷ vs) a long first h = absurd (omega arith)

pub choice_second : (e : RuleFault) (place : Bytes) (vs : List Value) (a b : Value) (p : rule.Expression)
    → length vs ≡ 4 → a ≡ get_or vs 1 a → b ≡ get_or vs 2 b → expression_said (item_at place 1) (view a) ≡ Ok p
    → IsFaultOf e (steps_said (item_at place 2) (view b))
    → IsFaultOf e (choice_said place (branches_behind place (items_view vs)))
choice_second e place [] a b p long first second is h = absurd (omega arith)
choice_second e place (w ∷ []) a b p long first second is h = absurd (omega arith)
choice_second e place (w ∷ x ∷ []) a b p long first second is h = absurd (omega arith)
choice_second e place (w ∷ x ∷ y ∷ []) a b p long first second is h = absurd (omega arith)
choice_second e place (w ∷ x ∷ y ∷ z ∷ []) a b p long first second is h =
    refuses_by e (after_test place y z p) _
    (ap (λ (r : Result rule.Expression RuleFault). r >>= after_test place y z)
    (subst (λ v. expression_said (item_at place 1) (view v) ≡ Ok p) first is))
    (refuses_on e (steps_said (item_at place 2) (view y)) (after_first place z p)
    (subst (λ v. IsFaultOf e (steps_said (item_at place 2) (view v))) second h))
choice_second e place (w ∷ x ∷ y ∷ z ∷ v ∷ vs) a b p long first second is h = absurd (omega arith)

pub choice_third : (e : RuleFault) (place : Bytes) (vs : List Value) (a b d : Value) (p : rule.Expression)
    (q : rule.StepList) → length vs ≡ 4 → a ≡ get_or vs 1 a → b ≡ get_or vs 2 b → d ≡ get_or vs 3 d
    → expression_said (item_at place 1) (view a) ≡ Ok p → steps_said (item_at place 2) (view b) ≡ Ok q
    → IsFaultOf e (steps_said (item_at place 3) (view d))
    → IsFaultOf e (choice_said place (branches_behind place (items_view vs)))
choice_third e place vs a b d p q long first second third is also h =
    refuses_by e (after_first place d p q) _
    (choice-at place vs a b d long first second third
    ∙ ap (λ (r : Result rule.Expression RuleFault). r >>= after_test place b d) is
    ∙ ap (λ (r : Result rule.StepList RuleFault). r >>= after_first place d p) also)
    (refuses_on e (steps_said (item_at place 3) (view d)) (λ on_false. Ok (rule.choice p q on_false)) h)
