-- What rules mean. These are this project's own rules.
use Rattle.std.specs.Prelude.{ℕ, ℤ, pos, neg_ℤ, ◌^◌, ◌+ℤ◌, ◌-ℤ◌, int_le, int_lt, ◌&&◌, not, [], ◌∷◌, ◌++◌}
use Rattle.std.specs.Prelude.{◌≡◌, Bool, if◌then◌else◌, Option, Some, None, option_map, option_and_then, unwrap_or}
use Rattle.std.specs.Prelude.{Result, Ok, Err}
use Rattle.std.specs.Fmt.{signed_decimal}
use Rattle.std.specs.FinMap as finite
use Rattle.serde_json.specs.Data as tree
use Rattle.serde_json.specs.Data.{Data, null, boolean, number, string, array, object, Members, no_members}
use Rattle.serde_json.specs.Find as find
use Rattle.serde_json.specs.Find.{as_bool, as_object, as_i64, of_integer}
use Rattle.group_history.specs.declared.mutators.Ran.{Ran}
use Rattle.group_history.specs.declared.refusals.Refusal.{Refusal}
use Rattle.group_history.specs.Map.{Bytes, Entries, same_text}
use Rattle.group_history.specs.Meaning.{Meaning, Meanings, unknown, refuses, done, needs, value_of}
use Rattle.group_history.specs.Json.{text_of}
use Rattle.group_history.specs.Ran.{RunsAs}
use Rattle.script_mutators.specs.Mutators.{number_of, script_means}
use Rattle.rule_mutators.specs.declared.language.Which.{Which}
use Rattle.rule_mutators.specs.declared.language.Which.TheVariants as which
use Rattle.rule_mutators.specs.declared.language.One.{One}
use Rattle.rule_mutators.specs.declared.language.One.TheVariants as one
use Rattle.rule_mutators.specs.declared.language.Two.{Two}
use Rattle.rule_mutators.specs.declared.language.Two.TheVariants as two
use Rattle.rule_mutators.specs.Rules as rule
use Rattle.rule_mutators.specs.Rules.{Expression, Expressions, ObjectFields, RuleStep, StepList, Rules}

-- the code with which a rule refuses what is of a wrong type, missing or out of range
abbrev pub wrong : ℕ
wrong = 1

-- ---- the values of expressions; None refuses

-- the text with which a value can be kept in a map: nested at most 124 deep, its numbers whole
abbrev pub text_if_kept : Result Bytes Refusal → Option Bytes
text_if_kept (Ok text) = Some text
text_if_kept (Err e) = None

abbrev pub kept_text : Data → Option Bytes
kept_text d = text_if_kept (text_of d)

-- the text that a value is, or the decimal of its number from -2^63 to 2^63 - 1
abbrev pub wording : Data → Option Bytes
wording null = None
wording (boolean b) = None
wording (number n) = option_map signed_decimal (as_i64 n)
wording (string s) = Some s
wording (array ds) = None
wording (object ms) = None

-- a whole number as a value, where it is from -2^63 to 2^63 - 1
abbrev pub in_range : ℤ → Option Data
in_range z = if int_le (neg_ℤ (pos (2 ^ 63))) z && int_lt z (pos (2 ^ 63)) then Some (number (of_integer z)) else None

-- the value that is there, null where nothing is
abbrev pub value_there : Option Bytes → Option Data
value_there None = Some null
value_there (Some text) = value_of text

-- one of the arguments: an item of an array, or a member of an object
abbrev pub argument_of : Which → Data → Option Data
argument_of (which.At n) args = find.at n args
argument_of (which.Named name) args = find.get name args

-- `get`, `has` and `not` of a value
abbrev pub one_means : One → Data → Entries → Option Data
one_means one.Get d m = option_and_then (λ key. value_there (finite.get m key)) (wording d)
one_means one.Has d m = option_map (λ key. boolean (finite.contains_key m key)) (wording d)
one_means one.Not d m = option_map (λ b. boolean (not b)) (as_bool d)

-- what follows from two numbers
abbrev pub of_numbers : (ℤ → ℤ → Option Data) → Data → Data → Option Data
of_numbers f a b = option_and_then (λ x. option_and_then (f x) (number_of b)) (number_of a)

-- `same`, `add`, `sub`, `below` and `and` of two values; values are the same where their texts are
abbrev pub two_means : Two → Data → Data → Option Data
two_means two.Same a b =
    option_and_then (λ s. option_map (λ t. boolean (same_text s t)) (kept_text b)) (kept_text a)
two_means two.Add a b = of_numbers (λ x y. in_range (x +ℤ y)) a b
two_means two.Sub a b = of_numbers (λ x y. in_range (x -ℤ y)) a b
two_means two.Below a b = of_numbers (λ x y. Some (boolean (int_lt x y))) a b
two_means two.And a b = option_and_then (λ x. option_map (λ y. boolean (x && y)) (as_bool b)) (as_bool a)

-- a member of an object, null where there is none
abbrev pub field_of : Bytes → Data → Data
field_of name d = unwrap_or (find.get name d) null

-- the value, or another one in place of null
abbrev pub or_else : Data → Option Data → Option Data
or_else null other = other
or_else (boolean b) other = Some (boolean b)
or_else (number n) other = Some (number n)
or_else (string s) other = Some (string s)
or_else (array ds) other = Some (array ds)
or_else (object ms) other = Some (object ms)

abbrev mutual
  -- the value of an expression at arguments and a map
  pub value_at : Expression → Data → Entries → Option Data
  value_at (rule.literal d) args m = Some d
  value_at (rule.argument w) args m = argument_of w args
  value_at (rule.one word a) args m = option_and_then (λ x. one_means word x m) (value_at a args m)
  value_at (rule.field a name) args m = option_map (field_of name) (value_at a args m)
  value_at (rule.or a b) args m = option_and_then (λ x. or_else x (value_at b args m)) (value_at a args m)
  value_at (rule.two word a b) args m =
      option_and_then (λ x. option_and_then (two_means word x) (value_at b args m)) (value_at a args m)
  value_at (rule.cat es) args m = option_map string (text_at es args m)
  value_at (rule.object fs) args m = option_map object (members_at fs no_members args m)

  -- the texts of expressions, one behind another
  pub text_at : Expressions → Data → Entries → Option Bytes
  text_at rule.no_expressions args m = Some []
  text_at (rule.expression e es) args m =
      option_and_then (λ s. option_map (λ t. s ++ t) (text_at es args m)) (option_and_then wording (value_at e args m))

  -- the members that there are, with those of the fields put over them
  pub members_at : ObjectFields → Members → Data → Entries → Option Members
  members_at rule.no_fields found args m = Some found
  members_at (rule.member name e fs) found args m =
      option_and_then (λ d. members_at fs (tree.put name d found) args m) (value_at e args m)

-- the key that an expression is, and whether it is true
abbrev pub key_at : Expression → Data → Entries → Option Bytes
key_at e args m = option_and_then wording (value_at e args m)

abbrev pub truth_at : Expression → Data → Entries → Option Bool
truth_at e args m = option_and_then as_bool (value_at e args m)

-- ---- steps

-- the key has the value
abbrev pub put_means : Bytes → Data → Entries → Meaning
put_means key d m = needs wrong (kept_text d) (λ text. done (finite.insert m key text))

-- members with others put over them
abbrev pub put_all : Members → Members → Members
put_all no_members found = found
put_all (tree.member name d ms) found = put_all ms (tree.put name d found)

-- an object with the members of another put over its own
abbrev pub merged : Data → Data → Option Data
merged there more =
    option_and_then (λ found. option_map (λ ms. object (put_all ms found)) (as_object more)) (as_object there)

-- the object at the key has these members too
abbrev pub merge_means : Bytes → Data → Entries → Meaning
merge_means key more m =
    needs wrong (value_there (finite.get m key)) (λ there.
    needs wrong (merged there more) (λ d. put_means key d m))

-- what follows on the map that a meaning leaves, where it is done
abbrev pub and_then : Meaning → (Entries → Meaning) → Meaning
and_then unknown follows = unknown
and_then (refuses code) follows = refuses code
and_then (done m) follows = follows m

abbrev mutual
  -- what a step means at arguments and a map
  pub step_means : RuleStep → Data → Entries → Meaning
  step_means (rule.put key e) args m =
      needs wrong (key_at key args m) (λ k. needs wrong (value_at e args m) (λ d. put_means k d m))
  step_means (rule.del key) args m = needs wrong (key_at key args m) (λ k. done (finite.remove m k))
  step_means (rule.merge key e) args m =
      needs wrong (key_at key args m) (λ k. needs wrong (value_at e args m) (λ d. merge_means k d m))
  step_means (rule.need e code) args m =
      needs wrong (truth_at e args m) (λ is. if is then done m else refuses code)
  step_means (rule.choice e on_true on_false) args m =
      needs wrong (truth_at e args m) (λ is. if is then steps_mean on_true args m else steps_mean on_false args m)

  -- what steps mean, done in order
  pub steps_mean : StepList → Data → Entries → Meaning
  steps_mean rule.no_steps args m = done m
  steps_mean (rule.step s ss) args m = and_then (step_means s args m) (λ n. steps_mean ss args n)

-- ---- rules by name

-- the steps of the rule of a name, where there is one
abbrev pub steps_named : Bytes → Rules → Option StepList
steps_named name [] = None
steps_named name (r ∷ rules) = if same_text name r.0 then Some r.1 else steps_named name rules

-- what a rule means at arguments that are a JSON text
abbrev pub rule_means : StepList → Bytes → Entries → Meaning
rule_means steps args m = needs wrong (value_of args) (λ d. steps_mean steps d m)

-- The rule is run and ended so, from one map to another; or there is none, and the map stays.
abbrev pub RunsIfAny : Option StepList → Bytes → Entries → Option Ran → Entries → Type 0
RunsIfAny None args old None new = new ≡ old
RunsIfAny None args old (Some ran) new = ⊥
RunsIfAny (Some steps) args old None new = ⊥
RunsIfAny (Some steps) args old (Some ran) new = RunsAs (rule_means steps args old) ran new

-- what a name means: the rule of that name, where there is one, else what it means in scripts
abbrev pub meaning_by : Option StepList → Meanings
meaning_by None name args why m = script_means name args why m
meaning_by (Some steps) name args why m = rule_means steps args m

unfoldable pub rules_mean : Rules → Meanings
rules_mean rules name args why m = meaning_by (steps_named name rules) name args why m
