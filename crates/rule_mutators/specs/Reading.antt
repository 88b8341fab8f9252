-- What a text says as rules: the rules, or the first fault in the order of reading. The members of an object are read
-- in the order of their names' bytes, and of two members of one name the last. These are this project's own rules.
use Rattle.std.specs.Prelude.{ℕ, ◌+◌, ◌/◌, ◌%◌, ◌^◌, ◌==◌, nat_lt, List, [], ◌∷◌, ◌++◌, codes, decimal, if◌then◌else◌}
use Rattle.std.specs.Char.{digit_char, encode_utf8}
use Rattle.std.specs.Str.{chars}
use Rattle.std.specs.Prelude.{Option, Some, None, option_map, option_and_then, unwrap_or, Result, Ok, Err}
use Rattle.serde_json.specs.Data.{Data, null, boolean, number, string, array, object, Items, no_items, item}
use Rattle.serde_json.specs.Data.{Members, no_members, member}
use Rattle.serde_json.specs.Find.{as_str, as_number, as_u64}
use Rattle.serde_json.specs.Written.{has_float}
use Rattle.group_history.specs.Answers.{◌>>=◌}
use Rattle.group_history.specs.Cookies.{value_read}
use Rattle.group_history.specs.Json.{reading}
use Rattle.group_history.specs.Map.{Bytes, same_text}
use Rattle.rule_mutators.specs.declared.faults.RuleFault.{RuleFault}
use Rattle.rule_mutators.specs.declared.faults.RuleFault.TheVariants.{NotJson, NotObject, At}
use Rattle.rule_mutators.specs.declared.faults.Wrong.{Wrong}
use Rattle.rule_mutators.specs.declared.faults.Wrong.TheVariants as wrong
use Rattle.rule_mutators.specs.declared.language.Which.{Which}
use Rattle.rule_mutators.specs.declared.language.Which.TheVariants as which
use Rattle.rule_mutators.specs.declared.language.One.TheVariants as one
use Rattle.rule_mutators.specs.declared.language.Two.TheVariants as two
use Rattle.rule_mutators.specs.declared.words.Word.{Word}
use Rattle.rule_mutators.specs.declared.words.Word.TheVariants as word
use Rattle.rule_mutators.specs.declared.words.StepWord.{StepWord}
use Rattle.rule_mutators.specs.declared.words.StepWord.TheVariants as step_word
use Rattle.rule_mutators.specs.Rules as rule
use Rattle.rule_mutators.specs.Rules.{Expression, Expressions, ObjectFields, RuleStep, StepList, Rules}

-- ---- places, which are JSON Pointers, as a JSON string has them (RFC 6901, sections 3 and 5)

-- characters of a name that have an escape of their own: two by the pointer, seven by the string (RFC 8259, section 7)
unfoldable pub escape_of : ℕ → Option Bytes
escape_of c =
    if c == 126 then Some (codes "~0")
    else (if c == 47 then Some (codes "~1")
    else (if c == 34 then Some (codes "\\\"")
    else (if c == 92 then Some (codes "\\\\")
    else (if c == 8 then Some (codes "\\b")
    else (if c == 9 then Some (codes "\\t")
    else (if c == 10 then Some (codes "\\n")
    else (if c == 12 then Some (codes "\\f")
    else (if c == 13 then Some (codes "\\r")
    else None))))))))

-- any other one: a control character by its number in hexadecimal digits, else itself
unfoldable pub unnamed_char : ℕ → Bytes
unnamed_char c =
    if nat_lt c 32 then codes "\\u00" ++ digit_char (c / 16) ∷ digit_char (c % 16) ∷ [] else encode_utf8 c

abbrev pub escaped_char : ℕ → Bytes
escaped_char c = unwrap_or (escape_of c) (unnamed_char c)

abbrev pub escaped_chars : List ℕ → Bytes
escaped_chars [] = []
escaped_chars (c ∷ cs) = escaped_char c ++ escaped_chars cs

abbrev pub escaped : Bytes → Bytes
escaped name = escaped_chars (chars name)

-- the place of a member, and of an item
unfoldable pub member_at : Bytes → Bytes → Bytes
member_at place name = place ++ 47 ∷ escaped name

unfoldable pub item_at : Bytes → ℕ → Bytes
item_at place n = place ++ 47 ∷ decimal n

-- ---- what may be a fault

-- a thing, or a fault where there is none
abbrev pub or_fault : {A : Type 0} → Bytes → Wrong → Option A → Result A RuleFault
or_fault place what None = Err (At place what)
or_fault place what (Some x) = Ok x

-- ---- words

-- the word of an expression
unfoldable pub one_word : Bytes → Option Word
one_word w =
    if same_text w (codes "get") then Some (word.One one.Get)
    else (if same_text w (codes "has") then Some (word.One one.Has)
    else (if same_text w (codes "not") then Some (word.One one.Not)
    else None))

unfoldable pub two_word : Bytes → Option Word
two_word w =
    if same_text w (codes "same") then Some (word.Two two.Same)
    else (if same_text w (codes "add") then Some (word.Two two.Add)
    else (if same_text w (codes "sub") then Some (word.Two two.Sub)
    else (if same_text w (codes "below") then Some (word.Two two.Below)
    else (if same_text w (codes "and") then Some (word.Two two.And)
    else None))))

unfoldable pub other_word : Bytes → Option Word
other_word w =
    if same_text w (codes "arg") then Some word.Arg
    else (if same_text w (codes "lit") then Some word.Lit
    else (if same_text w (codes "field") then Some word.Field
    else (if same_text w (codes "or") then Some word.Or
    else (if same_text w (codes "cat") then Some word.Cat
    else None))))

abbrev pub or_other : {A : Type 0} → Option A → Option A → Option A
or_other None other = other
or_other (Some x) other = Some x

abbrev pub rule_word_of : Bytes → Option Word
rule_word_of w = or_other (one_word w) (or_other (two_word w) (other_word w))

-- the word of a step
unfoldable pub step_word_of : Bytes → Option StepWord
step_word_of w =
    if same_text w (codes "put") then Some step_word.Put
    else (if same_text w (codes "del") then Some step_word.Del
    else (if same_text w (codes "merge") then Some step_word.Merge
    else (if same_text w (codes "need") then Some step_word.Need
    else (if same_text w (codes "if") then Some step_word.If
    else None))))

-- the first item of an array has to be a word that is known
abbrev pub known_word : {A : Type 0} → Bytes → (Bytes → Option A) → Data → Result A RuleFault
known_word place words d = or_fault place wrong.NoWord (as_str d) >>= (λ w. or_fault place wrong.UnknownWord (words w))

-- ---- parts of expressions

-- a part: its value, and what that says as an expression
pub record SaidPart : Type 0 where
  pub value : Data
  pub said : Result Expression RuleFault

-- the one part, and the two
abbrev pub the_one : Bytes → List SaidPart → Result SaidPart RuleFault
the_one place [] = Err (At place wrong.Parts)
the_one place (p ∷ []) = Ok p
the_one place (p ∷ q ∷ ps) = Err (At place wrong.Parts)

abbrev pub the_two : Bytes → List SaidPart → Result (SaidPart × SaidPart) RuleFault
the_two place [] = Err (At place wrong.Parts)
the_two place (p ∷ []) = Err (At place wrong.Parts)
the_two place (p ∷ q ∷ []) = Ok (p, q)
the_two place (p ∷ q ∷ r ∷ ps) = Err (At place wrong.Parts)

-- the value of the one part
abbrev pub one_value : Bytes → List SaidPart → Result Data RuleFault
one_value place parts = the_one place parts >>= (λ p. Ok p.value)

-- a value whose numbers are whole
unfoldable pub literal_said : Bytes → Data → Result Expression RuleFault
literal_said place d = if has_float d then Err (At place wrong.NotWhole) else Ok (rule.literal d)

abbrev pub which_of : Data → Option Which
which_of null = None
which_of (boolean b) = None
which_of (number n) = option_map which.At (as_u64 n)
which_of (string s) = Some (which.Named s)
which_of (array ds) = None
which_of (object ms) = None

abbrev pub which_said : Bytes → Data → Result Which RuleFault
which_said place d = or_fault place wrong.NoArgument (which_of d)

abbrev pub name_said : Bytes → Data → Result Bytes RuleFault
name_said place d = or_fault place wrong.NoName (as_str d)

-- one expression, two, and all
abbrev pub one_said : Bytes → List SaidPart → Result Expression RuleFault
one_said place parts = the_one place parts >>= (λ p. p.said)

abbrev pub two_said : Bytes → List SaidPart → Result (Expression × Expression) RuleFault
two_said place parts = the_two place parts >>= (λ both. both.0.said >>= (λ e. both.1.said >>= (λ f. Ok (e, f))))

abbrev pub all_said : List SaidPart → Result Expressions RuleFault
all_said [] = Ok rule.no_expressions
all_said (p ∷ ps) = p.said >>= (λ e. all_said ps >>= (λ es. Ok (rule.expression e es)))

-- one of the arguments, a value that stands for itself, and a field of an expression
abbrev pub argument_said : Bytes → List SaidPart → Result Expression RuleFault
argument_said place parts =
    one_value place parts >>= (λ d. which_said (item_at place 1) d >>= (λ w. Ok (rule.argument w)))

abbrev pub lit_said : Bytes → List SaidPart → Result Expression RuleFault
lit_said place parts = one_value place parts >>= literal_said (item_at place 1)

abbrev pub field_said : Bytes → List SaidPart → Result Expression RuleFault
field_said place parts = the_two place parts
    >>= (λ both. both.0.said >>= (λ e. name_said (item_at place 2) both.1.value >>= (λ s. Ok (rule.field e s))))

-- what a word says with its parts
abbrev pub parts_said : Bytes → Word → List SaidPart → Result Expression RuleFault
parts_said place word.Arg parts = argument_said place parts
parts_said place word.Lit parts = lit_said place parts
parts_said place word.Field parts = field_said place parts
parts_said place word.Or parts = two_said place parts >>= (λ both. Ok (rule.or both.0 both.1))
parts_said place word.Cat parts = all_said parts >>= (λ es. Ok (rule.cat es))
parts_said place (word.One w) parts = one_said place parts >>= (λ e. Ok (rule.one w e))
parts_said place (word.Two w) parts = two_said place parts >>= (λ both. Ok (rule.two w both.0 both.1))

-- ---- expressions

abbrev mutual
  pub expression_said : Bytes → Data → Result Expression RuleFault
  expression_said place null = literal_said place null
  expression_said place (boolean b) = literal_said place (boolean b)
  expression_said place (number n) = literal_said place (number n)
  expression_said place (string s) = literal_said place (string s)
  expression_said place (array ds) = words_said place ds
  expression_said place (object ms) = fields_said place ms >>= (λ fs. Ok (rule.object fs))

  -- a word and its parts
  pub words_said : Bytes → Items → Result Expression RuleFault
  words_said place no_items = Err (At place wrong.NoWord)
  words_said place (item w ds) = known_word place rule_word_of w
      >>= (λ word. parts_said place word (parts_of place 1 ds))

  -- parts of which the first has the number n
  pub parts_of : Bytes → ℕ → Items → List SaidPart
  parts_of place n no_items = []
  parts_of place n (item d ds) =
      (record { value = d; said = expression_said (item_at place n) d }) ∷ parts_of place (n + 1) ds

  pub fields_said : Bytes → Members → Result ObjectFields RuleFault
  fields_said place no_members = Ok rule.no_fields
  fields_said place (member name d ms) = expression_said (member_at place name) d
      >>= (λ e. fields_said place ms >>= (λ fs. Ok (rule.member name e fs)))

-- ---- steps

-- the code of a `need`, below 2^32
abbrev pub code_of : Data → Option ℕ
code_of d = option_and_then (λ n. if nat_lt n (2 ^ 32) then Some n else None) (option_and_then as_u64 (as_number d))

abbrev pub code_said : Bytes → Data → Result ℕ RuleFault
code_said place d = or_fault place wrong.NoCode (code_of d)

-- an expression and a code
abbrev pub need_said : Bytes → List SaidPart → Result RuleStep RuleFault
need_said place parts = the_two place parts
    >>= (λ both. both.0.said >>= (λ e. code_said (item_at place 2) both.1.value >>= (λ n. Ok (rule.need e n))))

-- a part of an `if`: its value, and what that says as a list of steps
pub record Branch : Type 0 where
  pub value : Data
  pub said : Result StepList RuleFault

-- an expression and two lists of steps
abbrev pub choice_said : Bytes → List Branch → Result RuleStep RuleFault
choice_said place [] = Err (At place wrong.Parts)
choice_said place (p ∷ []) = Err (At place wrong.Parts)
choice_said place (p ∷ q ∷ []) = Err (At place wrong.Parts)
choice_said place (p ∷ q ∷ r ∷ []) = expression_said (item_at place 1) p.value
    >>= (λ e. q.said >>= (λ on_true. r.said >>= (λ on_false. Ok (rule.choice e on_true on_false))))
choice_said place (p ∷ q ∷ r ∷ s ∷ ps) = Err (At place wrong.Parts)

-- what a word says with its parts
abbrev pub step_parts_said : Bytes → StepWord → List SaidPart → List Branch → Result RuleStep RuleFault
step_parts_said place step_word.Put parts branches =
    two_said place parts >>= (λ both. Ok (rule.put both.0 both.1))
step_parts_said place step_word.Del parts branches = one_said place parts >>= (λ e. Ok (rule.del e))
step_parts_said place step_word.Merge parts branches =
    two_said place parts >>= (λ both. Ok (rule.merge both.0 both.1))
step_parts_said place step_word.Need parts branches = need_said place parts
step_parts_said place step_word.If parts branches = choice_said place branches

abbrev mutual
  -- a list of steps
  pub steps_said : Bytes → Data → Result StepList RuleFault
  steps_said place null = Err (At place wrong.NoSteps)
  steps_said place (boolean b) = Err (At place wrong.NoSteps)
  steps_said place (number n) = Err (At place wrong.NoSteps)
  steps_said place (string s) = Err (At place wrong.NoSteps)
  steps_said place (array ds) = list_said place 0 ds
  steps_said place (object ms) = Err (At place wrong.NoSteps)

  -- steps of which the first has the number n
  pub list_said : Bytes → ℕ → Items → Result StepList RuleFault
  list_said place n no_items = Ok rule.no_steps
  list_said place n (item d ds) = step_said (item_at place n) d
      >>= (λ s. list_said place (n + 1) ds >>= (λ ss. Ok (rule.step s ss)))

  pub step_said : Bytes → Data → Result RuleStep RuleFault
  step_said place null = Err (At place wrong.NoStep)
  step_said place (boolean b) = Err (At place wrong.NoStep)
  step_said place (number n) = Err (At place wrong.NoStep)
  step_said place (string s) = Err (At place wrong.NoStep)
  step_said place (array ds) = step_words_said place ds
  step_said place (object ms) = Err (At place wrong.NoStep)

  -- a word and its parts
  pub step_words_said : Bytes → Items → Result RuleStep RuleFault
  step_words_said place no_items = Err (At place wrong.NoWord)
  step_words_said place (item w ds) = known_word place step_word_of w
      >>= (λ word. step_parts_said place word (parts_of place 1 ds) (branches_of place 1 ds))

  -- parts of which the first has the number n
  pub branches_of : Bytes → ℕ → Items → List Branch
  branches_of place n no_items = []
  branches_of place n (item d ds) =
      (record { value = d; said = steps_said (item_at place n) d }) ∷ branches_of place (n + 1) ds

-- ---- rules

-- the rule of a name
abbrev pub rule_said : Bytes → Data → Result (Bytes × StepList) RuleFault
rule_said name d = steps_said (member_at [] name) d >>= (λ ss. Ok (name, ss))

abbrev pub named_said : Members → Result Rules RuleFault
named_said no_members = Ok []
named_said (member name d ms) = rule_said name d >>= (λ r. named_said ms >>= (λ rs. Ok (r ∷ rs)))

-- an object of rules by name
abbrev pub value_said : Data → Result Rules RuleFault
value_said null = Err NotObject
value_said (boolean b) = Err NotObject
value_said (number n) = Err NotObject
value_said (string s) = Err NotObject
value_said (array ds) = Err NotObject
value_said (object ms) = named_said ms

abbrev pub json_or_fault : Option Data → Result Data RuleFault
json_or_fault None = Err NotJson
json_or_fault (Some d) = Ok d

-- the rules that a text says
unfoldable pub rules_said : Bytes → Result Rules RuleFault
rules_said text = json_or_fault (value_read (reading text)) >>= value_said

-- those that a text says which may be left out: no bytes are no rules
abbrev pub rules_or_none : Bytes → Result Rules RuleFault
rules_or_none [] = Ok []
rules_or_none (b ∷ bytes) = rules_said (b ∷ bytes)
