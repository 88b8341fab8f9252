use Rattle.std.proofs.Common.{◌≡◌, ◌==◌, true, false, ◌∷◌, codes, drop, slice_index, if◌then◌else◌, refl, sym, ap, ◌∙◌}
use Rattle.std.proofs.Common.{lit<}
use Rattle.std.proofs.lemmas.Bool.{or_from}
use Rattle.std.proofs.lemmas.Str.Pattern.{strip_prefix_char}
use Rattle.group_history.specs.Map.{Bytes, same_text}
use Rattle.group_history.specs.declared.scans.Start.TheVariants.{Any, At, After}
use Rattle.script_parser.specs.Words.{is_start, start_said}
use Rattle.script_parser.proofs.Lists.{begins_otherwise}
use Rattle.script_parser.proofs.words.start_of.Goals as goal

pub returns-clause-form : goal.returns-clause-form
unfolding is_start
returns-clause-form c =
    let w = c.args.word.now in
    let first = strip_prefix_char 61 w c.strip_prefix.result c.strip_prefix.ensures.cases (lit< tt) in
    let second = strip_prefix_char 62 w c.strip_prefix-2.result c.strip_prefix-2.ensures.cases (lit< tt) in
    let no_first : (slice_index w 0 == 61) ≡ false = begins_otherwise 61 w (lit< tt) (rw c.in_default.is at first) in
    let no_second : (slice_index w 0 == 62)
    ≡ false = begins_otherwise 62 w (lit< tt) (rw c.in_default-strip_prefix.is at second) in
    (or_from _ _ (or_from _ _ (sym c.eq.ensures ∙ c.if-eq.false) no_first) no_second, refl)

start_said-any : (t : Bytes) → same_text t (codes "-") ≡ true → start_said t ≡ Any
unfolding start_said
start_said-any t is = rw is

start_said-at : (t key : Bytes) → same_text t (codes "-") ≡ false → t ≡ 61 ∷ key → start_said t ≡ At key
unfolding start_said
start_said-at t key other is = rw other (ap
    (λ (s : Bytes). if slice_index s 0 == 61 then At (drop 1 s) else After (drop 1 s)) is)

start_said-after : (t key : Bytes) → same_text t (codes "-") ≡ false → t ≡ 62 ∷ key → start_said t ≡ After key
unfolding start_said
start_said-after t key other is = rw other
    (ap (λ (s : Bytes). if slice_index s 0 == 61 then At (drop 1 s) else After (drop 1 s)) is)

pub returns-then-eq-clause-value : goal.returns-then-eq-clause-value
returns-then-eq-clause-value c = sym (start_said-any c.args.word.now (sym c.eq.ensures ∙ c.if-eq.true))

pub returns-in-Some-clause-value : goal.returns-in-Some-clause-value
returns-in-Some-clause-value c =
    let w = c.args.word.now in
    let first = strip_prefix_char 61 w c.strip_prefix.result c.strip_prefix.ensures.cases (lit< tt) in
    let is : w ≡ 61 ∷ c.in-Some.key.now = rw c.in-Some.is at first in
    ap At c.in_ok-new.ensures ∙ sym (start_said-at w c.in-Some.key.now (sym c.eq.ensures ∙ c.if-eq.false) is)

pub returns-in-Some-strip_prefix-clause-value : goal.returns-in-Some-strip_prefix-clause-value
returns-in-Some-strip_prefix-clause-value c =
    let w = c.args.word.now in
    let second = strip_prefix_char 62 w c.strip_prefix-2.result c.strip_prefix-2.ensures.cases (lit< tt) in
    let is : w ≡ 62 ∷ c.in-Some-strip_prefix.key.now = rw c.in-Some-strip_prefix.is at second in
    ap After c.in_ok-new-2.ensures ∙ sym (start_said-after w c.in-Some-strip_prefix.key.now
    (sym c.eq.ensures ∙ c.if-eq.false) is)
