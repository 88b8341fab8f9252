-- What a line is answered, by what it says.
use Rattle.std.proofs.Common.{◌≡◌, ℕ, ◌<◌, List, [], ◌∷◌, ◌++◌, length, map, refl, sym, ap, subst, ◌∙◌, arith}
use Rattle.std.proofs.lemmas.Bool.{false_from_ne_true}
use Rattle.std.proofs.lemmas.List.{length-map}
use Rattle.std.proofs.lemmas.Str.{is_utf8-from_IsUtf8, IsUtf8-from_is_utf8}
use Rattle.std.specs.Prelude.{None, Result, Ok, Err, IfOk, OnOk}
use Rattle.std.specs.Str.{IsUtf8, is_utf8}
use Rattle.group_history.specs.Map.{Bytes}
use Rattle.script_parser.specs.declared.script.LineKind.{LineKind}
use Rattle.script_parser.specs.declared.script.LineKind.TheVariants as asked
use Rattle.script_parser.specs.declared.script.Line.{Line}
use Rattle.script_parser.specs.Context.{Context, Lines}
use Rattle.script_parser.specs.Kept.{bare, new_phase, without_lines}
use Rattle.script_parser.specs.Reading.{LineAsks, bytes_said_with}
use Rattle.script_parser.specs.Scripts.{line_said}
use Rattle.script_runner.specs.Phases.{all_sights}
use Rattle.script_runner.proofs.Lines.{told_plain}
use Rattle.script_server.specs.Answers.{Answers, AnswersBy, BeginsPhase, Does, OpensGroup, Says, given_before}
use Rattle.script_server.specs.Answers.{behind_rules, given_in, ok_text, rules_of_line}
use Rattle.script_server.specs.Standing.{Standing, means_in}
use Rattle.script_server.specs.declared.heads.HeaderLine.{HeaderLine}
use Rattle.script_server.specs.declared.heads.HeaderLine.TheVariants as head
use Rattle.script_server.specs.Inside.Stages.{HasDone, IsFirstPhase, IsHead, IsHeadOf, IsNoCommand, HasPhase}
use Rattle.script_server.specs.Inside.Stages.{IsPlayerThere, WhereWhole}

-- ---- rules

pub given-text : (line : Bytes) → IsUtf8 line → rules_of_line line ≡ behind_rules line
unfolding rules_of_line
given-text line utf8 = rw (is_utf8-from_IsUtf8 line utf8)

pub given-bytes : (line : Bytes) → (IsUtf8 line → ⊥) → rules_of_line line ≡ None
unfolding rules_of_line
given-bytes line other = rw (false_from_ne_true (is_utf8 line) (λ e. other (IsUtf8-from_is_utf8 line e)))

-- ---- any line

answers_other : (n : ℕ) (line : Bytes) (before : Standing) (text : Bytes) (after : Standing)
    → given_in before line ≡ None → Says (bytes_said_with before.said n line) n before text after
    → Answers n line before text after
answers_other n line before text after none says = subst (λ o. AnswersBy o n line before text after) (sym none) says

-- a line that says something
pub answers_said : (n : ℕ) (line : Bytes) (before : Standing) (text : Bytes) (after : Standing) (what : LineKind)
    (said : Context) → given_in before line ≡ None → bytes_said_with before.said n line ≡ Ok said
    → LineAsks n before.said what said → Does what n before (without_lines said) text after
    → Answers n line before text after
answers_said n line before text after what said none right asks does =
    answers_other n line before text after none
    (subst (λ r. Says r n before text after) (sym right) (what, asks, does))

-- ---- before the first phase

-- where no phase has begun and none begins, none has
pub still_heads : (c said : Context) → c.phases ≡ [] → said.phases ≡ c.phases → (without_lines said).phases ≡ []
still_heads c said none same = ap (bare (length said.clients)) (same ∙ none)

-- no command is asked there
pub no_command : (n place : ℕ) (line : Line) (c said : Context) → c.phases ≡ []
    → LineAsks n c (asked.Command place line) said → ⊥
no_command n place line c said none asks =
    let some : 0 < length c.phases = asks.0 in
    let e : length c.phases ≡ 0 = ap length none in omega arith

-- ---- from it on

given_open : (phases : List (List Lines)) (line : Bytes) → 0 < length phases → given_before phases line ≡ None
given_open [] line some = absurd (omega arith)
given_open (p ∷ ps) line some = refl

pub given_in_open : (before : Standing) (line : Bytes) → HasPhase before → given_in before line ≡ None
given_in_open before line there = given_open before.said.phases line there.begun

begins_later : (phases : List (List Lines)) (before : Standing) (said : Context) (after : Standing) → 0 < length phases
    → after ≡ record before { said = said; sights = all_sights before.players } → BeginsPhase phases before said after
begins_later [] before said after some is = absurd (omega arith)
begins_later (p ∷ ps) before said after some is = is

pub begins_next : (before : Standing) (said : Context) (after : Standing) → HasPhase before
    → after ≡ record before { said = said; sights = all_sights before.players }
    → BeginsPhase before.said.phases before said after
begins_next before said after there is = begins_later before.said.phases before said after there.begun is

-- the client of a command is there
pub placed : (n : ℕ) (what : LineKind) (before : Standing) (said : Context) → HasPhase before
    → LineAsks n before.said what said → IsPlayerThere what before.players
placed n asked.Nothing before said there asks = tt
placed n asked.Phase before said there asks = tt
placed n (asked.Command place line) before said there asks =
    subst (λ k. place < k) (sym there.clients) asks.1

-- what a line asks was done
pub answers_done : (what : LineKind) (n : ℕ) (line : Bytes) (before : Standing) (text : Bytes) (after : Standing)
    (said : Context) → HasPhase before → bytes_said_with before.said n line ≡ Ok said → LineAsks n before.said what said
    → HasDone what n (record before { said = without_lines said }) text after
    → WhereWhole before after (Answers n line before text after)
answers_done asked.Nothing n line before text after said there right asks done was all =
    answers_said n line before text after asked.Nothing said (given_in_open before line there) right asks done
answers_done asked.Phase n line before text after said there right asks done was all =
    answers_said n line before text after asked.Phase said (given_in_open before line there) right asks
    (done.0, begins_next before (without_lines said) after there done.1)
answers_done (asked.Command place l) n line before text after said there right asks done was all =
    answers_said n line before text after (asked.Command place l) said (given_in_open before line there) right asks
    (record {
      told = done.told;
      plain = told_plain (means_in before) before.sights before.seen place (line_said l) before.players text
          after.players after.seen done.told was all;
      left = done.left;
    })

pub on_done : {E : Type 0} (what : LineKind) (r : Result (Unit {0}) E) (n : ℕ) (line : Bytes) (before : Standing)
    (text : Bytes) (after : Standing) (said : Context) → HasPhase before → bytes_said_with before.said n line ≡ Ok said
    → LineAsks n before.said what said
    → OnOk r (HasDone what n (record before { said = without_lines said }) text after)
    → OnOk r (WhereWhole before after (Answers n line before text after))
on_done what (Ok u) n line before text after said there right asks done =
    answers_done what n line before text after said there right asks done
on_done what (Err e) n line before text after said there right asks done = tt

-- ---- the first phase

-- the line that begins the first phase is answered where its group is opened
pub answers_first : (n : ℕ) (line : Bytes) (before mid after : Standing) → IsFirstPhase n line before mid
    → OpensGroup mid mid.said after → Answers n line before (ok_text n) after
answers_first n line before mid after first opens =
    let kept : OpensGroup (record before { said = without_lines first.said }) (without_lines first.said) after
    = subst (λ s. OpensGroup s s.said after) first.kept opens in
    let opened : OpensGroup before (without_lines first.said) after = record {
      said = kept.said;
      rules = kept.rules;
      players = kept.players;
      sights = kept.sights;
      seen = kept.seen;
    } in
    answers_said n line before (ok_text n) after asked.Phase first.said first.other first.right first.asks
    (refl, subst (λ ps. BeginsPhase ps before (without_lines first.said) after) (sym first.none) opened)

counted : {A B : Type 0} (f : A → B) (xs : List A) (ys : List B) → map f xs ≡ ys → length xs ≡ length ys
counted f xs ys e = sym (length-map xs f) ∙ ap length e

begun_by : (n : ℕ) (c said : Context) → c.phases ≡ [] → LineAsks n c asked.Phase said
    → 0 < length (without_lines said).phases
begun_by n c said none asks =
    let one : said.phases ≡ new_phase (length c.clients) ∷ [] =
    asks ∙ ap (λ ps. ps ++ new_phase (length c.clients) ∷ []) none in
    subst (λ ps. 0 < length (bare (length said.clients) ps)) (sym one) (omega arith)

-- what the code knows of a line that was answered before the first phase
pub answers_head : (h : HeaderLine) (n : ℕ) (line read : Bytes) (before : Standing) (text : Bytes) (after : Standing)
    → h ≡ head.Answered → line ≡ read → IsHead h n line before text after → Answers n read before text after
answers_head h n line read before text after is same known =
    subst (λ l. Answers n l before text after) same
    (subst (λ k. IsHead k n line before text after) is known).0

pub no_command_asked : (n : ℕ) (what : LineKind) (c said : Context) → c.phases ≡ [] → LineAsks n c what said
    → IsNoCommand what
no_command_asked n asked.Nothing c said none asks = tt
no_command_asked n asked.Phase c said none asks = tt
no_command_asked n (asked.Command place line) c said none asks = no_command n place line c said none asks

-- what a line before the first phase asks, and what became of it
head_asked : (what : LineKind) (h : HeaderLine) (n : ℕ) (line : Bytes) (before : Standing) (text : Bytes)
    (after : Standing)
    (said : Context) → before.said.phases ≡ [] → given_in before line ≡ None
    → bytes_said_with before.said n line ≡ Ok said → LineAsks n before.said what said
    → after ≡ record before { said = without_lines said } → IsHeadOf what n h text
    → IsHead h n line before text after
head_asked asked.Nothing h n line before text after said none other right asks kept is =
    subst (λ k. IsHead k n line before text after) (sym is.0) (
      answers_said n line before text after asked.Nothing said other right asks (is.1, kept),
      ap (λ s. s.said.phases) kept ∙ still_heads before.said said none asks,
    )
head_asked asked.Phase h n line before text after said none other right asks kept is =
    subst (λ k. IsHead k n line before text after) (sym is) (record {
      none = none;
      other = other;
      said = said;
      right = right;
      asks = asks;
      kept = kept;
    })
head_asked (asked.Command place l) h n line before text after said none other right asks kept is = absurd is

pub heads_asked : {E : Type 0} (what : LineKind) (r : Result HeaderLine E) (n : ℕ) (line : Bytes) (before : Standing)
    (text : Bytes) (after : Standing) (said : Context) → before.said.phases ≡ [] → given_in before line ≡ None
    → bytes_said_with before.said n line ≡ Ok said → LineAsks n before.said what said
    → after ≡ record before { said = without_lines said } → IfOk r (λ h. IsHeadOf what n h text)
    → IfOk r (λ h. IsHead h n line before text after)
heads_asked what (Ok h) n line before text after said none other right asks kept is =
    head_asked what h n line before text after said none other right asks kept is
heads_asked what (Err e) n line before text after said none other right asks kept is = tt
