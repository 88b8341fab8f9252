-- A line that was told.
use Rattle.std.proofs.Common.{◌≡◌, ◌++◌, ℕ, List, Option, Result, Ok, Err, OnOk, ap, ◌∙◌, refl}
use Rattle.group_history.specs.Map.{Bytes}
use Rattle.group_history.specs.Meaning.{Meanings}
use Rattle.head_word.specs.Marks.{Known}
use Rattle.script_parser.specs.declared.script.Command.{Command}
use Rattle.client_desk.specs.Told.{Told}
use Rattle.script_runner.specs.Commanding.{MayPrint, MayTell, Player}
use Rattle.script_runner.specs.Printing.{line_text, told_text}
use Rattle.script_runner.specs.Inside.Turns.{IsLineTold}

pub on_ok : {X E A B : Type 0} (r : Result X E) → (A → B) → OnOk r A → OnOk r B
on_ok (Ok x) f a = f a
on_ok (Err e) f a = tt

-- what was told is printed
pub prints : (means : Meanings) (sights : List (Option Known)) (c : Command) (before after : Player) (t : Told)
    → MayTell means sights c before.place t after.place → MayPrint means sights before c (told_text c t) after
prints means sights c before after t may = record { t = t; may = may; printed = refl }

-- a line of output more
pub line_told : {X E : Type 0} (means : Meanings) (sights : List (Option Known)) (l : ℕ × Command)
    (before after : Player) (t : Told) (name old new : Bytes) (r : Result X E)
    → MayTell means sights l.1 before.place t after.place → after.name ≡ before.name → name ≡ after.name
    → OnOk r (new ≡ old ++ line_text l.0 name (told_text l.1 t))
    → OnOk r (IsLineTold means sights before l old new after)
line_told means sights l before after t name old new r may same named printed =
    on_ok r (λ is. record {
      told = told_text l.1 t;
      may = prints means sights l.1 before after t may;
      name = same;
      text = is ∙ ap (λ n. old ++ line_text l.0 n (told_text l.1 t)) (named ∙ same);
    }) printed
