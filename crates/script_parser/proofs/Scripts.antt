-- The lines of a script, one after the other.
use Rattle.std.proofs.Common.{IsErrAnd, subst, ◌≡◌, ℕ, ◌+◌, ◌<◌, List, [], ◌∷◌, ◌++◌, map, length, take, drop, get_or}
use Rattle.std.proofs.Common.{Option, Some, Result, Ok, Err, refl, sym, ap, ◌∙◌, append_assoc, append-nil}
use Rattle.std.proofs.Common.{length-append, take-append-drop, drop-cons, suc}
use Rattle.std.specs.Result.{result_err}
use Rattle.std.specs.Str.{IsUtf8, is_utf8}
use Rattle.std.proofs.lemmas.Bool.{false_from_ne_true}
use Rattle.std.proofs.lemmas.List.{map-append}
use Rattle.std.proofs.lemmas.Str.{is_utf8-from_IsUtf8, IsUtf8-from_is_utf8}
use Rattle.group_history.specs.Map.{Bytes}
use Rattle.script_parser.specs.declared.faults.ScriptFault.{ScriptFault}
use Rattle.script_parser.specs.declared.faults.LineFault.{LineFault}
use Rattle.script_parser.specs.declared.faults.LineFault.TheVariants as line
use Rattle.script_parser.specs.declared.faults.Fault.{Fault}
use Rattle.script_parser.specs.declared.faults.Fault.TheVariants as fault
use Rattle.script_parser.specs.declared.faults.ScriptFault.TheVariants as text
use Rattle.script_parser.specs.Context.{Context, nothing_said}
use Rattle.script_parser.specs.Faults.{said_in, said_after, said_with, Checks, script_said, first_fault, lines_of}
use Rattle.script_parser.specs.Faults.{line_of_bad_byte}
use Rattle.script_parser.specs.Inside.Faults.{fault_at, AgreesWith}

-- The lines so far, of which there are n, have no fault, and say this: what a script says that begins with them is
-- what the lines after them say too.
pub record Said (n : ℕ) (before : List Bytes) (c : Context) : Type 0 where
  pub all : (after : List Bytes) → said_in 1 nothing_said (before ++ after) ≡ said_in (n + 1) c after

-- none yet
pub Said-none : Said 0 [] nothing_said
Said-none = record { all = λ after. refl }

-- a line more
Said-next : (n : ℕ) (before : List Bytes) (c d : Context) (l : Bytes) → Said n before c → said_with c (n + 1) l ≡ Ok d
    → Said (n + 1) (before ++ l ∷ []) d
Said-next n before c d l said right = record {
  all = λ after. rw (append_assoc before (l ∷ []) after)
      (said.all (l ∷ after) ∙ ap (said_after (n + 1) (λ e. said_in (n + 1 + 1) e after)) right);
}

-- the same, of lines that are read by f
pub Said-turn : {X : Type 0} (f : X → Bytes) (xs : List X) (x : X) (c d : Context) → Said (length xs) (map f xs) c
    → said_with c (length xs + 1) (f x) ≡ Ok d →
    Said (length (xs ++ x ∷ [])) (map f (xs ++ x ∷ [])) d
Said-turn f xs x c d said right = rw (length-append xs (x ∷ []), map-append f xs (x ∷ []))
    (Said-next (length xs) (map f xs) c d (f x) said right)

-- a list is what stands before a place, at it and after it
cut_at : (n : ℕ) (lines : List Bytes) (d : Bytes) → n < length lines
    → lines ≡ take n lines ++ get_or lines n d ∷ drop (suc n) lines
cut_at n lines d below = sym (take-append-drop n lines) ∙ ap (λ rest. take n lines ++ rest) (drop-cons lines n d below)

-- a faulty line
pub Said-fault : (n : ℕ) (before : List Bytes) (c : Context) (l : Bytes) (f : ScriptFault) (lines : List Bytes)
    → Said n before c → said_with c (n + 1) l ≡ Err f →
    n < length lines → before ≡ take n lines → l ≡ get_or lines n l → said_in 1 nothing_said lines ≡ Err (n + 1, f)
Said-fault n before c l f lines said wrong below front here =
    ap (said_in 1 nothing_said) (cut_at n lines l below ∙ ap (λ b. b ++ get_or lines n l ∷ drop (suc n) lines)
    (sym front) ∙ ap (λ x. before ++ x ∷ drop (suc n) lines) (sym here))
    ∙ said.all (l ∷ drop (suc n) lines)
    ∙ ap (said_after (n + 1) (λ e. said_in (n + 1 + 1) e (drop (suc n) lines))) wrong

-- no line is left
pub Said-all : (n : ℕ) (c : Context) (lines : List Bytes) → Said n lines c → said_in 1 nothing_said lines ≡ Ok c
Said-all n c lines said = ap (said_in 1 nothing_said) (sym (append-nil lines)) ∙ said.all []

-- the fault of a line is the script's
pub Checks-fault : (X Y : Type 0) (n : ℕ) (first : Option (ℕ × ScriptFault)) (right : Result Context ScriptFault)
    (c : Context) (e : LineFault) →
    AgreesWith {X = Y} right c (Err e) → ((f : ScriptFault) → right ≡ Err f → first ≡ Some (n, f))
    → Checks {X = X} first (Err (fault_at n e))
Checks-fault X Y n first right c (line.Script f) follows is = is f follows
Checks-fault X Y n first right c line.NoMemory follows is = tt

-- a script that is UTF-8
pub script_said-text : (bytes : Bytes) → IsUtf8 bytes → script_said bytes ≡ said_in 1 nothing_said (lines_of bytes)
unfolding script_said
script_said-text bytes utf8 = rw (is_utf8-from_IsUtf8 bytes utf8)

-- a script that isn't
pub script_said-bytes : (bytes : Bytes) → ¬ (IsUtf8 bytes)
    → script_said bytes ≡ Err (line_of_bad_byte bytes, text.NotUtf8)
unfolding script_said
script_said-bytes bytes other = rw (false_from_ne_true (is_utf8 bytes) (λ e. other (IsUtf8-from_is_utf8 bytes e)))

-- the first fault of a script that says this
pub first_fault-said : (bytes : Bytes) (said : Result Context (ℕ × ScriptFault)) → script_said bytes ≡ said
    → first_fault bytes ≡ result_err said
unfolding first_fault
first_fault-said bytes said is = ap result_err is

-- a fault says nothing of the value
Checks-as : (X Y : Type 0) (first : Option (ℕ × ScriptFault)) (e : Fault) → Checks {X = X} first (Err e)
    → Checks {X = Y} first (Err e)
Checks-as X Y first (fault.Script l t) h = h
Checks-as X Y first fault.NoMemory h = h
Checks-as X Y first fault.Write h = h

-- a fault is passed on
pub Checks-passed : (X Y : Type 0) (first : Option (ℕ × ScriptFault)) (r : Result Y Fault) (e : Fault)
    → IsErrAnd r (λ d. d ≡ e) → Checks {X = X} first (Err e) → Checks {X = Y} first r
Checks-passed X Y first (Ok y) e passed h = absurd passed
Checks-passed X Y first (Err d) e passed h = Checks-as X Y first d
    (subst (λ f. Checks {X = X} first (Err f)) (sym passed) h)
