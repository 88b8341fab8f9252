-- What the lines of an input are answered, one after the other.
use Rattle.std.specs.Prelude.{◌≡◌, ◌⊎◌, ℕ, ◌+◌, List, [], ◌∷◌, ◌++◌, length, Option}
use Rattle.std.specs.Io.KnownBytes.{Appends, IsAtEnd}
use mathlib.Core.List.{IsPrefix}
use Rattle.group_history.specs.Map.{Bytes}
use Rattle.script_server.specs.Answers.{Answers, IsLine}
use Rattle.script_server.specs.Lines.{HasTakenLine}
use Rattle.script_server.specs.Standing.{Standing, at_first}

-- The lines, the first of which has this number, are answered one by one, each by one line; the text has their answers
-- in order.
abbrev pub Serves : ℕ → List Bytes → Standing → Bytes → Standing → Type 0
Serves n [] before text after = (text ≡ []) × (after ≡ before)
Serves n (l ∷ ls) before text after =
    (answer : Bytes) × (next : Standing) × (rest : Bytes) × Answers n l before answer next × IsLine answer
    × (text ≡ answer ++ rest) × Serves (n + 1) ls next rest after

-- Where serving is, between two lines: how things stand, the number of the next line, what is left of the input and
-- what the writer has, where these are known.
pub record ServedPlace : Type 0 where
  pub standing : Standing
  pub number : ℕ
  pub input : Option Bytes
  pub output : Option Bytes

-- from a place to another one: so many lines were taken, each was answered, and the answers were written
pub record Served (old new : ServedPlace) : Type 0 where
  pub lines : List Bytes
  pub taken : HasTakenLine old.input lines new.input
  pub number : new.number ≡ old.number + length lines
  pub text : Bytes
  pub answered : Serves old.number lines old.standing text new.standing
  pub written : Appends old.output new.output text

-- A beginning of the answer to the next line, which is one line. The line was done, so the group may have changed by
-- it.
pub record IsCut (at : ServedPlace) (cut : Bytes) : Type 0 where
  pub line : Bytes
  pub rest : Option Bytes
  pub taken : HasTakenLine at.input (line ∷ []) rest
  pub answer : Bytes
  pub after : Standing
  pub answered : Answers at.number line at.standing answer after
  pub one : IsLine answer
  pub begins : IsPrefix cut answer

-- Serving ended early at the last place: of the next answer nothing was written, or a beginning. Such a line, if there
-- was one, may have been done.
pub record HasEnded (old : ServedPlace) (output : Option Bytes) : Type 0 where
  pub last : ServedPlace
  pub served : Served old last
  pub cut : Bytes
  pub next : (cut ≡ []) ⊎ IsCut last cut
  pub written : Appends last.output output cut

-- before the first line of an input
abbrev pub beginning : Option Bytes → Option Bytes → ServedPlace
beginning input output = record { standing = at_first; number = 1; input = input; output = output }

-- all lines of the input were answered
pub record HasServed (input old new : Option Bytes) : Type 0 where
  pub end : ServedPlace
  pub served : Served (beginning input old) end
  pub whole : IsAtEnd end.input
  pub output : end.output ≡ new

-- so many lines were, from the first on; and of one more answer a beginning was written, maybe nothing
abbrev pub HasServedSome : Option Bytes → Option Bytes → Option Bytes → Type 0
HasServedSome input old new = HasEnded (beginning input old) new
