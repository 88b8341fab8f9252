-- Serving goes on from where it was.
use Rattle.std.proofs.Common.{◌≡◌, ℕ, ◌+◌, List, [], ◌∷◌, ◌++◌, length, refl, sym, ap, subst, ◌∙◌, append_assoc, arith}
use Rattle.std.proofs.Common.{append-nil, ◌-◌, ◌≤◌, ◌⊎◌, drop, length-drop, inl, inr, length-append, take}
use Rattle.std.proofs.Common.{take-append-drop}
use Rattle.std.proofs.Math.Seq.{take-add}
use Rattle.std.proofs.lemmas.List.{take_all}
use Rattle.std.specs.Prelude.{Option, Some, None, Result, Ok, Err, OnErr}
use Rattle.std.specs.Io.KnownBytes.{Appends, Keeps}
use mathlib.Core.List.{IsPrefix}
use Rattle.group_history.specs.Map.{Bytes}
use Rattle.script_server.specs.Answers.{Answers, IsLine}
use Rattle.script_server.specs.Lines.{AreLines, HasTakenLine}
use Rattle.script_server.specs.Serving.{HasEnded, IsCut, ServedPlace, Served, Serves}
use Rattle.script_server.specs.Standing.{Standing}
use Rattle.script_server.specs.Inside.Writes.{IsBeginning, WritesSome}

-- what holds holds of an error
pub on_err : {T E P : Type 0} (r : Result T E) → P → OnErr r P
on_err (Ok x) p = tt
on_err (Err e) p = p

-- ---- lines of an input

lines_on : (bytes mid rest : Bytes) (ls ms : List Bytes) → AreLines bytes ls mid → AreLines mid ms rest
    → AreLines bytes (ls ++ ms) rest
lines_on bytes mid rest [] ms h k = subst (λ b. AreLines b ms rest) h k
lines_on bytes mid rest (l ∷ ls) ms h k = (h.0, h.1, lines_on h.0 mid rest ls ms h.2 k)

taken_on : (a b c : Option Bytes) (ls ms : List Bytes) → HasTakenLine a ls b → HasTakenLine b ms c
    → HasTakenLine a (ls ++ ms) c
taken_on None b c ls ms h k = tt
taken_on (Some x) None c ls ms h k = absurd h
taken_on (Some x) (Some y) None ls ms h k = absurd k
taken_on (Some x) (Some y) (Some z) ls ms h k = lines_on x y z ls ms h k

pub taken_none : (a : Option Bytes) → HasTakenLine a [] a
taken_none None = tt
taken_none (Some x) = refl

-- ---- known bytes that grow

appends_on : (a b c : Option Bytes) (xs ys : Bytes) → Appends a b xs → Appends b c ys → Appends a c (xs ++ ys)
appends_on None b c xs ys h k = tt
appends_on (Some x) None c xs ys h k = absurd h
appends_on (Some x) (Some y) None xs ys h k = absurd k
appends_on (Some x) (Some y) (Some z) xs ys h k = k ∙ ap (λ w. w ++ ys) h ∙ append_assoc x xs ys

pub rest_is : (d : ℕ) (text : Bytes) → take (length text - d) (drop d text) ≡ drop d text
rest_is d text = take_all (length text - d) (drop d text) (omega (arith, length-drop d text))

-- what was written of a text, and what is written of its rest then
pub some_on : (a b c : Option Bytes) (text : Bytes) (d n : ℕ) → Appends a b (take d text)
    → Appends b c (take n (take (length text - d) (drop d text))) → Appends a c (take (d + n) text)
some_on a b c text d n h k =
    subst (Appends a c) (sym (take-add d n text)) (appends_on a b c (take d text) (take n (drop d text)) h
    (subst (λ r. Appends b c (take n r)) (rest_is d text) k))

-- within the text
pub within_on : (text : Bytes) (d n : ℕ) → d ≤ length text → n ≤ length (take (length text - d) (drop d text))
    → d + n ≤ length text
within_on text d n h k =
    let e : n ≤ length (drop d text) = subst (λ r. n ≤ length r) (rest_is d text) k in
    omega (arith, length-drop d text)

pub appends_kept : (a b c : Option Bytes) (xs : Bytes) → Appends a b xs → Keeps b c → Appends a c xs
appends_kept None b c xs h k = tt
appends_kept (Some x) None c xs h k = absurd h
appends_kept (Some x) (Some y) None xs h k = absurd k
appends_kept (Some x) (Some y) (Some z) xs h k = k ∙ h

pub some_written : (a b : Option Bytes) (text : Bytes) (d : ℕ) → Appends a b (take d text)
    → (cut : Bytes) × IsPrefix cut text × Appends a b cut
some_written a b text d h = (take d text, (drop d text, take-append-drop d text), h)

pub appends_none : (a : Option Bytes) → Appends a a []
appends_none None = tt
appends_none (Some x) = sym (append-nil x)

-- ---- answers

serves_on : (n : ℕ) (ls ms : List Bytes) (a b c : Standing) (s t : Bytes) → Serves n ls a s b
    → Serves (n + length ls) ms b t c → Serves n (ls ++ ms) a (s ++ t) c
serves_on n [] ms a b c s t h k =
    subst (λ w. Serves n ms a (w ++ t) c) (sym h.0)
    (subst (λ w. Serves n ms w t c) h.1 (subst (λ m. Serves m ms b t c) (omega arith) k))
serves_on n (l ∷ ls) ms a b c s t h k = (
  h.0,
  h.1,
  h.2 ++ t,
  h.3,
  h.4,
  ap (λ w. w ++ t) h.5 ∙ append_assoc h.0 h.2 t,
  serves_on (n + 1) ls ms h.1 b c h.2 t h.6 (subst (λ m. Serves m ms b t c) (omega arith) k),
)

pub served_on : (a b c : ServedPlace) → Served a b → Served b c → Served a c
served_on a b c h k = record {
  lines = h.lines ++ k.lines;
  taken = taken_on a.input b.input c.input h.lines k.lines h.taken k.taken;
  number = omega (arith, length-append {A = Bytes} h.lines k.lines, h.number, k.number);
  text = h.text ++ k.text;
  answered = serves_on a.number h.lines k.lines a.standing b.standing c.standing h.text k.text h.answered
      (subst (λ m. Serves m k.lines b.standing k.text c.standing) h.number k.answered);
  written = appends_on a.output b.output c.output h.text k.text h.written k.written;
}

pub served_none : (a : ServedPlace) → Served a a
served_none a = record {
  lines = [];
  taken = taken_none a.input;
  number = omega arith;
  text = [];
  answered = (refl, refl);
  written = appends_none a.output;
}

-- one line more
pub served_one : (a b : ServedPlace) (line answer : Bytes) → b.number ≡ a.number + 1
    → HasTakenLine a.input (line ∷ []) b.input
    → Answers a.number line a.standing answer b.standing → IsLine answer → Appends a.output b.output answer → Served a b
served_one a b line answer number taken answered one written = record {
  lines = line ∷ [];
  taken = taken;
  number = number;
  text = answer;
  answered = (answer, b.standing, [], answered, one, sym (append-nil answer), (refl, refl));
  written = written;
}

-- ---- an early end

pub ended_on : (a b : ServedPlace) (output : Option Bytes) → Served a b → HasEnded b output → HasEnded a output
ended_on a b output h k = record {
  last = k.last;
  served = served_on a b k.last h k.served;
  cut = k.cut;
  next = k.next;
  written = k.written;
}

pub ended_here : (a : ServedPlace) → HasEnded a a.output
ended_here a = record {
  last = a;
  served = served_none a;
  cut = [];
  next = inl refl;
  written = appends_none a.output;
}

-- within the answer of a line
next_cut : (a : ServedPlace) (line : Bytes) (rest : Option Bytes) (answer : Bytes) (after : Standing) (cut : Bytes)
    → HasTakenLine a.input (line ∷ []) rest → Answers a.number line a.standing answer after → IsBeginning cut answer
    → (cut ≡ []) ⊎ IsCut a cut
next_cut a line rest answer after cut taken answered (inl none) = inl none
next_cut a line rest answer after cut taken answered (inr begins) = inr (record {
  line = line;
  rest = rest;
  taken = taken;
  answer = answer;
  after = after;
  answered = answered;
  one = begins.0;
  begins = begins.1;
})

pub ended_within : (a : ServedPlace) (line : Bytes) (rest : Option Bytes) (answer : Bytes) (after : Standing)
    (output : Option Bytes) → HasTakenLine a.input (line ∷ []) rest → Answers a.number line a.standing answer after
    → WritesSome answer a.output output → HasEnded a output
ended_within a line rest answer after output taken answered some = record {
  last = a;
  served = served_none a;
  cut = some.0;
  next = next_cut a line rest answer after some.0 taken answered some.1;
  written = some.2;
}
