-- What a reader that keeps no lines has after a line.
use Rattle.std.proofs.Common.{◌≡◌, ◌<◌, ◌≤◌, ℕ, zero, suc, List, [], ◌∷◌, ◌++◌, length, map, vec_len, Result, Ok, Err}
use Rattle.std.proofs.Common.{IfOk, IfSome, OnErr, OnOk, All, refl, sym, ap, ◌∙◌, subst, arith}
use Rattle.std.proofs.lemmas.Bool.{false_from_ne_true}
use Rattle.std.proofs.lemmas.List.{length-map, length-replicate}
use Rattle.std.proofs.lemmas.List.Elements.{All-nil, All-cons, All-replicate}
use Rattle.std.proofs.lemmas.Str.{is_utf8-from_IsUtf8, IsUtf8-from_is_utf8}
use Rattle.std.specs.Str.{IsUtf8, is_utf8}
use Rattle.group_history.specs.Map.{Bytes}
use Rattle.group_history.specs.Refs.{max_slots, max_seats}
use Rattle.script_parser.specs.declared.faults.LineFault.{LineFault}
use Rattle.script_parser.specs.declared.faults.LineFault.TheVariants as line
use Rattle.script_parser.specs.declared.faults.ScriptFault.{ScriptFault}
use Rattle.script_parser.specs.declared.faults.ScriptFault.TheVariants as text
use Rattle.script_parser.specs.declared.script.LineKind.{LineKind}
use Rattle.script_parser.specs.declared.script.LineKind.TheVariants as asked
use Rattle.script_parser.specs.declared.parser.Parser.{Parser}
use Rattle.script_parser.specs.Context.{Context, Lines}
use Rattle.script_parser.specs.Commands.{with_line}
use Rattle.script_parser.specs.Names.{changed_at}
use Rattle.script_parser.specs.Faults.{said_with}
use Rattle.script_parser.specs.Kept.{IsInRange, bare, new_phase, without_lines}
use Rattle.script_parser.specs.Reading.{TakesAs, bytes_said_with, with_asked}
use Rattle.script_parser.specs.Scripts.{LearnsWithin, client_said, line_said}
use Rattle.script_parser.specs.Inside.Faults.{Asks}
use Rattle.script_parser.specs.Inside.Parsing.{context_of}
use Rattle.script_parser.specs.Inside.Reading.{IsBeside, noted_phase, kept_after}
use Rattle.script_parser.proofs.CheckedLemmas.{LearnWithin, Sound, said_with-sound}

-- IN RANGE

-- the same of what was said
abbrev pub IsSaidInRange : Context → Type 0
IsSaidInRange c = (length c.clients ≤ max_seats) × IfSome c.slots (λ n. (16 ≤ n) × (n ≤ max_slots))

many : (p : Parser) → length (map client_said p.header.clients.items) ≡ vec_len p.header.clients
many p = length-map p.header.clients.items client_said ∙ sym p.header.clients.ok.0

pub said_in_range : (p : Parser) → IsInRange p.header → IsSaidInRange (context_of p)
said_in_range p is = (subst (λ n. n ≤ max_seats) (sym (many p)) is.0, is.1)

pub in_range : (p : Parser) → IsSaidInRange (context_of p) → IsInRange p.header
in_range p is = (subst (λ n. n ≤ max_seats) (many p) is.0, is.1)

all_bare : (P : List Lines → Type 0) (n : ℕ) (ps : List (List Lines)) → P (new_phase n) → All P (bare n ps)
all_bare P n [] holds = All-nil P
all_bare P n (p ∷ ps) holds = All-cons P (new_phase n) [] holds (All-nil P)

-- where there are no lines, nothing else matters
sound_bare : (c : Context) → without_lines c ≡ c → IsSaidInRange c → Sound c
sound_bare c is range =
    let n = length c.clients in
    let phases : bare n c.phases ≡ c.phases = ap (λ d. d.phases) is in
    record {
      each_client = subst (All (λ (phase : List Lines). length phase ≡ n)) phases
          (all_bare (λ (phase : List Lines). length phase ≡ n) n c.phases (length-replicate n []));
      seats = range.0;
      slots = range.1;
      learnt = subst (All (All (LearnWithin n))) phases
          (all_bare (All (LearnWithin n)) n c.phases
          (All-replicate (LearnWithin n) n [] (All-nil (λ l. LearnsWithin n l.1))));
    }

range_beside : (a : LineKind) (c : Context) → Sound (with_asked a c) → IsSaidInRange c
range_beside asked.Nothing c sound = (sound.seats, sound.slots)
range_beside asked.Phase c sound = (sound.seats, sound.slots)
range_beside (asked.Command client l) c sound = (sound.seats, sound.slots)

-- what is kept beside what a right line asks is in range
pub range_asked : (old new : Context) (n : ℕ) (l : Bytes) (a : LineKind) → without_lines old ≡ old → IsSaidInRange old
    → said_with old n l ≡ Ok (with_asked a new) → IsSaidInRange new
range_asked old new n l a is range right =
    range_beside a new (subst (λ (r : Result Context ScriptFault). IfOk r Sound) right
    (said_with-sound old n l (sound_bare old is range)))

range_noted : (ps : List (List Lines)) (c : Context) → IsSaidInRange c → IsSaidInRange (noted_phase ps c)
range_noted [] c range = range
range_noted (p ∷ ps) c range = range

pub range_settled : (a : LineKind) (c : Context) → IsSaidInRange c → IsSaidInRange (kept_after a c)
range_settled asked.Nothing c range = range
range_settled asked.Phase c range = range_noted c.phases c range
range_settled (asked.Command client l) c range = range

-- WITHOUT LINES

-- phases without lines are so for as many clients
bare_for : (m n : ℕ) (ps : List (List Lines)) → bare m ps ≡ ps → (0 < length ps → n ≡ m) → bare n ps ≡ ps
bare_for m n [] is same = refl
bare_for m n (p ∷ ps) is same = ap (λ k. new_phase k ∷ []) (same (omega arith)) ∙ is

-- beside what is asked no line is kept
pub bare_beside : (n : ℕ) (old new : Context) (a : LineKind) → without_lines old ≡ old → IsBeside n old a new
    → without_lines new ≡ new
bare_beside n old new asked.Nothing is beside =
    let phases : bare (length old.clients) old.phases ≡ old.phases = ap (λ d. d.phases) is in
    let still = bare_for (length old.clients) (length new.clients) old.phases phases
    (λ some. ap length (beside.1 some)) in
    ap (λ ps. record new { phases = ps }) (subst (λ ps. bare (length new.clients) ps ≡ ps) (sym beside.0) still)
bare_beside n old new asked.Phase is beside = subst (λ c. without_lines c ≡ c) (sym beside) is
bare_beside n old new (asked.Command client l) is beside =
    let phases : bare (length old.clients) old.phases ≡ old.phases = ap (λ d. d.phases) is in
    let still = bare_for (length old.clients) (length new.clients) old.phases phases (λ some. ap length beside.1) in
    ap (λ ps. record new { phases = ps }) (subst (λ ps. bare (length new.clients) ps ≡ ps) (sym beside.0) still)

bare_changed : (n i : ℕ) (change : List Lines → List Lines) (ps : List (List Lines))
    → bare n (changed_at i change ps) ≡ bare n ps
bare_changed n i change [] = refl
bare_changed n zero change (p ∷ ps) = refl
bare_changed n (suc i) change (p ∷ ps) = refl

bare_line : (n client : ℕ) (l : ℕ × _) (ps : List (List Lines)) → bare n (with_line client l ps) ≡ bare n ps
unfolding with_line
bare_line n client l ps = bare_changed n _ _ ps

-- A phase is noted where it is the first.
took_phase : (right : Result Context ScriptFault) (n : ℕ) (c : Context) (ps : List (List Lines)) → c.phases ≡ ps
    → without_lines c ≡ c → right ≡ Ok (with_asked asked.Phase c)
    → TakesAs right n c (Ok asked.Phase) (noted_phase ps c)
took_phase right n c [] none is right_is = (
  with_asked asked.Phase c,
  right_is,
  refl,
  ap (λ ps. record c { phases = ps }) (ap (λ ps. ps ++ new_phase (length c.clients) ∷ []) none
      ∙ sym (ap (λ ps. bare (length c.clients) (ps ++ new_phase (length c.clients) ∷ [])) none)),
)
took_phase right n c (p ∷ ps) some is right_is =
    let m = length c.clients in
    let more : bare m (c.phases ++ new_phase m ∷ []) ≡ bare m c.phases =
    ap (λ qs. bare m (qs ++ new_phase m ∷ [])) some ∙ sym (ap (bare m) some) in (
      with_asked asked.Phase c,
      right_is,
      refl,
      sym (ap (λ qs. record c { phases = qs }) more ∙ is),
    )

-- what is asked is taken
pub took : (right : Result Context ScriptFault) (n : ℕ) (old new : Context) (a : LineKind) → without_lines old ≡ old
    → right ≡ Ok (with_asked a new) → IsBeside n old a new → TakesAs right n old (Ok a) (kept_after a new)
took right n old new asked.Nothing is right_is beside =
    (new, right_is, beside.0, sym (bare_beside n old new asked.Nothing is beside))
took right n old new asked.Phase is right_is beside =
    subst (λ c. TakesAs right n old (Ok asked.Phase) (kept_after asked.Phase c)) (sym beside)
    (took_phase right n old old.phases refl is (right_is ∙ ap (λ c. Ok (with_asked asked.Phase c)) beside))
took right n old new (asked.Command client l) is right_is beside =
    let kept = bare_beside n old new (asked.Command client l) is beside in (
      with_asked (asked.Command client l) new,
      right_is,
      (beside.2, beside.3, beside.4, ap (with_line client (line_said l)) beside.0),
      sym (ap (λ ps. record new { phases = ps }) (bare_line (length new.clients) client (line_said l) new.phases)
          ∙ kept),
    )

bare_noted : (ps : List (List Lines)) (c : Context) → c.phases ≡ ps → without_lines c ≡ c
    → without_lines (noted_phase ps c) ≡ noted_phase ps c
bare_noted [] c none is = ap (λ ps. record c { phases = ps })
    (ap (λ ps. bare (length c.clients) (ps ++ new_phase (length c.clients) ∷ [])) none
    ∙ sym (ap (λ ps. ps ++ new_phase (length c.clients) ∷ []) none))
bare_noted (p ∷ ps) c some is = is

pub bare_settled : (a : LineKind) (c : Context) → without_lines c ≡ c → without_lines (kept_after a c) ≡ kept_after a c
bare_settled asked.Nothing c is = is
bare_settled asked.Phase c is = bare_noted c.phases c refl is
bare_settled (asked.Command client l) c is = is

-- REFUSED

pub refused_as : (n : ℕ) (right : Result Context ScriptFault) (old new : Context) (f : LineFault)
    → Asks n right old new (Err f) → TakesAs right n old (Err f) new
refused_as n right old new (line.Script t) refused = refused
refused_as n right old new line.NoMemory refused = refused

-- what is settled, or left as it was
pub either : {X E : Type 0} (P : Context → Type 0) (r : Result X E) (mid then new : Context) → OnOk r (new ≡ then)
    → OnErr r (new ≡ mid) → P then → P mid → P new
either P (Ok x) mid then new ok err holds held = subst P (sym ok) holds
either P (Err e) mid then new ok err holds held = subst P (sym err) held

-- TEXTS AND BYTES

pub bytes_said-text : (c : Context) (n : ℕ) (l : Bytes) → IsUtf8 l → bytes_said_with c n l ≡ said_with c n l
unfolding bytes_said_with
bytes_said-text c n l utf8 = rw (is_utf8-from_IsUtf8 l utf8)

pub bytes_said-bytes : (c : Context) (n : ℕ) (l : Bytes) → (IsUtf8 l → ⊥) → bytes_said_with c n l ≡ Err text.NotUtf8
unfolding bytes_said_with
bytes_said-bytes c n l other = rw (false_from_ne_true (is_utf8 l) (λ e. other (IsUtf8-from_is_utf8 l e)))
