-- The lines of each client by the parts of a phase, and with a line more.
use Rattle.std.proofs.Common.{◌≡◌, ◌≢◌, ◌<◌, ◌+◌, ◌==◌, ◌∙◌, ℕ, zero, suc, Bool, true, false, ◌||◌, List, [], ◌∷◌, ◌++◌}
use Rattle.std.proofs.Common.{Option, None, Some, is_some, cond, length, map, set, get_or, replicate, refl, sym, ap}
use Rattle.std.proofs.Common.{subst, arith}
use Rattle.std.proofs.lemmas.Bool.{false≢true, ne_eqb, eq-eqb, eqb-true}
use Rattle.std.proofs.lemmas.Iterator.Adapters.{position_from-zero}
use Rattle.std.proofs.lemmas.List.Quantifiers.{position-Some}
use Rattle.std.specs.List.{list_any, position, position_from, range_with_len}
use Rattle.script_parser.specs.declared.script.ClientPart.{ClientPart}
use Rattle.script_parser.specs.declared.script.Command.{Command}
use Rattle.script_parser.specs.Names.{changed_at}
use Rattle.script_parser.specs.Scripts.{line_said, lines_at}

-- PLACES

-- in a new phase no client has a line
pub no_lines : (a n : ℕ) → map (lines_at []) (range_with_len a n) ≡ replicate n []
no_lines a zero = refl
no_lines a (suc n) = ap (λ xs. [] ∷ xs) (no_lines (a + 1) n)

-- what two functions give alike but at one number is alike past it
alike_past : {X : Type 0} (f g : ℕ → X) (c : ℕ) → ((i : ℕ) → i ≢ c → g i ≡ f i) → (a n : ℕ) → c < a
    → map g (range_with_len a n) ≡ map f (range_with_len a n)
alike_past f g c alike a zero past = refl
alike_past f g c alike a (suc n) past =
    ap (λ x. x ∷ map g (range_with_len (a + 1) n)) (alike a (λ e. absurd (omega (arith, e, past))))
    ∙ ap (λ xs. f a ∷ xs) (alike_past f g c alike (a + 1) n (omega (arith, past)))

-- and is changed there
changed_from : {X : Type 0} (f g : ℕ → X) (change : X → X) (c : ℕ) → ((i : ℕ) → i ≢ c → g i ≡ f i)
    → g c ≡ change (f c) → (a n k : ℕ) → a + k ≡ c
    → map g (range_with_len a n) ≡ changed_at k change (map f (range_with_len a n))
changed_from f g change c alike there a zero k is = refl
changed_from f g change c alike there a (suc n) zero is =
    let here : c ≡ a = omega (arith, is) in
    ap (λ x. x ∷ map g (range_with_len (a + 1) n)) (subst (λ i. g i ≡ change (f i)) here there)
    ∙ ap (λ xs. change (f a) ∷ xs) (alike_past f g c alike (a + 1) n (omega (arith, here)))
changed_from f g change c alike there a (suc n) (suc k) is =
    ap (λ x. x ∷ map g (range_with_len (a + 1) n)) (alike a (λ e. absurd (omega (arith, e, is))))
    ∙ ap (λ xs. f a ∷ xs) (changed_from f g change c alike there (a + 1) n k (omega (arith, is)))

-- PARTS

none_either : (b any : Bool) (a : ℕ) (r : Option ℕ) → cond b (Some a) r ≡ None → (r ≡ None → any ≡ false)
    → (b || any) ≡ false
none_either true any a r is rest = absurd (false≢true (sym (ap is_some is)))
none_either false any a r is rest = rest is

none_from : {X : Type 0} (p : X → Bool) (xs : List X) (a : ℕ) → position_from p a xs ≡ None → list_any p xs ≡ false
none_from p [] a is = refl
none_from p (x ∷ xs) a is = none_either (p x) (list_any p xs) a (position_from p (a + 1) xs) is
    (none_from p xs (a + 1))

neither : (a b : Bool) → (a || b) ≡ false → (a ≡ false) × (b ≡ false)
neither false b is = (refl, is)
neither true b is = absurd (false≢true (sym is))

-- the first line of a client
first_own : (ps : List ClientPart) (w : ClientPart) → list_any (λ p. p.client == w.client) ps ≡ false
    → (lines_at (ps ++ w ∷ []) w.client ≡ map line_said w.lines.items) × (lines_at ps w.client ≡ [])
first_own [] w none = (rw (eq-eqb w.client w.client refl), refl)
first_own (p ∷ ps) w none =
    let no = neither (p.client == w.client) (list_any (λ q. q.client == w.client) ps) none in
    let rest = first_own ps w no.1 in
    (rw (no.0) rest.0, rw (no.0) rest.1)

first_other : (ps : List ClientPart) (w : ClientPart) (i : ℕ) → i ≢ w.client → lines_at (ps ++ w ∷ []) i ≡ lines_at ps i
first_other [] w i other = rw (ne_eqb w.client i (λ e. other (sym e)))
first_other (p ∷ ps) w i other = ap (λ r. cond (p.client == i) (map line_said p.lines.items) r)
    (first_other ps w i other)

pub with_first : (ps : List ClientPart) (w : ClientPart) (l : ℕ × Command) (n : ℕ)
    → position (λ p. p.client == w.client) ps ≡ None → map line_said w.lines.items ≡ l ∷ []
    → map (lines_at (ps ++ w ∷ [])) (range_with_len 0 n)
    ≡ changed_at w.client (λ lines. lines ++ l ∷ []) (map (lines_at ps) (range_with_len 0 n))
with_first ps w l n none is =
    let own = first_own ps w (none_from (λ p. p.client == w.client) ps 0
    (sym (position_from-zero (λ p. p.client == w.client) ps) ∙ none)) in
    changed_from (lines_at ps) (lines_at (ps ++ w ∷ [])) (λ lines. lines ++ l ∷ []) w.client
    (λ i other. first_other ps w i other) (own.0 ∙ is ∙ ap (λ ls. ls ++ l ∷ []) (sym own.1)) 0 n w.client (omega arith)

-- a line more of a client that has some
more_own : (ps : List ClientPart) (c k : ℕ) (was w : ClientPart) (l : ℕ × Command) → k < length ps
    → was ≡ get_or ps k was
    → (was.client == c) ≡ true → ((j : ℕ) → j < k → ((get_or ps j was).client == c) ≡ false) → w.client ≡ was.client
    → map line_said w.lines.items ≡ map line_said was.lines.items ++ l ∷ []
    → lines_at (set ps k w) c ≡ lines_at ps c ++ l ∷ []
more_own [] c k was w l within at found before same is = absurd (omega (arith, within))
more_own (p ∷ ps) c zero was w l within at found before same is =
    subst (λ (q : ClientPart). cond (w.client == c) (map line_said w.lines.items) (lines_at ps c)
    ≡ cond (q.client == c) (map line_said q.lines.items) (lines_at ps c) ++ l ∷ []) at
    (subst (λ (n : ℕ). cond (n == c) (map line_said w.lines.items) (lines_at ps c)
    ≡ cond (was.client == c) (map line_said was.lines.items) (lines_at ps c) ++ l ∷ []) (sym same) (rw found is))
more_own (p ∷ ps) c (suc k) was w l within at found before same is =
    rw (before 0 (omega arith)) (more_own ps c k was w l (omega (arith, within)) at found
    (λ j below. before (suc j) (omega (arith, below))) same is)

more_other : (ps : List ClientPart) (i k : ℕ) (was w : ClientPart) → k < length ps → was ≡ get_or ps k was
    → w.client ≡ was.client
    → (was.client == i) ≡ false → lines_at (set ps k w) i ≡ lines_at ps i
more_other [] i k was w within at same other = refl
more_other (p ∷ ps) i zero was w within at same other =
    subst (λ (q : ClientPart). cond (w.client == i) (map line_said w.lines.items) (lines_at ps i)
    ≡ cond (q.client == i) (map line_said q.lines.items) (lines_at ps i)) at
    (subst (λ (n : ℕ). cond (n == i) (map line_said w.lines.items) (lines_at ps i)
    ≡ cond (was.client == i) (map line_said was.lines.items) (lines_at ps i)) (sym same) (rw other))
more_other (p ∷ ps) i (suc k) was w within at same other = ap
    (λ r. cond (p.client == i) (map line_said p.lines.items) r)
    (more_other ps i k was w (omega (arith, within)) at same other)

pub with_more : (ps : List ClientPart) (c k : ℕ) (was w : ClientPart) (l : ℕ × Command) (n : ℕ)
    → position (λ p. p.client == c) ps ≡ Some k → was ≡ get_or ps k was → w.client ≡ was.client
    → map line_said w.lines.items ≡ map line_said was.lines.items ++ l ∷ []
    → map (lines_at (set ps k w)) (range_with_len 0 n)
    ≡ changed_at c (λ lines. lines ++ l ∷ []) (map (lines_at ps) (range_with_len 0 n))
with_more ps c k was w l n first at same is =
    let found = position-Some (λ p. p.client == c) ps k was first in
    let own : (was.client == c) ≡ true = subst (λ (q : ClientPart). (q.client == c) ≡ true) (sym at) found.1 in
    changed_from (lines_at ps) (lines_at (set ps k w)) (λ lines. lines ++ l ∷ []) c
    (λ i other. more_other ps i k was w found.0 at same
    (ne_eqb was.client i (λ e. other (sym e ∙ eqb-true was.client c own))))
    (more_own ps c k was w l found.0 at own found.2 same is) 0 n c (omega arith)

-- the lines of the client whose part stands at a place
found_at : (ps : List ClientPart) (c k : ℕ) (was : ClientPart) → k < length ps → was ≡ get_or ps k was
    → (was.client == c) ≡ true → ((j : ℕ) → j < k → ((get_or ps j was).client == c) ≡ false)
    → map line_said was.lines.items ≡ lines_at ps c
found_at [] c k was within at found before = absurd (omega (arith, within))
found_at (p ∷ ps) c zero was within at found before =
    subst (λ (q : ClientPart). map line_said was.lines.items
    ≡ cond (q.client == c) (map line_said q.lines.items) (lines_at ps c))
    at (rw found)
found_at (p ∷ ps) c (suc k) was within at found before = rw (before 0 (omega arith))
    (found_at ps c k was (omega (arith, within)) at found (λ j below. before (suc j) (omega (arith, below))))

pub lines_found : (ps : List ClientPart) (c k : ℕ) (was : ClientPart) → position (λ p. p.client == c) ps ≡ Some k
    → was ≡ get_or ps k was → map line_said was.lines.items ≡ lines_at ps c
lines_found ps c k was first at =
    let found = position-Some (λ p. p.client == c) ps k was first in
    found_at ps c k was found.0 at (subst (λ (q : ClientPart). (q.client == c) ≡ true) (sym at) found.1) found.2

none_of : (ps : List ClientPart) (c : ℕ) → list_any (λ p. p.client == c) ps ≡ false → lines_at ps c ≡ []
none_of [] c none = refl
none_of (p ∷ ps) c none =
    let no = neither (p.client == c) (list_any (λ q. q.client == c) ps) none in rw (no.0) (none_of ps c no.1)

pub lines_none : (ps : List ClientPart) (c : ℕ) → position (λ p. p.client == c) ps ≡ None → lines_at ps c ≡ []
lines_none ps c none = none_of ps c (none_from (λ p. p.client == c) ps 0
    (sym (position_from-zero (λ p. p.client == c) ps) ∙ none))
