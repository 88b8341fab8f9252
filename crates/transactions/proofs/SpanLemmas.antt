-- Which rows are whose, where rows were taken again.
use Rattle.std.proofs.Common.{◌≡◌, ◌≤◌, ◌+◌, ◌-◌, ◌⊎◌, inl, inr, ℕ, zero, suc, List, [], ◌∷◌, ◌++◌, Option, Some, None}
use Rattle.std.proofs.Common.{length, length-take, take, drop, slice_set, min, ap, refl, sym, subst, true, ◌∙◌, arith}
use Rattle.std.proofs.Common.{length-append}
use Rattle.std.proofs.Math.Nat.{min-le_right}
use Rattle.std.proofs.Math.Seq.{drop-append-add, drop-append_seam, take-length}
use Rattle.std.proofs.lemmas.List.{drop-append-le, drop-drop, drop-take, length-drop, length-take-le, take-append-le}
use Rattle.std.proofs.lemmas.List.{take-take, take_min}
use Rattle.std.specs.List.{Contains}
use Rattle.std.specs.Prelude.{IfNone, IfSome}
use mathlib.Core.List.{IsPrefix}
use Rattle.group_history.proofs.Lists.{cons_cases, first_here, later_here, no_element}
use Rattle.group_history.specs.declared.scans.Scan.{Scan}
use Rattle.group_history.specs.Rows.{Rows}
use Rattle.group_history.specs.Scans.{limited}
use Rattle.group_history.specs.Spelling.{Contents}
use Rattle.map_chunks.specs.Inside.Scanning.{CanTake}
use Rattle.map_chunks.specs.Scanning.{Took, left, scanned, taken}
use Rattle.map_chunks.specs.Shown.{chunk_rows}
use Rattle.map_chunks.proofs.JoinLemmas.{some_is}
use Rattle.map_chunks.proofs.ScanLemmas.{chunk_rows-kept}
use Rattle.map_chunks.proofs.TakenLemmas.{take-all}
use Rattle.transactions.specs.Rescans.{SoFar, HasFound, IsRescanned}
use Rattle.transactions.specs.Spans.{AreSpans, IsMoved, IsOneMoved, IsSpan, Tells, fitting, span_rows}
use Rattle.transactions.specs.declared.again.Rescanned.{Rescanned}
use Rattle.transactions.specs.declared.spans.Span.{Span}

-- what stands in a list in which one element was set
pub set_cases : {A : Type 0} (xs : List A) (i : ℕ) (y x : A) → Contains (slice_set xs i y) x → Contains xs x ⊎ (y ≡ x)
set_cases [] i y x h = absurd (no_element x h)
set_cases (z ∷ xs) zero y x h = elim (cons_cases y xs x h) [ inl e ↦ inr e | inr q ↦ inl (later_here z xs x q) ]
set_cases (z ∷ xs) (suc i) y x h = elim (cons_cases z (slice_set xs i y) x h) [
  | inl e ↦ inl (subst (λ w. Contains (z ∷ xs) w) e (first_here z xs))
  | inr q ↦ elim (set_cases xs i y x q) [ inl p ↦ inl (later_here z xs x p) | inr e ↦ inr e ]
]

-- ROOM FOR ROWS

-- there is room for no more than there are
fitting-few : (room : Option ℕ) (n : ℕ) → fitting room n ≤ n
fitting-few None n = omega (arith)
fitting-few (Some m) n = min-le_right m n

-- the first ones of the first ones
take-take-min : (m n : ℕ) (rows : Rows) → take m (take n rows) ≡ take (min m n) rows
take-take-min m n rows =
    let few = take n rows in
    let same : min m (length few) ≡ min (min m n) (length few) = omega (arith, length-take n rows) in
    sym (take_min m few) ∙ ap (λ (i : ℕ). take i few) same ∙ take_min (min m n) few
    ∙ take-take (min m n) n rows (min-le_right m n)

-- of a span's rows as many are taken as there is room for
limited-fitting : (room : Option ℕ) (n : ℕ) (rows : Rows) → limited room (take n rows) ≡ take (fitting room n) rows
limited-fitting None n rows = refl
limited-fitting (Some m) n rows = take-take-min m n rows

-- where a span tells all rows for which there is room, these are taken of its rows
limited-told : (room : Option ℕ) (s : Span) (chunk own : Rows) → Tells s room → take s.count chunk ≡ own
    → (s.whole ≡ true → chunk ≡ own) → limited room chunk ≡ limited room own
limited-told None s chunk own tells has all = all tells
limited-told (Some m) s chunk own (inl whole) has all = ap (take m) (all whole)
limited-told (Some m) s chunk own (inr few) has all = sym (take-take m s.count chunk few) ∙ ap (take m) has

-- what is taken are the first rows
limited-first : (room : Option ℕ) (rows : Rows) → take (length (limited room rows)) rows ≡ limited room rows
limited-first None rows = take-length rows
limited-first (Some n) rows = ap (λ (m : ℕ). take m rows) (length-take n rows) ∙ take_min n rows

-- they are all where there is room for one more
limited-all : (room after : Option ℕ) (rows : Rows) → after ≡ left room (length (limited room rows))
    → CanTake after 1 → limited room rows ≡ rows
limited-all None after rows is more = refl
limited-all (Some n) after rows is more =
    let one : 1 ≤ n - length (take n rows) = subst (λ (r : Option ℕ). CanTake r 1) is more in
    take-all n rows (omega (arith, one, length-take n rows))

-- SPANS WHERE MORE IS KNOWN, AND MORE ROWS

pub spans_known : (scan : Scan) (old new : Contents) (rows : Rows) (spans : List Span) → IsPrefix old new
    → AreSpans scan old rows spans → AreSpans scan new rows spans
spans_known scan old new rows spans p are s met k is =
    let one = are s met k is in
    record {
      chunk = one.chunk;
      known = chunk_rows-kept old new k one.chunk p one.known;
      inside = one.inside;
      has = one.has;
      all = one.all;
    }

rows_still : (rows more : Rows) (s : Span) → s.from + s.count ≤ length rows
    → span_rows rows s ≡ span_rows (rows ++ more) s
rows_still rows more s inside =
    sym (ap (take s.count) (drop-append-le s.from rows more (omega (arith, inside)))
    ∙ take-append-le s.count (drop s.from rows) more (omega (arith, inside, length-drop s.from rows)))

span_more : (scan : Scan) (contents : Contents) (rows more : Rows) (k : ℕ) (s : Span) → IsSpan scan contents rows k s
    → IsSpan scan contents (rows ++ more) k s
span_more scan contents rows more k s one = record {
  chunk = one.chunk;
  known = one.known;
  inside = omega (arith, one.inside, length-append rows more);
  has = one.has ∙ rows_still rows more s one.inside;
  all = λ whole. one.all whole ∙ rows_still rows more s one.inside;
}

-- ROWS OF A CHUNK THAT WAS MET BEFORE

-- a part of the moved rows, behind other rows
part_behind : (rows told : Rows) (from count end : ℕ) (one s : Span) → from + count ≤ length told
    → IsMoved from count end one s → end ≡ length rows + count
    → take s.count (drop one.from told) ≡ span_rows (rows ++ take count (drop from told)) s
part_behind rows told from count end one s inside moved e =
    let n = one.from - from in
    let rest = count - n in
    let at : s.from ≡ length rows + n = omega (arith, moved.begins, moved.fits, moved.at, e) in
    let whole : count ≡ n + rest = omega (arith, moved.begins, moved.fits) in
    let fits : s.count ≤ rest = omega (arith, moved.begins, moved.fits) in
    let first : from + n ≡ one.from = omega (arith, moved.begins) in
    let more = take count (drop from told) in
    sym (ap (λ (i : ℕ). take s.count (drop i (rows ++ more))) at
    ∙ ap (take s.count) (drop-append-add rows more n)
    ∙ ap (λ (i : ℕ). take s.count (drop n (take i (drop from told)))) whole
    ∙ ap (take s.count) (drop-take n rest (drop from told))
    ∙ take-take s.count rest (drop n (drop from told)) fits
    ∙ ap (take s.count) (drop-drop n from told)
    ∙ ap (λ (i : ℕ). take s.count (drop i told)) first)

-- a span that was moved with a chunk's rows
span_moved : (scan : Scan) (contents : Contents) (told rows : Rows) (known kept : List Span) (from count end : ℕ)
    (s : Span) (k : ℕ) → AreSpans scan contents told known → ((t : Span) → Contains kept t → Contains known t)
    → from + count ≤ length told → end ≡ length rows + count → IsOneMoved from count end kept s
    → s.stamp ≡ Some k → IsSpan scan contents (rows ++ take count (drop from told)) k s
span_moved scan contents told rows known kept from count end s k are sub inside e is own =
    let t = is.one in
    let moved = is.moved in
    let one = are t (sub t is.met) k (sym moved.stamp ∙ own) in
    let long : length (take count (drop from told)) ≡ count = length-take-le count (drop from told)
    (omega (arith, inside, length-drop from told)) in
    let behind = part_behind rows told from count end t s inside moved e in
    record {
      chunk = one.chunk;
      known = one.known;
      inside = omega (
        arith,
        e,
        long,
        length-append rows (take count (drop from told)),
        moved.begins,
        moved.fits,
        moved.at,
      );
      has = sym (take-take s.count t.count (scanned scan one.chunk) moved.few) ∙ ap (take s.count) one.has
          ∙ take-take s.count t.count (drop t.from told) moved.few ∙ behind;
      all = λ whole.
          let w = moved.all whole in
          one.all w.0 ∙ ap (λ (n : ℕ). take n (drop t.from told)) (sym w.1) ∙ behind;
    }

-- of a chunk that was met before the rows are those of its span, as many as there is room for
pub kept_more : (scan : Scan) (contents : Contents) (told : Rows) (known kept : List Span) (span : Span) (stamp : ℕ)
    (here : Rows) (old new : SoFar) → AreSpans scan contents told known → Contains known span → span.stamp ≡ Some stamp
    → ((s : Span) → Contains kept s → Contains known s) → chunk_rows contents stamp ≡ Some here
    → Tells span old.room → new.rows ≡ old.rows ++ take (fitting old.room span.count) (drop span.from told)
    → new.room ≡ left old.room (fitting old.room span.count)
    → ((s : Span) → Contains new.spans s → Contains old.spans s
    ⊎ IsOneMoved span.from (fitting old.room span.count) (length new.rows) kept s)
    → Took (HasFound scan contents) old new old.room new.room (taken scan old.room here)
kept_more scan contents told known kept span stamp here old new are met is sub shown tells now less cases =
    let one = are span met stamp is in
    let count = fitting old.room span.count in
    let inside : span.from + count ≤ length told = omega (arith, one.inside, fitting-few old.room span.count) in
    let more = take count (drop span.from told) in
    let long : length more ≡ count = length-take-le count (drop span.from told)
    (omega (arith, inside, length-drop span.from told)) in
    let same : one.chunk ≡ here = some_is (sym one.known ∙ shown) in
    let all : taken scan old.room here ≡ more = ap (taken scan old.room) (sym same)
    ∙ limited-told old.room span (scanned scan one.chunk) (span_rows told span) tells one.has one.all
    ∙ limited-fitting old.room span.count (drop span.from told) in
    subst (Took (HasFound scan contents) old new old.room new.room) (sym all) (record {
      rows = λ rows h.
          let grown : new.rows ≡ rows ++ more = now ∙ ap (λ w. w ++ more) h.taken in
          let end : length new.rows ≡ length rows + count = ap length grown
          ∙ length-append rows more ∙ ap (λ n. length rows + n) long in
          record {
            taken = grown;
            spans = λ s in_new k own. elim (cases s in_new) [
              | inl p ↦ span_more scan contents rows more k s (h.spans s p k own)
              | inr q ↦ span_moved scan contents told rows known kept span.from count (length new.rows) s k are sub
                  inside end q own
            ];
          };
      room = less ∙ ap (left old.room) (sym long);
    })

-- ROWS OF A CHUNK THAT IS SHOWN

-- the span of a chunk that was ended there
abbrev IsEnded : ℕ → ℕ → SoFar → Span → Type 0
IsEnded stamp from mid s = (s.stamp ≡ Some stamp) × (s.from ≡ from) × (s.count ≡ length mid.rows - from)
    × (s.whole ≡ true → CanTake mid.room 1)

-- a span of no chunk says nothing
found_begun : (scan : Scan) (contents : Contents) (old new : SoFar) (rows : Rows) → new.rows ≡ old.rows
    → ((s : Span) → Contains new.spans s → Contains old.spans s ⊎ (s.stamp ≡ None)) → HasFound scan contents old rows
    → HasFound scan contents new rows
found_begun scan contents old new rows same cases h = record {
  taken = same ∙ h.taken;
  spans = λ s in_new k own. elim (cases s in_new) [
    | inl p ↦ h.spans s p k own
    | inr none ↦ absurd (let e : None ≡ Some k = sym none ∙ own in cc e)
  ];
}

-- the last rows are those of a span that ends with them
last_rows : (rows more : Rows) (s : Span) → s.from ≡ length rows → s.count ≡ length (rows ++ more) - s.from
    → more ≡ span_rows (rows ++ more) s
last_rows rows more s from count =
    let n : s.count ≡ length more = omega (arith, from, count, length-append rows more) in
    sym (ap (λ (i : ℕ). take i (drop s.from (rows ++ more))) n
    ∙ ap (λ (i : ℕ). take (length more) (drop i (rows ++ more))) from
    ∙ ap (take (length more)) (drop-append_seam rows more) ∙ take-length more)

-- and the span of a chunk says that its rows are those that were taken since
found_ended : (scan : Scan) (contents : Contents) (stamp from : ℕ) (here rows more : Rows) (mid new : SoFar)
    → chunk_rows contents stamp ≡ Some here → take (length more) (scanned scan here) ≡ more
    → (CanTake mid.room 1 → more ≡ scanned scan here) → from ≡ length rows → new.rows ≡ mid.rows
    → ((s : Span) → Contains new.spans s → Contains mid.spans s ⊎ IsEnded stamp from mid s)
    → HasFound scan contents mid (rows ++ more) → HasFound scan contents new (rows ++ more)
found_ended scan contents stamp from here rows more mid new shown first all begun same cases h = record {
  taken = same ∙ h.taken;
  spans = λ s in_new k own. elim (cases s in_new) [
    | inl p ↦ h.spans s p k own
    | inr q ↦ (
        let one : stamp ≡ k = some_is (sym q.0 ∙ own) in
        let count : s.count ≡ length (rows ++ more) - s.from = q.2 ∙ ap (λ (w : Rows). length w - from) h.taken
        ∙ ap (λ (n : ℕ). length (rows ++ more) - n) (sym q.1) in
        let long : s.count ≡ length more = omega (arith, count, q.1, begun, length-append rows more) in
        let last = last_rows rows more s (q.1 ∙ begun) count in
        record {
          chunk = here;
          known = subst (λ (n : ℕ). chunk_rows contents n ≡ Some here) one shown;
          inside = omega (arith, count, q.1, begun, length-append rows more);
          has = ap (λ (n : ℕ). take n (scanned scan here)) long ∙ first ∙ last;
          all = λ whole. sym (all (q.3 whole)) ∙ last;
        }
        )
  ];
}

-- a chunk's rows, as many as there is room for, between the beginning and the end of its span
pub shown_more : (scan : Scan) (contents : Contents) (stamp from : ℕ) (here : Rows) (old begun mid new : SoFar)
    → chunk_rows contents stamp ≡ Some here → from ≡ length old.rows → begun.rows ≡ old.rows → begun.room ≡ old.room
    → ((s : Span) → Contains begun.spans s → Contains old.spans s ⊎ (s.stamp ≡ None))
    → Took (HasFound scan contents) begun mid begun.room mid.room (taken scan begun.room here)
    → new.rows ≡ mid.rows → new.room ≡ mid.room
    → ((s : Span) → Contains new.spans s → Contains mid.spans s ⊎ IsEnded stamp from mid s)
    → Took (HasFound scan contents) old new old.room new.room (taken scan old.room here)
shown_more scan contents stamp from here old begun mid new shown at still room none more same end cases =
    let took = subst (λ (r : Option ℕ). Took (HasFound scan contents) begun mid r mid.room (taken scan r here)) room
    more in
    record {
      rows = λ rows h. found_ended scan contents stamp from here rows (taken scan old.room here) mid new shown
          (limited-first old.room (scanned scan here)) (limited-all old.room mid.room (scanned scan here) took.room)
          (at ∙ ap length h.taken) same cases
          (took.rows rows (found_begun scan contents old begun rows still none h));
      room = end ∙ took.room;
    }

-- a leaf's rows, which are taken with no span of their own
pub leaf_more : (scan : Scan) (contents : Contents) (leaf here : Rows) (old new : SoFar) → here ≡ leaf
    → new.rows ≡ old.rows ++ taken scan old.room leaf → new.room ≡ left old.room (length (taken scan old.room leaf))
    → new.spans ≡ old.spans → Took (HasFound scan contents) old new old.room new.room (taken scan old.room here)
leaf_more scan contents leaf here old new is now room same =
    subst (λ (w : Rows). Took (HasFound scan contents) old new old.room new.room (taken scan old.room w)) (sym is)
    (record {
      rows = λ rows h.
          record {
            taken = now ∙ ap (λ (w : Rows). w ++ taken scan old.room leaf) h.taken;
            spans = λ s in_new k own. span_more scan contents rows (taken scan old.room leaf) k s
                (h.spans s (subst (λ (ss : List Span). Contains ss s) same in_new) k own);
          };
      room = room;
    })

-- WHAT IS ANSWERED

if_some : {A : Type 0} {P Q : A → Type 0} (o : Option A) → ((x : A) → P x → Q x) → IfSome o P → IfSome o Q
if_some None f h = h
if_some (Some x) f h = f x h

if_none : {A P Q : Type 0} (o : Option A) → (P → Q) → IfNone o P → IfNone o Q
if_none None f h = f h
if_none (Some x) f h = h

-- nothing was found of no rows
pub found_none : (scan : Scan) (contents : Contents) (room : Option ℕ) (found : SoFar)
    → found ≡ record { rows = []; spans = []; room = room } → HasFound scan contents found []
found_none scan contents room found is = record {
  taken = ap (λ (f : SoFar). f.rows) is;
  spans = λ s met. absurd (no_element s (subst (λ (f : SoFar). Contains f.spans s) is met));
}

pub rescanned_is : (scan : Scan) (contents : Contents) (told rows : Rows) (end : SoFar) (found : Rescanned)
    → IfSome found.others (λ others. others.items ≡ end.rows) → IfNone found.others (end.rows ≡ told)
    → found.spans ≡ end.spans → HasFound scan contents end rows → IsRescanned scan contents told rows found
rescanned_is scan contents told rows end found some same spans h = record {
  some = if_some found.others (λ others is. is ∙ h.taken) some;
  same = if_none found.others (λ is. sym is ∙ h.taken) same;
  spans = subst (AreSpans scan contents rows) (sym spans) h.spans;
}
