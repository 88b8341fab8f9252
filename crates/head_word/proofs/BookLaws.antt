-- The laws of books.
use Rattle.std.proofs.Common.{◌≡◌, ℕ, zero, suc, ◌+◌, ◌<◌, ◌≤◌, ◌==◌, ◌&&◌, Bool, true, false, List, [], ◌∷◌, ◌++◌, ◌⊎◌}
use Rattle.std.proofs.Common.{inl, inr, length, slice_get, Some, refl, ap, sym, ◌∙◌, subst, arith, length-append}
use Rattle.std.proofs.Common.{append-nil}
use Rattle.std.specs.Prelude.{option_map}
use Rattle.std.proofs.lemmas.Option.{slice_get-map}
use Rattle.std.proofs.lemmas.Bool.{eqb-true}
use mathlib.Core.List.{IsPrefix}
use Rattle.group_history.specs.declared.nodes.Node.{Node}
use Rattle.group_history.specs.Meaning.{Meanings}
use Rattle.group_history.specs.Naming.{drafted_content}
use Rattle.group_history.specs.Refs.{stamp_of}
use Rattle.group_history.specs.declared.refs.Ref.{Ref}
use Rattle.group_history.specs.Spelling.{Version, version_at}
use Rattle.group_history.proofs.Spellings.{version-stays}
use Rattle.group_history.proofs.Lists.{get_more}
use Rattle.head_word.specs.declared.entry.DraftEntry.{DraftEntry}
use Rattle.head_word.specs.declared.entry.Entry.{Entry}
use Rattle.head_word.specs.declared.entry.Entry.TheVariants as v
use Rattle.head_word.specs.Books.{AreRising, drafted_contents, drawn, last_move, moved_from}
use Rattle.head_word.specs.Books.{nowhere, numbered, record_of}
use Rattle.head_word.specs.Laws.{IsDraftAt, BookLaws, moment}
use Rattle.head_word.proofs.Beginnings.{prefix_one}
use Rattle.head_word.proofs.Books.{drawn_more, length-drafted, moved_more, record_more, rising_behind}

-- the contents of a longer book are longer
pub drawn_begins : (xs ys : List Entry) → IsPrefix xs ys → IsPrefix (drawn xs) (drawn ys)
drawn_begins xs ys p = (drawn p.0, sym (drawn_more xs p.0) ∙ ap drawn p.1)

pub record_begins : (xs ys : List Entry) → IsPrefix xs ys → IsPrefix (record_of xs) (record_of ys)
record_begins xs ys p = (record_of p.0, sym (record_more xs p.0) ∙ ap record_of p.1)

pub content-stays : (xs ys : List Entry) → IsPrefix xs ys → (stamp : ℕ) (c : Node ℕ)
    → slice_get (drawn xs) stamp ≡ Some c → slice_get (drawn ys) stamp ≡ Some c
content-stays xs ys p stamp c h = let q = drawn_begins xs ys p in
    subst (λ w. slice_get w stamp ≡ Some c) q.1 (get_more (drawn xs) q.0 stamp c h)

pub spelled-stays : (xs ys : List Entry) → IsPrefix xs ys → (stamp : ℕ) (w : Version)
    → version_at (drawn xs) stamp ≡ Some w → version_at (drawn ys) stamp ≡ Some w
spelled-stays xs ys p stamp w h = let q = drawn_begins xs ys p in
    subst (λ cs. version_at cs stamp ≡ Some w) q.1 (version-stays (drawn xs) q.0 stamp w h)

both : (a b : Bool) → (a && b) ≡ true → (a ≡ true) × (b ≡ true)
both true b h = (refl, h)
both false b h = absurd cc

get_front : {A : Type 0} (xs ys : List A) (k : ℕ) → k < length xs → slice_get (xs ++ ys) k ≡ slice_get xs k
get_front [] ys k lt = absurd (omega (arith, lt))
get_front (x ∷ xs) ys zero lt = refl
get_front (x ∷ xs) ys (suc k) lt = get_front xs ys k (omega (arith, lt))

get_back : {A : Type 0} (xs ys : List A) (k : ℕ) → slice_get (xs ++ ys) (length xs + k) ≡ slice_get ys k
get_back [] ys k = ap (slice_get ys) (let e : 0 + k ≡ k = omega arith in e)
get_back (x ∷ xs) ys k = ap (slice_get (x ∷ xs ++ ys))
    (let e : suc (length xs) + k ≡ suc (length xs + k) = omega arith in e) ∙ get_back xs ys k

-- by places from the book's front: with n stamps drawn before these entries, a draft's node at place p is n stamps
-- further back
drafted_at : (n : ℕ) (log : List Entry) → numbered n log ≡ true → (at : ℕ) (d : DraftEntry) → IsDraftAt log at d
    → (p : ℕ)
    → p < length d.contents
    → (k : ℕ) × (d.first + p ≡ n + k) × (k < length (drawn log))
    × (slice_get (drawn log) k ≡ option_map (drafted_content d.first) (slice_get d.contents p))
drafted_at n [] h at d is p lt = absurd cc
drafted_at n (v.Draft e ∷ es) h zero d is p lt =
    let same : e ≡ d = let s : Some (v.Draft e) ≡ Some (v.Draft d) = is in cc s in
    let first : e.first ≡ n = eqb-true e.first n (both (e.first == n) (numbered (n + length e.contents) es) h).0 in
    let dc = drafted_contents d.first d.contents in
    let long = length-drafted d.first d.contents in
    subst (λ (w : DraftEntry). (k : ℕ) × (d.first + p ≡ n + k)
    × (k < length (drafted_contents w.first w.contents ++ drawn es))
    × (slice_get (drafted_contents w.first w.contents ++ drawn es) k
    ≡ option_map (drafted_content d.first) (slice_get d.contents p))) (sym same) (
      p,
      omega (arith, first, ap (λ (w : DraftEntry). w.first) same),
      omega (arith, lt, long, length-append dc (drawn es)),
      get_front dc (drawn es) p (omega (arith, lt, long)) ∙ slice_get-map (drafted_content d.first) d.contents p,
    )
drafted_at n (v.Draft e ∷ es) h (suc at) d is p lt =
    let dc = drafted_contents e.first e.contents in
    let long = length-drafted e.first e.contents in
    let r = drafted_at (n + length e.contents) es
    (both (e.first == n) (numbered (n + length e.contents) es) h).1 at d is p lt in (
      length dc + r.0,
      omega (arith, r.1, long),
      omega (arith, r.2, length-append dc (drawn es)),
      get_back dc (drawn es) r.0 ∙ r.3,
    )
drafted_at n (v.Move m ∷ es) h zero d is p lt = absurd cc
drafted_at n (v.Opening o ∷ es) h zero d is p lt = absurd cc
drafted_at n (v.Move m ∷ es) h (suc at) d is p lt = drafted_at n es h at d is p lt
drafted_at n (v.Opening o ∷ es) h (suc at) d is p lt = drafted_at n es h at d is p lt

-- stamps of drafts behind n stamps are n or more
drawn_behind : (n : ℕ) (log : List Entry) → numbered n log ≡ true → (at : ℕ) (d : DraftEntry)
    → IsDraftAt log at d → n ≤ d.first
drawn_behind n [] h at d is = absurd cc
drawn_behind n (v.Draft e ∷ es) h zero d is =
    let same : e ≡ d = let s : Some (v.Draft e) ≡ Some (v.Draft d) = is in cc s in
    omega (
      arith,
      eqb-true e.first n (both (e.first == n) (numbered (n + length e.contents) es) h).0,
      ap (λ (w : DraftEntry). w.first) same,
    )
drawn_behind n (v.Draft e ∷ es) h (suc at) d is = omega (
  arith,
  drawn_behind (n + length e.contents) es
      (both (e.first == n) (numbered (n + length e.contents) es) h).1 at d is,
)
drawn_behind n (v.Move m ∷ es) h zero d is = absurd cc
drawn_behind n (v.Opening o ∷ es) h zero d is = absurd cc
drawn_behind n (v.Move m ∷ es) h (suc at) d is = drawn_behind n es h at d is
drawn_behind n (v.Opening o ∷ es) h (suc at) d is = drawn_behind n es h at d is

-- a draft before another ends before the other's first stamp
apart : (n : ℕ) (log : List Entry) → numbered n log ≡ true → (at bt : ℕ) (d e : DraftEntry) → IsDraftAt log at d
    → IsDraftAt log bt e → at < bt → d.first + length d.contents ≤ e.first
apart n [] h at bt d e is ie lt = absurd cc
apart n (x ∷ es) h at zero d e is ie lt = absurd (omega (arith, lt))
apart n (v.Draft x ∷ es) h zero (suc bt) d e is ie lt =
    let same : x ≡ d = let s : Some (v.Draft x) ≡ Some (v.Draft d) = is in cc s in
    let parts = both (x.first == n) (numbered (n + length x.contents) es) h in
    omega (
      arith,
      drawn_behind (n + length x.contents) es parts.1 bt e ie,
      eqb-true x.first n parts.0,
      ap (λ (w : DraftEntry). w.first) same,
      ap (λ (w : DraftEntry). length w.contents) same,
    )
apart n (v.Draft x ∷ es) h (suc at) (suc bt) d e is ie lt = apart (n + length x.contents) es
    (both (x.first == n) (numbered (n + length x.contents) es) h).1 at bt d e is ie (omega (arith, lt))
apart n (v.Move m ∷ es) h zero (suc bt) d e is ie lt = absurd cc
apart n (v.Opening o ∷ es) h zero (suc bt) d e is ie lt = absurd cc
apart n (v.Move m ∷ es) h (suc at) (suc bt) d e is ie lt = apart n es h at bt d e is ie (omega (arith, lt))
apart n (v.Opening o ∷ es) h (suc at) (suc bt) d e is ie lt = apart n es h at bt d e is ie (omega (arith, lt))

ordered : (a b : ℕ) → (a < b) ⊎ ((a ≡ b) ⊎ (b < a))
ordered zero zero = inr (inl refl)
ordered zero (suc b) = inl (omega arith)
ordered (suc a) zero = inr (inr (omega arith))
ordered (suc a) (suc b) = elim (ordered a b) [
  | inl lt ↦ inl (omega (arith, lt))
  | inr rest ↦ elim rest [
    | inl is ↦ inr (inl (ap suc is))
    | inr gt ↦ inr (inr (omega (arith, gt)))
  ]
]

once : (log : List Entry) → numbered 0 log ≡ true → (at bt : ℕ) (d e : DraftEntry) → IsDraftAt log at d
    → IsDraftAt log bt e
    → (p q : ℕ) → p < length d.contents → q < length e.contents → d.first + p ≡ e.first + q → (at ≡ bt) × (p ≡ q)
once log h at bt d e is ie p q lp lq same = elim (ordered at bt) [
  | inl lt ↦ absurd (omega (arith, apart 0 log h at bt d e is ie lt, lp, same))
  | inr rest ↦ elim rest [
    | inl one ↦
        let whole : Some (v.Draft d) ≡ Some (v.Draft e) = sym is ∙ (ap (slice_get log) one ∙ ie) in
        let de : d ≡ e = cc whole in
        (one, omega (arith, same, ap (λ (w : DraftEntry). w.first) de))
    | inr gt ↦ absurd (omega (arith, apart 0 log h bt at e d ie is gt, lq, same))
  ]
]

-- of two beginnings of one book one begins the other, and so do their records
pub records_one : (xs ys zs : List Entry) → IsPrefix xs zs → IsPrefix ys zs
    → IsPrefix (record_of xs) (record_of ys) ⊎ IsPrefix (record_of ys) (record_of xs)
records_one xs ys zs p q = elim (prefix_one xs ys zs p q) [
  | inl r ↦ inl (record_begins xs ys r)
  | inr r ↦ inr (record_begins ys xs r)
]

-- entries that rise go nowhere below, and where they end as low as they began, none of them moved the head
rises_from : (r : Ref) (es : List Entry) → AreRising r es → (stamp_of r ≤ stamp_of (moved_from r es))
    × (stamp_of r ≡ stamp_of (moved_from r es) → record_of es ≡ [])
rises_from r [] a = ((omega arith), λ e. refl)
rises_from r (v.Draft d ∷ es) a = rises_from r es a
rises_from r (v.Move m ∷ es) a =
    let far = rises_from m.to es a.1 in
    ((omega (arith, a.0, far.0)), λ e. absurd (omega (arith, a.0, far.0, e)))
rises_from r (v.Opening o ∷ es) a =
    let far = rises_from o.to es a.1 in
    ((omega (arith, a.0, far.0)), λ e. absurd (omega (arith, a.0, far.0, e)))

moments-rise : (xs ys : List Entry) → IsPrefix xs ys → AreRising nowhere ys → (moment xs ≤ moment ys)
    × (moment xs ≡ moment ys → record_of xs ≡ record_of ys)
moments-rise xs ys p rising =
    let far = rises_from (last_move xs) p.0 (rising_behind nowhere xs p.0
    (subst (AreRising nowhere) (sym p.1) rising)) in
    let goes : moved_from (last_move xs) p.0 ≡ last_move ys = sym (moved_more nowhere xs p.0) ∙ ap last_move p.1 in (
      subst (λ (r : Ref). moment xs ≤ stamp_of r) goes far.0,
      λ e. sym (append-nil (record_of xs))
          ∙ ap (λ w. record_of xs ++ w) (sym (far.1 (e ∙ ap stamp_of (sym goes))))
          ∙ sym (record_more xs p.0) ∙ ap record_of p.1,
    )

pub book_laws_hold : (means : Meanings) → BookLaws means
book_laws_hold means = record {
  content_stays = content-stays;
  version_stays = spelled-stays;
  content_drafted = λ log opened at d is p lt. let r = drafted_at 0 log opened.0.numbered at d is p lt in
      let k : d.first + p ≡ r.0 = omega (arith, r.1) in ap (slice_get (drawn log)) k ∙ r.3;
  drafted_once = λ log opened. once log opened.0.numbered;
  one_record = records_one;
  record_grows = record_begins;
  moments_rise = λ xs ys p opened. moments-rise xs ys p opened.0.rising;
}
