-- Chunks with one child each, and what is below them.
use Rattle.std.proofs.Common.{◌≡◌, ◌+◌, ℕ, zero, suc, [], Some, append-nil, arith, refl, subst, ap, ◌∙◌}
use mathlib.Core.List.{IsPrefix}
use Rattle.group_history.specs.declared.refs.Ref.{Ref}
use Rattle.group_history.specs.Refs.{stamp_of}
use Rattle.group_history.specs.Spelling.{Contents}
use Rattle.group_history.proofs.Lists.{prefix_trans}
use Rattle.map_chunks.proofs.EndLemmas.{leads-later}
use Rattle.map_chunks.specs.Ends.{IsEndUnder, LeadsTo}
use Rattle.map_chunks.specs.Shown.{child_keys}
use Rattle.map_nodes.specs.Inside.Ends.{Narrows, NarrowsLater}
use Rattle.map_nodes.specs.Levels.{Levels, Member, node_levels, placed_levels, topped}

narrows_as : (many : ℕ) (f g below : Levels) → ((i : ℕ) → g i ≡ f i) → Narrows many f below → Narrows many g below
narrows_as zero f g below e h = λ i. e i ∙ h i
narrows_as (suc many) f g below e h =
    (h.0, e 0 ∙ h.1, narrows_as many (λ i. f (suc i)) (λ i. g (suc i)) below (λ i. e (suc i)) h.2)

narrows_on : (m n s : ℕ) (f g h : Levels) → m + n ≡ s → Narrows m f g → Narrows n g h → Narrows s f h
narrows_on zero n s f g h e a b =
    subst (λ w. Narrows w f h) (let z : n ≡ s = omega (arith, e) in z) (narrows_as n g f h a b)
narrows_on (suc m) n zero f g h e a b = absurd (omega (arith, e))
narrows_on (suc m) n (suc s) f g h e a b =
    (a.0, a.1, narrows_on m n s (λ i. f (suc i)) g h (omega (arith, e)) a.2 b)

-- no chunk
pub narrows_none : (p : Contents) (depth : ℕ) (levels : Contents → Levels) → NarrowsLater p depth depth levels levels
narrows_none p depth levels = (0, omega arith, λ later pre i. refl)

-- a chunk over others
pub narrows_over : (p : Contents) (depth below deep : ℕ) (chunk : Member) (f g new : Contents → Levels)
    → below + 1 ≡ depth → ((later : Contents) → IsPrefix p later → (i : ℕ) → g later i ≡ topped chunk (f later) i)
    → NarrowsLater p below deep f new → NarrowsLater p depth deep g new
narrows_over p depth below deep chunk f g new e v h = (
  suc h.0,
  omega (arith, e, h.1),
  λ later pre. (
    chunk,
    v later pre 0,
    narrows_as h.0 (f later) (λ i. g later (suc i)) (new later) (λ i. v later pre (suc i)) (h.2 later pre),
  ),
)

-- once more is placed
pub narrows_since : (p q : Contents) (was deep : ℕ) (old new : Contents → Levels) → IsPrefix p q
    → NarrowsLater p was deep old new → NarrowsLater q was deep old new
narrows_since p q was deep old new pre h = (h.0, h.1, λ later z. h.2 later (prefix_trans p q later pre z))

pub narrows_trans : (p : Contents) (was mid deep : ℕ) (f g h : Contents → Levels) → NarrowsLater p was mid f g
    → NarrowsLater p mid deep g h → NarrowsLater p was deep f h
narrows_trans p was mid deep f g h a b = (
  a.0 + b.0,
  omega (arith, a.1, b.1),
  λ later pre. narrows_on a.0 b.0 (a.0 + b.0) (f later) (g later) (h later) refl (a.2 later pre) (b.2 later pre),
)

-- what a placed chunk leads to
pub narrows_placed : (p : Contents) (depth stamp : ℕ) (at : Ref) → (u : IsEndUnder p depth stamp at)
    → NarrowsLater p depth u.1 (λ r. placed_levels r depth stamp) (λ r. placed_levels r u.1 (stamp_of at))
narrows_placed p depth stamp at u = (
  u.0,
  u.2,
  λ later pre. to later u.0 depth stamp u.2 (leads-later p later u.0 stamp at pre u.4),
)
  where
    to : (q : Contents) (many depth stamp : ℕ) → many + u.1 ≡ depth → LeadsTo q many stamp at
        → Narrows many (placed_levels q depth stamp) (placed_levels q u.1 (stamp_of at))
    to q zero depth stamp e l = λ i. ap (λ d. placed_levels q d stamp i) (let z : depth ≡ u.1 = omega (arith, e) in z)
        ∙ ap (λ k. placed_levels q u.1 k i) l
    to q (suc many) zero stamp e l = absurd (omega (arith, e))
    to q (suc many) (suc depth) stamp e l = (
      (Some stamp, child_keys []),
      ap (λ o. node_levels stamp (placed_levels q depth) o 0) l.2,
      narrows_as many (placed_levels q depth l.1) (λ i. placed_levels q (suc depth) stamp (suc i))
          (placed_levels q u.1 (stamp_of at))
          (λ i. ap (λ o. node_levels stamp (placed_levels q depth) o (suc i)) l.2
          ∙ append-nil (placed_levels q depth l.1 i))
          (to q many depth l.1 (omega (arith, e)) l.3),
    )
