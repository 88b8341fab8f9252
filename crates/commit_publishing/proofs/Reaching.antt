-- What is needed of a draft is reached from its commit, once it is placed.
use Rattle.std.proofs.Common.{◌≡◌, ℕ, zero, suc, ◌+◌, ◌-◌, ◌<◌, ◌≤◌, inl, inr, List, [], ◌∷◌, ◌++◌, map, Some, length}
use Rattle.std.proofs.Common.{slice_get, nat_lt, refl, ap, sym, subst, ◌∙◌, arith, append_assoc, length-append}
use Rattle.std.specs.Prelude.{option_map}
use Rattle.std.specs.List.{Contains, flat_map}
use Rattle.std.proofs.lemmas.Bool.{cond-false}
use Rattle.std.proofs.lemmas.Bool.Decides.{nat_tests}
use Rattle.std.proofs.lemmas.List.{get_or-append-add}
use Rattle.std.proofs.lemmas.List.Elements.{Contains-append_cases}
use Rattle.std.proofs.lemmas.Option.{get_or_from_slice_get, slice_get-map, slice_get_read, slice_get_within}
use mathlib.Core.List.{IsPrefix}
use Rattle.group_history.specs.declared.nodes.Node.{Node}
use Rattle.group_history.specs.declared.refs.Ref.{Ref}
use Rattle.group_history.specs.Naming.{children, placed_ref, renamed}
use Rattle.group_history.specs.Refs.{stamp_of}
use Rattle.group_history.specs.Spelling.{Contents}
use Rattle.group_history.proofs.Lists.{get_more, map_to, no_element, only_one}
use Rattle.map_chunks.specs.Drafts.{Drafted, HasStamp, AreNeeded}
use Rattle.commit_graph.specs.Reach.{Reaches, itself}
use Rattle.commit_graph.proofs.Reached.{reaches_child}
use Rattle.commit_publishing.specs.Placed.{IsPlaced}
use Rattle.commit_publishing.specs.Stamped.{AreFrom, drawn_as, restamped}
use Rattle.commit_publishing.proofs.Numbers.{children-renamed, from_at, ref_stamped}

-- what the last node's name is
needed_last : (n : ℕ) (c : Node Ref) (cs : List (Node Ref)) (at : Ref) → AreNeeded n (c ∷ cs) (at ∷ [])
    → stamp_of at ≡ n + length cs
needed_last n c [] at h = let e = ap stamp_of (only_one at h.0.0 h.0.1) in omega (arith, e, h.0.2)
needed_last n c (d ∷ cs) at h = let e = needed_last (suc n) d cs at h.1 in omega (arith, e)

-- a child of one of the nodes
named_in : (cs : List (Node Ref)) (r : Ref) → Contains (flat_map children cs) r
    → (i : ℕ) × (c : Node Ref) × (slice_get cs i ≡ Some c) × (i < length cs) × Contains (children c) r
named_in [] r h = absurd (no_element r h)
named_in (c ∷ cs) r h = elim (Contains-append_cases (children c) (flat_map children cs) r h) [
  | inl p ↦ (0, c, refl, omega arith, p)
  | inr q ↦ (let m = named_in cs r q in (suc m.0, m.1, m.2, omega (arith, m.3), m.4))
]

get_behind : {A : Type 0} (xs ys : List A) (i : ℕ) (y : A) → slice_get ys i ≡ Some y
    → slice_get (xs ++ ys) (length xs + i) ≡ Some y
get_behind xs ys i y h = slice_get_read (xs ++ ys) (length (xs ++ ys)) (length xs + i) y refl
    (omega (arith, length-append xs ys, slice_get_within ys i y h))
    (sym (get_or-append-add xs ys i y ∙ get_or_from_slice_get ys i y y h))

drawn_at : (after earlier : Contents) (from first : ℕ) (cs : List (Node Ref)) (i : ℕ) (c : Node Ref)
    → IsPrefix (earlier ++ drawn_as from first cs) after → slice_get cs i ≡ Some c
    → slice_get after (length earlier + i) ≡ Some (renamed (restamped from first) c)
drawn_at after earlier from first cs i c p h =
    let f = renamed (restamped from first) in
    subst (λ w. slice_get w (length earlier + i) ≡ Some (f c)) p.1 (get_more (earlier ++ map f cs) p.0
    (length earlier + i) (f c) (get_behind earlier (map f cs) i (f c)
    (slice_get-map f cs i ∙ ap (option_map f) h)))

-- the stamp of one of the draft's own numbers
own_stamp : (from first : ℕ) (at : Ref) → from ≤ stamp_of at
    → restamped from first at ≡ first + (stamp_of at - from)
own_stamp from first at own = cond-false (nat_lt (stamp_of at) from) (stamp_of at) (first + (stamp_of at - from))
    (grind (arith, nat_tests, own))

-- the first of these nodes, where the later ones are reached
first-reached : (after earlier : Contents) (from first n : ℕ) (c : Node Ref) (cs : List (Node Ref)) (at : Ref)
    → IsPrefix (earlier ++ drawn_as from first (c ∷ cs)) after → from ≤ n → length earlier + from ≡ first + n
    → HasStamp n (flat_map children cs ++ at ∷ [])
    → ((k : ℕ) → k < length cs → Reaches after (restamped from first at) (length earlier + suc k))
    → Reaches after (restamped from first at) (length earlier)
first-reached after earlier from first n c cs at p own long h later =
    let f = renamed (restamped from first) in
    let here : restamped from first h.0 ≡ length earlier = own_stamp from first h.0 (omega (arith, own, h.2)) ∙
    (omega (arith, h.2, own, long)) in
    elim (Contains-append_cases (flat_map children cs) (at ∷ []) h.0 h.1) [
      | inl q ↦ (let m = named_in cs h.0 q in
          reaches_child after (restamped from first at) (length earlier + suc m.0) (length earlier) (f m.1)
          (later m.0 m.3) (drawn_at after earlier from first (c ∷ cs) (suc m.0) m.1 p m.2)
          (subst (Contains (children (f m.1))) here (subst (λ w. Contains w (restamped from first h.0))
          (sym (children-renamed (restamped from first) m.1)) (map_to (restamped from first) (children m.1) h.0 m.4))))
      | inr q ↦ subst (λ (x : Ref). Reaches after (restamped from first x) (length earlier)) (sym (only_one at h.0 q))
          (subst (Reaches after (restamped from first h.0)) here (itself (restamped from first h.0)))
    ]

-- the draft's later nodes, the first of which has the number n and lies behind these contents
needed-reached : (after earlier : Contents) (from first n : ℕ) (cs : List (Node Ref)) (at : Ref)
    → IsPrefix (earlier ++ drawn_as from first cs) after → from ≤ n → length earlier + from ≡ first + n
    → AreNeeded n cs (at ∷ []) → (k : ℕ) → k < length cs
    → Reaches after (restamped from first at) (length earlier + k)
needed-reached after earlier from first n [] at p own long h k low = absurd (omega (arith, low))
needed-reached after earlier from first n (c ∷ cs) at p own long h k low =
    let one = renamed (restamped from first) c ∷ [] in
    let size : length (earlier ++ one) ≡ length earlier + 1 = length-append earlier one in
    let pre : IsPrefix ((earlier ++ one) ++ drawn_as from first cs) after =
    subst (λ w. IsPrefix w after) (sym (append_assoc earlier one (drawn_as from first cs))) p in
    let all = needed-reached after (earlier ++ one) from first (suc n) cs at pre (omega (arith, own))
    (omega (arith, long, size)) h.1 in
    let later : (i : ℕ) → i < length cs → Reaches after (restamped from first at) (length earlier + suc i) =
    λ i l. subst (Reaches after (restamped from first at))
    (let e : length (earlier ++ one) + i ≡ length earlier + suc i = omega (arith, size) in e) (all i l) in
    by later k low
  where
    by : ((i : ℕ) → i < length cs → Reaches after (restamped from first at) (length earlier + suc i)) → (k : ℕ)
        → k < length (c ∷ cs) → Reaches after (restamped from first at) (length earlier + k)
    by later zero low = subst (Reaches after (restamped from first at))
        (let e : length earlier ≡ length earlier + 0 = omega arith in e)
        (first-reached after earlier from first n c cs at p own long h.0 later)
    by later (suc k) low = later k (omega (arith, low))

from_in : (first : ℕ) (refs : List Ref) (r : Ref) → AreFrom first refs → Contains refs r
    → (k : ℕ) × (k < length refs) × (stamp_of r ≡ first + k)
from_in first refs r are (k, low, e) = (k, low, ap stamp_of (sym e) ∙ from_at first refs k r are low)

needed_low : (n : ℕ) (cs : List (Node Ref)) (at : Ref) (k : ℕ) → k < length cs → AreNeeded n cs (at ∷ [])
    → stamp_of at < n + length cs
needed_low n [] at k low h = absurd (omega (arith, low))
needed_low n (c ∷ cs) at k low h = let e = needed_last n c cs at h in omega (arith, e)

pub placed-reached : (before after : Contents) (draft : Drafted) (refs : List Ref) → IsPlaced before after draft refs
    → (at : Ref) → AreNeeded draft.first draft.nodes (at ∷ []) → (r : Ref) → Contains refs r
    → Reaches after (stamp_of (placed_ref draft.first refs at)) (stamp_of r)
placed-reached before after draft refs is at h r i =
    let m = from_in is.first refs r is.stamps i in
    let k : m.0 < length draft.nodes = omega (arith, m.1, is.count) in
    let low : stamp_of at < draft.first + length refs = omega
    (arith, needed_low draft.first draft.nodes at m.0 k h, is.count) in
    let all = needed-reached after is.earlier draft.first is.first draft.first draft.nodes at is.until (omega arith)
    (omega (arith, is.behind)) h m.0 k in
    subst (λ w. Reaches after w (stamp_of r)) (sym (ref_stamped draft.first is.first refs at is.stamps low))
    (subst (Reaches after (restamped draft.first is.first at))
    (let e : length is.earlier + m.0 ≡ stamp_of r = omega (arith, is.behind, m.2) in e) all)
