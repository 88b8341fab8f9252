-- Nodes of a draft that are needed.
use Rattle.std.proofs.Common.{◌≡◌, ◌+◌, ℕ, suc, inl, inr, List, [], ◌∷◌, ◌++◌, length, append_assoc, sym, ap}
use Rattle.std.proofs.Common.{◌∙◌, subst, arith}
use Rattle.std.specs.List.{Contains, flat_map}
use Rattle.std.proofs.lemmas.List.{flat_map_more}
use Rattle.std.proofs.lemmas.List.Elements.{Contains-append_cases, Contains-append_left, Contains-append_right}
use Rattle.group_history.specs.declared.nodes.Node.{Node}
use Rattle.group_history.specs.declared.refs.Ref.{Ref}
use Rattle.group_history.specs.Naming.{children}
use Rattle.group_history.specs.Refs.{stamp_of}
use Rattle.group_history.proofs.Lists.{cons_cases, first_here, later_here}
use Rattle.map_chunks.specs.Drafts.{Drafted, HasStamp, AreNeeded, AddsNeeded}

-- the second list has each element of the first
abbrev pub AreIn : List Ref → List Ref → Type 0
AreIn xs ys = (at : Ref) → Contains xs at → Contains ys at

pub in-behind : (xs ys zs : List Ref) → AreIn xs ys → AreIn (xs ++ zs) (ys ++ zs)
in-behind xs ys zs h at i = elim (Contains-append_cases xs zs at i) [
  | inl p ↦ Contains-append_left ys zs at (h at p)
  | inr q ↦ Contains-append_right ys zs at q
]

in-before : (xs ys zs : List Ref) → AreIn xs ys → AreIn (zs ++ xs) (zs ++ ys)
in-before xs ys zs h at i = elim (Contains-append_cases zs xs at i) [
  | inl p ↦ Contains-append_left zs ys at p
  | inr q ↦ Contains-append_right zs ys at (h at q)
]

stamped-more : (n : ℕ) (xs ys : List Ref) → AreIn xs ys → HasStamp n xs → HasStamp n ys
stamped-more n xs ys i h = (h.0, i h.0 h.1, h.2)

-- what is needed for some references is for more
pub needed-more : (n : ℕ) (cs : List (Node Ref)) (xs ys : List Ref) → AreIn xs ys → AreNeeded n cs xs
    → AreNeeded n cs ys
needed-more n [] xs ys i h = tt
needed-more n (c ∷ cs) xs ys i h = (
  stamped-more n (flat_map children cs ++ xs) (flat_map children cs ++ ys)
      (in-before xs ys (flat_map children cs) i) h.0,
  needed-more (suc n) cs xs ys i h.1,
)

-- one node more, for whose children those before it are needed
needed-one : (n : ℕ) (cs : List (Node Ref)) (c : Node Ref) (at : Ref) (ats : List Ref)
    → stamp_of at ≡ n + length cs → AreNeeded n cs (children c ++ ats) → AreNeeded n (cs ++ c ∷ []) (at ∷ ats)
needed-one n [] c at ats e h = ((at, first_here at ats, omega (arith, e)), tt)
needed-one n (d ∷ cs) c at ats e h =
    let before = flat_map children cs in
    let joined : before ++ children c ≡ flat_map children (cs ++ c ∷ []) = flat_map_more children [] cs c in
    let same : before ++ (children c ++ ats) ≡ flat_map children (cs ++ c ∷ []) ++ ats = sym
    (append_assoc before (children c) ats) ∙ ap (λ w. w ++ ats) joined in (
      stamped-more n (before ++ (children c ++ ats)) (flat_map children (cs ++ c ∷ []) ++ at ∷ ats)
          (λ r i. in-before ats (at ∷ ats) (flat_map children (cs ++ c ∷ [])) (later_here at ats) r
          (subst (λ w. Contains w r) same i)) h.0,
      needed-one (suc n) cs c at ats (omega (arith, e)) h.1,
    )

pub adds_same : (these those : List Ref) (d : Drafted) → AreIn these those → AddsNeeded these those d d
adds_same these those d i others h = needed-more d.first d.nodes (these ++ others) (those ++ others)
    (in-behind these those others i) h

pub adds_then : (a b c : List Ref) (old mid new : Drafted) → AddsNeeded a b old mid → AddsNeeded b c mid new
    → AddsNeeded a c old new
adds_then a b c old mid new p q others h = q others (p others h)

-- for more references on both sides
pub adds_beside : (these those more : List Ref) (old new : Drafted) → AddsNeeded these those old new
    → AddsNeeded (these ++ more) (those ++ more) old new
adds_beside these those more old new p others h = subst (AreNeeded new.first new.nodes)
    (sym (append_assoc those more others))
    (p (more ++ others) (subst (AreNeeded old.first old.nodes) (append_assoc these more others) h))

pub adds_for : (a b c d : List Ref) (old new : Drafted) → AreIn a b → AreIn c d → AddsNeeded b c old new
    → AddsNeeded a d old new
adds_for a b c d old new i j p = adds_then a b d old old new (adds_same a b old i)
    (adds_then b c d old new new p (adds_same c d new j))

pub adds_one : (old new : Drafted) (c : Node Ref) (at : Ref) → stamp_of at ≡ old.first + length old.nodes
    → new ≡ record { first = old.first; nodes = old.nodes ++ c ∷ [] } → AddsNeeded (children c) (at ∷ []) old new
adds_one old new c at e is others h = subst (λ (d : Drafted). AreNeeded d.first d.nodes (at ∷ others)) (sym is)
    (needed-one old.first old.nodes c at others e h)

-- one node more, whose children are all that the nodes before it are needed for
pub adds_over : (ats : List Ref) (old mid new : Drafted) (c : Node Ref) (at : Ref) → AreIn ats (children c)
    → AddsNeeded [] ats old mid → stamp_of at ≡ mid.first + length mid.nodes
    → new ≡ record { first = mid.first; nodes = mid.nodes ++ c ∷ [] } → AddsNeeded [] (at ∷ []) old new
adds_over ats old mid new c at i p e is = adds_then [] (children c) (at ∷ []) old mid new
    (adds_for [] [] ats (children c) old mid (λ r h. h) i p) (adds_one mid new c at e is)

last_first : (xs zs : List Ref) (x : Ref) → AreIn (x ∷ (xs ++ zs)) ((xs ++ x ∷ []) ++ zs)
last_first xs zs x at i = elim (cons_cases x (xs ++ zs) at i) [
  | inl e ↦ Contains-append_left (xs ++ x ∷ []) zs at
      (subst (Contains (xs ++ x ∷ [])) e (Contains-append_right xs (x ∷ []) x (first_here x [])))
  | inr q ↦ in-behind xs (xs ++ x ∷ []) zs (λ r h. Contains-append_left xs (x ∷ []) r h) at q
]

-- what is needed for one reference more
pub adds_next : (ats : List Ref) (at : Ref) (old mid new : Drafted) → AddsNeeded [] ats old mid
    → AddsNeeded [] (at ∷ []) mid new → AddsNeeded [] (ats ++ at ∷ []) old new
adds_next ats at old mid new p q others h = needed-more new.first new.nodes (at ∷ (ats ++ others))
    ((ats ++ at ∷ []) ++ others) (last_first ats others at) (q (ats ++ others) (p others h))

-- all of a draft that had no node
pub needed_begun : (these : List Ref) (at : Ref) (n : ℕ) (old new : Drafted) → old ≡ record { first = n; nodes = [] }
    → AddsNeeded these (at ∷ []) old new → AreNeeded new.first new.nodes (at ∷ [])
needed_begun these at n old new is p =
    p [] (subst (λ (d : Drafted). AreNeeded d.first d.nodes (these ++ [])) (sym is) tt)
