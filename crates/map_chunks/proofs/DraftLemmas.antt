-- References with low stamps, and nodes that stand behind their children.
use Rattle.std.proofs.Common.{◌≡◌, ◌<◌, ◌≤◌, ◌+◌, ℕ, zero, suc, List, [], ◌∷◌, ◌++◌, length, take, ap}
use Rattle.std.proofs.Common.{sym, subst, arith}
use Rattle.std.proofs.Common.{◌≢◌, ◌∙◌}
use Rattle.std.proofs.lemmas.List.{length-append, length-take}
use Rattle.group_history.specs.declared.nodes.Node.{Node}
use Rattle.group_history.specs.declared.refs.Ref.{Ref}
use Rattle.group_history.specs.Naming.{children}
use Rattle.group_history.specs.Refs.{stamp_of}
use Rattle.group_history.proofs.Lists.{no_element}
use Rattle.map_chunks.specs.Drafts.{Drafted, AreBelow, AreChildrenBelow, longest}

pub below-none : (n : ℕ) → AreBelow n []
below-none n at h = absurd (no_element at h)

pub below-more : (n m : ℕ) (ats : List Ref) → n ≤ m → AreBelow n ats → AreBelow m ats
below-more n m ats le h at i = let lt = h at i in omega (arith, le, lt)

-- a node behind those that are there
pub ordered-more : (n : ℕ) (xs : List (Node Ref)) (x : Node Ref) → AreChildrenBelow n xs
    → AreBelow (n + length xs) (children x) → AreChildrenBelow n (xs ++ x ∷ [])
ordered-more n [] x h b = (subst (λ k. AreBelow k (children x)) (let e : n + 0 ≡ n = omega arith in e) b, tt)
ordered-more n (y ∷ ys) x h b = (
  h.0,
  ordered-more (suc n) ys x h.1
      (subst (λ k. AreBelow k (children x)) (let e : n + suc (length ys) ≡ suc n + length ys = omega arith in e) b),
)

pub ordered-take : (n k : ℕ) (xs : List (Node Ref)) → AreChildrenBelow n xs → AreChildrenBelow n (take k xs)
ordered-take n zero [] h = tt
ordered-take n (suc k) [] h = tt
ordered-take n zero (x ∷ xs) h = tt
ordered-take n (suc k) (x ∷ xs) h = (h.0, ordered-take (suc n) k xs h.1)

-- the name of a node that was appended is below the next one's
pub pushed-below : (old new : Drafted) (n : Node Ref) (at : Ref)
    → new ≡ record { first = old.first; nodes = old.nodes ++ n ∷ [] } → stamp_of at ≡ old.first + length old.nodes
    → stamp_of at < new.first + length new.nodes
pushed-below old new n at o e = subst (λ (d : Drafted). stamp_of at < d.first + length d.nodes) (sym o)
    (omega (arith, e, length-append old.nodes (n ∷ [])))

-- one node more, where the longest draft isn't reached
pub few-more : (xs ys : List (Node Ref)) (x : Node Ref) (n : ℕ) → length xs ≤ longest → n ≡ length xs → n ≢ longest
    → ys ≡ xs ++ x ∷ [] → length ys ≤ longest
few-more xs ys x n few len not is = let m : length ys ≡ length xs + 1 = ap length is ∙ length-append xs (x ∷ []) in
    let other : length xs ≢ longest = λ e. not (len ∙ e) in omega (arith, few, m, other)

pub few-take : (k : ℕ) (xs : List (Node Ref)) → length xs ≤ longest → length (take k xs) ≤ longest
few-take k xs few = let m = length-take k xs in omega (arith, few, m)
