-- A chunk that was shown twice: its first children as they were shown once, and the others as they were shown again.
use Rattle.std.proofs.Common.{◌≡◌, ℕ, List, [], ◌++◌, drop, map, take, refl, ap, sym, subst, ◌∙◌, inl, inr}
use Rattle.std.specs.List.{Contains}
use Rattle.std.proofs.lemmas.List.{drop-map, map-append, take-append-drop, take-map}
use Rattle.std.proofs.lemmas.List.Elements.{Contains-append_cases, Contains-append_left, Contains-append_right}
use Rattle.group_history.specs.declared.nodes.Chunk.{Chunk}
use Rattle.group_history.specs.declared.nodes.Chunk.TheVariants.{Leaf, Inner}
use Rattle.group_history.specs.declared.nodes.Node.TheVariants as node
use Rattle.group_history.specs.declared.refs.Ref.{Ref}
use Rattle.group_history.specs.Map.{Bytes}
use Rattle.group_history.specs.Naming.{chunk_children, chunk_content}
use Rattle.group_history.specs.Refs.{stamp_of}
use Rattle.group_history.specs.Rows.{values_of}
use Rattle.map_chunks.specs.Places.{AreAll}
use Rattle.commit_graph.specs.declared.founds.NamedNode.{NamedNode}
use Rattle.commit_graph.specs.declared.founds.NamedNode.TheVariants as found
use Rattle.commit_graph.specs.Inside.Reach.{found_in}

-- of two lists the first n of one, and the others of the other
abbrev mixed : {A : Type 0} → ℕ → List A → List A → List A
mixed n xs ys = take n xs ++ drop n ys

mixed_map : {A B : Type 0} (h : A → B) (n : ℕ) (xs ys : List A) → map h (mixed n xs ys) ≡ mixed n (map h xs) (map h ys)
mixed_map h n xs ys =
    map-append h (take n xs) (drop n ys)
    ∙ (ap (λ w. w ++ map h (drop n ys)) (sym (take-map h n xs))
    ∙ ap (λ w. take n (map h xs) ++ w) (sym (drop-map h n ys)))

mixed_same : {A : Type 0} (n : ℕ) (xs ys : List A) → xs ≡ ys → mixed n xs ys ≡ ys
mixed_same n xs ys same = ap (λ w. take n w ++ drop n ys) same ∙ take-append-drop n ys

in_first : {A : Type 0} (n : ℕ) (xs : List A) (x : A) → Contains (take n xs) x → Contains xs x
in_first n xs x h =
    subst (λ w. Contains w x) (take-append-drop n xs) (Contains-append_left (take n xs) (drop n xs) x h)

in_others : {A : Type 0} (n : ℕ) (xs : List A) (x : A) → Contains (drop n xs) x → Contains xs x
in_others n xs x h =
    subst (λ w. Contains w x) (take-append-drop n xs) (Contains-append_right (take n xs) (drop n xs) x h)

-- Such a chunk of two of one content.
pub record IsMixed (may : Ref → Type 0) (n : ℕ) (one two c : Chunk Ref) : Type 0 where
  pub content : chunk_content c ≡ chunk_content two
  pub found : found_in (node.Chunk c) ≡ take n (found_in (node.Chunk one)) ++ drop n (found_in (node.Chunk two))
  pub places : AreAll may (chunk_children one) → AreAll may (chunk_children two) → AreAll may (chunk_children c)

pub mixture : (may : Ref → Type 0) (n : ℕ) (one two : Chunk Ref) → chunk_content one ≡ chunk_content two
    → (c : Chunk Ref) × IsMixed may n one two c
mixture may n (Leaf a) (Leaf b) same = (
  Leaf b,
  record { content = refl; found = sym (take-append-drop n []); places = λ p q. q },
)
mixture may n (Leaf a) (Inner t) same = absurd (cc same)
mixture may n (Inner o) (Leaf b) same = absurd (cc same)
mixture may n (Inner o) (Inner t) same =
    let named : Bytes × Ref → Bytes × ℕ = λ e. (e.0, stamp_of e.1) in
    let child : Bytes × Ref → Ref = λ e. e.1 in
    let as_chunk : Ref → NamedNode = λ r. found.Chunk r in
    let kids : map named o ≡ map named t = cc same in (
      Inner (mixed n o t),
      record {
        content = ap (λ (w : List (Bytes × ℕ)). node.Chunk (Inner w))
            (mixed_map named n o t ∙ mixed_same n (map named o) (map named t) kids);
        found = ap (map as_chunk) (mixed_map child n o t) ∙ mixed_map as_chunk n (values_of o) (values_of t);
        places = λ p q at h. elim (Contains-append_cases (take n (values_of o)) (drop n (values_of t)) at
            (subst (λ (w : List Ref). Contains w at) (mixed_map child n o t) h)) [
              | inl i ↦ p at (in_first n (values_of o) at i)
              | inr j ↦ q at (in_others n (values_of t) at j)
            ];
      },
    )
