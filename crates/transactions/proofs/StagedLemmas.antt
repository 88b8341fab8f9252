-- What is placed, and a draft's nodes behind it.
use Rattle.std.proofs.Common.{◌≡◌, ℕ, zero, suc, ◌-◌, ◌<◌, ◌≤◌, List, [], ◌∷◌, ◌++◌, length, map, Some, None, Option}
use Rattle.std.proofs.Common.{slice_get, refl, ap, sym, subst, ◌∙◌, arith}
use Rattle.std.specs.Prelude.{IsSome, option_and_then, option_map}
use Rattle.std.proofs.lemmas.Option.{slice_get-map}
use Rattle.group_history.specs.declared.nodes.Commit.{Commit}
use Rattle.group_history.specs.declared.nodes.Node.{Node}
use Rattle.group_history.specs.declared.nodes.Node.TheVariants as node
use Rattle.group_history.specs.declared.refs.Ref.{Ref}
use Rattle.group_history.specs.Folds.{joined, answer}
use Rattle.group_history.specs.Naming.{content_of}
use Rattle.group_history.specs.Spelling.{Contents, as_segment, spelled_by, spelled, segment_at}
use Rattle.group_history.proofs.Folding.{folded_more, folded_begins, length_folded}
use Rattle.group_history.proofs.Spellings.{segment-content}
use Rattle.map_chunks.specs.Places.{with_nodes}
use Rattle.map_chunks.proofs.Shelves.{some_of}

get_front : {A : Type 0} (xs ys : List A) (k : ℕ) → k < length xs → slice_get (xs ++ ys) k ≡ slice_get xs k
get_front [] ys k h = absurd (omega (arith, h))
get_front (x ∷ xs) ys zero h = refl
get_front (x ∷ xs) ys (suc k) h = get_front xs ys k (omega (arith, h))

get_back : {A : Type 0} (xs ys : List A) (k : ℕ) → length xs ≤ k → slice_get (xs ++ ys) k ≡ slice_get ys (k - length xs)
get_back [] ys k h = ap (slice_get ys) (let e : k ≡ k - 0 = omega arith in e)
get_back (x ∷ xs) ys zero h = absurd (omega (arith, h))
get_back (x ∷ xs) ys (suc k) h = get_back xs ys k (omega (arith, h)) ∙ ap (slice_get ys)
    (let e : k - length xs ≡ suc k - suc (length xs) = omega arith in e)

-- what a stamp spells depends on the contents up to it alone
segment_front : (xs ys : Contents) (k : ℕ) → k < length xs → segment_at (xs ++ ys) k ≡ segment_at xs k
segment_front xs ys k h =
    let p = folded_begins spelled_by (spelled xs) ys in
    let whole : spelled (xs ++ ys) ≡ spelled xs ++ p.0 = folded_more spelled_by [] xs ys ∙ sym p.1 in
    let low : k < length (spelled xs) = omega (arith, h, length_folded spelled_by [] xs) in
    ap (λ w. option_and_then as_segment (answer w k)) whole ∙ ap (λ o. option_and_then as_segment (joined o))
    (get_front (spelled xs) p.0 k low)

-- below the draft the placed nodes spell what is spelled
pub front_spells : (known : Contents) (nodes : List (Node Ref)) (k : ℕ) → k < length known
    → IsSome (segment_at (with_nodes known nodes) k) → IsSome (segment_at known k)
front_spells known nodes k low h = subst (λ o. IsSome o) (segment_front known (map content_of nodes) k low) h

-- a placed node
pub front_content : (known : Contents) (nodes : List (Node Ref)) (k : ℕ) (c : Node ℕ) → k < length known
    → slice_get known k ≡ Some c → slice_get (with_nodes known nodes) k ≡ Some c
front_content known nodes k c low at = get_front known (map content_of nodes) k low ∙ at

-- a drafted one, by what the draft has at its place
pub back_content : (known : Contents) (nodes : List (Node Ref)) (first stamp k : ℕ) (o : Option (Node Ref))
    → first ≡ length known → stamp ≡ k → first ≤ stamp → o ≡ slice_get nodes (stamp - first)
    → slice_get (with_nodes known nodes) k ≡ option_map content_of o
back_content known nodes first stamp k o f s high at =
    let le : length known ≤ k = omega (arith, f, s, high) in
    let place : slice_get nodes (stamp - first)
    ≡ slice_get nodes (k - length known) = ap (slice_get nodes)
    (let e : stamp - first ≡ k - length known = omega (arith, f, s) in e) in
    get_back known (map content_of nodes) k le ∙
    (slice_get-map content_of nodes (k - length known) ∙ ap (option_map content_of) (sym (at ∙ place)))

-- a stamp that spells a chunk is no commit's
pub no_commit : (cs : Contents) (k : ℕ) (c : Commit Ref) → IsSome (segment_at cs k)
    → slice_get cs k ≡ Some (content_of (node.Commit c)) → ⊥
no_commit cs k c h e = let s = some_of (segment_at cs k) h in let d = segment-content cs k s.0 s.1 in
    let bad = sym d.2 ∙ e in cc bad

-- and is there
pub no_nothing : (cs : Contents) (k : ℕ) → IsSome (segment_at cs k) → slice_get cs k ≡ None → ⊥
no_nothing cs k h e = let s = some_of (segment_at cs k) h in let d = segment-content cs k s.0 s.1 in
    let bad = sym d.2 ∙ e in cc bad
