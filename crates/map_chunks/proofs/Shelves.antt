-- What a vector of nodes has at a stamp that spells a chunk.
use Rattle.std.proofs.Common.{◌≡◌, ℕ, List, Some, None, Option, slice_get, map, refl, ap, sym, ◌∙◌}
use Rattle.std.specs.Prelude.{option_map, IsSome}
use Rattle.std.proofs.lemmas.Option.{slice_get-map}
use Rattle.group_history.specs.declared.nodes.Commit.{Commit}
use Rattle.group_history.specs.declared.nodes.Node.{Node}
use Rattle.group_history.specs.declared.nodes.Node.TheVariants as node
use Rattle.group_history.specs.declared.refs.Ref.{Ref}
use Rattle.group_history.specs.Naming.{content_of, renamed_commit}
use Rattle.group_history.specs.Refs.{stamp_of}
use Rattle.group_history.specs.Spelling.{segment_at}
use Rattle.group_history.proofs.Spellings.{segment-content}

-- what a Some holds
pub some_of : {A : Type 0} (o : Option A) → IsSome o → (x : A) × (o ≡ Some x)
some_of None h = absurd cc
some_of (Some x) h = (x, refl)

pub nothing_there : (ns : List (Node Ref)) (k : ℕ) → IsSome (segment_at (map content_of ns) k)
    → slice_get ns k ≡ None → ⊥
nothing_there ns k h e =
    let s = some_of (segment_at (map content_of ns) k) h in
    let c = segment-content (map content_of ns) k s.0 s.1 in
    let bad = sym c.2 ∙ slice_get-map content_of ns k ∙ ap (option_map content_of) e in
    cc bad

pub commit_there : (ns : List (Node Ref)) (k : ℕ) (x : Commit Ref) → IsSome (segment_at (map content_of ns) k)
    → slice_get ns k ≡ Some (node.Commit x) → ⊥
commit_there ns k x h e =
    let s = some_of (segment_at (map content_of ns) k) h in
    let c = segment-content (map content_of ns) k s.0 s.1 in
    let bad : Some (node.Chunk c.0) ≡ Some
    (node.Commit (renamed_commit stamp_of x)) = sym c.2 ∙ slice_get-map content_of ns k ∙ ap
    (option_map content_of) e in
    cc bad
