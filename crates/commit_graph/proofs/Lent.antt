-- What a vector of nodes has at a stamp that spells a commit.
use Rattle.std.proofs.Common.{◌≡◌, ℕ, List, Some, None, slice_get, map, ap, sym, ◌∙◌}
use Rattle.std.specs.Prelude.{option_map, IsSome}
use Rattle.std.proofs.lemmas.Option.{slice_get-map}
use Rattle.group_history.specs.declared.nodes.Chunk.{Chunk}
use Rattle.group_history.specs.declared.nodes.Node.{Node}
use Rattle.group_history.specs.declared.nodes.Node.TheVariants as node
use Rattle.group_history.specs.declared.refs.Ref.{Ref}
use Rattle.group_history.specs.Naming.{content_of}
use Rattle.group_history.specs.Spelling.{version_at}
use Rattle.commit_graph.proofs.Spelled.{commit-at, content-at, spelled_version}
use Rattle.commit_graph.proofs.Chained.{some_version}
use Rattle.group_history.specs.Spelling.{version}

pub nothing_there : (ns : List (Node Ref)) (k : ℕ) → IsSome (version_at (map content_of ns) k)
    → slice_get ns k ≡ None → ⊥
nothing_there ns k h e =
    let v = some_version (map content_of ns) k h in
    let w = spelled_version (map content_of ns) k v.0 v.1 in
    let c = content-at (map content_of ns) k (version v.0 w.0) w.1 in
    let bad = sym c.1 ∙ (slice_get-map content_of ns k ∙ ap (option_map content_of) e) in cc bad

pub chunk_there : (ns : List (Node Ref)) (k : ℕ) (x : Chunk Ref) → IsSome (version_at (map content_of ns) k)
    → slice_get ns k ≡ Some (node.Chunk x) → ⊥
chunk_there ns k x h e =
    let v = some_version (map content_of ns) k h in
    let c = commit-at (map content_of ns) k (content_of (node.Chunk x)) v.0
    (slice_get-map content_of ns k ∙ ap (option_map content_of) e) v.1 in
    let bad = c.1 in cc bad
