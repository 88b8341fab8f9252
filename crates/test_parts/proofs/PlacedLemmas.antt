-- What stays where more nodes are appended, and what is new there.
use Rattle.std.proofs.Common.{◌≡◌, ℕ, List, [], ◌++◌, map, Some, sym, ap, ◌∙◌, subst}
use Rattle.std.specs.Prelude.{IsSome, refl}
use Rattle.std.proofs.lemmas.List.{append-nil, map-append}
use Rattle.group_history.specs.declared.nodes.Node.{Node}
use Rattle.group_history.specs.declared.refs.Ref.{Ref}
use Rattle.group_history.specs.Naming.{content_of}
use Rattle.group_history.specs.Spelling.{Contents, Version, version_at}
use Rattle.map_chunks.specs.Places.{with_nodes}
use Rattle.commit_graph.proofs.Chained.{version_stays}
use Rattle.map_chunks.specs.Drafts.{Drafted}

-- an empty draft adds nothing
pub bare : (contents : Contents) (d : Drafted) (first : ℕ) → d ≡ record { first = first; nodes = [] }
    → with_nodes contents d.nodes ≡ contents
bare contents d first e = ap (λ (x : Drafted). with_nodes contents x.nodes) e ∙ append-nil contents

-- the nodes that were appended are those of the draft behind the shelf
appended : (shown nodes drafted after : List (Node Ref)) → shown ≡ nodes → after ≡ nodes ++ drafted
    → map content_of after ≡ with_nodes (map content_of shown) drafted
appended shown nodes drafted after is all = ap (map content_of) all ∙
    (map-append content_of nodes drafted ∙ ap
    (λ (ns : List (Node Ref)). with_nodes (map content_of ns) drafted) (sym is))

-- what was there is there
pub stays : (nodes drafted after : List (Node Ref)) (k : ℕ) → after ≡ nodes ++ drafted
    → IsSome (version_at (map content_of nodes) k) → IsSome (version_at (map content_of after) k)
stays nodes drafted after k q h =
    subst (λ (ns : List (Node Ref)). IsSome (version_at (map content_of ns) k)) (sym q)
    (version_stays (map content_of nodes) (map content_of (nodes ++ drafted)) k
    (map content_of drafted, sym (map-append content_of nodes drafted)) h)

-- and so is what the new nodes spell, behind those that were shown
pub placed : (shown nodes drafted after : List (Node Ref)) (k : ℕ) (v : Version) → shown ≡ nodes
    → after ≡ nodes ++ drafted → version_at (with_nodes (map content_of shown) drafted) k ≡ Some v
    → IsSome (version_at (map content_of after) k)
placed shown nodes drafted after k v is q h = subst IsSome
    (sym (ap (λ (w : Contents). version_at w k) (appended shown nodes drafted after is q) ∙ h)) refl
