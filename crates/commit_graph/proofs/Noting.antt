-- Stamps that are noted as met, by one step after the other.
use Rattle.std.proofs.Common.{◌≡◌, ◌<◌, ℕ, ◌⊎◌, inl, inr, List, [], ◌∷◌, ◌++◌, Some, refl, sym, subst, ◌∙◌}
use Rattle.std.specs.List.{Contains}
use Rattle.std.proofs.lemmas.List.{map-append}
use Rattle.std.proofs.lemmas.List.Elements.{Contains-append_cases, Contains-append_left, Contains-append_right}
use mathlib.Core.List.{IsPrefix}
use Rattle.group_history.specs.declared.nodes.Chunk.{Chunk}
use Rattle.group_history.specs.declared.nodes.Node.TheVariants as node
use Rattle.group_history.specs.declared.refs.Ref.{Ref}
use Rattle.group_history.specs.Map.{Bytes}
use Rattle.group_history.specs.Naming.{children, chunk_children, content_of}
use Rattle.group_history.specs.Refs.{stamp_of}
use Rattle.group_history.specs.Spelling.{Contents, Segment, segment_at}
use Rattle.group_history.proofs.Lists.{cons_cases, first_here, later_here, map_from, map_to, no_element, one_here}
use Rattle.commit_graph.specs.declared.founds.NamedNode.{NamedNode}
use Rattle.commit_graph.specs.declared.founds.NamedNode.TheVariants as found
use Rattle.commit_graph.specs.Inside.Meeting.{child_for, LiesChunk}
use Rattle.commit_graph.specs.Reach.{Reaches, stamps_of}
use Rattle.commit_graph.specs.Inside.Reach.{Adds, HasStampIn, Notes, Walked, found_in, stamp_in}
use Rattle.commit_graph.proofs.Descending.{child_may}
use Rattle.commit_graph.proofs.Reached.{child_there, found_stamps, names_spelled, reaches_child, reaches_stays}
use Rattle.commit_graph.proofs.Reached.{there_segment}
use Rattle.commit_graph.proofs.Spelled.{segment-grown}

pub notes_none : (may : ℕ → Type 0) (w : Walked) → Notes may w w
notes_none may w = (refl, λ x h. inl h)

pub notes_wider : (may more : ℕ → Type 0) (a b : Walked) → ((x : ℕ) → may x → more x) → Notes may a b → Notes more a b
notes_wider may more a b wider is = (is.0, λ x h. elim (is.1 x h) [ inl p ↦ inl p | inr q ↦ inr (wider x q) ])

pub notes_notes : (may : ℕ → Type 0) (a b c : Walked) → Notes may a b → Notes may b c → Notes may a c
notes_notes may a b c first second = (
  second.0 ∙ first.0,
  λ x h. elim (second.1 x h) [ inl p ↦ first.1 x p | inr q ↦ inr q ],
)

-- one reference more
pub notes_one : (rs : List Ref) (r : Ref) (n : ℕ) (a b c : Walked) → n ≡ stamp_of r
    → Notes (Contains (stamps_of rs)) a b → Notes (λ x. x ≡ n) b c → Notes (Contains (stamps_of (rs ++ r ∷ []))) a c
notes_one rs r n a b c is first second =
    let whole : stamps_of (rs ++ r ∷ []) ≡ stamps_of rs ++ stamp_of r ∷ [] = map-append stamp_of rs (r ∷ []) in
    subst (λ (xs : List ℕ). Notes (Contains xs) a c) (sym whole)
    (notes_notes (Contains (stamps_of rs ++ stamp_of r ∷ [])) a b c
    (notes_wider (Contains (stamps_of rs)) (Contains (stamps_of rs ++ stamp_of r ∷ [])) a b
    (λ x h. Contains-append_left (stamps_of rs) (stamp_of r ∷ []) x h) first)
    (notes_wider (λ x. x ≡ n) (Contains (stamps_of rs ++ stamp_of r ∷ [])) b c
    (λ x e. subst (λ (m : ℕ). Contains (stamps_of rs ++ stamp_of r ∷ []) m) (sym (e ∙ is))
    (Contains-append_right (stamps_of rs) (stamp_of r ∷ []) (stamp_of r) (one_here (stamp_of r)))) second))

-- those of which the second holds
gathered : (A B : ℕ → Type 0) (ms : List ℕ) → ((x : ℕ) → Contains ms x → A x ⊎ B x)
    → (ns : List ℕ) × ((x : ℕ) → Contains ns x → B x) × ((x : ℕ) → Contains ms x → A x ⊎ Contains ns x)
gathered A B [] all = ([], λ x h. absurd (no_element x h), λ x h. absurd (no_element x h))
gathered A B (m ∷ ms) all =
    let rest = gathered A B ms (λ x h. all x (later_here m ms x h)) in
    elim (all m (first_here m ms)) [
      | inl a ↦ (
        rest.0,
        rest.1,
        λ x h. elim (cons_cases m ms x h) [ inl e ↦ inl (subst A e a) | inr q ↦ rest.2 x q ],
      )
      | inr b ↦ (
        m ∷ rest.0,
        λ x h. elim (cons_cases m rest.0 x h) [ inl e ↦ subst B e b | inr q ↦ rest.1 x q ],
        λ x h. elim (cons_cases m ms x h) [
          | inl e ↦ inr (subst (λ (w : ℕ). Contains (m ∷ rest.0) w) e (first_here m rest.0))
          | inr q ↦ elim (rest.2 x q) [ inl i ↦ inl i | inr j ↦ inr (later_here m rest.0 x j) ]
        ],
      )
    ]

-- Some were added, then some stamps were noted, then the others were added: so they would be, were the stamps noted
-- first.
pub noted_first : (may : ℕ → Type 0) (a b c d : Walked) (xs ys whole : List NamedNode) → whole ≡ xs ++ ys → Adds a xs b
    → Notes may b c → Adds c ys d → (noted : Walked) × Notes may a noted × Adds noted whole d
noted_first may a b c d xs ys whole is first notes rest =
    let on : (x : ℕ) → HasStampIn b.ahead x → HasStampIn d.ahead x =
    λ x h. (let k = rest.kept h.0 (subst (λ (w : List NamedNode). Contains w h.0) (sym notes.0) h.1) in
    (k.0, k.1, k.2 ∙ h.2)) in
    let known = gathered (λ x. HasStampIn d.ahead x ⊎ Contains a.met x) may c.met
    (λ x h. elim (notes.1 x h) [
      | inl p ↦ elim (first.met x p) [ inl i ↦ inl (inl (on x i)) | inr j ↦ inl (inr j) ]
      | inr q ↦ inr q
    ]) in
    let noted : Walked = record { ahead = a.ahead; met = known.0 ++ a.met } in
    let back : (f : NamedNode) → Contains (xs ++ ys) f → Contains whole f =
    λ f h. subst (λ (w : List NamedNode). Contains w f) (sym is) h in
    let either : (x : ℕ) → Contains c.met x → HasStampIn d.ahead x ⊎ Contains noted.met x =
    λ x h. elim (known.2 x h) [
      | inl p ↦ elim p [ inl i ↦ inl i | inr j ↦ inr (Contains-append_right known.0 a.met x j) ]
      | inr q ↦ inr (Contains-append_left known.0 a.met x q)
    ] in (
      noted,
      (
        refl,
        λ x h. elim (Contains-append_cases known.0 a.met x h) [ inl p ↦ inr (known.1 x p) | inr q ↦ inl q ],
      ),
      record {
        from = λ f h. elim (rest.from f h) [
          | inl p ↦ elim (first.from f (subst (λ (w : List NamedNode). Contains w f) notes.0 p))
              [ inl i ↦ inl i | inr j ↦ inr (back f (Contains-append_left xs ys f j)) ]
          | inr q ↦ inr (back f (Contains-append_right xs ys f q))
        ];
        kept = λ f h. on (stamp_in f) (first.kept f h);
        added = λ f h. elim (Contains-append_cases xs ys f (subst (λ (w : List NamedNode). Contains w f) is h)) [
          | inl p ↦ elim (first.added f p) [
            | inl i ↦ inl (on (stamp_in f) i)
            | inr j ↦ inr (Contains-append_right known.0 a.met (stamp_in f) j)
          ]
          | inr q ↦ elim (rest.added f q) [ inl i ↦ inl i | inr j ↦ either (stamp_in f) j ]
        ];
        met = λ x h. elim (rest.met x h) [ inl i ↦ inl i | inr j ↦ either x j ];
      },
    )

-- what a root reaches it reaches in more contents too
pub notes_grown : (ns more : Contents) (root : ℕ) (a b : Walked) → IsPrefix ns more → Notes (Reaches ns root) a b
    → Notes (Reaches more root) a b
notes_grown ns more root a b pre is = notes_wider (Reaches ns root) (Reaches more root) a b
    (λ x r. reaches_stays ns more root x pre r) is

-- The chunk at hand, while a descent goes down from a root: the root reaches it.
pub record IsBelow (ns : Contents) (root at : ℕ) : Type 0 where
  pub rows : Segment
  pub here : segment_at ns at ≡ Some rows
  pub reached : Reaches ns root at

-- one of its children
pub below_child : (ns more : Contents) (root : ℕ) (at : Ref) (c : Chunk Ref) (child : Ref)
    → IsBelow ns root (stamp_of at)
    → IsPrefix ns more → LiesChunk more (stamp_of at) c → Contains (chunk_children c) child
    → (stamp_of child < stamp_of at) × IsBelow more root (stamp_of child)
below_child ns more root at c child is pre lies has =
    let here = segment-grown ns more (stamp_of at) is.rows pre is.here in
    let named : Contains (found_in (node.Chunk c)) (found.Chunk child) =
    map_to (λ (r : Ref). found.Chunk r) (chunk_children c) child has in
    let stamped : Contains (children (content_of (node.Chunk c))) (stamp_of child) =
    subst (λ (w : List ℕ). Contains w (stamp_of child)) (found_stamps (node.Chunk c))
    (map_to stamp_in (found_in (node.Chunk c)) (found.Chunk child) named) in
    let spelled = names_spelled more (found.Chunk at) (found.Chunk child) (node.Chunk c) (is.rows, here) lies named in (
      (child_there more (stamp_of at) (stamp_of child) (content_of (node.Chunk c))
          (there_segment more (stamp_of at) is.rows here) lies stamped).0,
      record {
        rows = spelled.0;
        here = spelled.1;
        reached = reaches_child more root (stamp_of at) (stamp_of child) (content_of (node.Chunk c))
            (reaches_stays ns more root (stamp_of at) pre is.reached) lies stamped;
      },
    )

pub chosen_child : (key : Bytes) (c : Chunk Ref) (child : Ref) → child_for key c ≡ Some child
    → Contains (chunk_children c) child
chosen_child key c child is = child_may (Contains (chunk_children c)) key c (Some child) (λ r h. h) (sym is)

-- what a look at the chunk at hand noted
pub below_noted : (ns more : Contents) (root : ℕ) (at : Ref) (c : Chunk Ref) (a b : Walked)
    → IsBelow ns root (stamp_of at)
    → IsPrefix ns more → LiesChunk more (stamp_of at) c → Notes (Contains (stamps_of (chunk_children c))) a b
    → Notes (Reaches more root) a b
below_noted ns more root at c a b is pre lies noted = notes_wider (Contains (stamps_of (chunk_children c)))
    (Reaches more root) a b
    (λ x h. let f = map_from stamp_of (chunk_children c) x h in
    subst (λ (n : ℕ). Reaches more root n) f.2 (below_child ns more root at c f.0 is pre lies f.1).1.reached) noted
