-- A draft's chunks written down as nodes.
use Rattle.std.proofs.Common.{◌≡◌, ◌<◌, ◌≤◌, ◌+◌, ℕ, suc, Bool, true, false, cond, List, [], ◌∷◌, ◌++◌, Some, None}
use Rattle.std.proofs.Common.{length, map, nat_le, refl, sym, ap, ◌∙◌, subst, arith, append_assoc, Result, Ok, Err}
use Rattle.std.proofs.Common.{IfOk, OnOk, OnErr}
use Rattle.std.proofs.lemmas.Bool.Decides.{nat_tests}
use Rattle.std.specs.Prelude.{option_and_then, option_map}
use mathlib.Core.List.{IsPrefix}
use Rattle.group_history.specs.declared.nodes.Chunk.{Chunk}
use Rattle.group_history.specs.declared.nodes.Chunk.TheVariants as chunked
use Rattle.group_history.specs.declared.nodes.Node.{Node}
use Rattle.group_history.specs.declared.nodes.Node.TheVariants as node
use Rattle.group_history.specs.declared.refs.Ref.{Ref}
use Rattle.group_history.specs.Folds.{joined}
use Rattle.group_history.specs.Map.{Bytes, Entries}
use Rattle.std.specs.FinMap as finite
use Rattle.std.proofs.lemmas.List.{map-append, length-map, length-append}
use Rattle.map_chunks.proofs.TreeLemmas.{map_is, map_from, map_at-rows}
use Rattle.group_history.specs.Naming.{content_of, renamed_chunk}
use Rattle.group_history.specs.Refs.{stamp_of}
use Rattle.group_history.specs.Rows.{Rows, paired}
use Rattle.group_history.specs.Spelling.{Contents, Segment, segment, as_segment, spelled_by, spelled, sized, chunk_in}
use Rattle.group_history.specs.Spelling.{inner_in, segment_in, rows_in, segment_at, rows_at, map_at, joined_one}
use Rattle.group_history.specs.Spelling.{joined_rows}
use Rattle.group_history.proofs.Folding.{folded_more, length_folded, seam}
use Rattle.map_chunks.specs.Places.{with_nodes}
use Rattle.map_nodes.specs.Inside.Freezing.{IsDeep, IsFrozen, AreFrozen}
use Rattle.map_nodes.specs.Nodes.{IsChild, AllKids, child_fresh, kids_fresh, child_height, kids_height}
use Rattle.map_nodes.specs.Inside.Nodes.{Kid, child_rows}
use Rattle.map_chunks.specs.Shown.{Seen, shown, chunk_rows, map_of_rows}
use Rattle.map_nodes.specs.declared.nodes.OwnChild.{OwnChild}
use Rattle.map_nodes.specs.declared.nodes.OwnChild.TheVariants.{Placed, Own}
use Rattle.map_nodes.proofs.ChangeLemmas.{shown-kept}
use Rattle.map_chunks.proofs.JoinLemmas.{split_of}
use Rattle.map_nodes.proofs.NodeLemmas.{kid_rows}
use Rattle.map_chunks.proofs.OpenLemmas.{shows_of, shows_by, spells_at, rows_at-segment, rows-kept, chunk_rows-at}
use Rattle.map_chunks.proofs.OpenLemmas.{stamped, stamps_shown, renamed-shows, length-renamed}

pub if_ok : {A E Q : Type 0} {P R : A → Type 0} (r : Result A E) → IfOk r P → OnOk r Q
    → ((a : A) → P a → Q → R a) → IfOk r R
if_ok (Ok a) p q f = f a p q
if_ok (Err e) p q f = tt

-- CONTENTS

nodes-more : (contents : Contents) (nodes more : List (Node Ref))
    → with_nodes contents (nodes ++ more) ≡ with_nodes contents nodes ++ map content_of more
nodes-more contents nodes more = ap (λ w. contents ++ w) (map-append content_of nodes more) ∙ sym
    (append_assoc contents (map content_of nodes) (map content_of more))

pub nodes-grown : (contents : Contents) (old new : List (Node Ref)) → IsPrefix old new
    → IsPrefix (with_nodes contents old) (with_nodes contents new)
nodes-grown contents old new p = (map content_of p.0, sym (nodes-more contents old p.0) ∙ ap (with_nodes contents) p.1)

-- CHILDREN

child-stays : (old new : Contents) (depth : ℕ) (child : OwnChild) (rows : Rows) → IsPrefix old new
    → child_rows old depth child ≡ Some rows → child_rows new depth child ≡ Some rows
child-stays old new depth (Placed at) rows p h = rows-kept old new depth (stamp_of at) rows p h
child-stays old new depth (Own n) rows p h = shown-kept old new n.value.pieces rows p h

frozen-later : (first : ℕ) (old mid new : List (Node Ref)) (child : OwnChild) (at : Ref) → IsPrefix mid new
    → IsFrozen first old mid child at → IsFrozen first old new child at
frozen-later first old mid new child at p f contents depth rows l d h =
    rows-kept (with_nodes contents mid) (with_nodes contents new) depth (stamp_of at) rows
    (nodes-grown contents mid new p) (f contents depth rows l d h)

pub frozen-sooner : (first : ℕ) (old mid new : List (Node Ref)) (child : OwnChild) (at : Ref) → IsPrefix old mid
    → IsFrozen first mid new child at → IsFrozen first old new child at
frozen-sooner first old mid new child at p f contents depth rows l d h =
    f contents depth rows l d (child-stays (with_nodes contents old) (with_nodes contents mid) depth child rows
    (nodes-grown contents old mid p) h)

pub all-later : (first : ℕ) (old mid new : List (Node Ref)) (children : List OwnChild) (ats : List Ref)
    → IsPrefix mid new
    → AreFrozen first old mid children ats → AreFrozen first old new children ats
all-later first old mid new [] [] p f = f
all-later first old mid new [] (at ∷ ats) p f = absurd f
all-later first old mid new (child ∷ children) [] p f = absurd f
all-later first old mid new (child ∷ children) (at ∷ ats) p f =
    (frozen-later first old mid new child at p f.0, all-later first old mid new children ats p f.1)

pub all-one : (first : ℕ) (old new : List (Node Ref)) (children : List OwnChild) (ats : List Ref) (child : OwnChild)
    (at : Ref) → AreFrozen first old new children ats → IsFrozen first old new child at
    → AreFrozen first old new (children ++ child ∷ []) (ats ++ at ∷ [])
all-one first old new [] [] child at f g = (g, tt)
all-one first old new [] (b ∷ ats) child at f g = absurd f
all-one first old new (c ∷ children) [] child at f g = absurd f
all-one first old new (c ∷ children) (b ∷ ats) child at f g = (f.0, all-one first old new children ats child at f.1 g)

pub frozen-length : (first : ℕ) (old new : List (Node Ref)) (children : List OwnChild) (ats : List Ref)
    → AreFrozen first old new children ats → length ats ≡ length children
frozen-length first old new [] [] f = refl
frozen-length first old new [] (at ∷ ats) f = absurd f
frozen-length first old new (child ∷ children) [] f = absurd f
frozen-length first old new (child ∷ children) (at ∷ ats) f = ap suc (frozen-length first old new children ats f.1)

pub deep_of : (depth : ℕ) (k : Bytes) (child : OwnChild) → IsChild depth k child → IsDeep depth child
deep_of depth k (Placed at) h = tt
deep_of depth k (Own n) h = h.0

-- the children's names spell what the children show
pub all-spelled : (contents : Contents) (first : ℕ) (old new : List (Node Ref)) (depth : ℕ) (keys : List Bytes)
    (children : List OwnChild) (ats : List Ref) (rows : Rows) → length contents ≡ first
    → AreFrozen first old new children ats → AllKids depth (paired keys children)
    → joined_rows (shows_of (kid_rows (with_nodes contents old) depth) (paired keys children)) ≡ Some rows
    → joined_rows (shows_by (rows_at (with_nodes contents new) depth) (paired keys ats)) ≡ Some rows
all-spelled contents first old new depth [] children ats rows l f a h = h
all-spelled contents first old new depth (k ∷ keys) [] [] rows l f a h = h
all-spelled contents first old new depth (k ∷ keys) [] (at ∷ ats) rows l f a h = absurd f
all-spelled contents first old new depth (k ∷ keys) (child ∷ children) [] rows l f a h = absurd f
all-spelled contents first old new depth (k ∷ keys) (child ∷ children) (at ∷ ats) rows l f a h =
    let s = split_of (k, child_rows (with_nodes contents old) depth child)
    (shows_of (kid_rows (with_nodes contents old) depth) (paired keys children)) rows h in
    ap (λ x. joined_one k x (joined_rows (shows_by (rows_at (with_nodes contents new) depth) (paired keys ats))))
    (f.0 contents depth s.front l (deep_of depth k child a.0) s.front_is)
    ∙ ap (joined_one k (Some s.front)) (all-spelled contents first old new depth keys children ats s.back l
    f.1 a.1 s.back_is)
    ∙ ap (λ u. cond u (Some (s.front ++ s.back)) None) s.starts ∙ ap (λ w. Some w) (sym s.whole)

pub fresh-one : (xs : List OwnChild) (x : OwnChild) → kids_fresh (xs ++ x ∷ []) ≡ kids_fresh xs + child_fresh x
fresh-one [] x = omega arith
fresh-one (y ∷ xs) x = let r = fresh-one xs x in omega arith

pub fresh-within : (xs : List OwnChild) (x : OwnChild) (ys : List OwnChild)
    → kids_fresh xs + child_fresh x ≤ kids_fresh (xs ++ x ∷ ys)
fresh-within [] x ys = omega arith
fresh-within (y ∷ xs) x ys = let r = fresh-within xs x ys in omega arith

pub high-within : (xs : List OwnChild) (x : OwnChild) (ys : List OwnChild) → child_height x ≤ kids_height (xs ++ x ∷ ys)
high-within [] x ys = omega arith
high-within (y ∷ xs) x ys = let r = high-within xs x ys in omega arith

-- A NODE BEHIND OTHERS

pushed : (ns : Contents) (c : Chunk ℕ) (s : Segment) → chunk_in (spelled ns) c ≡ Some s
    → segment_at (ns ++ node.Chunk c ∷ []) (length ns) ≡ Some s
pushed ns c s h =
    let done = spelled ns in
    let new = spelled_by done (node.Chunk c) in
    let long : length done ≡ length ns = length_folded spelled_by [] ns ∙
    (let e : 0 + length ns ≡ length ns = omega arith in e) in
    let whole : spelled (ns ++ node.Chunk c ∷ [])
    ≡ done ++ new ∷ [] = folded_more spelled_by [] ns (node.Chunk c ∷ []) in
    ap (λ w. segment_in w (length ns)) whole ∙ ap (λ k. segment_in (done ++ new ∷ []) k) (sym long)
    ∙ ap (λ o. option_and_then as_segment (joined o)) (seam done new []) ∙ ap
    (λ o. option_and_then as_segment (option_map segment o)) h

node_pushed : (contents : Contents) (first : ℕ) (nodes new : List (Node Ref)) (c : Chunk Ref) (s : Segment)
    (at : Ref) → length contents ≡ first → new ≡ nodes ++ node.Chunk c ∷ []
    → stamp_of at ≡ first + length nodes → chunk_in (spelled (with_nodes contents nodes)) (renamed_chunk stamp_of c)
    ≡ Some s → rows_at (with_nodes contents new) s.depth (stamp_of at) ≡ Some s.rows
node_pushed contents first nodes new c s at l e k h =
    let ns = with_nodes contents nodes in
    let more = node.Chunk (renamed_chunk stamp_of c) ∷ [] in
    let long : stamp_of at ≡ length ns = omega
    (arith, k, l, length-append contents (map content_of nodes), length-map nodes content_of) in
    let whole : with_nodes contents new ≡ ns
    ++ more = ap (with_nodes contents) e ∙ nodes-more contents nodes (node.Chunk c ∷ []) in
    ap (λ w. rows_at w s.depth (stamp_of at)) whole ∙ ap (rows_at (ns ++ more) s.depth) long ∙ rows_at-segment
    (ns ++ more) (length ns) s (pushed ns (renamed_chunk stamp_of c) s h)

abbrev of_rows : ℕ → Rows → Segment
of_rows depth rows = record { depth = depth; rows = rows }

sized-some : (n depth : ℕ) (rows : Rows) → n ≤ 16 → sized n depth rows ≡ Some (of_rows depth rows)
sized-some n depth rows l = by (nat_le n 16) refl
  where
    by : (u : Bool) → nat_le n 16 ≡ u → cond u (Some (of_rows depth rows)) None ≡ Some (of_rows depth rows)
    by true e = refl
    by false e = absurd (grind (arith, nat_tests))

pub leaf_pushed : (contents : Contents) (first : ℕ) (nodes new : List (Node Ref)) (leaf rows : Rows) (depth : ℕ)
    (at : Ref) → length contents ≡ first → new ≡ nodes ++ node.Chunk (chunked.Leaf leaf) ∷ []
    → stamp_of at ≡ first + length nodes → length leaf ≤ 16 → depth ≡ 1 → leaf ≡ rows
    → rows_at (with_nodes contents new) depth (stamp_of at) ≡ Some rows
leaf_pushed contents first nodes new leaf rows depth at l e k n d r =
    ap (λ w. rows_at (with_nodes contents new) w (stamp_of at)) d
    ∙ node_pushed contents first nodes new (chunked.Leaf leaf) (record { depth = 1; rows = leaf }) at l e k
    (sized-some (length leaf) 1 leaf n) ∙ ap (λ w. Some w) r

inner-some : (ns : Contents) (below : ℕ) (kids : List (Bytes × Ref)) (rows : Rows) → 0 < length kids → length kids ≤ 16
    → joined_rows (shows_by (rows_at ns below) kids) ≡ Some rows
    → inner_in (spelled ns) (stamped kids) ≡ Some (record { depth = below + 1; rows = rows })
inner-some ns below [] rows z n h = absurd (omega arith)
inner-some ns below (e ∷ es) rows z n h =
    let s = split_of (e.0, rows_at ns below (stamp_of e.1)) (shows_by (rows_at ns below) es) rows h in
    let f = spells_at ns below (stamp_of e.1) s.front s.front_is in
    ap (λ o. option_and_then (λ (s : Segment). option_and_then (sized (length (stamped (e ∷ es))) (s.depth + 1))
    (joined_rows (stamps_shown (rows_in (spelled ns) s.depth) (stamped (e ∷ es))))) o) f.0.is
    ∙ ap (λ d. option_and_then (sized (length (stamped (e ∷ es))) (d + 1))
    (joined_rows (stamps_shown (rows_in (spelled ns) d) (stamped (e ∷ es))))) f.1
    ∙ ap (λ w. option_and_then (sized (length (stamped (e ∷ es))) (below + 1)) (joined_rows w))
    (renamed-shows (rows_at ns below) (e ∷ es))
    ∙ ap (option_and_then (sized (length (stamped (e ∷ es))) (below + 1))) h
    ∙ sized-some (length (stamped (e ∷ es))) (below + 1) rows (omega (arith, n, length-renamed es))

pub inner_pushed : (contents : Contents) (first : ℕ) (nodes new : List (Node Ref)) (kids : List (Bytes × Ref))
    (rows : Rows) (below depth : ℕ) (at : Ref) → length contents ≡ first
    → new ≡ nodes ++ node.Chunk (chunked.Inner kids) ∷ [] → stamp_of at ≡ first + length nodes → 0 < length kids
    → length kids ≤ 16 → depth ≡ below + 1
    → joined_rows (shows_by (rows_at (with_nodes contents nodes) below) kids) ≡ Some rows
    → rows_at (with_nodes contents new) depth (stamp_of at) ≡ Some rows
inner_pushed contents first nodes new kids rows below depth at l e k z n d h =
    ap (λ w. rows_at (with_nodes contents new) w (stamp_of at)) d
    ∙ node_pushed contents first nodes new (chunked.Inner kids) (record { depth = below + 1; rows = rows }) at l e k
    (inner-some (with_nodes contents nodes) below kids rows z n h)

pub err_so : {A E Q : Type 0} (r : Result A E) → Q → OnErr r Q
err_so (Ok a) q = tt
err_so (Err e) q = q

-- an own child that is written down
pub own_frozen : {E : Type 0} (r : Result Ref E) (first : ℕ) (old new : List (Node Ref)) (n : Kid)
    → ((contents : Contents) (rows : Rows) → length contents ≡ first
    → shown (with_nodes contents old) n.value.pieces ≡ Some rows
    → IfOk r (λ root. rows_at (with_nodes contents new) n.value.depth (stamp_of root) ≡ Some rows))
    → IfOk r (IsFrozen first old new (Own n))
own_frozen (Ok at) first old new n f = λ contents depth rows l d h. subst
    (λ w. rows_at (with_nodes contents new) w (stamp_of at) ≡ Some rows) d (f contents rows l h)
own_frozen (Err e) first old new n f = tt

-- A WHOLE MAP

pub map_frozen : {E : Type 0} (r : Result Ref E) (old new : Contents) (n : Seen) (m : Entries)
    → option_and_then map_of_rows (shown old n.pieces) ≡ Some m
    → ((rows : Rows) → shown old n.pieces ≡ Some rows
    → IfOk r (λ root. rows_at new n.depth (stamp_of root) ≡ Some rows))
    → IfOk r (λ root. map_at new (stamp_of root) ≡ Some m)
map_frozen (Err e) old new n m h f = tt
map_frozen (Ok at) old new n m h f =
    let x = map_is (shown old n.pieces) m h in
    let r = chunk_rows-at new n.depth (stamp_of at) (finite.entries m) (f (finite.entries m) x.is) in
    map_at-rows new (stamp_of at) ∙ map_from (chunk_rows new (stamp_of at)) m r
