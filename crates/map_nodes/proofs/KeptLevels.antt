-- Copies have the chunks of what they are copies of, and a chunk keeps its own where a child's change.
use Rattle.std.proofs.Common.{◌≡◌, ◌<◌, ◌-◌, ℕ, zero, suc, List, [], ◌∷◌, ◌++◌, None, Some, map, slice_get, set}
use Rattle.std.proofs.Common.{append-nil, inl, refl, sym, ap, ◌∙◌, subst, arith}
use Rattle.std.specs.List.{flat_map}
use mathlib.Core.List.{IsPrefix}
use Rattle.group_history.specs.declared.nodes.Chunk.{Chunk}
use Rattle.group_history.specs.declared.nodes.Chunk.TheVariants as chunked
use Rattle.group_history.specs.declared.refs.Ref.{Ref}
use Rattle.group_history.specs.Map.{Bytes}
use Rattle.group_history.specs.Naming.{chunk_content}
use Rattle.group_history.specs.Refs.{stamp_of}
use Rattle.group_history.specs.Rows.{Rows, keys_of, values_of}
use Rattle.group_history.specs.Spelling.{Contents}
use Rattle.group_history.proofs.Lists.{get_more}
use Rattle.map_chunks.proofs.JoinLemmas.{some_is}
use Rattle.map_chunks.proofs.OpenLemmas.{stamped}
use Rattle.map_chunks.specs.Shown.{own, leaf_keys, Seen, Shape}
use Rattle.map_nodes.proofs.LevelLemmas.{changed_as, changed_beside, changed_may, inner-levels, leaf-levels}
use Rattle.map_nodes.proofs.LevelLemmas.{topped-same}
use Rattle.map_nodes.specs.Inside.Copies.{chunk_marks, MayBeDeep}
use Rattle.map_nodes.specs.Levels.{levels_of, node_levels, nothing, parting, placed_levels, seen_levels, topped}
use Rattle.map_nodes.specs.Levels.{AreChanged, CopiedLater, Levels, Member, RenewedLater}
use Rattle.map_nodes.specs.Nodes.{body_marks, child_levels, kids_levels}
use Rattle.map_nodes.specs.declared.nodes.Body.{Body}
use Rattle.map_nodes.specs.declared.nodes.Body.TheVariants.{Leaf}
use Rattle.map_nodes.specs.declared.nodes.OwnChild.{OwnChild}
use Rattle.map_nodes.specs.declared.nodes.OwnChild.TheVariants.{Placed}

-- PLACED CHUNKS

-- what lies at a stamp lies there later
pub still : (p later : Contents) (stamp : ℕ) (c : Chunk Ref) → IsPrefix p later
    → slice_get p stamp ≡ Some (chunk_content c) → slice_get later stamp ≡ Some (chunk_content c)
still p later stamp c g h =
    subst (λ z. slice_get z stamp ≡ Some (chunk_content c)) g.1 (get_more p g.0 stamp _ h)

-- the children of a placed chunk, placed each
abbrev pub as_placed : List (Bytes × Ref) → List OwnChild
as_placed kids = map (λ e. Placed e.1) kids

pub placed-values : (kids : List (Bytes × Ref)) → map (λ at. Placed at) (values_of kids) ≡ as_placed kids
placed-values [] = refl
placed-values (k ∷ ks) = ap (λ w. Placed k.1 ∷ w) (placed-values ks)

-- children named by their stamps have the same keys
pub keys-renamed : (kids : List (Bytes × Ref)) → keys_of (stamped kids) ≡ keys_of kids
keys-renamed [] = refl
keys-renamed (k ∷ ks) = ap (λ w. k.0 ∷ w) (keys-renamed ks)

placed-below : (p : Contents) (below : ℕ) (kids : List (Bytes × Ref)) (i : ℕ)
    → kids_levels below (as_placed kids) p i ≡ flat_map (λ e. placed_levels p below e.1 i) (stamped kids)
placed-below p below [] i = refl
placed-below p below (k ∷ ks) i = ap (λ w. placed_levels p below (stamp_of k.1) i ++ w) (placed-below p below ks i)

pub placed_leaf : (p : Contents) (depth stamp : ℕ) (rows : Rows) → depth ≡ 1
    → slice_get p stamp ≡ Some (chunk_content (chunked.Leaf rows))
    → (i : ℕ) → placed_levels p depth stamp i ≡ topped (Some stamp, leaf_keys (keys_of rows)) nothing i
placed_leaf p zero stamp rows h g i = absurd (omega arith)
placed_leaf p (suc below) stamp rows h g i = ap (λ o. node_levels stamp (placed_levels p below) o i) g

pub placed_inner : (p : Contents) (depth stamp : ℕ) (kids : List (Bytes × Ref)) → 0 < depth
    → slice_get p stamp ≡ Some (chunk_content (chunked.Inner kids))
    → (i : ℕ) → placed_levels p depth stamp i
    ≡ topped (Some stamp, parting (keys_of kids)) (kids_levels (depth - 1) (as_placed kids) p) i
placed_inner p zero stamp kids h g i = absurd (omega arith)
placed_inner p (suc below) stamp kids h g i =
    let b : below ≡ suc below - 1 = omega arith in
    let n : Member = (Some stamp, parting (keys_of kids)) in
    ap (λ o. node_levels stamp (placed_levels p below) o i) g
    ∙ ap (λ ks. topped (Some stamp, parting ks) (λ j. flat_map (λ e. placed_levels p below e.1 j) (stamped kids)) i)
    (keys-renamed kids)
    ∙ topped-same n _ _ (λ j. sym (placed-below p below kids j)) i
    ∙ ap (λ d. topped n (kids_levels d (as_placed kids) p) i) b

-- a copy of a placed chunk
pub copy_levels : (p : Contents) (stamp depth : ℕ) (c : Chunk Ref) (n : Seen) → MayBeDeep depth c
    → n.marks ≡ chunk_marks depth c → slice_get p stamp ≡ Some (chunk_content c)
    → CopiedLater p (λ q. placed_levels q depth stamp) (seen_levels n)
copy_levels p stamp depth (chunked.Leaf rows) n d m g = λ later pre.
    let old = placed_leaf later depth stamp rows d (still p later stamp (chunked.Leaf rows) pre g) in
    let new : (i : ℕ) → seen_levels n later i ≡ topped (None, leaf_keys (keys_of rows)) nothing i =
    λ i. ap (λ w. levels_of later w i) m ∙ leaf-levels later (leaf_keys (keys_of rows)) i in
    ((Some stamp, leaf_keys (keys_of rows), old 0, new 0), λ level. new (suc level) ∙ sym (old (suc level)))
copy_levels p stamp depth (chunked.Inner kids) n d m g = λ later pre.
    let old = placed_inner later depth stamp kids d.0 (still p later stamp (chunked.Inner kids) pre g) in
    let new : (i : ℕ) → seen_levels n later i
    ≡ topped (None, parting (keys_of kids)) (kids_levels (depth - 1) (as_placed kids) later) i =
    λ i. ap (λ w. levels_of later w i) m ∙ inner-levels later (depth - 1) (parting (keys_of kids)) (as_placed kids) i in
    ((Some stamp, parting (keys_of kids), old 0, new 0), λ level. new (suc level) ∙ sym (old (suc level)))

-- A CHILD CHANGED

-- children's chunks are changed on a level where those of the child at a place are
pub levels-set : (M : Type 0) (B : Shape → List Shape → Type 0) (p : Contents) (b : ℕ) (xs : List OwnChild) (i : ℕ)
    (x y : OwnChild) (level : ℕ) → slice_get xs i ≡ Some x
    → AreChanged M B (child_levels b x p level) (child_levels b y p level)
    → AreChanged M B (kids_levels b xs p level) (kids_levels b (set xs i y) p level)
levels-set M B p b [] i x y j g h = inl refl
levels-set M B p b (z ∷ zs) zero x y j g h =
    let more = kids_levels b zs p j in
    changed_as M B (child_levels b x p j ++ more) (child_levels b y p j ++ more) (child_levels b z p j ++ more)
    (child_levels b y p j ++ more) (ap (λ w. child_levels b w p j ++ more) (some_is g)) refl
    (changed_beside M B [] (child_levels b x p j) (child_levels b y p j) more h)
levels-set M B p b (z ∷ zs) (suc i) x y j g h =
    let first = child_levels b z p j in
    let old = kids_levels b zs p j in
    let new = kids_levels b (set zs i y) p j in
    changed_as M B (first ++ (old ++ [])) (first ++ (new ++ [])) (first ++ old) (first ++ new)
    (ap (λ w. first ++ w) (sym (append-nil old))) (ap (λ w. first ++ w) (sym (append-nil new)))
    (changed_beside M B first old new [] (levels-set M B p b zs i x y j g h))

-- a chunk stays where those below it change
pub topped_changed : (B : Shape → List Shape → Type 0) (b deep : ℕ) (n : Member) (f g : Levels) → b < deep
    → ((i : ℕ) → AreChanged (i < b) B (f i) (g i)) → (i : ℕ) → AreChanged (i < deep) B (topped n f i) (topped n g i)
topped_changed B b deep n f g l h zero = inl refl
topped_changed B b deep n f g l h (suc i) =
    changed_may (i < b) (suc i < deep) B (f i) (g i) (λ (m : i < b). omega (arith, m, l)) (h i)

-- VALUES REPLACED

-- a leaf has the keys that it had
pub leaf_kept-levels : (p : Contents) (deep depth : ℕ) (keys : List Bytes) (body : Body) (values : _) (old : Seen)
    → body_marks depth keys body ≡ old.marks → body ≡ Leaf values
    → RenewedLater p deep (seen_levels old) (λ q. levels_of q (own 0 (leaf_keys keys) ∷ []))
leaf_kept-levels p deep depth keys body values old s is later pre i =
    inl (ap (λ w. levels_of later w i) (sym (ap (body_marks depth keys) is) ∙ s))
