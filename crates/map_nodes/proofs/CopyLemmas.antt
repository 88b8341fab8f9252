-- Copies of placed chunks.
use Rattle.std.proofs.Common.{◌≡◌, ◌<◌, ◌-◌, ℕ, suc, List, [], ◌∷◌, Some, length, map, slice_get, refl, sym, ap, ◌∙◌}
use Rattle.std.proofs.Common.{subst, arith}
use Rattle.group_history.specs.declared.nodes.Chunk.{Chunk}
use Rattle.group_history.specs.declared.nodes.Chunk.TheVariants as chunked
use Rattle.group_history.specs.declared.refs.Ref.{Ref}
use Rattle.group_history.specs.Map.{Bytes}
use Rattle.group_history.specs.Naming.{chunk_content}
use Rattle.group_history.specs.Refs.{stamp_of}
use Rattle.group_history.specs.Rows.{Rows, keys_of, values_of, paired, AreKeys}
use Rattle.group_history.specs.Spelling.{Contents, Segment, rows_at, joined_rows}
use Rattle.map_nodes.specs.Inside.Copies.{MayBeDeep, chunk_pieces}
use Rattle.map_nodes.specs.Nodes.{AllKids, kids_pieces, kids_fresh}
use Rattle.map_chunks.specs.Shown.{chunk, shown}
use Rattle.map_nodes.specs.declared.nodes.OwnChild.{OwnChild}
use Rattle.map_nodes.specs.declared.nodes.OwnChild.TheVariants.{Placed}
use Rattle.map_nodes.proofs.NodeLemmas.{shown-rows, pieces_shown}
use Rattle.map_chunks.proofs.OpenLemmas.{Opened, opened, spells_at, shows_by}
use Rattle.map_chunks.proofs.SearchLemmas.{length-keys_of, length-values_of}

abbrev pub all_as_placed : List Ref → List OwnChild
all_as_placed rs = map (λ at. Placed at) rs

all_placed : (below : ℕ) (ks : List Bytes) (rs : List Ref) → AllKids below (paired ks (all_as_placed rs))
all_placed below [] rs = tt
all_placed below (k ∷ ks) [] = tt
all_placed below (k ∷ ks) (r ∷ rs) = (tt, all_placed below ks rs)

length-placed : (rs : List Ref) → length (all_as_placed rs) ≡ length rs
length-placed [] = refl
length-placed (r ∷ rs) = ap suc (length-placed rs)

placed_pieces : (below : ℕ) (kids : List (Bytes × Ref))
    → kids_pieces below (paired (keys_of kids) (all_as_placed (values_of kids)))
    ≡ map (λ e. (e.0, chunk below e.1)) kids
placed_pieces below [] = refl
placed_pieces below (e ∷ es) = ap (λ w. (e.0, chunk below e.1) ∷ w) (placed_pieces below es)

pub placed_fresh : (rs : List Ref) → kids_fresh (all_as_placed rs) ≡ 0
placed_fresh [] = refl
placed_fresh (r ∷ rs) = omega (arith, placed_fresh rs)

pub copied_inner : (depth : ℕ) (texts : List Bytes) (items : List OwnChild) (kids : List (Bytes × Ref))
    → texts ≡ keys_of kids → items ≡ all_as_placed (values_of kids) → 0 < depth → 0 < length kids
    → AreKeys texts → (AreKeys texts) × ((0 < depth) × (0 < length texts) × (length items ≡ length texts)
    × AllKids (depth - 1) (paired texts items))
copied_inner depth texts items kids e f d z a = (
  a,
  (
    d,
    omega (arith, ap length e, length-keys_of kids),
    omega (arith, ap length e, ap length f, length-keys_of kids, length-values_of kids, length-placed (values_of kids)),
    subst (λ w. AllKids (depth - 1) (paired texts w)) (sym f) (all_placed (depth - 1) texts (values_of kids)),
  ),
)

pub copied_pieces : (below : ℕ) (texts : List Bytes) (items : List OwnChild) (kids : List (Bytes × Ref))
    → texts ≡ keys_of kids → items ≡ all_as_placed (values_of kids)
    → kids_pieces below (paired texts items) ≡ map (λ e. (e.0, chunk below e.1)) kids
copied_pieces below texts items kids e f =
    ap (λ w. kids_pieces below (paired w items)) e ∙ ap
    (λ w. kids_pieces below (paired (keys_of kids) w)) f ∙ placed_pieces below kids

inner_shown : (p : Contents) (below : ℕ) (kids : List (Bytes × Ref))
    → pieces_shown p (map (λ e. (e.0, chunk below e.1)) kids) ≡ shows_by (rows_at p below) kids
inner_shown p below [] = refl
inner_shown p below (e ∷ es) = ap (λ w. (e.0, rows_at p below (stamp_of e.1)) ∷ w) (inner_shown p below es)

-- a chunk whose stamp spells rows at a depth
pub record Copyable (p : Contents) (depth : ℕ) (rows : Rows) (c : Chunk Ref) : Type 0 where
  pub deep : MayBeDeep depth c
  pub rows_are : shown p (chunk_pieces depth c) ≡ Some rows

pub copyable : (p : Contents) (depth k : ℕ) (rows : Rows) (c : Chunk Ref) → rows_at p depth k ≡ Some rows
    → slice_get p k ≡ Some (chunk_content c) → Copyable p depth rows c
copyable p depth k rows c h g =
    let f = spells_at p depth k rows h in
    by c f.0.segment f.1 f.0.rows (opened p k f.0.segment c f.0.is g)
  where
    by : (c : Chunk Ref) (s : Segment) → s.depth ≡ depth → s.rows ≡ rows → Opened p k s c → Copyable p depth rows c
    by (chunked.Leaf rs) s d r o = record {
      deep = sym d ∙ o.depth;
      rows_are = shown-rows p rs ∙ ap (λ w. Some w) (sym o.is ∙ r);
    }
    by (chunked.Inner kids) s d r o =
        let e : depth - 1 ≡ o.depth = omega (arith, d, o.deep) in
        record {
          deep = (omega (arith, d, o.deep), o.filled);
          rows_are = ap (λ b. shown p (map (λ e. (e.0, chunk b e.1)) kids)) e ∙ ap joined_rows
              (inner_shown p o.depth kids) ∙ o.rows ∙ ap (λ w. Some w) r;
        }
