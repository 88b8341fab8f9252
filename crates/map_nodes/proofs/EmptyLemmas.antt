-- A draft's chunk without rows.
use Rattle.std.proofs.Common.{◌≡◌, ◌<◌, ◌-◌, ℕ, false, List, [], ◌∷◌, Some, length, sym, ap, ◌∙◌, arith}
use Rattle.std.specs.Prelude.{◌==◌}
use Rattle.group_history.specs.Map.{Bytes}
use Rattle.group_history.specs.Rows.{Rows, paired}
use Rattle.group_history.specs.Spelling.{Contents, joined_rows}
use Rattle.map_nodes.specs.Nodes.{body_pieces, IsNode}
use Rattle.map_chunks.specs.Shown.{Piece, shown}
use Rattle.map_nodes.specs.declared.nodes.Body.{Body}
use Rattle.map_nodes.specs.declared.nodes.Body.TheVariants.{Leaf, Inner}
use Rattle.map_nodes.specs.declared.nodes.OwnChild.{OwnChild}
use Rattle.map_chunks.proofs.JoinLemmas.{some_is}
use Rattle.map_chunks.proofs.ListLemmas.{length-paired}
use Rattle.map_nodes.proofs.NodeLemmas.{kid_rows, shown-rows, shown-kids}
use Rattle.map_chunks.proofs.OpenLemmas.{shows_of}
use Rattle.map_chunks.proofs.EmptyLemmas.{not_none, some_rows}

-- a draft's chunk
pub none_own : (p : Contents) (depth : ℕ) (keys : List Bytes) (body : Body) (pieces : List Piece) (rows : Rows)
    → body_pieces depth keys body ≡ pieces → IsNode depth keys body → shown p pieces ≡ Some rows
    → (length keys == 0) ≡ (length rows == 0)
none_own p depth keys (Leaf values) pieces rows v i h =
    let r : paired keys values.items ≡ rows = some_is
    (sym (shown-rows p (paired keys values.items)) ∙ ap (shown p) v ∙ h) in
    ap (λ n. n == 0) (sym (length-paired keys values.items i.1.1) ∙ ap length r)
none_own p depth keys (Inner kids) pieces rows v i h =
    sym (not_none (length keys) i.1.1) ∙ by keys kids.items i.1.2 i.1.1
    (sym (shown-kids p (depth - 1) (paired keys kids.items) i.1.3) ∙ ap (shown p) v ∙ h)
  where
    by : (ks : List Bytes) (xs : List OwnChild) → length xs ≡ length ks → 0 < length ks
        → joined_rows (shows_of (kid_rows p (depth - 1)) (paired ks xs)) ≡ Some rows → false ≡ (length rows == 0)
    by [] xs l z j = absurd (omega arith)
    by (k ∷ ks) [] l z j = absurd (omega arith)
    by (k ∷ ks) (x ∷ xs) l z j = some_rows (k, kid_rows p (depth - 1) (k, x))
        (shows_of (kid_rows p (depth - 1)) (paired ks xs)) rows j
