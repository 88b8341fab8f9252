-- The upper half of a chunk that was split, and where it is put.
use Rattle.std.specs.Prelude.{◌≡◌, true, false, ℕ, ◌+◌, ◌-◌, ◌<◌, T, if◌then◌else◌, List, [], ◌∷◌, ◌++◌, length}
use Rattle.std.specs.Prelude.{replicate, slice_index_or, slice_set, Option, Some, None}
use Rattle.std.specs.List.{insert}
use Rattle.std.specs.Ordering.{nat_cmp, is_lt}
use Rattle.std.specs.Cmp.Lexicographic.{slice_cmp}
use Rattle.group_history.specs.Map.{Bytes}
use Rattle.group_history.specs.Rows.{AreKeys, paired}
use Rattle.group_history.specs.Spelling.{Contents}
use Rattle.map_chunks.specs.Search.{is_above}
use Rattle.map_chunks.specs.Shown.{own, child_keys, Piece, Seen, shown}
use Rattle.map_nodes.specs.Nodes.{Kids, HeadIs, AllKids, kids_pieces, sunk}
use Rattle.map_nodes.specs.Inside.Nodes.{Kid}
use Rattle.map_nodes.specs.declared.nodes.OwnChild.{OwnChild}
use Rattle.map_nodes.specs.declared.nodes.OwnChild.TheVariants.{Placed, Own}
use Rattle.map_nodes.specs.declared.nodes.putting.Half.{Half}

abbrev pub half_pieces : Option Half → List Piece
half_pieces None = []
half_pieces (Some h) = h.node.value.pieces

-- it is so deep, and its first key is there so often
abbrev pub IsHalf : ℕ → ℕ → Option Half → Type 0
IsHalf copies depth None = Unit {0}
IsHalf copies depth (Some h) = (h.node.value.depth ≡ depth)
    × ((first : Bytes) × HeadIs first h.node.value.pieces × (h.firsts.items ≡ replicate copies first))

-- children with the upper half of the one at the place put behind it
abbrev pub with_half : ℕ → Option Half → Kids → Kids
with_half place None es = es
with_half place (Some h) es = insert es (place + 1) (slice_index_or h.firsts.items 0 [], Own h.node)

-- keys with another one at the place
abbrev pub lowered : ℕ → Option Bytes → List Bytes → List Bytes
lowered place None keys = keys
lowered place (Some key) keys = slice_set keys place key

-- the copies are those of the ninth key that there is once a key is put before the place, where there were 16
abbrev pub AreNinth : ℕ → List Bytes → ℕ → Bytes → List Bytes → Type 0
AreNinth copies keys place key texts = length keys ≡ 16 → (k : Bytes) → (place ≡ 8 → k ≡ key)
    → texts ≡ replicate copies (slice_index_or (insert keys place k) 8 [])

-- keys and children of an inner chunk, and the upper half of it, have these children between them
abbrev pub Finished : ℕ → Kids → List Bytes → List OwnChild → Option Half → Type 0
Finished depth es keys kids half =
    (kids_pieces (depth - 1) (paired keys kids) ++ half_pieces half ≡ kids_pieces (depth - 1) es)
    × (length kids ≡ length keys) × AreKeys keys × (0 < length keys)
    × AllKids (depth - 1) (paired keys kids)

-- an own child, so deep, stands at the place of one, and shows with its upper half these rows
abbrev pub ChildPut : Contents → ℕ → ℕ → ℕ → List OwnChild → List OwnChild → Option Half
    → (Option (List (Bytes × Bytes))) → Type 0
ChildPut contents copies below place old new half rows = (n : Kid) × (new ≡ slice_set old place (Own n))
    × (n.value.depth ≡ below) × (0 < length n.value.pieces)
    × (shown contents (n.value.pieces ++ half_pieces half) ≡ rows) × IsHalf copies below half

-- the key where it is below the first one, else none
abbrev pub IsLower : Bytes → Bytes → Option Bytes → Type 0
IsLower key first None = is_above first key ≡ false
IsLower key first (Some k) = (k ≡ key) × (is_above first key ≡ true)

-- an own child is so deep
abbrev pub HasDepth : ℕ → OwnChild → Type 0
HasDepth below (Placed at) = Unit {0}
HasDepth below (Own n) = n.value.depth ≡ below

-- the first key once this one is put
abbrev pub least : Bytes → List Bytes → Bytes
least key [] = key
least key (k ∷ ks) = if is_above k key then key else k

-- the key is below the first one of the pieces
abbrev pub AreInOrder : Bytes → List Piece → Type 0
AreInOrder first [] = ⊥
AreInOrder first (q ∷ qs) = T (is_lt (slice_cmp nat_cmp first q.0))

-- there is a first key: that of the lower half's pieces, below the first one of the upper half's
abbrev pub HeadsBoth : Option Bytes → List Piece → List Piece → Type 0
HeadsBoth None lower upper = ⊥
HeadsBoth (Some first) lower upper = HeadIs first lower × AreInOrder first upper

-- the chunk itself, or a root above it and its upper half
abbrev pub IsTopped : Seen → Option Half → Seen → Type 0
IsTopped n None root = root ≡ n
IsTopped n (Some h) root = (root.pieces ≡ n.pieces ++ h.node.value.pieces) × (root.depth ≡ n.depth + 1)
    × (root.entries ≡ 2)
    × ((key : Bytes) × (root.marks ≡ own 0 (child_keys (key ∷ [])) ∷ sunk (n.marks ++ h.node.value.marks)))
