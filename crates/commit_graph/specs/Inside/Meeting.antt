-- The descent to a key: at each inner chunk to the last child whose first key isn't above it.
use Rattle.std.specs.Prelude.{◌≡◌, ℕ, if◌then◌else◌, List, [], ◌∷◌, Some, None, Option, slice_get}
use Rattle.std.specs.List.{Contains}
use Rattle.std.specs.Ordering.{nat_cmp, is_gt}
use Rattle.std.specs.Cmp.Lexicographic.{slice_cmp}
use Rattle.group_history.specs.declared.nodes.Chunk.{Chunk}
use Rattle.group_history.specs.declared.nodes.Chunk.TheVariants.{Leaf, Inner}
use Rattle.group_history.specs.declared.refs.Ref.{Ref}
use Rattle.group_history.specs.Map.{Bytes}
use Rattle.group_history.specs.Rows.{keys_of}
use Rattle.group_history.specs.Naming.{chunk_content}
use Rattle.group_history.specs.Spelling.{Contents, Segment, segment_at}

-- the second, where there is none in the first
abbrev pub or_this : {A : Type 0} → Option A → Option A → Option A
or_this None o = o
or_this (Some x) o = Some x

-- the last child whose first key isn't above the key
abbrev pub choose : {A : Type 0} → Bytes → List (Bytes × A) → Option A
choose k [] = None
choose k (e ∷ es) = or_this (choose k es) (if is_gt (slice_cmp nat_cmp e.0 k) then None else Some e.1)

-- the child of a chunk at which the descent goes on
abbrev pub child_for : Bytes → Chunk Ref → Option Ref
child_for k (Leaf rows) = None
child_for k (Inner kids) = choose k kids

-- the chunk of a stamp has the key
abbrev pub HasKeyAt : Contents → ℕ → Bytes → Type 0
HasKeyAt ns at k = (s : Segment) × (segment_at ns at ≡ Some s) × Contains (keys_of s.rows) k

-- a chunk lies at a stamp
abbrev pub LiesChunk : Contents → ℕ → Chunk Ref → Type 0
LiesChunk ns k c = slice_get ns k ≡ Some (chunk_content c)

-- the keys that a chunk holds
abbrev pub keys_in : Chunk Ref → List Bytes
keys_in (Leaf rows) = keys_of rows
keys_in (Inner kids) = keys_of kids

-- the first key of these
abbrev pub IsFirstKey : List Bytes → Option Bytes → Type 0
IsFirstKey keys None = keys ≡ []
IsFirstKey keys (Some k) = (rest : List Bytes) × (keys ≡ k ∷ rest)
