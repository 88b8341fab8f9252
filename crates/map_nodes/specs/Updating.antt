-- What a put and an update make of a map.
use Rattle.std.specs.Prelude.{◌≡◌, ℕ, [], Option, Some, None, IsSome}
use Rattle.std.specs.Ordering.{nat_cmp}
use Rattle.std.specs.Cmp.Lexicographic.{slice_cmp}
use Rattle.std.specs.FinMap.{find, put}
use Rattle.group_history.specs.declared.mutators.Ran.{Ran}
use Rattle.group_history.specs.declared.mutators.Ran.TheVariants as ran
use Rattle.group_history.specs.declared.mutators.Update.{Update}
use Rattle.group_history.specs.declared.mutators.Update.TheVariants.{Put, Refuse}
use Rattle.group_history.specs.declared.refs.Ref.{Ref}
use Rattle.group_history.specs.Map.{Bytes}
use Rattle.group_history.specs.Rows.{Rows}
use Rattle.group_history.specs.Spelling.{Contents}
use Rattle.map_chunks.specs.Places.{AreKept, places_of}
use Rattle.map_chunks.specs.Seeking.{chunk_depth}
use Rattle.map_chunks.specs.Shown.{Seen, chunk_rows, rows_or, shown}
use Rattle.map_chunks.specs.Wide.{IsWideAt, IsWideChunk}
use Rattle.map_nodes.specs.Levels.{placed_levels, seen_levels, PutLater, RenewedLater}
use Rattle.map_nodes.specs.Others.{ArePutAmong}
use Rattle.map_nodes.specs.declared.roots.Updated.{Updated}

-- new chunks with a value put in the map of a stamp, which was so deep and had these rows
pub record IsPutRoot (old new : Contents) (places : Ref → Type 0) (stamp depth : ℕ) (rows : Rows) (key value : Bytes)
    (n : Seen) : Type 0 where
  pub other : find (slice_cmp nat_cmp) key rows ≡ Some value → ⊥
  pub shown_is : shown new n.pieces ≡ Some (put (slice_cmp nat_cmp) key value rows)
  pub levels : PutLater depth n.depth new (λ p. placed_levels p depth stamp) (seen_levels n)
  pub kept : IsSome (find (slice_cmp nat_cmp) key rows)
      → RenewedLater new depth (λ p. placed_levels p depth stamp) (seen_levels n)
  pub wide : IsWideAt old stamp → IsWideChunk n
  pub places_are : AreKept places [] (places_of n.pieces)

-- a draft's own chunks, once a value is put in the map that they show
pub record IsPutOn (old new : Contents) (places : Ref → Type 0) (key value : Bytes) (n o : Seen) : Type 0 where
  pub same : find (slice_cmp nat_cmp) key (rows_or (shown old n.pieces)) ≡ Some value → o ≡ n
  pub shown_is : shown new o.pieces ≡ Some (put (slice_cmp nat_cmp) key value (rows_or (shown old n.pieces)))
  pub levels : PutLater n.depth o.depth new (seen_levels n) (seen_levels o)
  pub kept : IsSome (find (slice_cmp nat_cmp) key (rows_or (shown old n.pieces)))
      → RenewedLater new n.depth (seen_levels n) (seen_levels o)
  pub others : (find (slice_cmp nat_cmp) key (rows_or (shown old n.pieces)) ≡ Some value → ⊥)
      → ArePutAmong new key value n.pieces o.pieces
  pub wide : IsWideChunk n → IsWideChunk o
  pub places_are : AreKept places (places_of n.pieces) (places_of o.pieces)

-- no new chunk, where the key has the value already, or such chunks
abbrev pub IsPutIn : Contents → Contents → (Ref → Type 0) → ℕ → Bytes → Bytes → Option Seen → Type 0
IsPutIn old new places stamp key value None =
    find (slice_cmp nat_cmp) key (rows_or (chunk_rows old stamp)) ≡ Some value
IsPutIn old new places stamp key value (Some n) = (depth : ℕ) × (chunk_depth old stamp ≡ Some depth)
    × IsPutRoot old new places stamp depth (rows_or (chunk_rows old stamp)) key value n

-- A value is put, or the change refuses, and there is no new chunk.
abbrev pub IsUpdated : Contents → Contents → (Ref → Type 0) → ℕ → Bytes → Update → Updated → Type 0
IsUpdated old new places stamp key (Put value) r = (r.ran ≡ ran.Done) × IsPutIn old new places stamp key value r.root
IsUpdated old new places stamp key (Refuse code) r = (r.ran ≡ ran.Refused code) × (r.root ≡ None)

-- own chunks in which a value is put, or which are as they were where the change refuses
abbrev pub IsPutOr : Contents → Contents → (Ref → Type 0) → Bytes → Seen → Seen → Update → Ran → Type 0
IsPutOr old new places key n o (Put value) r = (r ≡ ran.Done) × IsPutOn old new places key value n o
IsPutOr old new places key n o (Refuse code) r = (r ≡ ran.Refused code) × (o ≡ n)
