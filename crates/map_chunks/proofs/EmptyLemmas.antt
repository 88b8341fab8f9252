-- Chunks without rows.
use Rattle.std.proofs.Common.{◌≡◌, ◌<◌, ℕ, Bool, true, false, [], ◌∷◌, Option, Some, length, slice_get, refl, sym, ap}
use Rattle.std.proofs.Common.{arith}
use Rattle.std.proofs.lemmas.Bool.Decides.{nat_tests}
use Rattle.std.specs.Prelude.{◌==◌, option_and_then}
use Rattle.std.specs.FinMap as finite
use Rattle.group_history.specs.declared.nodes.Chunk.{Chunk}
use Rattle.group_history.specs.declared.nodes.Chunk.TheVariants as chunked
use Rattle.group_history.specs.declared.refs.Ref.{Ref}
use Rattle.group_history.specs.Map.{Bytes, Entries}
use Rattle.group_history.specs.Naming.{chunk_content}
use Rattle.group_history.specs.Refs.{stamp_of}
use Rattle.group_history.specs.Rows.{Rows}
use Rattle.group_history.specs.Spelling.{Contents, Segment, segment_at, rows_at, joined_rows}
use Rattle.map_chunks.specs.Inside.Depths.{has_none}
use Rattle.map_chunks.specs.Shown.{rows_or, map_of_rows}
use Rattle.map_chunks.proofs.JoinLemmas.{Shows, back_begins}
use Rattle.map_chunks.proofs.OpenLemmas.{Opened, opened, shows_by}
use Rattle.map_chunks.proofs.TreeLemmas.{map_is}

pub not_none : (n : ℕ) → 0 < n → false ≡ (n == 0)
not_none n l = by (n == 0) refl
  where
    by : (u : Bool) → (n == 0) ≡ u → false ≡ u
    by true q = let e : n ≡ 0 = grind (arith, nat_tests) in absurd (omega (arith, e, l))
    by false q = refl

pub some_rows : (e : Bytes × Option Rows) (es : Shows) (rs : Rows) → joined_rows (e ∷ es) ≡ Some rs
    → false ≡ (length rs == 0)
some_rows e es rs h = let b = back_begins e es rs h in not_none (length rs) (omega (arith, ap length b.whole))

-- a placed chunk
pub none_placed : (ns : Contents) (k : ℕ) (s : Segment) (c : Chunk Ref) → segment_at ns k ≡ Some s
    → slice_get ns k ≡ Some (chunk_content c) → has_none c ≡ (length s.rows == 0)
none_placed ns k s c h g = by c (opened ns k s c h g)
  where
    by : (c : Chunk Ref) → Opened ns k s c → has_none c ≡ (length s.rows == 0)
    by (chunked.Leaf rows) o = ap (λ w. length w == 0) (sym o.is)
    by (chunked.Inner []) o = absurd (omega (arith, o.filled))
    by (chunked.Inner (e ∷ es)) o = some_rows (e.0, rows_at ns o.depth (stamp_of e.1))
        (shows_by (rows_at ns o.depth) es) s.rows o.rows

-- a map of no rows
pub none_of-map : (x : Option Rows) (m : Entries) → option_and_then map_of_rows x ≡ Some m
    → (length (rows_or x) == 0) ≡ (length (finite.entries m) == 0)
none_of-map x m h = ap (λ w. length w == 0) (sym (map_is x m h).rows)
