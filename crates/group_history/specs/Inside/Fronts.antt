-- The first bytes of a text, as one number.
use Rattle.std.specs.Prelude.{ℕ, ◌<◌, List, slice_index}
use Rattle.std.specs.Int.{w128, from_be_bytes}

-- its first sixteen bytes, the first highest, and zeros behind its end
unfoldable pub front_of : List ℕ → ℕ
front_of text = from_be_bytes w128 text

-- each of them is a byte
abbrev pub AreBytes : List ℕ → Type 0
AreBytes xs = (i : ℕ) → slice_index xs i < 256
