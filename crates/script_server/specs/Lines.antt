-- The lines of an input: each ends at a line feed, and the last one may lack it.
use Rattle.std.specs.Prelude.{◌≡◌, ◌<◌, ⊤, List, [], ◌∷◌, length, Option, Some, None}
use Rattle.std.specs.Io.BufRead.{first_piece, drop_through}
use Rattle.group_history.specs.Map.{Bytes}

-- the input isn't at its end; this is its first line, without the line feed, and that follows it
pub record BeginsWith (bytes line rest : Bytes) : Type 0 where
  pub more : 0 < length bytes
  pub first : line ≡ first_piece 10 bytes
  pub left : rest ≡ drop_through 10 bytes

-- the input begins with these lines, and that follows them
abbrev pub AreLines : Bytes → List Bytes → Bytes → Type 0
AreLines bytes [] rest = rest ≡ bytes
AreLines bytes (l ∷ ls) rest = (next : Bytes) × BeginsWith bytes l next × AreLines next ls rest

-- the same of an input that is known, and of what is left of it
abbrev pub HasTakenLine : Option Bytes → List Bytes → Option Bytes → Type 0
HasTakenLine None lines rest = ⊤
HasTakenLine (Some bytes) lines None = ⊥
HasTakenLine (Some bytes) lines (Some rest) = AreLines bytes lines rest
