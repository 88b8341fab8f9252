-- Rows that are the same one by one.
use Rattle.std.proofs.Common.{◌≡◌, true, ap, ◌∙◌}
use Rattle.std.specs.Cmp.Lexicographic.{bytes_decides}
use Rattle.group_history.specs.Map.{Bytes}
use Rattle.group_history.specs.Map.{same_text as same_bytes}

pub pair_is : (x y : Bytes × Bytes) → x.0 ≡ y.0 → x.1 ≡ y.1 → x ≡ y
pair_is (a, b) (c, d) p q = ap (λ (z : Bytes). (z, b)) p ∙ ap (λ (z : Bytes). (c, z)) q

-- rows with the same key and the same value are equal
pub same_row : (x y : Bytes × Bytes) → same_bytes x.0 y.0 ≡ true → same_bytes x.1 y.1 ≡ true → x ≡ y
same_row x y key value = pair_is x y ((bytes_decides x.0 y.0).0 key) ((bytes_decides x.1 y.1).0 value)
