-- How a text is kept.
use Rattle.std.specs.Prelude.{ℕ, List, take}
use Rattle.std.specs.Arc.{arc_str_bytes}
use Rattle.group_history.specs.declared.texts.Kept.{Kept}
use Rattle.group_history.specs.declared.texts.Kept.TheVariants.{Short, Middling, Long}

-- its bytes
abbrev pub kept_bytes : Kept → List ℕ
kept_bytes (Short p) = take p.len p.bytes
kept_bytes (Middling a) = take a.value.len a.value.bytes
kept_bytes (Long s) = arc_str_bytes s
