-- The keys of a chunk of a draft.
use Rattle.std.specs.Prelude.{ℕ, ◌-◌, Bool, true, false, List}
use Rattle.std.specs.Arc.{arc_value}
use Rattle.std.specs.Vec.{vec_len, vec_capacity}
use Rattle.group_history.specs.Map.{Bytes}
use Rattle.map_chunks.specs.declared.keys.Texts.{Texts}
use Rattle.map_chunks.specs.declared.keys.Texts.TheVariants.{Shared, Own}

abbrev pub texts_of : Texts → List Bytes
texts_of (Shared keys) = arc_value keys
texts_of (Own texts) = texts.items

abbrev pub room_of : Texts → ℕ
room_of (Shared keys) = 0
room_of (Own texts) = vec_capacity texts - vec_len texts

abbrev pub is_own : Texts → Bool
is_own (Shared keys) = false
is_own (Own texts) = true
