-- How many keys a put makes.
use Rattle.std.specs.Prelude.{◌≡◌, ◌⊎◌, ◌<◌, ◌+◌, ℕ, Option, Some, None}
use Rattle.map_nodes.specs.declared.nodes.putting.Half.{Half}

-- A chunk that isn't split has its keys, or one more, and at most 16. One that is split had 16; 8 keys stay, and 9 go.
abbrev pub HasKept : ℕ → ℕ → Option Half → Type 0
HasKept old new None = (new ≡ old) ⊎ ((new ≡ old + 1) × (old < 16))
HasKept old new (Some h) = (old ≡ 16) × (new ≡ 8) × (h.node.value.entries ≡ 9)
