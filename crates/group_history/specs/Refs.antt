-- The two parts of a reference's word, and how many stamps, slots and seats there may be. This project's own rules.
use Rattle.std.specs.Prelude.{ℕ, ◌/◌, ◌%◌, ◌^◌, ◌-◌}
use Rattle.group_history.specs.declared.refs.Ref.{Ref}

-- how many bits of the word hold the stamp; the others hold the slot's number
abbrev pub stamp_bits : ℕ
stamp_bits = 40

-- no stamp is this high
abbrev pub stamps : ℕ
stamps = 2 ^ stamp_bits

-- a group has at most so many slots, and so many seats
abbrev pub max_slots : ℕ
max_slots = 2 ^ (64 - stamp_bits)

abbrev pub max_seats : ℕ
max_seats = 256

-- a node's name for good
abbrev pub stamp_of : Ref → ℕ
stamp_of r = r.bits / max_slots

-- the number of the slot where it lies
abbrev pub slot_of : Ref → ℕ
slot_of r = r.bits % max_slots
