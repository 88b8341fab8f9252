-- How a group may be laid out. This project's own rules.
use Rattle.std.specs.Prelude.{ℕ, nat_le, ◌&&◌, Bool, if◌then◌else◌, Option, Some, None}
use Rattle.group_history.specs.Refs.{max_slots, max_seats}
use Rattle.push_body.specs.declared.identities.Identity.{Identity}
use Rattle.rebase.specs.declared.config.OutOfRange.{OutOfRange}
use Rattle.rebase.specs.declared.config.OutOfRange.TheVariants.{Slots, Seats}

-- how a group is laid out, and whose requests it writes
pub record Layout : Type 0 where
  pub identity : Identity
  pub slots : ℕ
  pub seats : ℕ

-- a group has at least so many slots
abbrev pub min_slots : ℕ
min_slots = 16

abbrev pub is_from_to : ℕ → ℕ → ℕ → Bool
is_from_to least most n = nat_le least n && nat_le n most

-- which of the numbers of slots and seats is out of range; the slots come first
abbrev pub out_of_range : ℕ → ℕ → Option OutOfRange
out_of_range slots seats = if is_from_to min_slots max_slots slots then
    (if is_from_to 1 max_seats seats then None else Some (Seats seats)) else Some (Slots slots)
