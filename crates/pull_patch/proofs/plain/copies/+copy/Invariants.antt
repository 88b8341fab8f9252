use Rattle.std.proofs.Common.{◌≡◌, ℕ, ◌+◌, ◌*◌, ◌≤◌, ◌++◌, true, length}
use denote.Shadow.{shadow}
use denote.Text.{Utf8}
use Rattle.json.specs.Json.{Items, Members, items, members, value, parse_map}
use Rattle.pull_patch.proofs.Copies.{items_joined, items_front, AllPlain, members_joined, members_front, PlainUpTo}
use Rattle.pull_patch.proofs.plain.copies.+copy.Given as goal

abbrev pub decreases-copy_value : goal.decreases-copy_value
decreases-copy_value l = 3 * l.depth + 1

abbrev pub decreases-copy_array : goal.decreases-copy_array
decreases-copy_array l = 3 * l.depth

abbrev pub decreases-copy_object : goal.decreases-copy_object
decreases-copy_object l = 3 * l.depth

abbrev pub decreases-copy_items : goal.decreases-copy_items
decreases-copy_items l = 3 * l.depth + 2

abbrev pub decreases-copy_members : goal.decreases-copy_members
decreases-copy_members l = 3 * l.depth + 2

abbrev pub invariant-copy_items-items : goal.invariant-copy_items-items
invariant-copy_items-items l =
    (n : ℕ) × (length l.reader ≤ n) × (length l.reader ≤ length l.initial.reader)
    × (done : Items) × (items (value l.depth) (length l.initial.reader) l.initial.reader
    ≡ parse_map (items_joined done) (items (value l.depth) n l.reader))
    × (l.out.tokens ≡ l.initial.out.tokens ++ items_front done) × (l.plain ≡ true → AllPlain done)
    × (l.out.before ≡ l.initial.out.before)

abbrev pub decreases-copy_items-items : goal.decreases-copy_items-items
decreases-copy_items-items l = length l.reader

abbrev pub invariant-copy_members-members : goal.invariant-copy_members-members
invariant-copy_members-members l =
    (n : ℕ) × (length l.reader ≤ n) × (length l.reader ≤ length l.initial.reader)
    × (done : Members) × (members (value l.depth) (length l.initial.reader) l.initial.reader
    ≡ parse_map (members_joined done) (members (value l.depth) n l.reader))
    × (l.out.tokens ≡ l.initial.out.tokens ++ members_front done) × (l.plain ≡ true → PlainUpTo l.last done)
    × shadow (Utf8 l.last) × (l.out.before ≡ l.initial.out.before)

abbrev pub decreases-copy_members-members : goal.decreases-copy_members-members
decreases-copy_members-members l = length l.reader
