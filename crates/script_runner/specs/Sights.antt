-- What the clients of a script have seen, and learn of each other.
use Rattle.std.specs.Prelude.{◌≡◌, List, Option, Some, None, option_map}
use Rattle.std.specs.List.{All}
use Rattle.head_word.specs.Marks.{Known}
use Rattle.rebase.specs.Clients.{ClientState, Grouped}
use Rattle.client_desk.specs.Learning.{sight_of}
use Rattle.client_desk.specs.Places.{PlaceState, client_at}

-- what the client of a place has seen, also where it has a reading open
abbrev pub sight_at : PlaceState → Option Known
sight_at place = option_map sight_of (client_at place)

-- what lines have seen, where they had seen this and one more is done, whose client has seen that then: one that had a
-- reading open has seen nothing more by its line
abbrev pub seen_behind : Option ClientState → Option Known → Option Known → Option Known
seen_behind None seen now = now
seen_behind (Some reader) seen now = seen

-- the clients of a group can learn it
abbrev pub IsSeenAt : Grouped → Option Known → Type 0
IsSeenAt group sight = (seen : Known) → sight ≡ Some seen → seen.book ≡ group.group.book

-- and so each of these
abbrev pub CanLearnAll : Grouped → List (Option Known) → Type 0
CanLearnAll group sights = All (IsSeenAt group) sights
