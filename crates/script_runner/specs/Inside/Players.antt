-- The clients of the code, as a script has them.
use Rattle.std.specs.Prelude.{ℕ, ◌≡◌, ◌<◌, List, length, map, slice_index_or}
use Rattle.group_history.specs.Map.{Bytes}
use Rattle.group_history.specs.Meaning.{Meanings}
use Rattle.commit_graph.specs.Seats.{SeatState}
use Rattle.head_word.specs.Books.{book_opening, opening_ref}
use Rattle.rebase.specs.Clients.{AreNumbered, Grouped}
use Rattle.script_runner.specs.declared.client.ScriptClient.{ScriptClient}
use Rattle.script_runner.specs.declared.phase.ClientTurn.{ClientTurn}
use Rattle.script_runner.specs.Commanding.{Player}
use Rattle.script_runner.specs.Runs.{IsNewPlayer, id_at}

abbrev pub player_of : {M : Type 0} → ScriptClient M → Player
player_of c = record { name = c.name; place = c.place }

abbrev pub players_of : {M : Type 0} → List (ClientTurn M) → List Player
players_of turns = map (λ t. player_of t.client) turns

-- it is the same client, by its name, and of the same group
abbrev pub IsSamePlayer : {M : Type 0} → ScriptClient M → ScriptClient M → Type 0
IsSamePlayer old new = (new.name ≡ old.name) × (new.place.group ≡ old.place.group)

-- what a client's line says of it: its name and its ID
abbrev pub line_of : {M : Type 0} → ClientTurn M → Bytes × Bytes
line_of turn = (turn.client.name, id_at turn.client.place)

-- a client of this group, by its number, before the first phase, whose mutators mean this
abbrev pub IsNewIn : {M : Type 0} → Meanings → Grouped → ℕ → ℕ → ℕ → ClientTurn M → Type 0
IsNewIn means group count commit number turn = IsNewPlayer means group count commit number (player_of turn.client)

-- so are the clients of these turns
abbrev pub AreNewIn : {M : Type 0} → Meanings → Grouped → ℕ → ℕ → List (ClientTurn M) → Type 0
AreNewIn means group count commit turns = (i : ℕ) (d : ClientTurn _) → i < length turns
    → IsNewIn means group count commit i (slice_index_or turns i d)

-- these seats are the free ones of a group that was opened for so many and whose others are taken in their order
abbrev pub AreLeftOf : Grouped → ℕ → ℕ → List SeatState → Type 0
AreLeftOf group count commit seats =
    AreNumbered group.group.book (book_opening count (opening_ref commit)) count seats
