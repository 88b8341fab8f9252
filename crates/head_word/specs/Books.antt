-- The book of a group: the contents that were drafted, by stamp, and the moves of the head.
-- This project's own rules.
use Rattle.std.specs.Prelude.{ℕ, suc, nat_lt, ◌-◌, cond, ◌≡◌, ◌+◌, ◌<◌, ◌≤◌, ◌==◌, ◌&&◌, Bool, true, List, [], ◌∷◌}
use Rattle.std.specs.Prelude.{◌++◌, length, map, take, drop, All, Some, None, Option}
use Rattle.std.specs.FinMap as finite
use Rattle.group_history.specs.declared.refs.Ref.{Ref}
use Rattle.group_history.specs.declared.changes.Change.{Change}
use Rattle.group_history.specs.declared.nodes.Chunk.TheVariants.{Leaf}
use Rattle.group_history.specs.declared.nodes.CommitKind.TheVariants.{Snapshot}
use Rattle.group_history.specs.declared.nodes.Node.{Node}
use Rattle.group_history.specs.declared.nodes.Node.TheVariants as node
use Rattle.group_history.specs.declared.nodes.Child.{Child}
use Rattle.group_history.specs.declared.nodes.Child.TheVariants.{Placed, Drafted}
use Rattle.group_history.specs.Cookies.{null_cookie}
use Rattle.group_history.specs.Meaning.{Meanings}
use Rattle.group_history.specs.Naming.{children, drafted_content, renamed}
use Rattle.group_history.specs.Record.{IsAccepted, IsLegal, after, after_change}
use Rattle.group_history.specs.Refs.{stamp_of, stamps, max_slots}
use Rattle.group_history.specs.Spelling.{Contents, Spells}
use Rattle.group_history.specs.State.{State}
use Rattle.head_word.specs.declared.entry.Entry.{Entry}
use Rattle.head_word.specs.declared.entry.Entry.TheVariants as v
use Rattle.head_word.specs.Tallies.{key_of}

-- the contents that a draft adds: its nodes, whose children are named by stamps
abbrev pub drafted_contents : ℕ → List (Node Child) → Contents
drafted_contents first nodes = map (drafted_content first) nodes

-- all contents that were drafted, by stamp
abbrev pub drawn : List Entry → Contents
drawn [] = []
drawn (v.Draft d ∷ es) = drafted_contents d.first d.contents ++ drawn es
drawn (v.Move m ∷ es) = drawn es
drawn (v.Opening o ∷ es) = drawn es

-- the first stamp not drawn
abbrev pub next_stamp : List Entry → ℕ
next_stamp log = length (drawn log)

-- each draft's first stamp is the first one not drawn before it
abbrev pub numbered : ℕ → List Entry → Bool
numbered n [] = true
numbered n (v.Draft d ∷ es) = (d.first == n) && numbered (n + length d.contents) es
numbered n (v.Move m ∷ es) = numbered n es
numbered n (v.Opening o ∷ es) = numbered n es

-- where the last move went, or r
abbrev pub moved_from : Ref → List Entry → Ref
moved_from r [] = r
moved_from r (v.Draft d ∷ es) = moved_from r es
moved_from r (v.Move m ∷ es) = moved_from m.to es
moved_from r (v.Opening o ∷ es) = moved_from o.to es

-- the reference that the head has before the book is opened
abbrev pub nowhere : Ref
nowhere = record { bits = 0 }

-- where the last move of a book went
abbrev pub last_move : List Entry → Ref
last_move log = moved_from nowhere log

-- a change, where there is one, before others
abbrev pub with_change : Option Change → List Change → List Change
with_change None cs = cs
with_change (Some c) cs = c ∷ cs

-- each move goes to a greater stamp than the one before it; the first one to a greater one than r bears
abbrev pub AreRising : Ref → List Entry → Type 0
AreRising r [] = Unit {0}
AreRising r (v.Draft d ∷ es) = AreRising r es
AreRising r (v.Move m ∷ es) = (stamp_of r < stamp_of m.to) × AreRising m.to es
AreRising r (v.Opening o ∷ es) = (stamp_of r < stamp_of o.to) × AreRising o.to es

-- the record of a book: the changes of its moves; the opening's has none
abbrev pub record_of : List Entry → List Change
record_of [] = []
record_of (v.Draft d ∷ es) = record_of es
record_of (v.Move m ∷ es) = m.change ∷ record_of es
record_of (v.Opening o ∷ es) = record_of es

-- each content's children bear smaller stamps than it; the first content's stamp is n
abbrev pub AreOrdered : ℕ → Contents → Type 0
AreOrdered n [] = Unit {0}
AreOrdered n (c ∷ cs) = All (λ k. k < n) (children c) × AreOrdered (suc n) cs

-- What is true of every book: stamps go up one by one, children before parents, moves go to ever greater stamps, its
-- record is legal, and the commit where its last move went spells the state after that record.
pub record IsBook (means : Meanings) (log : List Entry) : Type 0 where
  pub numbered : numbered 0 log ≡ true
  pub room : next_stamp log ≤ stamps
  pub ordered : AreOrdered 0 (drawn log)
  pub rising : AreRising nowhere log
  pub legal : IsLegal means (record_of log)
  pub spelled : Spells means (drawn log) (stamp_of (last_move log)) (after (record_of log))

-- the entry of a draft, by this seat or by none
abbrev pub drafted : Option ℕ → ℕ → List (Node Child) → Entry
drafted by first contents = v.Draft (record { by = by; first = first; contents = contents })

-- the entry of a move, by this seat or by none
abbrev pub moved : Option ℕ → Ref → Change → Entry
moved by to change = v.Move (record { by = by; to = to; change = change })

-- the entry of the move that opens a book, for so many seats
abbrev pub opened : ℕ → Ref → Entry
opened seats to = v.Opening (record { to = to; seats = seats })

-- what a book opens with: an empty leaf, of stamp 0
abbrev pub empty_leaf : Node Child
empty_leaf = node.Chunk (Leaf [])

-- and the opening snapshot over it, of stamp 1
abbrev pub opening_snapshot : Node Child
opening_snapshot = node.Commit (record {
  root = Drafted 0;
  kind = Snapshot (record { cookie = null_cookie; confirmed = finite.empty });
})

-- so the opening draws so many stamps
abbrev pub opening_stamps : ℕ
opening_stamps = 2

-- the two entries that a book for so many seats opens with, by no seat: their draft, and a move to the snapshot
abbrev pub book_opening : ℕ → Ref → List Entry
book_opening seats to = drafted None 0 (empty_leaf ∷ opening_snapshot ∷ []) ∷ opened seats to ∷ []

-- how many they are
abbrev pub opening_entries : ℕ
opening_entries = 2

-- where the opening move goes: the snapshot's stamp, 1, in the given slot
abbrev pub opening_ref : ℕ → Ref
opening_ref slot = record { bits = max_slots + slot }

-- where a book's second entry, the opening move, went
abbrev pub opened_at : List Entry → Ref
opened_at [] = nowhere
opened_at (e ∷ []) = nowhere
opened_at (e ∷ v.Draft d ∷ es) = nowhere
opened_at (e ∷ v.Move m ∷ es) = nowhere
opened_at (e ∷ v.Opening o ∷ es) = o.to

-- for how many seats that move opened the book
abbrev pub seats_of : List Entry → ℕ
seats_of [] = 0
seats_of (e ∷ []) = 0
seats_of (e ∷ v.Draft d ∷ es) = 0
seats_of (e ∷ v.Move m ∷ es) = 0
seats_of (e ∷ v.Opening o ∷ es) = o.seats

-- the book begins with the opening's entries
abbrev pub StartsOpened : List Entry → Type 0
StartsOpened log = take opening_entries log ≡ book_opening (seats_of log) (opened_at log)

-- the entry was added by one of so many seats
abbrev pub IsBySeat : ℕ → Entry → Type 0
IsBySeat seats e = (0 < key_of e) × (key_of e ≤ seats)

-- and so was each entry behind the opening's
abbrev pub AreBySeats : ℕ → List Entry → Type 0
AreBySeats seats log = All (IsBySeat seats) (drop opening_entries log)

-- a legal book that begins with the opening's entries, and whose others were added by its seats
abbrev pub IsOpened : Meanings → List Entry → Type 0
IsOpened means log = IsBook means log × StartsOpened log × AreBySeats (seats_of log) log

-- the child that a reference names in a draft whose nodes are numbered from here on: a stamp below is that of a node
-- drawn before, and another one that of a node of the draft, by its number
abbrev pub child_from : ℕ → Ref → Child
child_from from at = cond (nat_lt (stamp_of at) from) (Placed at) (Drafted (stamp_of at - from))

-- nodes that are numbered so, as a draft lists them
abbrev pub drafted_from : ℕ → List (Node Ref) → List (Node Child)
drafted_from from nodes = map (renamed (child_from from)) nodes

-- a child of the node at this place of a draft has a stamp among the first n, or stands at an earlier place
abbrev pub IsBefore : ℕ → ℕ → Child → Type 0
IsBefore n place (Placed at) = stamp_of at < n
IsBefore n place (Drafted earlier) = earlier < place

-- the nodes' children have stamps among the first n, or stand at earlier places; the first node's place is given
abbrev pub AreAfter : ℕ → ℕ → List (Node Child) → Type 0
AreAfter n place [] = Unit {0}
AreAfter n place (c ∷ cs) = All (IsBefore n place) (children c) × AreAfter n (suc place) cs

-- By these contents the state of `new`, a later commit, is that of `base` after the change, which is accepted there;
-- and queries read at each of the two the view of its state.
pub record IsChangeFrom (means : Meanings) (contents : Contents) (base new : Ref) (change : Change) : Type 0 where
  pub state : State
  pub later : stamp_of base < stamp_of new
  pub before : Spells means contents (stamp_of base) state
  pub accepted : IsAccepted means state change
  pub then : Spells means contents (stamp_of new) (after_change state change)
