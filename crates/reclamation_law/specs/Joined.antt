-- The joined machine: which events may happen in a world, and what each changes. A step on the claims table is a `Move`
-- of that table, as it stands; a step on the book is a look, or adds one entry. Between the two there are these orders.
-- A reader loads the head only while it holds a pin, and looks only at slots that the loaded commit reaches. A
-- publisher holds a pin through its try. In the try it takes slots, draws stamps, settles, and exchanges the head from
-- the commit that it loaded. After a won exchange it loads the epoch as n, raises it from n, and retires at n + 1 what
-- the old commit alone reaches. After a lost one, or where it gives the try up, it retires in the same way what it
-- settled, and withdraws what is still taken. At an epoch of 2 ^ 60, which is raised no further, it retires nothing.
-- There are no loops: any seat may do any next step, in any order, or none. Slots may be taken, settled and withdrawn,
-- and stamps drawn, at any time; what is settled or drawn outside a try belongs to none.
use Rattle.std.specs.Prelude.{◌≡◌, ◌≢◌, ℕ, ◌+◌, ◌<◌, ◌≤◌, ◌⊎◌, List, [], ◌∷◌, ◌++◌, true, false, Some, length}
use Rattle.std.specs.Prelude.{replicate}
use Rattle.std.specs.Prelude.{slice_index, slice_set}
use mathlib.Core.Option.{some}
use lib.ListN.{get_elem?}
use Rattle.group_history.specs.declared.refs.Ref.{Ref}
use Rattle.group_history.specs.declared.changes.Change.{Change}
use Rattle.group_history.specs.declared.nodes.Node.{Node}
use Rattle.group_history.specs.declared.nodes.Child.{Child}
use Rattle.group_history.specs.Refs.{stamp_of, max_seats}
use Rattle.head_word.specs.declared.entry.Entry.{Entry}
use Rattle.head_word.specs.Books.{next_stamp, last_move, drafted, moved, book_opening}
use Rattle.reader_claims.specs.declared.words.Pin.TheVariants.{Absent}
use Rattle.reader_claims.specs.declared.words.SlotState.TheVariants.{Free, Live}
use Rattle.reader_claims.specs.declared.view.Sizes.{Sizes}
use Rattle.reader_claims.specs.declared.view.View.{View}
use Rattle.reader_claims.specs.Words.{first_slot, slot_at, slot_word}
use Rattle.reader_claims.specs.Lists.{In, without}
use Rattle.reader_claims.specs.Machine as table
use Rattle.reader_claims.specs.Machine.{Move}
use Rattle.reclamation_law.specs.Worlds.{Commit, Among, minus, Try, under_way, ended, IsTrying, slots_of, IsLateTry}
use Rattle.reclamation_law.specs.Worlds.{IsDrawnIn}
use Rattle.reclamation_law.specs.Worlds.{Work, no_work, World, Sits, HoldsPin, head, put}
use Rattle.reclamation_law.specs.Events.{Event, deed_of, looks, loads_head, loads_drafts, begins, draws, publishes}
use Rattle.reclamation_law.specs.Events.{loses, gives_up}

-- ---- steps on the claims table

-- What is asked of such a step beside what the table asks. A seat keeps its pin through a try. It retires only what an
-- ended try has left, and only once it has loaded the epoch since the try ended
abbrev pub May : {v : View} {i x y : ℕ} {w : View} → Try → Move v i x y w → Type 0
May t (table.store_pin x e some_pin few) = IsTrying t → ⊥
May t (table.clear_pin x some_pin few) = IsTrying t → ⊥
May t (table.retire i room past) = IsLateTry t × In (slots_of t) i
May t other = Unit {0}

abbrev pub with_loaded : Try → Try
with_loaded (ended left loaded) = ended left true
with_loaded other = other

abbrev pub try_settled : Try → ℕ → Try
try_settled (under_way settled drawn) i = under_way (i ∷ settled) drawn
try_settled other i = other

abbrev pub try_retired : Try → ℕ → Try
try_retired (ended left loaded) i = ended (without i left) loaded
try_retired other i = other

-- What a seat has under way after such a step. With its pin it gives up the commits that it loaded under it
abbrev pub work_after : {v : View} {i x y : ℕ} {w : View} → Work → Move v i x y w → Work
work_after a (table.load_epoch e) = record a { try = with_loaded a.try }
work_after a (table.store_pin x e some_pin few) = record a { commits = [] }
work_after a (table.clear_pin x some_pin few) = record a { commits = [] }
work_after a (table.settle i inside) = record a { try = try_settled a.try i }
work_after a (table.retire i room past) = record a { try = try_retired a.try i }
work_after a other = a

-- ---- steps on the book

-- after a load of the head
abbrev pub with_head : World → Work → Work
with_head s a = record a { commits = head s ∷ a.commits }

-- after a try was begun
abbrev pub with_try : Work → Work
with_try a = record a { try = under_way [] [] }

-- after a draw of the stamps from first on and below end
abbrev pub with_drawn : Try → ℕ → ℕ → Try
with_drawn (under_way settled drawn) first end = under_way settled ((first, end) ∷ drawn)
with_drawn other first end = other

-- after a draw that made the book this one
abbrev pub drew : World → ℕ → Work → List Entry → World
drew s id a log = record (put s id (record a
    { try = with_drawn a.try (next_stamp s.log) (next_stamp log) })) { log = log }

-- What a seat needs to move the head from the commit `old` to `new`
pub record MayPublish (s : World) (a : Work) (old new : Commit) : Type 0 where
  -- it loaded the old one, under the pin that it holds
  pub loaded : Among a.commits old
  -- the head is still there
  pub still : last_move s.log ≡ old.at
  -- the new one has a stamp drawn in this try
  pub drawn : IsDrawnIn a.try (stamp_of new.at)
  -- and reaches only slots of the old one, and slots settled in this try
  pub made : (z : ℕ) → In new.slots z → In old.slots z ⊎ In (slots_of a.try) z

-- after a won exchange what the old commit alone reaches is left to be retired
abbrev pub with_won : Work → Commit → Commit → Work
with_won a old new = record a { try = ended (minus old.slots new.slots) false }

-- after a lost one, or where the try is given up, what was settled in it is left
abbrev pub with_lost : Work → Work
with_lost a = record a { try = ended (slots_of a.try) false }

-- after the seat id moved the head by this change
abbrev pub moved_to : World → ℕ → Work → Commit → Commit → Change → World
moved_to s id a old new change = record (put s id (with_won a old new)) {
  log = s.log ++ moved (Some id) new.at change ∷ [];
  reached = new.slots;
}

-- ---- all events

pub data JoinedSteps (s : World) : Event → World → Type 0 where
  at_table : (id i y : ℕ) (v w : View) (a : Work) → Sits s id v a
      → (m : Move v i (slice_index s.words i) y w) → May a.try m
      → JoinedSteps s (record { seat = id; deed = deed_of m })
      (record (put s id (work_after a m)) { words = slice_set s.words i y; views = slice_set s.views id w })
  look : (id z : ℕ) (c : Commit) (v : View) (a : Work) → Sits s id v a → Among a.commits c → In c.slots z
      → JoinedSteps s (record { seat = id; deed = looks z }) s
  load_head : (id : ℕ) (v : View) (a : Work) → Sits s id v a → HoldsPin v
      → JoinedSteps s (record { seat = id; deed = loads_head }) (put s id (with_head s a))
  load_drafts : (id : ℕ) (v : View) (a : Work) → Sits s id v a
      → JoinedSteps s (record { seat = id; deed = loads_drafts }) s
  -- what an earlier try has left and was not retired stays live
  begin : (id : ℕ) (v : View) (a : Work) → Sits s id v a → HoldsPin v → (IsTrying a.try → ⊥)
      → JoinedSteps s (record { seat = id; deed = begins }) (put s id (with_try a))
  draw : (id : ℕ) (contents : List (Node Child)) (v : View) (a : Work) → Sits s id v a
      → JoinedSteps s (record { seat = id; deed = draws contents })
      (drew s id a (s.log ++ drafted (Some id) (next_stamp s.log) contents ∷ []))
  publish : (id : ℕ) (old new : Commit) (change : Change) (v : View) (a : Work) → Sits s id v a → MayPublish s a old new
      → JoinedSteps s (record { seat = id; deed = publishes new change }) (moved_to s id a old new change)
  -- the head is at another commit than the one loaded
  lose : (id : ℕ) (old : Commit) (v : View) (a : Work) → Sits s id v a → IsTrying a.try
      → Among a.commits old → last_move s.log ≢ old.at
      → JoinedSteps s (record { seat = id; deed = loses }) (put s id (with_lost a))
  give_up : (id : ℕ) (v : View) (a : Work) → Sits s id v a → IsTrying a.try
      → JoinedSteps s (record { seat = id; deed = gives_up }) (put s id (with_lost a))

-- the events happen one after another
abbrev pub Runs : World → List Event → World → Type 0
Runs s [] t = s ≡ t
Runs s (e ∷ es) t = (u : World) × JoinedSteps s e u × Runs u es t

-- ---- the opening

-- The seat j has no pin and no slot, and has loaded, reached and given at no number above 0
pub record IsIdleSeat (k : Sizes) (j : ℕ) (v : View) : Type 0 where
  pub sizes : v.sizes ≡ k
  pub number : v.number ≡ j
  pub pin : v.pin ≡ Absent
  pub taken : v.taken ≡ []
  pub loaded : v.loaded ≡ 0
  pub reached : v.reached ≡ 0
  pub floor : v.floor ≡ 0

-- The machine opens at epoch 0 with no pin. The slots that the head reaches are live and all others free. No seat has
-- anything under way
pub record Opens (k : Sizes) (s : World) : Type 0 where
  pub sized : k.readers ≤ max_seats
  pub long : length s.words ≡ first_slot + k.slots
  pub epoch_and_pins : (i : ℕ) → i < first_slot → slice_index s.words i ≡ 0
  pub live : (z : ℕ) → In s.reached z → (z < k.slots) × (slice_index s.words (slot_at z) ≡ slot_word Live)
  pub free : (z : ℕ) → z < k.slots → (In s.reached z → ⊥) → slice_index s.words (slot_at z) ≡ slot_word Free
  -- the readers' seats stand at the places from 1 on, and at 0 that of the seat which has made them all
  pub seats : length s.views ≡ k.readers + 1
  pub dealt : (v : View) → get_elem? s.views 0 ≡ some v → v.next ≡ length s.views
  pub views : (j : ℕ) (v : View) → get_elem? s.views j ≡ some v → IsIdleSeat k j v
  pub works : s.works ≡ replicate (length s.views) no_work
  -- the book opens for the readers' seats with two drafted nodes, and a move to the second, which has the stamp 1
  pub at : Ref
  pub book : s.log ≡ book_opening k.readers at
  pub stamp : stamp_of at ≡ 1
