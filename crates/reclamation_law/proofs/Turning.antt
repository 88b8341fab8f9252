-- One turn of the machine: a publisher moves the head to a new commit, and the slot of the old one is retired, given
-- and taken again.
use Rattle.std.proofs.Common.{◌≡◌, ℕ, ◌+◌, ◌*◌, List, [], ◌∷◌, ◌++◌, false, refl, ap, inl, inr, arith}
use Rattle.std.specs.Prelude.{Some, slice_set}
use mathlib.Core.Option.{some}
use Rattle.head_word.specs.declared.entry.Entry.{Entry}
use Rattle.head_word.specs.Books.{drafted, moved, empty_leaf, opening_ref}
use Rattle.reader_claims.specs.declared.words.Pin.TheVariants.{Stored}
use Rattle.reader_claims.specs.declared.view.Sizes.{Sizes}
use Rattle.reader_claims.specs.declared.view.View.{View}
use Rattle.reader_claims.specs.Views.{dealer, IsOpen, with_epoch, with_pin, with_read, with_taken, with_given}
use Rattle.reader_claims.specs.Machine as table
use Rattle.reclamation_law.specs.Worlds.{Commit, under_way, Work, World}
use Rattle.reclamation_law.specs.Events as events
use Rattle.reclamation_law.specs.Events.{takes}
use Rattle.reclamation_law.specs.Joined as machine
use Rattle.reclamation_law.specs.Laws.{TurnLaw}
use Rattle.reclamation_law.proofs.Ways.{after, book, only, pull, old, trying, left, free, now, acts, start, start_opens}
use Rattle.reclamation_law.proofs.Ways.{start_reached, no_way, v3, v5, f1, cleared, First, me, first_on, first_beside}
use Rattle.reclamation_law.proofs.Ways.{tried, retired}

-- one reader and two slots, the first of which the opening commit reaches
abbrev sizes : Sizes
sizes = record { readers = 1; slots = 2 }

-- its stamp is 2, and it lies in the slot 1
abbrev new : Commit
new = record { at = record { bits = 2 * (opening_ref 0).bits + 1 }; slots = 1 ∷ [] }

abbrev drafted_book : List Entry
drafted_book = book sizes ++ drafted (Some 1) 2 (empty_leaf ∷ []) ∷ []

abbrev moved_book : List Entry
moved_book = drafted_book ++ moved (Some 1) new.at pull ∷ []

abbrev again : Work
again = record { commits = []; try = under_way [] [] }

abbrev opening_world : World
opening_world = start sizes (omega arith) (omega arith) (omega arith)

-- ways of the one reader
abbrev Way : (ℕ → ℕ) → View → List Entry → List ℕ → Work → Type 0
Way = First sizes opening_world (dealer sizes 2) [] []

abbrev v6 : View
v6 = with_read (v5 sizes 0) 1 0

abbrev v7 : View
v7 = with_epoch (with_pin (with_given v6 0 1) (Stored 1)) 1

abbrev f2 : ℕ → ℕ
f2 = after (cleared f1 0) 8 0

abbrev f3 : ℕ → ℕ
f3 = after (after (after f2 2056 0) 8 2) 0 1

-- the only pin was read as absent
open_now : IsOpen v6 1
open_now = (omega arith, λ j low high. (0, (0, ap (λ q. some (q, 0)) (let e : 1 ≡ j = omega arith in e)), inl refl))

-- The reader settles the slot 1, draws a stamp, and moves the head to a commit that lies there
published : Way f1 (v3 sizes) moved_book (1 ∷ []) (left only false)
published =
    let w : View = v3 sizes in let drew : Work = trying (1 ∷ []) ((2, 3) ∷ []) in
    let h1 : Way f1 w (book sizes) only (trying (1 ∷ []) []) =
    tried sizes opening_world (dealer sizes 2) [] [] (omega arith)
    (no_way sizes (omega arith) (omega arith) (omega arith)) in
    let h2 : Way f1 w drafted_book only drew = first_beside h1 drafted_book only drew
    (events.draws (empty_leaf ∷ [])) (machine.draw 1 (empty_leaf ∷ []) w (trying (1 ∷ []) []) (me h1)) in
    first_beside h2 moved_book (1 ∷ []) (left only false) (events.publishes new pull)
    (machine.publish 1 old new pull w drew (me h2) (record {
      loaded = inl refl;
      still = refl;
      drawn = inl (omega arith, omega arith);
      made = λ z h. inr h;
    }))

-- It retires the slot 0, reads the pin, gives the slot, pins again and begins another try
given : Way f3 v7 moved_book (1 ∷ []) again
given =
    let w1 : View = with_given v6 0 1 in let w2 : View = with_pin w1 (Stored 1) in
    let h1 : Way (cleared f1 0) (v5 sizes 0) moved_book (1 ∷ []) free =
    retired sizes opening_world (dealer sizes 2) [] [] 0 (omega arith) refl refl published in
    let h2 : Way f2 v6 moved_book (1 ∷ []) free =
    first_on h1 8 0 0 v6 (omega arith) refl (table.load_pin 1 0 (omega arith) (omega arith)) tt in
    let h3 : Way (after f2 2056 0) w1 moved_book (1 ∷ []) free = first_on h2 2056 5 0 w1 (omega arith) refl
    (table.give 0 1 (omega arith) open_now) tt in
    let h4 : Way (after (after f2 2056 0) 8 2) w2 moved_book (1 ∷ []) free =
    first_on h3 8 0 2 w2 (omega arith) refl (table.store_pin 0 1 (omega arith) (omega arith)) (λ n. n) in
    let h5 : Way f3 v7 moved_book (1 ∷ []) free = first_on h4 0 1 1 v7 (omega arith) refl (table.load_epoch 1) tt in
    first_beside h5 moved_book (1 ∷ []) again events.begins (machine.begin 1 v7 free (me h5) (1, refl) (λ n. n))

pub turn_law : TurnLaw
turn_law = let h = given in (
  sizes,
  opening_world,
  now h,
  record (now h) { words = slice_set h.words 2056 4; views = dealer sizes 2 ∷ with_taken v7 0 ∷ [] },
  h.events,
  record { seat = 1; deed = takes 0 },
  0,
  start_opens sizes (omega arith) (omega arith) (omega arith),
  start_reached sizes (omega arith) (omega arith) (omega arith),
  h.runs,
  acts (now h) 1 2056 0 4 v7 (with_taken v7 0) again (h.are.at 2056 (omega arith)) (me h)
      (table.take 0 (omega arith) (omega arith)) tt,
  inl refl,
  refl,
)
