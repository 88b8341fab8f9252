-- What the joined machine has at any moment: the claims table, the book of the head, and what each seat has under way.
-- A commit is here its reference and the slots that it reaches; there are no values in slots. The head word is where
-- the book's last move went, and the draft word the first stamp that the book has not drawn.
use Rattle.std.specs.Prelude.{◌≡◌, ℕ, ◌<◌, ◌≤◌, ◌⊎◌, List, [], ◌∷◌, Bool, true, slice_set}
use mathlib.Core.Option.{some}
use lib.ListN.{get_elem?}
use Rattle.group_history.specs.declared.refs.Ref.{Ref}
use Rattle.head_word.specs.declared.entry.Entry.{Entry}
use Rattle.head_word.specs.Books.{last_move}
use Rattle.reader_claims.specs.declared.words.Pin.TheVariants.{Held}
use Rattle.reader_claims.specs.declared.view.View.{View}
use Rattle.reader_claims.specs.Lists.{without}

-- a commit: its reference, and the slots that it reaches
pub record Commit : Type 0 where
  pub at : Ref
  pub slots : List ℕ

-- the commit is in the list
abbrev pub Among : List Commit → Commit → Type 0
Among [] c = ⊥
Among (d ∷ ds) c = (c ≡ d) ⊎ Among ds c

-- the slots of the one list that are not in the other
abbrev pub minus : List ℕ → List ℕ → List ℕ
minus xs [] = xs
minus xs (y ∷ ys) = without y (minus xs ys)

-- the number is within one of the ranges, each of which has a first number and an end
abbrev pub IsWithin : List (ℕ × ℕ) → ℕ → Type 0
IsWithin [] n = ⊥
IsWithin (d ∷ ds) n = ((d.0 ≤ n) × (n < d.1)) ⊎ IsWithin ds n

-- How far a seat is with a try to move the head
pub data Try : Type 0 where
  no_try : Try
  -- the slots that it settled in this try, and the ranges of stamps that it drew
  under_way : (settled : List ℕ) (drawn : List (ℕ × ℕ)) → Try
  -- the slots that it has still to retire, and whether it has loaded the epoch since the try ended
  ended : (left : List ℕ) (loaded : Bool) → Try

abbrev pub IsTrying : Try → Type 0
IsTrying (under_way settled drawn) = Unit {0}
IsTrying other = ⊥

-- the slots that a try has settled, or has left to retire
abbrev pub slots_of : Try → List ℕ
slots_of no_try = []
slots_of (under_way settled drawn) = settled
slots_of (ended left loaded) = left

-- the try has ended, and the epoch was loaded since
abbrev pub IsLateTry : Try → Type 0
IsLateTry (ended left loaded) = loaded ≡ true
IsLateTry other = ⊥

-- the stamp was drawn in the try that is under way
abbrev pub IsDrawnIn : Try → ℕ → Type 0
IsDrawnIn (under_way settled drawn) stamp = IsWithin drawn stamp
IsDrawnIn other stamp = ⊥

-- What a seat has under way: the commits that it loaded under the pin that it holds, and its try
pub record Work : Type 0 where
  pub commits : List Commit
  pub try : Try

abbrev pub no_work : Work
no_work = record { commits = []; try = no_try }

-- What all seats share, and what each has
pub record World : Type 0 where
  -- the claims table: its words, and the view of each seat
  pub words : List ℕ
  pub views : List View
  -- the book, and the slots that the commit reaches where its last move went
  pub log : List Entry
  pub reached : List ℕ
  -- what each seat has under way, at the place of its view
  pub works : List Work

-- the seat id has the view v, and the work a under way
pub record Sits (s : World) (id : ℕ) (v : View) (a : Work) : Type 0 where
  pub view : get_elem? s.views id ≡ some v
  pub work : get_elem? s.works id ≡ some a

-- the seat holds a pin
abbrev pub HoldsPin : View → Type 0
HoldsPin v = (e : ℕ) × (v.pin ≡ Held e)

-- the head
abbrev pub head : World → Commit
head s = record { at = last_move s.log; slots = s.reached }

-- the world once the seat id has the work a under way
abbrev pub put : World → ℕ → Work → World
put s id a = record s { works = slice_set s.works id a }
