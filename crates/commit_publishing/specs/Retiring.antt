-- What a draft does to slots, by all that its seat did: what it had done before is xs, and what it has done behind it
-- ys, the newest first.
use Rattle.std.specs.Prelude.{ℕ, ◌≡◌, ◌<◌, ◌≤◌, ◌⊎◌, ◌^◌, length, List, [], ◌∷◌, ◌++◌, map, reverse, Option}
use Rattle.std.specs.List.{All, flat_map}
use Rattle.group_history.specs.declared.nodes.Child.{Child}
use Rattle.group_history.specs.declared.nodes.Node.{Node}
use Rattle.group_history.specs.declared.refs.Ref.{Ref}
use Rattle.head_word.specs.declared.entry.Entry.{Entry}
use Rattle.head_word.specs.Books as books
use Rattle.head_word.specs.Marks.{own}
use Rattle.reader_claims.specs.Deeds as deed
use Rattle.reader_claims.specs.Deeds.{Deed}
use Rattle.commit_graph.specs.Seats.{SeatState}
use Rattle.linearized.specs.declared.trying.Published.{Published}
use Rattle.linearized.specs.declared.trying.Published.TheVariants as published

-- Slots were taken, the last one stands first; those of `settled` were settled, one after the other, and then those of
-- `withdrawn` withdrawn.
abbrev pub draft_deeds : List ℕ → List ℕ → List Deed → List Deed
draft_deeds settled withdrawn xs = map deed.withdrew (reverse withdrawn)
    ++ (map deed.settled (reverse settled) ++ (map deed.took (settled ++ withdrawn) ++ xs))

-- Of a table with so many slots, these slots were let go at r, one after the other: each was retired, or found not
-- live. One that the table does not have was left alone.
abbrev pub AreLetGo : ℕ → ℕ → List ℕ → List Deed → List Deed → Type 0
AreLetGo slots r [] xs ys = ys ≡ xs
AreLetGo slots r (i ∷ is) xs ys = ((i < slots) × AreLetGo slots r is (deed.retired i r ∷ xs) ys)
    ⊎ (((i < slots) × AreLetGo slots r is (deed.missed i ∷ xs) ys) ⊎ ((slots ≤ i) × AreLetGo slots r is xs ys))

-- The epoch was raised, and then these slots were let go. Where it is the last epoch, as one knows that reads it as
-- `reached`, nothing was done, and where there are none neither.
abbrev pub AreFreed : ℕ → ℕ → List ℕ → List Deed → List Deed → Type 0
AreFreed slots reached [] xs ys = ys ≡ xs
AreFreed slots reached (i ∷ is) xs ys = ((2 ^ 60 ≤ reached) × (ys ≡ xs))
    ⊎ ((r e : ℕ) × (r ≤ e) × AreLetGo slots r (i ∷ is) (deed.raised e ∷ xs) ys)

-- What a seat did for a draft that it gave up: below this end it took slots, of which it settled some and withdrew the
-- others, and by these entries of the book it drew stamps.
pub record GivenUp : Type 0 where
  pub end : ℕ
  pub settled : List ℕ
  pub withdrawn : List ℕ
  pub entries : List Entry

-- the slots that were taken for it
abbrev pub taken_for : GivenUp → List ℕ
taken_for g = g.settled ++ g.withdrawn

-- for so many nodes no stamps were drawn, or one for each, by one entry
abbrev pub Draws : Option ℕ → ℕ → List Entry → Type 0
Draws by count entries = (entries ≡ []) ⊎ ((first : ℕ) × (contents : List (Node Child)) × (length contents ≡ count)
    × (entries ≡ books.drafted by first contents ∷ []))

-- The seat had a slot for each node of which it drew the stamp, and let go what it had settled.
pub record IsGivenUp (slots reached : ℕ) (by : Option ℕ) (g : GivenUp) (xs ys : List Deed) : Type 0 where
  pub within : All (λ i. i < g.end) (taken_for g)
  pub drew : Draws by (length (taken_for g)) g.entries
  pub freed : AreFreed slots reached g.settled (draft_deeds g.settled g.withdrawn xs) ys

-- these drafts were given up, one after the other, and nothing else was done
abbrev pub GivesUp : ℕ → ℕ → Option ℕ → List GivenUp → List Deed → List Deed → Type 0
GivesUp slots reached by [] xs zs = zs ≡ xs
GivesUp slots reached by (g ∷ gs) xs zs = (ys : List Deed) × IsGivenUp slots reached by g xs ys
    × GivesUp slots reached by gs ys zs

-- the entries that were added to the book for them
abbrev pub entries_drawn : List GivenUp → List Entry
entries_drawn gs = flat_map (λ g. g.entries) gs

-- A draft of so many nodes was given up, since xs was done, and since `old` was seen of the book: no more slots below
-- the end were taken for it than it has nodes.
pub record GivesOneUp (slots end count : ℕ) (xs : List Deed) (old new : SeatState) : Type 0 where
  pub given : GivenUp
  pub ends : given.end ≡ end
  pub few : length (taken_for given) ≤ count
  pub up : IsGivenUp slots new.view.reached old.mark.seat given xs new.view.deeds
  pub own : own new.mark ≡ own old.mark ++ given.entries

-- Of the references of a draft, and of those that the old head alone reaches, these are needed no more
abbrev pub unneeded : Published → List Ref → List Ref → List Ref
unneeded published.Won refs left = left
unneeded published.Lost refs left = refs
