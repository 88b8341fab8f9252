-- Of two tries one moves the head and the other is lost, or given up. The slot that was settled in that one is retired,
-- given and taken again.
use Rattle.std.proofs.Common.{◌≡◌, ◌⊎◌, ℕ, ◌+◌, ◌*◌, ◌<◌, ◌≤◌, List, [], ◌∷◌, ◌++◌, false, refl, sym, ap, subst, inl}
use Rattle.std.proofs.Common.{inr, ⊎_elim, arith}
use Rattle.std.specs.Prelude.{Some, slice_set}
use mathlib.Core.Logic.{dite}
use native.Mathlib.Decide.{ℕ_discrete}
use mathlib.Core.Option.{some}
use Rattle.head_word.specs.declared.entry.Entry.{Entry}
use Rattle.head_word.specs.Books.{drafted, moved, empty_leaf, opening_ref}
use Rattle.reader_claims.specs.declared.words.Pin.TheVariants.{Absent, Stored}
use Rattle.reader_claims.specs.declared.view.Sizes.{Sizes}
use Rattle.reader_claims.specs.declared.view.View.{View}
use Rattle.group_history.specs.declared.refs.Ref.{Ref}
use Rattle.reader_claims.specs.Lists.{Noted}
use Rattle.reader_claims.specs.Views.{reader, dealer, IsOpen, with_epoch, with_pin, with_read, with_taken, with_settled}
use Rattle.reader_claims.specs.Views.{with_given}
use Rattle.reader_claims.specs.Machine as table
use Rattle.reader_claims.specs.Machine.{Move}
use Rattle.reclamation_law.specs.Worlds.{Commit, no_try, Work, no_work, World, Sits, put}
use Rattle.reclamation_law.specs.Events as events
use Rattle.reclamation_law.specs.Events.{WorldDeed, takes, loses, gives_up}
use Rattle.reclamation_law.specs.Joined as machine
use Rattle.reclamation_law.specs.Joined.{May, work_after, with_lost, JoinedSteps}
use Rattle.reclamation_law.specs.Laws.{LostTurnLaw}
use Rattle.reclamation_law.proofs.Ways.{after, book, only, pull, old, seen, trying, left, free, now, acts, on, beside}
use Rattle.reclamation_law.proofs.Ways.{start, start_opens, start_reached, no_way, v3, v5, f1, cleared, First, me}
use Rattle.reclamation_law.proofs.Ways.{first_on, first_beside, tried, retired}

-- two readers and three slots, the first of which the opening commit reaches
abbrev sizes : Sizes
sizes = record { readers = 2; slots = 3 }

-- the commit of the other try: its stamp is 2, and it lies in the slot 2
abbrev new : Commit
new = record { at = record { bits = 2 * (opening_ref 0).bits + 2 }; slots = 2 ∷ [] }

abbrev drafted_book : List Entry
drafted_book = book sizes ++ drafted (Some 2) 2 (empty_leaf ∷ []) ∷ []

abbrev moved_book : List Entry
moved_book = drafted_book ++ moved (Some 2) new.at pull ∷ []

abbrev opening_world : World
opening_world = start sizes (omega arith) (omega arith) (omega arith)

-- ways of the two readers, by the view and the work of each
abbrev Way : (ℕ → ℕ) → View → View → List Entry → List ℕ → Work → Work → Type 0
Way f v w log reached a b = First sizes opening_world (dealer sizes 3) (w ∷ []) (b ∷ []) f v log reached a

-- what the second reader does
module _ {f : ℕ → ℕ} {v w : View} {log : List Entry} {reached : List ℕ} {a b : Work}
    (h : Way f v w log reached a b) where
  other : Sits (now h) 2 w b
  other = record { view = refl; work = refl }

  abbrev second_on : (i x y : ℕ) (u : View) → i < 2059 → f i ≡ x → (m : Move w i x y u) → May b.try m
      → Way (after f i y) v u log reached a (work_after b m)
  second_on i x y u room at m may = on h 2 i x y w u b other room at m may

  abbrev second_beside : (log' : List Entry) (reached' : List ℕ) (c : Work) (deed : WorldDeed)
      → JoinedSteps (now h) (record { seat = 2; deed = deed }) (record (now h) {
        log = log';
        reached = reached';
        works = no_work ∷ a ∷ c ∷ [];
      })
      → Way f v w log' reached' a c
  second_beside log' reached' c deed step = beside h log' reached' (no_work ∷ a ∷ c ∷ [])
      (record { seat = 2; deed = deed }) step

-- the view of the second reader: as the machine opens, after it pinned, after it settled, after it took its pin away
abbrev w0 : View
w0 = reader sizes 2

abbrev w1 : View
w1 = with_epoch (with_pin w0 (Stored 0)) 0

abbrev w2 : View
w2 = with_settled (with_taken w1 2) 2

abbrev w3 : View
w3 = with_pin w2 Absent

abbrev f2 : ℕ → ℕ
f2 = after (after f1 16 1) 0 0

abbrev f3 : ℕ → ℕ
f3 = after (after (after f2 2058 6) 2058 1) 16 0

-- the work of the first reader, once its try has settled the slot 1
abbrev mine : Work
mine = trying (1 ∷ []) []

-- and of the second, once its own has ended
abbrev done : Work
done = record (left only false) { commits = [] }

-- Both readers pin the epoch 0, load the head and begin a try. The first settles the slot 1
abbrev begun : Way f2 (v3 sizes) w1 (book sizes) only mine (trying [] [])
begun =
    let v : View = v3 sizes in let p : View = with_pin w0 (Stored 0) in
    let loaded : Work = record { commits = seen; try = no_try } in
    let h1 : Way f1 v w0 (book sizes) only mine no_work =
    tried sizes opening_world (dealer sizes 3) (w0 ∷ []) (no_work ∷ []) (omega arith)
    (no_way sizes (omega arith) (omega arith) (omega arith)) in
    let h2 : Way (after f1 16 1) v p (book sizes) only mine no_work = second_on h1 16 0 1 p (omega arith) refl
    (table.store_pin 0 0 (omega arith) (omega arith)) (λ n. n) in
    let h3 : Way f2 v w1 (book sizes) only mine no_work =
    second_on h2 0 0 0 w1 (omega arith) refl (table.load_epoch 0) tt in
    let h4 : Way f2 v w1 (book sizes) only mine loaded = second_beside h3 (book sizes) only loaded events.loads_head
    (machine.load_head 2 w1 no_work (other h3) (0, refl)) in
    second_beside h4 (book sizes) only (trying [] []) events.begins
    (machine.begin 2 w1 loaded (other h4) (0, refl) (λ n. n))

-- The second settles the slot 2, draws a stamp, moves the head to a commit that lies there, and takes its pin away
abbrev published : Way f3 (v3 sizes) w3 moved_book (2 ∷ []) mine done
published =
    let v : View = v3 sizes in let t : View = with_taken w1 2 in
    let drew : Work = trying (2 ∷ []) ((2, 3) ∷ []) in
    let h1 : Way (after f2 2058 6) v t (book sizes) only mine (trying [] []) =
    second_on begun 2058 0 6 t (omega arith) refl (table.take 2 (omega arith) (omega arith)) tt in
    let h2 : Way (after (after f2 2058 6) 2058 1) v w2 (book sizes) only mine (trying (2 ∷ []) []) =
    second_on h1 2058 6 1 w2 (omega arith) refl (table.settle 2 (inl refl)) tt in
    let h3 : Way (after (after f2 2058 6) 2058 1) v w2 drafted_book only mine drew =
    second_beside h2 drafted_book only drew (events.draws (empty_leaf ∷ []))
    (machine.draw 2 (empty_leaf ∷ []) w2 (trying (2 ∷ []) []) (other h2)) in
    let h4 : Way (after (after f2 2058 6) 2058 1) v w2 moved_book (2 ∷ []) mine (left only false) =
    second_beside h3 moved_book (2 ∷ []) (left only false) (events.publishes new pull)
    (machine.publish 2 old new pull w2 drew (other h3) (record {
      loaded = inl refl;
      still = refl;
      drawn = inl (omega arith, omega arith);
      made = λ z h. inr h;
    })) in
    second_on h4 16 1 0 w3 (omega arith) refl (table.clear_pin 1 (omega arith) (omega arith)) (λ n. n)

abbrev u1 : View
u1 = with_read (v5 sizes 1) 1 0

abbrev u2 : View
u2 = with_read u1 2 0

abbrev u3 : View
u3 = with_given u2 1 1

abbrev f4 : ℕ → ℕ
f4 = after (after (cleared f3 1) 8 0) 16 0

-- both pins were read as absent
open_now : IsOpen u2 1
open_now = (omega arith, λ j low high. (0, at j low high, inl refl)) where
  at : (j : ℕ) → 0 < j → j ≤ 2 → Noted u2.read j 0
  at j low high = dite (ℕ_discrete j 1) (λ e. (1, ap (λ q. some (q, 0)) (sym e)))
      (λ ne. (0, ap (λ q. some (q, 0)) (let e : 2 ≡ j = omega arith in e)))

module _ (d : WorldDeed) (ends : (d ≡ loses) ⊎ (d ≡ gives_up)) where
  -- the first reader finds that the head was moved, or gives its try up
  abbrev lost : (h : Way f3 (v3 sizes) w3 moved_book (2 ∷ []) mine done)
      → Way f3 (v3 sizes) w3 moved_book (2 ∷ []) (left (1 ∷ []) false) done
  lost h = first_beside h moved_book (2 ∷ []) (left (1 ∷ []) false) d (⊎_elim
      (λ (is : d ≡ loses). by is (machine.lose 1 old (v3 sizes) mine (me h) tt (inl refl)
      (λ e. let b : new.at.bits ≡ old.at.bits = ap (λ (r : Ref). r.bits) e in omega arith)))
      (λ (is : d ≡ gives_up). by is (machine.give_up 1 (v3 sizes) mine (me h) tt)) ends) where
        by : {q : WorldDeed} → d ≡ q
            → JoinedSteps (now h) (record { seat = 1; deed = q }) (put (now h) 1 (with_lost mine))
            → JoinedSteps (now h) (record { seat = 1; deed = d }) (put (now h) 1 (with_lost mine))
        by is step = subst (λ q. JoinedSteps (now h) (record { seat = 1; deed = q }) (put (now h) 1 (with_lost mine)))
            (sym is) step

  -- It retires the slot 1, reads the pins, and gives the slot
  abbrev given : Way (after f4 2057 0) u3 w3 moved_book (2 ∷ []) free done
  given =
      let h1 : Way (cleared f3 1) (v5 sizes 1) w3 moved_book (2 ∷ []) free done =
      retired sizes opening_world (dealer sizes 3) (w3 ∷ []) (done ∷ []) 1 (omega arith) refl refl (lost published) in
      let h2 : Way (after (cleared f3 1) 8 0) u1 w3 moved_book (2 ∷ []) free done =
      first_on h1 8 0 0 u1 (omega arith) refl (table.load_pin 1 0 (omega arith) (omega arith)) tt in
      let h3 : Way f4 u2 w3 moved_book (2 ∷ []) free done =
      first_on h2 16 0 0 u2 (omega arith) refl (table.load_pin 2 0 (omega arith) (omega arith)) tt in
      first_on h3 2057 5 0 u3 (omega arith) refl (table.give 1 1 (omega arith) open_now) tt

pub lost_turn_law : LostTurnLaw
lost_turn_law d ends = let h = given d ends in (
  sizes,
  opening_world,
  now h,
  record (now h) { words = slice_set h.words 2057 4; views = dealer sizes 3 ∷ with_taken u3 1 ∷ w3 ∷ [] },
  h.events,
  record { seat = 1; deed = takes 1 },
  1,
  0,
  1,
  events.stores_pin 0 ∷ events.loads_epoch ∷ events.loads_head ∷ [],
  events.clears_pin ∷ events.loads_epoch ∷ events.loads_pin 1 ∷ events.loads_pin 2 ∷ events.gives 1 ∷ [],
  start_opens sizes (omega arith) (omega arith) (omega arith),
  start_reached sizes (omega arith) (omega arith) (omega arith),
  h.runs,
  acts (now h) 1 2057 0 4 u3 (with_taken u3 1) free (h.are.at 2057 (omega arith)) (me h)
      (table.take 1 (omega arith) (omega arith)) tt,
  λ inside. ⊎_elim (λ (e : 1 ≡ 0). omega arith) (λ (n : ⊥). n) inside,
  refl,
  refl,
)
