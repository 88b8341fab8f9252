-- Ways of the machine, event by event, from an opening in which the slot 0 alone is reached. The words of a table are
-- told by their places.
use Rattle.std.proofs.Common.{◌≡◌, ◌≢◌, ℕ, ◌+◌, ◌-◌, ◌<◌, ◌≤◌, Bool, true, false, cond, ◌==◌, List, [], ◌∷◌, ◌++◌}
use Rattle.std.proofs.Common.{length, get_or, set, refl, sym, ap, ◌∙◌, subst, inl, ⊎_elim, arith, length-set}
use Rattle.std.proofs.Common.{get_or-set_same, get_or-set_other, eq-eqb, ne_eqb}
use mathlib.Core.Logic.{dite}
use native.Mathlib.Decide.{ℕ_discrete, dec_lt}
use Rattle.group_history.specs.declared.changes.Change.{Change}
use Rattle.group_history.specs.declared.changes.Change.TheVariants.{Pulled}
use Rattle.group_history.specs.Cookies.{null_cookie}
use Rattle.group_history.specs.Refs.{max_seats}
use Rattle.head_word.specs.declared.entry.Entry.{Entry}
use Rattle.head_word.specs.Books.{book_opening, opening_ref}
use Rattle.reader_claims.specs.declared.words.Pin.TheVariants.{Absent, Stored}
use Rattle.reader_claims.specs.declared.view.Sizes.{Sizes}
use Rattle.reader_claims.specs.declared.view.View.{View}
use Rattle.reader_claims.specs.Words.{first_slot, slot_at}
use Rattle.reader_claims.specs.Lists.{without}
use Rattle.reader_claims.specs.Views.{with_epoch, with_pin, with_raise, with_taken, with_settled, with_retired}
use Rattle.reader_claims.specs.Machine as table
use Rattle.reader_claims.specs.Machine.{Move, Reached}
use Rattle.reclamation_law.specs.Worlds.{Commit, no_try, under_way, ended, Work, no_work, World, Sits, put}
use Rattle.reclamation_law.specs.Events as events
use Rattle.reclamation_law.specs.Events.{WorldDeed, Event, deed_of}
use Rattle.reclamation_law.specs.Joined as machine
use Rattle.reclamation_law.specs.Joined.{May, work_after, JoinedSteps, Runs, Opens}
use Rattle.reclamation_law.proofs.Tables.{first, Laid, none_laid, one_laid, world_of, opened}

pub then_one : (s t u : World) (es : List Event) (e : Event) → Runs s es t → JoinedSteps t e u → Runs s (es ++ e ∷ []) u
then_one s t u [] e r h = (u, subst (λ w. JoinedSteps w e u) (sym r) h, refl)
then_one s t u (d ∷ es) e r h = (r.0, r.1, then_one r.0 t u es e r.2 h)

-- a step of the table that finds x, where x stands in the word
pub acts : (s : World) (id i x y : ℕ) (v w : View) (a : Work) → get_or s.words i 0 ≡ x → Sits s id v a
    → (m : Move v i x y w) → May a.try m
    → JoinedSteps s (record { seat = id; deed = deed_of m }) (record (put s id (work_after a m)) {
      words = set s.words i y;
      views =
          set s.views id w;
    })
acts s id i x y v w a at me = subst
    (λ q. (m : Move v i q y w) → May a.try m → JoinedSteps s (record {
      seat = id;
      deed =
          deed_of m;
    }) (record (put s id (work_after a m)) { words = set s.words i y; views = set s.views id w })) at
    (λ m may. machine.at_table id i y v w a me m may)

-- the words by their places, after one was set
abbrev pub after : (ℕ → ℕ) → ℕ → ℕ → ℕ → ℕ
after f i y j = cond (j == i) y (f j)

-- at first the slot 0 is live
abbrev pub f0 : ℕ → ℕ
f0 = after (λ j. 0) 2056 1

abbrev pub book : Sizes → List Entry
book k = book_opening k.readers (opening_ref 0)

abbrev pub only : List ℕ
only = 0 ∷ []

-- the change by which the head moves: a pull that brings nothing
abbrev pub pull : Change
pull = Pulled null_cookie (record { cookie = null_cookie; changes = []; patch = [] })

abbrev pub old : Commit
old = record { at = opening_ref 0; slots = only }

abbrev pub seen : List Commit
seen = old ∷ []

abbrev pub trying : List ℕ → List (ℕ × ℕ) → Work
trying settled drawn = record { commits = seen; try = under_way settled drawn }

abbrev pub left : List ℕ → Bool → Work
left slots loaded = record { commits = seen; try = ended slots loaded }

abbrev pub free : Work
free = record { commits = []; try = ended [] true }

module _ (k : Sizes) where
  pub record Words (ws : List ℕ) (f : ℕ → ℕ) : Type 0 where
    pub long : length ws ≡ first_slot + k.slots
    pub at : (i : ℕ) → i < first_slot + k.slots → get_or ws i 0 ≡ f i

  pub set_words : (ws : List ℕ) (f : ℕ → ℕ) (i y : ℕ) → i < first_slot + k.slots → Words ws f
      → Words (set ws i y) (after f i y)
  set_words ws f i y room h = let long = h.long in record {
    long = length-set ws i y ∙ long;
    at = λ j lt. dite (ℕ_discrete j i)
        (λ e. ap (λ q. get_or (set ws i y) q 0) e ∙ get_or-set_same ws i y 0 (omega arith) ∙ ap (λ b. cond b y (f j))
        (sym (eq-eqb j i e)))
        (λ ne. get_or-set_other ws i j y 0 ne ∙ h.at j lt ∙ ap (λ b. cond b y (f j)) (sym (ne_eqb j i ne)));
  }

  -- a way from the start to a world
  pub record Way (start : World) (f : ℕ → ℕ) (views : List View) (log : List Entry) (reached : List ℕ)
      (works : List Work) : Type 0 where
    pub words : List ℕ
    pub are : Words words f
    pub events : List Event
    pub runs : Runs start events (record {
      words = words;
      views = views;
      log = log;
      reached = reached;
      works = works;
    })

module _ {k : Sizes} {start : World} {f : ℕ → ℕ} {views : List View} {log : List Entry} {reached : List ℕ}
    {works : List Work} (h : Way k start f views log reached works) where
  abbrev pub now : World
  now = record { words = h.words; views = views; log = log; reached = reached; works = works }

  -- a step of the table, by the seat id
  abbrev pub on : (id i x y : ℕ) (v w : View) (a : Work) → Sits now id v a → i < first_slot + k.slots → f i ≡ x
      → (m : Move v i x y w) → May a.try m
      → Way k start (after f i y) (set views id w) log reached (set works id (work_after a m))
  on id i x y v w a me room at m may = let d : Event = record { seat = id; deed = deed_of m } in
      let next : World = record (put now id (work_after a m)) {
        words = set h.words i y;
        views = set views id w;
      } in record {
        words = set h.words i y;
        are = set_words k h.words f i y room h.are;
        events = h.events ++ d ∷ [];
        runs = then_one start now next h.events d h.runs (acts now id i x y v w a (h.are.at i room ∙ at) me m may);
      }

  -- an event that is none
  abbrev pub beside : (log' : List Entry) (reached' : List ℕ) (works' : List Work) (d : Event)
      → JoinedSteps now d (record now { log = log'; reached = reached'; works = works' })
      → Way k start f views log' reached' works'
  beside log' reached' works' d step = record {
    words = h.words;
    are = h.are;
    events = h.events ++ d ∷ [];
    runs = then_one start now (record now { log = log'; reached = reached'; works = works' }) h.events d h.runs step;
  }

module _ (k : Sizes) (some_reader : 0 < k.readers) (few : k.readers ≤ max_seats) (some_slot : 0 < k.slots) where
  pub laid : Laid k only only
  laid = one_laid k some_reader few 0 [] [] some_slot (λ h. h) (none_laid k some_reader few)

  abbrev pub start : World
  start = world_of k some_reader few only only laid

  pub start_opens : Opens k start
  start_opens = opened k some_reader few only only
      (λ z inside. ⊎_elim (λ (e : z ≡ 0). omega arith) (λ (n : ⊥). absurd n) inside) laid

  pub start_reached : Reached k start.words start.views
  start_reached = laid.reached

  pub start_words : Words k laid.words f0
  start_words = record {
    long = laid.long;
    at = λ i lt. dite (ℕ_discrete i 2056) (λ e. here i e) (λ ne. elsewhere i lt ne);
  } where
    here : (i : ℕ) → i ≡ 2056 → get_or laid.words i 0 ≡ f0 i
    here i e = ap (λ q. get_or laid.words q 0) e ∙ laid.live 0 (inl refl) ∙ ap (λ b. cond b 1 0) (sym (eq-eqb i 2056 e))

    zero_at : (i : ℕ) → i < first_slot + k.slots → i ≢ 2056 → get_or laid.words i 0 ≡ 0
    zero_at i lt ne = dite (dec_lt i 2056) (λ low. laid.low i low)
        (λ high. let z : ℕ = i - 2056 in let e : i ≡ slot_at z = omega arith in ap (λ q. get_or laid.words q 0) e
        ∙ laid.free z (omega arith) (λ h. ⊎_elim (λ (e' : z ≡ 0). absurd (omega arith)) (λ (n : ⊥). n) h))

    elsewhere : (i : ℕ) → i < first_slot + k.slots → i ≢ 2056 → get_or laid.words i 0 ≡ f0 i
    elsewhere i lt ne = zero_at i lt ne ∙ ap (λ b. cond b 1 0) (sym (ne_eqb i 2056 ne))

  abbrev pub no_way : Way k start f0 start.views (book k) only start.works
  no_way = record { words = laid.words; are = start_words; events = []; runs = refl }

-- the views of the first reader: as the machine opens, after it pinned, after it settled, after it retired the slot z,
-- and after it took its pin away and loaded the epoch
module _ (k : Sizes) where
  abbrev pub v0 : View
  v0 = first k only

  abbrev pub v1 : View
  v1 = with_pin v0 (Stored 0)

  abbrev pub v2 : View
  v2 = with_epoch v1 0

  abbrev pub v3 : View
  v3 = with_settled (with_taken v2 1) 1

  abbrev pub v4 : ℕ → View
  v4 z = with_retired (with_raise (with_epoch v3 0) 1) z 1

  abbrev pub v5 : ℕ → View
  v5 z = with_epoch (with_pin (v4 z) Absent) 1

-- and the words
abbrev pub f1 : ℕ → ℕ
f1 = after (after (after (after f0 8 1) 0 0) 2057 4) 2057 1

abbrev pub raised : (ℕ → ℕ) → ℕ → ℕ
raised f = after (after f 0 0) 0 1

abbrev pub cleared : (ℕ → ℕ) → ℕ → ℕ → ℕ
cleared f z = after (after (after (raised f) (slot_at z) 5) 8 0) 0 1

-- ways of the first reader, whose seat stands between that of the dealer and the others
abbrev pub First : (k : Sizes) (start : World) (dealer : View) (views : List View) (works : List Work)
    → (ℕ → ℕ) → View → List Entry → List ℕ → Work → Type 0
First k start dealer views works f v log reached a = Way k start f (dealer ∷ v ∷ views) log reached
    (no_work ∷ a ∷ works)

module _ {k : Sizes} {start : World} {dealer : View} {views : List View} {works : List Work} {f : ℕ → ℕ} {v : View}
    {log : List Entry} {reached : List ℕ} {a : Work} (h : First k start dealer views works f v log reached a) where
  pub me : Sits (now h) 1 v a
  me = record { view = refl; work = refl }

  abbrev pub first_on : (i x y : ℕ) (w : View) → i < first_slot + k.slots → f i ≡ x → (m : Move v i x y w)
      → May a.try m → First k start dealer views works (after f i y) w log reached (work_after a m)
  first_on i x y w room at m may = on h 1 i x y v w a me room at m may

  abbrev pub first_beside : (log' : List Entry) (reached' : List ℕ) (b : Work) (deed : WorldDeed)
      → JoinedSteps (now h) (record { seat = 1; deed = deed }) (record (now h) {
        log = log';
        reached = reached';
        works = no_work ∷ b ∷ works;
      })
      → First k start dealer views works f v log' reached' b
  first_beside log' reached' b deed step = beside h log' reached' (no_work ∷ b ∷ works)
      (record { seat = 1; deed = deed }) step

module _ (k : Sizes) (start : World) (dealer : View) (views : List View) (works : List Work) where
  abbrev My : (ℕ → ℕ) → View → List Entry → List ℕ → Work → Type 0
  My = First k start dealer views works

  -- It pins the epoch 0, loads the head, begins a try, and takes and settles the slot 1
  abbrev pub tried : 1 < k.slots → My f0 (v0 k) (book k) only no_work → My f1 (v3 k) (book k) only (trying (1 ∷ []) [])
  tried two_slots h0 =
      let loaded : Work = record { commits = seen; try = no_try } in
      let w1 : View = v1 k in let w2 : View = v2 k in let w3 : View = with_taken w2 1 in
      let h1 : My (after f0 8 1) w1 (book k) only no_work = first_on h0 8 0 1 w1 (omega arith) refl
      (table.store_pin 0 0 (omega arith) (omega arith)) (λ n. n) in
      let h2 : My (after (after f0 8 1) 0 0) w2 (book k) only no_work =
      first_on h1 0 0 0 w2 (omega arith) refl (table.load_epoch 0) tt in
      let h3 : My (after (after f0 8 1) 0 0) w2 (book k) only loaded =
      first_beside h2 (book k) only loaded events.loads_head (machine.load_head 1 w2 no_work (me h2) (0, refl)) in
      let h4 : My (after (after f0 8 1) 0 0) w2 (book k) only (trying [] []) =
      first_beside h3 (book k) only (trying [] []) events.begins
      (machine.begin 1 w2 loaded (me h3) (0, refl) (λ n. n)) in
      let h5 : My (after (after (after f0 8 1) 0 0) 2057 4) w3 (book k) only (trying [] []) =
      first_on h4 2057 0 4 w3 (omega arith) refl (table.take 1 (omega arith) two_slots) tt in
      first_on h5 2057 4 1 (v3 k) (omega arith) refl (table.settle 1 (inl refl)) tt

  -- It loads the epoch, raises it, and retires the slot z, takes its pin away and loads the epoch again
  abbrev pub retired : {f : ℕ → ℕ} {log : List Entry} {reached : List ℕ} (z : ℕ) → z < k.slots
      → f 0 ≡ 0 → raised f (slot_at z) ≡ 1
      → My f (v3 k) log reached (left (z ∷ []) false)
      → My (cleared f z) (v5 k z) log reached (record { commits = []; try = ended (without z (z ∷ [])) true })
  retired {f} {log} {reached} z room zero live h0 =
      let w1 : View = with_epoch (v3 k) 0 in let w2 : View = with_raise w1 1 in
      let w4 : View = with_pin (v4 k z) Absent in let pin : ℕ = after (raised f) (slot_at z) 5 8 in
      let epoch : after (raised f) (slot_at z) 5 0 ≡ 1 =
      ap (λ b. cond b 5 1) (ne_eqb 0 (slot_at z) (λ e. omega arith)) in
      let b : Work = record { commits = seen; try = ended (without z (z ∷ [])) true } in
      let h1 : My (after f 0 0) w1 log reached (left (z ∷ []) true) = first_on h0 0 0 0 w1 (omega arith) zero
      (table.load_epoch 0) tt in
      let h2 : My (raised f) w2 log reached (left (z ∷ []) true) =
      first_on h1 0 0 1 w2 (omega arith) refl (table.raise 0 (omega arith) (omega arith) (omega arith)) tt in
      let h3 : My (after (raised f) (slot_at z) 5) (v4 k z) log reached b =
      first_on h2 (slot_at z) 1 5 (v4 k z) (omega arith) live (table.retire z room (omega arith)) (refl, inl refl) in
      let h4 : My (after (after (raised f) (slot_at z) 5) 8 0) w4 log reached (record b { commits = [] }) =
      first_on h3 8 pin 0 w4 (omega arith) refl (table.clear_pin pin (omega arith) (omega arith)) (λ n. n) in
      first_on h4 0 1 1 (v5 k z) (omega arith) epoch (table.load_epoch 1) tt
