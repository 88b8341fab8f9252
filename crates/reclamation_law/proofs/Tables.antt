-- The claims table's own steps lead to each table of the machine, and to one that it opens with, for every number of
-- readers and all slots:
-- all seats are dealt, and then the first reader takes and settles the slots of the opening commit.
use Rattle.std.proofs.Common.{◌≡◌, ◌≢◌, ℕ, zero, suc, ◌+◌, ◌<◌, ◌≤◌, List, [], ◌∷◌, ◌++◌, length, get_or, set}
use Rattle.std.proofs.Common.{replicate, cond, refl}
use Rattle.std.proofs.Common.{sym, ap, ◌∙◌, subst, inl, inr, ⊎_elim, arith, length-set, length-append, get_or-set_same}
use Rattle.std.proofs.Common.{get_or-set_other}
use Rattle.std.proofs.Common.{set-set, eq-eqb}
use Rattle.std.proofs.lemmas.List.{get_or_past, get_or-replicate, length-replicate}
use mathlib.Core.Logic.{dite}
use mathlib.Core.Option.{some, some-injective}
use native.Mathlib.Decide.{ℕ_discrete, dec_lt}
use lib.ListN.{get_elem?}
use Rattle.atomic_table.proofs.Lists.{at_set, at_last, at_longer, set_here, set_again}
use Rattle.group_history.specs.Refs.{max_seats}
use Rattle.head_word.specs.Books.{book_opening, opening_ref}
use Rattle.reader_claims.specs.declared.words.SlotState.TheVariants.{Free, Taken, Live}
use Rattle.reader_claims.specs.declared.view.Sizes.{Sizes}
use Rattle.reader_claims.specs.declared.view.View.{View}
use Rattle.reader_claims.specs.Words.{first_slot, slot_at, slot_word}
use Rattle.reader_claims.specs.Lists.{In}
use Rattle.reader_claims.specs.Deeds as deed
use Rattle.reader_claims.specs.Deeds.{Deed}
use Rattle.reader_claims.specs.Views.{reader, dealer, with_taken, with_settled}
use Rattle.reader_claims.specs.Machine as table
use Rattle.reader_claims.specs.Machine.{Move, Reached}
use Rattle.reader_claims.proofs.Keeps.{below}
use Rattle.reclamation_law.specs.Worlds.{World, no_work}
use Rattle.reclamation_law.specs.Events.{Event}
use Rattle.reclamation_law.specs.Joined as machine
use Rattle.reclamation_law.specs.Joined.{JoinedSteps, IsIdleSeat, Opens}
use Rattle.reclamation_law.specs.Laws.{TableLaw, OpeningLaw}
use Rattle.reclamation_law.proofs.Rows.{in_or_not}

module _ (k : Sizes) where
  -- the seats of the readers 1 to n
  abbrev readers : ℕ → List View
  readers zero = []
  readers (suc n) = readers n ++ reader k (suc n) ∷ []

  readers_length : (n : ℕ) → length (readers n) ≡ n
  readers_length zero = refl
  readers_length (suc n) = let before = readers_length n in
      omega (arith, length-append (readers n) (reader k (suc n) ∷ []))

  reader_there : (n j : ℕ) → j < n → get_elem? (readers n) j ≡ some (reader k (suc j))
  reader_there zero j lt = absurd (omega arith)
  reader_there (suc n) j lt = dite (ℕ_discrete j n)
      (λ e. subst (λ q. get_elem? (readers (suc n)) q ≡ some (reader k (suc q))) (sym e)
      (at_last (readers n) (reader k (suc n)) n (readers_length n)))
      (λ ne. at_longer (readers n) (reader k (suc n) ∷ []) j (reader k (suc j)) (reader_there n j (omega arith)))

  -- all seats, once those of the readers 1 to n are dealt
  abbrev pub dealt_seats : ℕ → List View
  dealt_seats n = dealer k (n + 1) ∷ readers n

  all_dealt : (ws : List ℕ) → Reached k ws (dealer k 1 ∷ []) → (n : ℕ) → n ≤ k.readers → Reached k ws (dealt_seats n)
  all_dealt ws r zero le = r
  all_dealt ws r (suc n) le = let e : n + 1 ≡ suc n = omega arith in
      subst (λ m. Reached k ws (dealer k (m + 1) ∷ (readers n ++ reader k m ∷ []))) e
      (table.dealt ws (dealt_seats n) 0 (n + 1) (all_dealt ws r n (omega arith)) refl (omega arith) (omega arith))

  -- what it did that took and settled these slots, one after the other
  abbrev pub deeds_for : List ℕ → List Deed
  deeds_for [] = []
  deeds_for (z ∷ zs) = deed.settled z ∷ (deed.took z ∷ deeds_for zs)

  -- the first reader, after it settled some slots
  abbrev pub first : List ℕ → View
  first done = record (reader k 1) { settled = done; deeds = deeds_for done }

  abbrev pub seats : List ℕ → List View
  seats done = set (dealt_seats k.readers) 1 (first done)

  -- The slots of the list are live and the others free, and the first reader has settled those that are done
  pub record Laid (zs done : List ℕ) : Type 0 where
    pub words : List ℕ
    pub reached : Reached k words (seats done)
    pub long : length words ≡ first_slot + k.slots
    pub low : (i : ℕ) → i < first_slot → get_or words i 0 ≡ 0
    pub live : (z : ℕ) → In zs z → get_or words (slot_at z) 0 ≡ slot_word Live
    pub free : (z : ℕ) → z < k.slots → (In zs z → ⊥) → get_or words (slot_at z) 0 ≡ slot_word Free

module _ (k : Sizes) (some_reader : 0 < k.readers) (few : k.readers ≤ max_seats) where
  second : 1 < length (dealt_seats k k.readers)
  second = let many = readers_length k k.readers in omega arith

  pub none_laid : Laid k [] []
  none_laid = laid_at (first_slot + k.slots) refl where
    laid_at : (n : ℕ) → n ≡ first_slot + k.slots → Laid k [] []
    laid_at n is = let ws : List ℕ = replicate n 0 in let wide : length ws ≡ n = length-replicate n 0 in
        let zeros : (j : ℕ) → get_or ws j 0 ≡ 0 = λ j. dite (dec_lt j n) (λ lt. get_or-replicate n j 0 0 lt)
        (λ ge. get_or_past ws j 0 (omega arith)) in
        record {
          words = ws;
          reached = subst (Reached k ws) (sym (set_again (dealt_seats k k.readers) 1 (reader k 1)
              (reader_there k k.readers 0 some_reader)))
              (all_dealt k ws (table.opened ws (wide ∙ is) few zeros) k.readers (omega arith));
          long = wide ∙ is;
          low = λ i lt. zeros i;
          live = λ z h. absurd h;
          free = λ z room out. zeros (slot_at z);
        }

  -- the first reader takes one more slot, and settles it
  pub one_laid : (z : ℕ) (zs done : List ℕ) → z < k.slots → (In zs z → ⊥) → Laid k zs done → Laid k (z ∷ zs) (z ∷ done)
  one_laid z zs done room out h =
      let ws = h.words in let i : ℕ = slot_at z in let v = first k done in let v' : View = with_taken v z in
      let mine : ℕ = slot_word (Taken 1) in
      let vs : List View = seats k done in let long = h.long in
      let was : get_or ws i 0 ≡ slot_word Free = h.free z room out in
      let there : get_elem? vs 1 ≡ some v = set_here (dealt_seats k k.readers) 1 v second in
      let took : Reached k (set ws i mine) (set vs 1 v') =
      table.stepped ws vs 1 i mine v v' h.reached there
      (subst (λ x. Move v i x mine v') (sym was) (table.take z (omega arith) room)) in
      let ws' : List ℕ = set ws i mine in let vs' : List View = set vs 1 v' in
      let now : get_or ws' i 0 ≡ mine = get_or-set_same ws i mine 0 (omega arith) in
      let there' : get_elem? vs' 1 ≡ some v' = set_here vs 1 v'
      (let l = length-set (dealt_seats k k.readers) 1 v in let two = second in
      omega arith) in
      let settled : Reached k (set ws' i 1) (set vs' 1 (with_settled v' z)) =
      table.stepped ws' vs' 1 i 1 v' (with_settled v' z) took there' (subst
      (λ x. Move v' i x 1 (with_settled v' z)) (sym now) (table.settle z (inl refl))) in
      let none_left : with_settled v' z ≡ first k (z ∷ done) = ap
      (λ b. record v' { taken = cond b [] (z ∷ []); settled = z ∷ done; deeds = deeds_for k (z ∷ done) })
      (eq-eqb z z refl) in
      let once : set vs' 1 (with_settled v' z)
      ≡ seats k (z ∷ done) = ap (set vs' 1) none_left ∙ set-set vs 1 v' (first k (z ∷ done))
      ∙ set-set (dealt_seats k k.readers) 1 v (first k (z ∷ done)) in
      let wide : length ws' ≡ length ws = length-set ws i mine in
      let others : (j : ℕ) → j ≢ i → get_or (set ws' i 1) j 0 ≡ get_or ws j 0 =
      λ j ne. get_or-set_other ws' i j 1 0 ne ∙ get_or-set_other ws i j mine 0 ne in
      record {
        words = set ws' i 1;
        reached = subst (Reached k (set ws' i 1)) once settled;
        long = length-set ws' i 1 ∙ wide ∙ h.long;
        low = λ j lt. others j (λ e. omega arith) ∙ h.low j lt;
        live = λ y inside. dite (ℕ_discrete y z)
            (λ e. ap (λ q. get_or (set ws' i 1) (slot_at q) 0) e ∙ get_or-set_same ws' i 1 0 (omega arith))
            (λ ne. others (slot_at y) (λ e. ne (omega arith)) ∙ h.live y (⊎_elim (λ (e : y ≡ z). absurd (ne e))
            (λ (g : In zs y). g) inside));
        free = λ y near outside. others (slot_at y) (λ e. outside (inl (omega arith))) ∙ h.free y near
            (λ g. outside (inr g));
      }

  -- a slot that is live already stays so
  laid : (zs : List ℕ) → ((z : ℕ) → In zs z → z < k.slots) → (done : List ℕ) × Laid k zs done
  laid [] room = ([], none_laid)
  laid (z ∷ zs) room = let h = laid zs (λ y inside. room y (inr inside)) in ⊎_elim
      (λ (there : In zs z). (
        h.0,
        record {
          words = h.1.words;
          reached = h.1.reached;
          long = h.1.long;
          low = h.1.low;
          live = λ y inside. h.1.live y (⊎_elim (λ (e : y ≡ z). subst (In zs) (sym e) there)
              (λ (g : In zs y). g) inside);
          free = λ y near outside. h.1.free y near (λ g. outside (inr g));
        },
      ))
      (λ (out : In zs z → ⊥). (z ∷ h.0, one_laid z zs h.0 (room z (inl refl)) out h.1)) (in_or_not zs z)

  -- each seat has seen nothing
  idle_seat : (done : List ℕ) (j : ℕ) (v : View) → get_elem? (seats k done) j ≡ some v → IsIdleSeat k j v
  idle_seat done j v at = ⊎_elim (λ (x : (j ≡ 1) × (first k done ≡ v)). subst (λ (y : ℕ × View). IsIdleSeat k y.0 y.1)
      (λ i. (sym x.0 i, x.1 i)) idle_first)
      (λ (x : (j ≢ 1) × (get_elem? (dealt_seats k k.readers) j ≡ some v)). idle_other j x.1)
      (at_set (dealt_seats k k.readers) 1 j (first k done) v at) where
        idle_first : IsIdleSeat k 1 (first k done)
        idle_first = record {
          sizes = refl;
          number = refl;
          pin = refl;
          taken = refl;
          loaded = refl;
          reached = refl;
          floor = refl;
        }

        idle_other : (i : ℕ) → get_elem? (dealt_seats k k.readers) i ≡ some v → IsIdleSeat k i v
        idle_other zero e = subst (IsIdleSeat k 0) (some-injective (dealer k (k.readers + 1)) v e) record {
          sizes = refl;
          number = refl;
          pin =
              refl;
          taken = refl;
          loaded = refl;
          reached = refl;
          floor = refl;
        }
        idle_other (suc i) e = let near = below (readers k k.readers) i v e in let many = readers_length k k.readers in
            subst (IsIdleSeat k (suc i)) (some-injective (reader k (suc i)) v
            (sym (reader_there k k.readers i (omega arith)) ∙ e))
            record {
              sizes = refl;
              number = refl;
              pin = refl;
              taken = refl;
              loaded = refl;
              reached = refl;
              floor = refl;
            }

  -- the world of these slots, with seats that have nothing under way
  abbrev pub world_of : (zs done : List ℕ) → Laid k zs done → World
  world_of zs done h = record {
    words = h.words;
    views = seats k done;
    log = book_opening k.readers (opening_ref 0);
    reached = zs;
    works = replicate (length (seats k done)) no_work;
  }

  pub opened : (zs done : List ℕ) → ((z : ℕ) → In zs z → z < k.slots) → (h : Laid k zs done)
      → Opens k (world_of zs done h)
  opened zs done room h = let many : length (seats k done)
      ≡ k.readers + 1 = length-set (dealt_seats k k.readers) 1 (first k done) ∙
      (let n = readers_length k k.readers in omega arith) in record {
        sized = few;
        long = h.long;
        epoch_and_pins = h.low;
        live = λ z inside. (room z inside, h.live z inside);
        free = h.free;
        seats = many;
        dealt = λ v e. ap (λ (u : View). u.next) (sym (some-injective (dealer k (k.readers + 1)) v e)) ∙ sym many;
        views = idle_seat done;
        works = refl;
        at = opening_ref 0;
        book = refl;
        stamp = refl;
      }

pub opening_law : OpeningLaw
opening_law k zs some_reader few room = let h = laid k some_reader few zs room in
    (world_of k some_reader few zs h.0 h.1, opened k some_reader few zs h.0 room h.1, h.1.reached, refl)

step_reached : (k : Sizes) (s t : World) (e : Event) → Reached k s.words s.views → JoinedSteps s e t
    → Reached k t.words t.views
step_reached k s t e r (machine.at_table id i y v w a me m may) = table.stepped s.words s.views id i y v w r me.view m
step_reached k s t e r (machine.look id z c v a me has inside) = r
step_reached k s t e r (machine.load_head id v a me pin) = r
step_reached k s t e r (machine.load_drafts id v a me) = r
step_reached k s t e r (machine.begin id v a me pin idle) = r
step_reached k s t e r (machine.draw id contents v a me) = r
step_reached k s t e r (machine.publish id old new change v a me may) = r
step_reached k s t e r (machine.lose id old v a me now has ne) = r
step_reached k s t e r (machine.give_up id v a me now) = r

pub table_law : TableLaw
table_law k s t [] r h = subst (λ (u : World). Reached k u.words u.views) h r
table_law k s t (e ∷ es) r h = table_law k h.0 t es (step_reached k s h.0 e r h.1) h.2
