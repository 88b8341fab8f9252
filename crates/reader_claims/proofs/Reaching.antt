-- What the machine's steps lead to is sound, and each step of the code is a step of the machine.
use Rattle.std.proofs.Common.{◌≡◌, ℕ, zero, suc, ◌+◌, ◌^◌, ◌<◌, ◌≤◌, ◌⊎◌, max, eqb, List, [], ◌∷◌, length, get_or, set}
use Rattle.std.proofs.Common.{cond, eq-eqb, ne_eqb, ◌≢◌, sym, refl, ap, ◌∙◌, subst, inl, inr, ⊎_elim, arith, length-set}
use Rattle.std.proofs.Common.{get_or-set_other, get_or-set_same}
use mathlib.Core.Logic.{dite}
use mathlib.Core.Option.{none, some, some-injective, some-ne-none}
use native.Mathlib.Decide.{ℕ_discrete}
use lib.ListN.{get_elem?}
use prog.Atomic.{either}
use Rattle.atomic_table.specs.Table.{Step, step, Act, keeps, Valid, carried_after, opening, stepped, Allows, Splits}
use Rattle.atomic_table.proofs.Lists.{exchanged}
use Rattle.reader_claims.specs.declared.words.SlotState.TheVariants.{Free, Taken, Live, Retired}
use Rattle.reader_claims.specs.declared.words.Pin.TheVariants.{Absent, Stored, Held}
use Rattle.reader_claims.specs.declared.view.Sizes.{Sizes}
use Rattle.reader_claims.specs.declared.view.View.{View}
use Rattle.group_history.specs.Refs.{max_seats}
use Rattle.reader_claims.specs.Words.{pin_at, first_slot, slot_at, pin_word, slot_word}
use Rattle.reader_claims.specs.Lists.{In, Noted}
use Rattle.reader_claims.specs.Notes as notes
use Rattle.reader_claims.specs.Deeds as deed
use Rattle.reader_claims.specs.Views.{dealer, promoted, IsOpen, with_epoch, with_pin, with_read, with_raise, with_taken}
use Rattle.reader_claims.specs.Views.{with_settled, with_withdrawn, with_retired, with_missed, with_note, with_look}
use Rattle.reader_claims.specs.Views.{with_given, sought}
use Rattle.reader_claims.specs.Machine as machine
use Rattle.reader_claims.specs.Machine.{Move, Reached, Lawful, left_there}
use Rattle.reader_claims.specs.Inside.Plays.{Sat, dealt_left, dealt_right, GoesTo, loaded, stored, cleared_pin, read}
use Rattle.reader_claims.specs.Inside.Plays.{raised_epoch, looked_at, took, made_live, withdrawn, retired, gave_slot}
use Rattle.reader_claims.proofs.Sound.{Sound}
use Rattle.reader_claims.proofs.Keeps.{St, turned, unturned, own_pin, none_noted, promoted_word, promoted_held, deals}
use Rattle.reader_claims.proofs.Slotted.{moved, unmoved, ends_at, not_taken, quiet_holds}

abbrev pub state : List ℕ → List View → St
state ws vs = record { words = ws; homes = []; views = vs }

module _ (k : Sizes) where
  read_sound : (ws : List ℕ) (vs : List View) (o : Sound k (state ws vs)) (id : ℕ) (v : View) (i : ℕ)
      → get_elem? vs id ≡ some v → 0 < i → i ≤ max_seats
      → Sound k (state (set ws (pin_at i) (get_or ws (pin_at i) 0))
      (set vs id (with_read v i (get_or ws (pin_at i) 0))))
  read_sound ws vs o id v i me some_pin few = let s = state ws vs in let w = with_read v i (get_or ws (pin_at i) 0) in
      let after : (j y e : ℕ) (u : View) → get_elem? vs j ≡ some u → Noted w.read j y → u.pin ≡ Held e
      → (y ≡ e + 1) ⊎ (w.reached ≤ e) = λ j y e u at noted h. here j y e u at h noted.0 noted.1 in
      unturned k s o (pin_at i) id v w me record {
        sizes = refl;
        number = refl;
        next = refl;
        long = refl;
        rises = omega arith;
        low = o.pins.low;
        others = λ j z other z'. refl;
        mine = λ z. o.pins.pinned id v me z;
        behind = o.pins.behind id v me;
        fresh = λ e h. inl h;
        learnt = λ j u y e other at noted h. after j y e u at noted h;
        own = λ y e noted h. after id y e v me noted h;
        first = λ z h. h;
        slots = λ j near. refl;
        taken = refl;
        floor = refl;
      } where
        here : (j y e : ℕ) (u : View) → get_elem? vs j ≡ some u → u.pin ≡ Held e → (q : ℕ)
            → get_elem? ((i, get_or ws (pin_at i) 0) ∷ v.read) q ≡ some (j, y) → (y ≡ e + 1) ⊎ (v.reached ≤ e)
        here j y e u at h zero f = let p = some-injective (i, get_or ws (pin_at i) 0) (j, y) f in
            inl (ap (λ t. t.1) (sym p) ∙ ap (λ q. get_or ws (pin_at q) 0) (ap (λ t. t.0) p) ∙ o.pins.pinned j u at
            (omega (arith, ap (λ t. t.0) p)) ∙ ap pin_word h)
        here j y e u at h (suc q) f = o.pins.learnt id j v u y e me at (q, f) h

  -- the epoch becomes x, and the seat has reached r
  raise_sound : (ws : List ℕ) (vs : List View) (o : Sound k (state ws vs)) (id : ℕ) (v : View) (x r : ℕ)
      → get_elem? vs id ≡ some v → get_or ws 0 0 ≤ x → x ≤ 2 ^ 60 → v.reached ≤ r → r ≤ x
      → Sound k (state (set ws 0 x) (set vs id (with_raise v r)))
  raise_sound ws vs o id v x r me rises fits past near = let s = state ws vs in let b = o.pins.behind id v me in
      let long = o.pins.wide in let w = with_raise v r in
      let here : get_or (set ws 0 x) 0 0 ≡ x = get_or-set_same ws 0 x 0 (omega arith) in
      turned k s o id v w (set ws 0 x) me record {
        sizes = refl;
        number = refl;
        next = refl;
        long = length-set ws 0 x;
        rises = omega arith;
        low = omega arith;
        others = λ j z other z'. get_or-set_other ws 0 (pin_at j) x 0 (λ e. omega arith);
        mine = λ z. get_or-set_other ws 0 (pin_at id) x 0 (λ e. omega arith) ∙ o.pins.pinned id v me z;
        behind = (omega arith, omega arith);
        fresh = λ e h. inl h;
        learnt = λ i u y e other at noted h. none_noted k i y ((y ≡ e + 1) ⊎ (w.reached ≤ e)) noted;
        own = λ y e noted h. none_noted k id y ((y ≡ e + 1) ⊎ (w.reached ≤ e)) noted;
        first = λ z h. h;
        slots = λ j near'. get_or-set_other ws 0 (slot_at j) x 0 (λ e. omega arith);
        taken = refl;
        floor = refl;
      }

  take_sound : (ws : List ℕ) (vs : List View) (o : Sound k (state ws vs)) (id : ℕ) (v : View) (i : ℕ)
      → get_elem? vs id ≡ some v → i < k.slots → get_or ws (slot_at i) 0 ≡ slot_word Free
      → Sound k (state (set ws (slot_at i) (slot_word (Taken v.number))) (set vs id (with_taken v i)))
  take_sound ws vs o id v i me room hit = let number = o.pins.numbered id v me in
      moved k (state ws vs) o id v i (slot_word (Taken v.number))
      (i ∷ v.taken) v.settled v.notes v.floor v.retired v.withdrawn (deed.took i ∷ v.deeds) me record {
        room = room;
        owner = λ j e. absurd (omega arith);
        mine = λ z h. dite (ℕ_discrete z i) (λ e. inl (e, omega arith))
            (λ ne. inr (ne, ⊎_elim (λ (q : z ≡ i). absurd (ne q)) (λ g. g) h));
        rest = λ z ne h. inr h;
        new = λ j e. (omega arith, inl refl);
        fits = λ e q. absurd (omega arith);
        low = o.slots.floor id v me;
        floor = λ j u e a h. o.slots.floors id j v u e me a h;
      }

  retire_sound : (ws : List ℕ) (vs : List View) (o : Sound k (state ws vs)) (id : ℕ) (v : View) (i : ℕ)
      → get_elem? vs id ≡ some v → i < k.slots → v.loaded < v.reached → get_or ws (slot_at i) 0 ≡ slot_word Live
      → Sound k (state (set ws (slot_at i) (slot_word (Retired (v.loaded + 1))))
      (set vs id (with_retired v i (v.loaded + 1))))
  retire_sound ws vs o id v i me room past hit = let b = o.pins.behind id v me in
      moved k (state ws vs) o id v i (slot_word (Retired (v.loaded + 1))) v.taken v.settled v.notes v.floor
      ((i, v.loaded + 1) ∷ v.retired) v.withdrawn (deed.retired i (v.loaded + 1) ∷ v.deeds) me record {
        room = room;
        owner = λ j e. absurd (omega arith);
        mine = λ z h. inr (not_taken k (state ws vs) o id v i z me (λ j e. omega arith) h);
        rest = λ z ne h. h;
        new = λ j e. absurd (omega arith);
        fits = λ e q. omega arith;
        low = o.slots.floor id v me;
        floor = λ j u e a h. o.slots.floors id j v u e me a h;
      }

  give_sound : (ws : List ℕ) (vs : List View) (o : Sound k (state ws vs)) (id : ℕ) (v : View) (i r : ℕ)
      → get_elem? vs id ≡ some v → i < k.slots → IsOpen v r → get_or ws (slot_at i) 0 ≡ slot_word (Retired r)
      → Sound k (state (set ws (slot_at i) (slot_word Free)) (set vs id (with_given v i r)))
  give_sound ws vs o id v i r me room open_at hit = let b = o.pins.behind id v me in let past = open_at.0 in
      let low = o.slots.floor id v me in
      moved k (state ws vs) o id v i 0 v.taken v.settled (notes.gave i r ∷ v.notes)
      (max v.floor r) v.retired v.withdrawn v.deeds me record {
        room = room;
        owner = λ j e. absurd (omega arith);
        mine = λ z h. inr (not_taken k (state ws vs) o id v i z me (λ j e. omega arith) h);
        rest = λ z ne h. h;
        new = λ j e. absurd (omega arith);
        fits = λ e q. absurd (omega arith);
        low = omega arith;
        floor = λ j u e a h. let f = o.slots.floors id j v u e me a h in
            let q = quiet_holds k (state ws vs) o id v r me past open_at.1 j u e a h in omega arith;
      }

  epoch_sound : (ws : List ℕ) (vs : List View) (o : Sound k (state ws vs)) (id : ℕ) (v : View)
      → get_elem? vs id ≡ some v → Sound k (state (set ws 0 (get_or ws 0 0)) (set vs id (with_epoch v (get_or ws 0 0))))
  epoch_sound ws vs o id v me = let s = state ws vs in let r : ℕ = get_or ws 0 0 in let w = with_epoch v r in
      unturned k s o 0 id v w me record {
        sizes = refl;
        number = refl;
        next = refl;
        long = refl;
        rises = omega arith;
        low = o.pins.low;
        others = λ j some_pin other slot. refl;
        mine = λ some_pin. o.pins.pinned id v me some_pin ∙ sym (promoted_word k v.pin r);
        behind = (omega arith, omega arith);
        fresh = λ e h. promoted_held k v.pin r e h;
        learnt = λ i u x e other at noted h. none_noted k i x ((x ≡ e + 1) ⊎ (w.reached ≤ e)) noted;
        own = λ x e noted h. none_noted k id x ((x ≡ e + 1) ⊎ (w.reached ≤ e)) noted;
        first = λ z h. ap (λ p. promoted p r) h;
        slots = λ i near. refl;
        taken = refl;
        floor = refl;
      }

  pub roomy : (ws : List ℕ) (vs : List View) (o : Sound k (state ws vs)) (id : ℕ) (v : View) → get_elem? vs id ≡ some v
      → (i : ℕ) → i < v.sizes.slots → i < k.slots
  roomy ws vs o id v me i room = let size : v.sizes.slots
      ≡ k.slots = ap (λ z. z.slots) (o.pins.of id v me) in omega arith

  pub move_sound : (ws : List ℕ) (vs : List View) → Sound k (state ws vs) → (id : ℕ) (v : View)
      → get_elem? vs id ≡ some v → (i x y : ℕ) (w : View) → get_or ws i 0 ≡ x → Move v i x y w
      → Sound k (state (set ws i y) (set vs id w))
  move_sound ws vs o id v me i x y w at (machine.load_epoch e) = subst
      (λ n. Sound k (state (set ws 0 n) (set vs id (with_epoch v n)))) at (epoch_sound ws vs o id v me)
  move_sound ws vs o id v me i x y w at (machine.store_pin old e some_pin few) = own_pin k (state ws vs) o id v
      (Stored e) (e + 1) me some_pin few refl (λ n h. cc)
  move_sound ws vs o id v me i x y w at (machine.clear_pin old some_pin few) = own_pin k
      (state ws vs) o id v Absent 0 me some_pin few refl (λ n h. cc)
  move_sound ws vs o id v me i x y w at (machine.load_pin j n some_pin few) = subst
      (λ q. Sound k (state (set ws (pin_at j) q) (set vs id (with_read v j q)))) at
      (read_sound ws vs o id v j me some_pin few)
  move_sound ws vs o id v me i x y w at (machine.raise n some_reader low past) = let b = o.pins.behind id v me in
      raise_sound ws vs o id v (n + 1) (n + 1) me (omega arith) (omega arith) (omega arith) (omega arith)
  move_sound ws vs o id v me i x y w at (machine.raise_lost n e past miss) = let b = o.pins.behind id v me in
      let low = o.pins.low in raise_sound ws vs o id v e e me (omega arith) (omega arith) (omega arith) (omega arith)
  move_sound ws vs o id v me i x y w at (machine.take j some_reader room) = take_sound ws vs o id v j me
      (roomy ws vs o id v me j room) at
  move_sound ws vs o id v me i x y w at (machine.settle j inside) = ends_at k (state ws vs) o id v j 1
      (j ∷ v.settled) v.withdrawn (deed.settled j ∷ v.deeds) me inside (omega arith)
  move_sound ws vs o id v me i x y w at (machine.withdraw j inside) = ends_at k (state ws vs) o id v j 0 v.settled
      (j ∷ v.withdrawn) (deed.withdrew j ∷ v.deeds) me inside (omega arith)
  move_sound ws vs o id v me i x y w at (machine.retire j room past) = retire_sound ws vs o id v j me
      (roomy ws vs o id v me j room) past at
  move_sound ws vs o id v me i x y w at (machine.give j r room open_at) = give_sound ws vs o id v j r me
      (roomy ws vs o id v me j room) open_at at
  move_sound ws vs o id v me i x y w at (machine.lost j old n room miss) = subst
      (λ q. Sound k (state (set ws (slot_at j) q) (set vs id (with_note v j old q)))) at
      (unmoved k (state ws vs) o (slot_at j) id v (notes.lost j old (get_or ws (slot_at j) 0) ∷ v.notes) v.deeds me)
  move_sound ws vs o id v me i x y w at (machine.miss j n room miss) = subst
      (λ q. Sound k (state (set ws (slot_at j) q) (set vs id (with_missed v j q)))) at
      (unmoved k (state ws vs) o (slot_at j) id v (notes.lost j 1 (get_or ws (slot_at j) 0) ∷ v.notes)
      (deed.missed j ∷ v.deeds) me)

  opened_sound : (ws : List ℕ) → length ws ≡ first_slot + k.slots → k.readers ≤ max_seats
      → ((j : ℕ) → get_or ws j 0 ≡ 0) → Sound k (state ws (dealer k 1 ∷ []))
  opened_sound ws long sized zeros = record {
    pins = record {
      wide = long;
      sized = sized;
      few = omega arith;
      of = alone (λ j u. u.sizes ≡ k) refl;
      numbered = alone (λ j u. u.number ≡ j) refl;
      dealing = λ u e. ap (λ (y : View). y.next) (sym (some-injective (dealer k 1) u e));
      pinless = λ u e. ap (λ (y : View). y.pin) (sym (some-injective (dealer k 1) u e));
      undealt = λ j far slot. zeros (pin_at j);
      low = omega (arith, zeros 0);
      pinned = λ j u e h. alone (λ j' u'. 0 < j' → get_or ws (pin_at j') 0 ≡ pin_word u'.pin)
          (λ z. absurd (omega arith)) j u e h;
      behind = alone (λ j u. (u.loaded ≤ u.reached) × (u.reached ≤ get_or ws 0 0)) (omega arith, omega arith);
      held = λ j u e f. alone (λ j' u'. u'.pin ≡ Held e → e ≤ get_or ws 0 0) (λ h. absurd (cc)) j u f;
      learnt = λ j i u u' x e f f'. alone (λ j' v. Noted v.read i x → u'.pin ≡ Held e → (x ≡ e + 1) ⊎ (v.reached ≤ e))
          (λ z h. none_noted k i x ((x ≡ e + 1) ⊎ (0 ≤ e)) z) j u f;
    };
    slots = record {
      taken = λ j i u e inside. alone (λ j' u'. In u'.taken i
          → (i < k.slots) × (get_or ws (slot_at i) 0 ≡ slot_word (Taken j'))) (λ z. absurd z) j u e inside;
      taker = λ i j near is. absurd (omega (arith, zeros (slot_at i)));
      retired = λ i r near is. absurd (omega (arith, zeros (slot_at i)));
      floor = alone (λ j u. u.floor ≤ get_or ws 0 0) (omega arith);
      floors = λ j i u u' e f f' h. alone (λ j' v. v.floor ≤ e) (omega arith) j u f;
    };
  } where
    alone : (P : ℕ → View → Type 0) → P 0 (dealer k 1) → (j : ℕ) (u : View)
        → get_elem? (dealer k 1 ∷ []) j ≡ some u → P j u
    alone P h zero u e = subst (P 0) (some-injective (dealer k 1) u e) h
    alone P h (suc j) u e = absurd (some-ne-none u (sym e))

  -- what the machine's steps lead to is sound
  pub sound : (ws : List ℕ) (vs : List View) → Reached k ws vs → Sound k (state ws vs)
  sound ws vs (machine.opened ws' long sized zeros) = opened_sound ws' long sized zeros
  sound ws vs (machine.dealt ws' vs' id n r me some_pin room) = deals k id n some_pin room (state ws' vs')
      (sound ws' vs' r) me
  sound ws vs (machine.stepped ws' vs' id i y v w r me m) = move_sound ws' vs' (sound ws' vs' r) id v me i
      (get_or ws' i 0) y w refl m

  pub opens : (ws : List ℕ) → length ws ≡ first_slot + k.slots → k.readers ≤ max_seats → ((j : ℕ) → get_or ws j 0 ≡ 0)
      → Lawful k (opening ws [] (dealer k 1))
  opens ws long sized zeros = machine.opened ws long sized zeros

  pub deals_as : (id n : ℕ) → 0 < n → n ≤ k.readers
      → Splits (Lawful k) id (dealer k n) (dealt_left (dealer k n)) (dealt_right (dealer k n))
  deals_as id n some_pin room s r me = machine.dealt s.words s.views id n r me some_pin room

  abbrev Steps : St → ℕ → ℕ → Sat → (ℕ → Sat → Type 0) → ℕ → Type 0
  Steps s i id m then y = (w : View) × (a : Act (Unit {0})) × Valid s.homes m.1 a × Lawful k (stepped s i y id m.1 w a)
      × then (get_or s.words i 0) (w, carried_after m.1 a)

  -- one step of the machine, which the seat takes
  goes : (s : St) (i id : ℕ) (m : Sat) (then : ℕ → Sat → Type 0) (y : ℕ) (w : View) → Lawful k s
      → get_elem? s.views id ≡ some m.0 → Move m.0 i (get_or s.words i 0) y w → then (get_or s.words i 0) (w, m.1)
      → Steps s i id m then y
  goes s i id m then y w r me move told = (w, keeps, tt, machine.stepped s.words s.views id i y m.0 w r me move, told)

  -- the step, where the view that it tells of is named by an equal number
  told_at : (st : Step (Unit {0})) (m : Sat) (x y : ℕ) (f : ℕ → View) (j j' : ℕ) → j ≡ j' → Move m.0 st.word x y (f j)
      → GoesTo st m x y (f j, m.1) (f j')
  told_at st m x y f j j' e move = (ap (λ q. (f q, m.1)) e, subst (λ q. Move m.0 st.word x y (f q)) e move)

  pub loads_as : (n id : ℕ) (m : Sat) → Allows (Lawful k) n id m 0 (λ y. y) (loaded (step n 0 0 0 none) m)
  loads_as n id m s r wide me _ = let o = sound s.words s.views r in let e : ℕ = get_or s.words 0 0 in
      let move : Move m.0 0 e e (with_epoch m.0 e) = machine.load_epoch e in
      goes s 0 id m (loaded (step n 0 0 0 none) m) e (with_epoch m.0 e) r me move
      ((refl, move), (o.pins.behind id m.0 me).1, o.pins.low)

  pub stores_as : (n id : ℕ) (m : Sat) (i x e : ℕ) → i ≡ pin_at m.0.number → 0 < m.0.number → m.0.number ≤ max_seats
      → x ≡ e + 1 → Allows (Lawful k) n id m i (λ _. x) (λ _. stored (step n i x 0 none) m x)
  stores_as n id m i x e is some_pin few word s r wide me _ = let was : ℕ = get_or s.words i 0 in
      let move : Move m.0 i was x (with_pin m.0 (Stored e)) = subst
      (λ (q : ℕ × ℕ). Move m.0 q.0 was q.1 (with_pin m.0 (Stored e))) (λ d. (sym is d, sym word d))
      (machine.store_pin was e some_pin few) in
      goes s i id m (λ _. stored (step n i x 0 none) m x) x (with_pin m.0 (Stored e)) r me move
      (λ e' same. let q : e ≡ e' = omega arith in
      subst (λ y. (x' : ℕ) × GoesTo (step n i x 0 none) m x' x (with_pin m.0 (Stored e), m.1)
      (with_pin m.0 (Stored y))) q (was, (refl, move)))

  pub clears_as : (n id : ℕ) (m : Sat) (i : ℕ) → i ≡ pin_at m.0.number → 0 < m.0.number → m.0.number ≤ max_seats
      → Allows (Lawful k) n id m i (λ _. 0) (λ _. cleared_pin (step n i 0 0 none) m 0)
  clears_as n id m i is some_pin few s r wide me _ = let was : ℕ = get_or s.words i 0 in
      let move : Move m.0 i was 0 (with_pin m.0 Absent) = subst (λ q. Move m.0 q was 0 (with_pin m.0 Absent)) (sym is)
      (machine.clear_pin was some_pin few) in
      goes s i id m (λ _. cleared_pin (step n i 0 0 none) m 0) 0 (with_pin m.0 Absent) r me move (was, (refl, move))

  pub reads_as : (n id : ℕ) (m : Sat) (j : ℕ) → 0 < j → j ≤ max_seats
      → Allows (Lawful k) n id m (pin_at j) (λ y. y) (read (step n (pin_at j) 0 0 none) m)
  reads_as n id m j some_pin few s r wide me _ = let x : ℕ = get_or s.words (pin_at j) 0 in
      let move : Move m.0 (pin_at j) x x (with_read m.0 j x) = machine.load_pin j x some_pin few in
      goes s (pin_at j) id m (read (step n (pin_at j) 0 0 none) m) x (with_read m.0 j x) r me move
      (λ j' at. let same : j ≡ j' = omega arith in
      told_at (step n (pin_at j) 0 0 none) m x x (λ q. with_read m.0 q x) j j' same move)

  unsought : (x : ℕ) → x ≢ sought x
  unsought zero e = absurd (cc e)
  unsought (suc x) e = absurd (cc e)

  -- a slot that is taken by the seat's own number is its own
  its_own : (s : St) (o : Sound k (state s.words s.views)) (id : ℕ) (v : View)
      → get_elem? s.views id ≡ some v → (i i' : ℕ)
      → i ≡ i' → i < v.sizes.slots → get_or s.words (slot_at i) 0 ≡ slot_word (Taken v.number) → In v.taken i'
  its_own s o id v me i i' same room is =
      let t = o.slots.taker i v.number (roomy s.words s.views o id v me i room) is in
      let it : t.0 ≡ v = some-injective t.0 v
      (sym t.1 ∙ ap (λ j. get_elem? s.views j) (o.pins.numbered id v me) ∙ me) in
      subst (In v.taken) same (subst (λ (u : View). In u.taken i) it t.2)

  pub looks_as : (n id : ℕ) (m : Sat) (i : ℕ) → i < m.0.sizes.slots
      → Allows (Lawful k) n id m (slot_at i) (λ y. y) (looked_at (step n (slot_at i) 0 0 none) m)
  looks_as n id m i room s r wide me _ = let x : ℕ = get_or s.words (slot_at i) 0 in
      let move : Move m.0 (slot_at i) x x (with_look m.0 i x) = machine.lost i (sought x) x room (unsought x) in
      goes s (slot_at i) id m (looked_at (step n (slot_at i) 0 0 none) m) x (with_look m.0 i x) r me move
      (λ i' at. let same : i ≡ i' = omega arith in (
        told_at (step n (slot_at i) 0 0 none) m x x (λ q. with_look m.0 q x) i i' same move,
        its_own s (sound s.words s.views r) id m.0 me i i' same room,
      ))

  won_left : (x old new : ℕ) → x ≡ old → left_there old new x ≡ new
  won_left x old new e = ap (λ b. cond b new x) (eq-eqb x old e)

  lost_left : (x old new : ℕ) → x ≢ old → left_there old new x ≡ x
  lost_left x old new ne = ap (λ b. cond b new x) (ne_eqb x old ne)

  pub raises_as : (n id : ℕ) (m : Sat) (old : ℕ) → 0 < m.0.number → old < 2 ^ 60 → old ≤ m.0.reached
      → Allows (Lawful k) n id m 0 (λ y. either (eqb y old) (old + 1) y) (raised_epoch (step n 0 old (old + 1) none) m)
  raises_as n id m old some_reader low seen s r wide me _ = let o = sound s.words s.views r in
      let b = o.pins.behind id m.0 me in let x : ℕ = get_or s.words 0 0 in
      let st : Step (Unit {0}) = step n 0 old (old + 1) none in let T = raised_epoch st m in
      exchanged x old (old + 1) (Steps s 0 id m T)
      (λ hit. let w = with_raise m.0 (old + 1) in
      let move : Move m.0 0 x (old + 1) w = subst (λ q. Move m.0 0 q (old + 1) w) (sym hit)
      (machine.raise old some_reader low seen) in
      goes s 0 id m T (old + 1) w r me move (
        refl,
        (let q : old + 1 ≡ max x (old + 1) = omega arith in
            told_at st m x (left_there old (old + 1) x) (with_raise m.0) (old + 1) (max x (old + 1)) q
            (subst (λ y. Move m.0 0 x y w) (sym (won_left x old (old + 1) hit)) move)),
        b.1,
        o.pins.low,
      ))
      (λ miss. let w = with_raise m.0 x in let move : Move m.0 0 x x w = machine.raise_lost old x seen miss in
      goes s 0 id m T x w r me move (
        refl,
        (let q : x ≡ max x (old + 1) = omega arith in
            told_at st m x (left_there old (old + 1) x) (with_raise m.0) x (max x (old + 1)) q
            (subst (λ y. Move m.0 0 x y w) (sym (lost_left x old (old + 1) miss)) move)),
        b.1,
        o.pins.low,
      ))

  -- what a lost exchange of the slot i tells
  misses : (s : St) (id n : ℕ) (m : Sat) (i old new : ℕ) (T : ℕ → Sat → Type 0) → Lawful k s
      → get_elem? s.views id ≡ some m.0 → i < m.0.sizes.slots → get_or s.words (slot_at i) 0 ≢ old
      → (((i' : ℕ) → slot_at i ≡ slot_at i' → GoesTo (step n (slot_at i) old new none) m (get_or s.words (slot_at i) 0)
      (get_or s.words (slot_at i) 0) (with_note m.0 i old (get_or s.words (slot_at i) 0), m.1)
      (with_note m.0 i' old (get_or s.words (slot_at i) 0)))
      → T (get_or s.words (slot_at i) 0) (with_note m.0 i old (get_or s.words (slot_at i) 0), m.1))
      → Steps s (slot_at i) id m T (get_or s.words (slot_at i) 0)
  misses s id n m i old new T r me room miss told = let x : ℕ = get_or s.words (slot_at i) 0 in
      let w = with_note m.0 i old x in let move : Move m.0 (slot_at i) x x w = machine.lost i old x room miss in
      goes s (slot_at i) id m T x w r me move
      (told (λ i' at. let same : i ≡ i' = omega arith in
      told_at (step n (slot_at i) old new none) m x x (λ j. with_note m.0 j old x) i i' same move))

  pub takes_as : (n id : ℕ) (m : Sat) (i new : ℕ) → 0 < m.0.number → i < m.0.sizes.slots
      → new ≡ slot_word (Taken m.0.number) → Allows (Lawful k) n id m (slot_at i) (λ y. either (eqb y 0) new y)
      (took (step n (slot_at i) 0 new none) m)
  takes_as n id m i new some_reader room is s r wide me _ = let v = m.0 in let o = sound s.words s.views r in
      let x : ℕ = get_or s.words (slot_at i) 0 in let T = took (step n (slot_at i) 0 new none) m in
      exchanged x 0 new (Steps s (slot_at i) id m T)
      (λ hit. let w = with_taken v i in let move : Move v (slot_at i) x new w = subst
      (λ (q : ℕ × ℕ). Move v (slot_at i) q.0 q.1 w) (λ d. (sym hit d, sym is d))
      (machine.take i some_reader room) in
      goes s (slot_at i) id m T new w r me move (
        refl,
        is,
        λ i' at. let same : i ≡ i' = omega arith in (
          (λ z. (
            told_at (step n (slot_at i) 0 new none) m x new (λ j. with_taken v j) i i' same move,
            λ inside. let there = (o.slots.taken id i v me (subst (In v.taken) (sym same) inside)).1 in
                omega arith,
          )),
          λ ne. absurd (ne hit),
        ),
      ))
      (λ miss. misses s id n m i 0 new T r me room miss
      (λ told. (
        refl,
        is,
        λ i' at. let same : i ≡ i' = omega arith in (
          (λ z. absurd (miss z)),
          λ ne. (told i' at, its_own s o id v me i i' same room),
        ),
      )))

  pub settles_as : (n id : ℕ) (m : Sat) (i old : ℕ) → In m.0.taken i → old ≡ slot_word (Taken m.0.number)
      → Allows (Lawful k) n id m (slot_at i) (λ y. either (eqb y old) 1 y) (made_live (step n (slot_at i) old 1 none) m)
  settles_as n id m i old inside is s r wide me _ = let v = m.0 in let o = sound s.words s.views r in
      let number = o.pins.numbered id v me in let there = (o.slots.taken id i v me inside).1 in
      let x : ℕ = get_or s.words (slot_at i) 0 in let T = made_live (step n (slot_at i) old 1 none) m in
      exchanged x old 1 (Steps s (slot_at i) id m T)
      (λ hit. let w = with_settled v i in let move : Move v (slot_at i) x 1 w = subst (λ q. Move v (slot_at i) q 1 w)
      (sym (hit ∙ is)) (machine.settle i inside) in
      goes s (slot_at i) id m T 1 w r me move (
        is,
        refl,
        hit,
        λ i' at. let same : i ≡ i' = omega arith in
            told_at (step n (slot_at i) old 1 none) m x 1 (λ j. with_settled v j) i i' same move,
      ))
      (λ miss. absurd (miss (omega arith)))

  pub withdraws_as : (n id : ℕ) (m : Sat) (i old : ℕ) → In m.0.taken i → old ≡ slot_word (Taken m.0.number)
      → Allows (Lawful k) n id m (slot_at i) (λ y. either (eqb y old) 0 y) (withdrawn (step n (slot_at i) old 0 none) m)
  withdraws_as n id m i old inside is s r wide me _ = let v = m.0 in let o = sound s.words s.views r in
      let number = o.pins.numbered id v me in let there = (o.slots.taken id i v me inside).1 in
      let x : ℕ = get_or s.words (slot_at i) 0 in let T = withdrawn (step n (slot_at i) old 0 none) m in
      exchanged x old 0 (Steps s (slot_at i) id m T)
      (λ hit. let w = with_withdrawn v i in let move : Move v (slot_at i) x 0 w = subst (λ q. Move v (slot_at i) q 0 w)
      (sym (hit ∙ is)) (machine.withdraw i inside) in
      goes s (slot_at i) id m T 0 w r me move (
        is,
        refl,
        hit,
        λ i' at. let same : i ≡ i' = omega arith in
            told_at (step n (slot_at i) old 0 none) m x 0 (λ j. with_withdrawn v j) i i' same move,
      ))
      (λ miss. absurd (miss (omega arith)))

  pub retires_as : (n id : ℕ) (m : Sat) (i r new : ℕ) → i < m.0.sizes.slots → r ≡ m.0.loaded + 1
      → m.0.loaded < m.0.reached → new ≡ slot_word (Retired r)
      → Allows (Lawful k) n id m (slot_at i) (λ y. either (eqb y 1) new y) (retired (step n (slot_at i) 1 new none) m)
  retires_as n id m i r new room at_r past is s reached wide me _ = let v = m.0 in
      let x : ℕ = get_or s.words (slot_at i) 0 in let T = retired (step n (slot_at i) 1 new none) m in
      let new_is : new ≡ slot_word (Retired (v.loaded + 1)) = is ∙ ap (λ e. slot_word (Retired e)) at_r in
      exchanged x 1 new (Steps s (slot_at i) id m T)
      (λ hit. let w = with_retired v i (v.loaded + 1) in
      let move : Move v (slot_at i) x new w = subst (λ (q : ℕ × ℕ). Move v (slot_at i) q.0 q.1 w)
      (λ d. (sym hit d, sym new_is d)) (machine.retire i room past) in
      goes s (slot_at i) id m T new w reached me move (
        refl,
        new_is,
        past,
        λ i' at. let same : i ≡ i' = omega arith in (
          (λ z. told_at (step n (slot_at i) 1 new none) m x new (λ j. with_retired v j (v.loaded + 1)) i i' same move),
          λ ne. absurd (ne hit),
        ),
      ))
      (λ ne. let w = with_missed v i x in let move : Move v (slot_at i) x x w = machine.miss i x room ne in
      goes s (slot_at i) id m T x w reached me move (
        refl,
        new_is,
        past,
        λ i' at. let same : i ≡ i' = omega arith in (
          (λ z. absurd (ne z)),
          λ other. told_at (step n (slot_at i) 1 new none) m x x (λ j. with_missed v j x) i i' same move,
        ),
      ))

  pub gives_as : (n id : ℕ) (m : Sat) (i r old : ℕ) → i < m.0.sizes.slots → IsOpen m.0 r → old ≡ slot_word (Retired r)
      → Allows (Lawful k) n id m (slot_at i) (λ y. either (eqb y old) 0 y) (gave_slot (step n (slot_at i) old 0 none) m)
  gives_as n id m i r old room open_at is s reached wide me _ = let v = m.0 in
      let x : ℕ = get_or s.words (slot_at i) 0 in let T = gave_slot (step n (slot_at i) old 0 none) m in
      exchanged x old 0 (Steps s (slot_at i) id m T)
      (λ hit. let w = with_given v i r in let move : Move v (slot_at i) x 0 w = subst (λ q. Move v (slot_at i) q 0 w)
      (sym (hit ∙ is)) (machine.give i r room open_at) in
      goes s (slot_at i) id m T 0 w reached me move (
        refl,
        λ i' e at at_e. let same : i ≡ i' = omega arith in let same_r : r ≡ e = omega arith in (
          (λ z. subst (λ q. GoesTo (step n (slot_at i) old 0 none) m x 0 (with_given v i r, m.1) (with_given v i' q))
              same_r (told_at (step n (slot_at i) old 0 none) m x 0 (λ j. with_given v j r) i i' same move)),
          λ ne. absurd (ne hit),
        ),
      ))
      (λ miss. misses s id n m i old 0 T reached me room miss
      (λ told. (refl, λ i' e at at_e. ((λ z. absurd (miss z)), λ ne. told i' at))))

  -- the same at a word that is the slot's, or the pin's
  pub reads_at : (n id : ℕ) (m : Sat) (j p : ℕ) → p ≡ pin_at j → 0 < j → j ≤ max_seats
      → Allows (Lawful k) n id m p (λ y. y) (read (step n p 0 0 none) m)
  reads_at n id m j p at some_pin few = subst (λ q. Allows (Lawful k) n id m q (λ y. y) (read (step n q 0 0 none) m))
      (sym at) (reads_as n id m j some_pin few)

  pub looks_at : (n id : ℕ) (m : Sat) (i p : ℕ) → p ≡ slot_at i → i < m.0.sizes.slots
      → Allows (Lawful k) n id m p (λ y. y) (looked_at (step n p 0 0 none) m)
  looks_at n id m i p at room = subst (λ q. Allows (Lawful k) n id m q (λ y. y) (looked_at (step n q 0 0 none) m))
      (sym at) (looks_as n id m i room)

  pub takes_at : (n id : ℕ) (m : Sat) (i new p : ℕ) → p ≡ slot_at i → 0 < m.0.number → i < m.0.sizes.slots
      → new ≡ slot_word (Taken m.0.number) → Allows (Lawful k) n id m p (λ y. either (eqb y 0) new y)
      (took (step n p 0 new none) m)
  takes_at n id m i new p at some_reader room is = subst
      (λ q. Allows (Lawful k) n id m q (λ y. either (eqb y 0) new y) (took (step n q 0 new none) m)) (sym at)
      (takes_as n id m i new some_reader room is)

  pub settles_at : (n id : ℕ) (m : Sat) (i old p : ℕ) → p ≡ slot_at i → In m.0.taken i
      → old ≡ slot_word (Taken m.0.number) → Allows (Lawful k) n id m p (λ y. either (eqb y old) 1 y)
      (made_live (step n p old 1 none) m)
  settles_at n id m i old p at inside is = subst
      (λ q. Allows (Lawful k) n id m q (λ y. either (eqb y old) 1 y) (made_live (step n q old 1 none) m)) (sym at)
      (settles_as n id m i old inside is)

  pub withdraws_at : (n id : ℕ) (m : Sat) (i old p : ℕ) → p ≡ slot_at i → In m.0.taken i
      → old ≡ slot_word (Taken m.0.number) → Allows (Lawful k) n id m p (λ y. either (eqb y old) 0 y)
      (withdrawn (step n p old 0 none) m)
  withdraws_at n id m i old p at inside is = subst
      (λ q. Allows (Lawful k) n id m q (λ y. either (eqb y old) 0 y) (withdrawn (step n q old 0 none) m)) (sym at)
      (withdraws_as n id m i old inside is)

  pub retires_at : (n id : ℕ) (m : Sat) (i r new p : ℕ) → p ≡ slot_at i → i < m.0.sizes.slots → r ≡ m.0.loaded + 1
      → m.0.loaded < m.0.reached → new ≡ slot_word (Retired r)
      → Allows (Lawful k) n id m p (λ y. either (eqb y 1) new y) (retired (step n p 1 new none) m)
  retires_at n id m i r new p at room at_r past is = subst
      (λ q. Allows (Lawful k) n id m q (λ y. either (eqb y 1) new y) (retired (step n q 1 new none) m)) (sym at)
      (retires_as n id m i r new room at_r past is)

  pub gives_at : (n id : ℕ) (m : Sat) (i r old p : ℕ) → p ≡ slot_at i → i < m.0.sizes.slots → IsOpen m.0 r
      → old ≡ slot_word (Retired r) → Allows (Lawful k) n id m p (λ y. either (eqb y old) 0 y)
      (gave_slot (step n p old 0 none) m)
  gives_at n id m i r old p at room open_at is = subst
      (λ q. Allows (Lawful k) n id m q (λ y. either (eqb y old) 0 y) (gave_slot (step n q old 0 none) m)) (sym at)
      (gives_as n id m i r old room open_at is)
