-- What lies in the slots that commits reach is what they look for.
use Rattle.std.proofs.Common.{◌≡◌, ◌≢◌, ◌⊎◌, ℕ, ◌<◌, Bool, true, false, cond, List, [], ◌∷◌, ◌++◌, get_or, set, refl}
use Rattle.std.proofs.Common.{sym, ap, ◌∙◌}
use Rattle.std.proofs.Common.{subst, inl, inr, ⊎_elim, arith, eq-eqb, ne_eqb}
use Rattle.std.specs.Prelude.{Some}
use mathlib.Core.Logic.{dite}
use native.Mathlib.Decide.{ℕ_discrete}
use Rattle.group_history.specs.Refs.{stamp_of}
use Rattle.head_word.specs.declared.entry.Entry.{Entry}
use Rattle.head_word.specs.Books.{next_stamp, last_move, nowhere, drafted, moved}
use Rattle.head_word.proofs.Books.{moved_more}
use Rattle.reader_claims.specs.declared.words.SlotState.TheVariants.{Taken, Retired}
use Rattle.reader_claims.specs.declared.view.Sizes.{Sizes}
use Rattle.reader_claims.specs.declared.view.View.{View}
use Rattle.reader_claims.specs.Words.{slot_at, slot_word}
use Rattle.reader_claims.specs.Lists.{In}
use Rattle.reader_claims.specs.Machine as table
use Rattle.reader_claims.specs.Machine.{Move}
use Rattle.reader_claims.proofs.Slotted.{left_of}
use Rattle.reclamation_law.specs.Events as events
use Rattle.reclamation_law.specs.Joined as machine
use Rattle.reclamation_law.specs.Worlds.{Commit, Among, Try, no_try, under_way, ended, IsTrying}
use Rattle.reclamation_law.specs.Worlds.{slots_of, IsDrawnIn, Work}
use Rattle.reclamation_law.specs.Worlds.{World, Sits}
use Rattle.reclamation_law.specs.Worlds.{head, put}
use Rattle.reclamation_law.specs.Events.{WorldDeed, Event, deed_of}
use Rattle.reclamation_law.specs.Joined.{work_after, with_loaded, try_settled, try_retired, with_head, with_try}
use Rattle.reclamation_law.specs.Joined.{with_drawn, with_won}
use Rattle.reclamation_law.specs.Joined.{with_lost, JoinedSteps}
use Rattle.reclamation_law.specs.Stamps as stamps
use Rattle.reclamation_law.specs.Stamps.{Stock, Happening, at, has, IsFilled, filled_after, wanted_by, wanted_after}
use Rattle.reclamation_law.specs.Stamps.{after_deed}
use Rattle.reclamation_law.specs.Stamps.{after_place, Goes, GoesOn, BeginsStock, StampLaw}
use Rattle.reclamation_law.proofs.Joint.{Does, Sees, IsLive, Joint}
use Rattle.reclamation_law.proofs.Rows.{each, slots_drawn, trying_drawn}
use Rattle.reclamation_law.proofs.Deeds.{commits_from}
use Rattle.reclamation_law.proofs.Opening.{opens_joint, at_rest}
use Rattle.reclamation_law.proofs.Lawful.{step_joint}

at_same : {A : Type 0} (f : ℕ → A) (i : ℕ) (a : A) (j : ℕ) → j ≡ i → at f i a j ≡ a
at_same f i a j e = ap (λ b. cond b a (f j)) (eq-eqb j i e)

at_other : {A : Type 0} (f : ℕ → A) (i : ℕ) (a : A) (j : ℕ) → j ≢ i → at f i a j ≡ f j
at_other f i a j ne = ap (λ b. cond b a (f j)) (ne_eqb j i ne)

has_in : (xs : List ℕ) (z : ℕ) → In xs z → has xs z ≡ true
has_in [] z h = absurd h
has_in (x ∷ xs) z h = dite (ℕ_discrete z x) (λ e. ap (λ b. cond b true (has xs z)) (eq-eqb z x e))
    (λ ne. ap (λ b. cond b true (has xs z)) (ne_eqb z x ne) ∙ ⊎_elim (λ (e : z ≡ x). absurd (ne e))
    (λ (g : In xs z). has_in xs z g) h)

in_has : (xs : List ℕ) (z : ℕ) → has xs z ≡ true → In xs z
in_has [] z h = absurd (cc)
in_has (x ∷ xs) z h = dite (ℕ_discrete z x) (λ e. inl e)
    (λ ne. inr (in_has xs z (sym (ap (λ b. cond b true (has xs z)) (ne_eqb z x ne)) ∙ h)))

-- a test is one or the other
by_test : (b : Bool) (P : Type 0) → (b ≡ true → P) → (b ≡ false → P) → P
by_test true P hit miss = hit refl
by_test false P hit miss = miss refl

still_filled : (s : Stock) (d : WorldDeed) (z : ℕ) → filled_after s d z ≡ true → s.filled z ≡ true
still_filled s (events.takes slot) z h = dite (ℕ_discrete z slot)
    (λ e. let f : false ≡ true = sym (at_same s.filled slot false z e) ∙ h in absurd (cc))
    (λ ne. sym (at_other s.filled slot false z ne) ∙ h)
still_filled s other z h = h

same_wanted : (s : Stock) (id : ℕ) {v : View} {i x y : ℕ} {w : View} (m : Move v i x y w)
    → wanted_after s id (deed_of m) ≡ s.wanted
same_wanted s id (table.load_epoch e) = refl
same_wanted s id (table.store_pin x e some_pin few) = refl
same_wanted s id (table.clear_pin x some_pin few) = refl
same_wanted s id (table.load_pin j x some_pin few) = refl
same_wanted s id (table.raise n some_reader low past) = refl
same_wanted s id (table.raise_lost n x past miss) = refl
same_wanted s id (table.take i some_reader room) = refl
same_wanted s id (table.settle i inside) = refl
same_wanted s id (table.withdraw i inside) = refl
same_wanted s id (table.retire i room past) = refl
same_wanted s id (table.give i r room open_at) = refl
same_wanted s id (table.lost i old x room miss) = refl
same_wanted s id (table.miss i x room ne) = refl

-- a slot that is taken and filled was so before
taken_before : (s : Stock) (z : ℕ) {v : View} {i x y : ℕ} {w : View} (m : Move v i x y w) → In w.taken z
    → filled_after s (deed_of m) z ≡ true → In v.taken z
taken_before s z (table.load_epoch e) h f = h
taken_before s z (table.store_pin x e some_pin few) h f = h
taken_before s z (table.clear_pin x some_pin few) h f = h
taken_before s z (table.load_pin j x some_pin few) h f = h
taken_before s z (table.raise n some_reader low past) h f = h
taken_before s z (table.raise_lost n x past miss) h f = h
taken_before s z (table.take i some_reader room) h f = ⊎_elim
    (λ (e : z ≡ i). let miss : false ≡ true = sym (at_same s.filled i false z e) ∙ f in absurd (cc)) (λ g. g) h
taken_before s z {v = v} (table.settle i inside) h f = (left_of i z v.taken h).1
taken_before s z {v = v} (table.withdraw i inside) h f = (left_of i z v.taken h).1
taken_before s z (table.retire i room past) h f = h
taken_before s z (table.give i r room open_at) h f = h
taken_before s z (table.lost i old x room miss) h f = h
taken_before s z (table.miss i x room ne) h f = h

loaded_before : (t : Try) (z : ℕ) → IsTrying (with_loaded t) → In (slots_of (with_loaded t)) z
    → IsTrying t × In (slots_of t) z
loaded_before no_try z n h = absurd n
loaded_before (under_way settled drawn) z n h = (tt, h)
loaded_before (ended l loaded) z n h = absurd n

retired_before : (t : Try) (i z : ℕ) → IsTrying (try_retired t i) → In (slots_of (try_retired t i)) z
    → IsTrying t × In (slots_of t) z
retired_before no_try i z n h = absurd n
retired_before (under_way settled drawn) i z n h = (tt, h)
retired_before (ended l loaded) i z n h = absurd n

settled_before : (t : Try) (i z : ℕ) → IsTrying (try_settled t i) → In (slots_of (try_settled t i)) z
    → (IsTrying t × In (slots_of t) z) ⊎ (z ≡ i)
settled_before no_try i z n h = absurd n
settled_before (under_way settled drawn) i z n h = ⊎_elim (λ (e : z ≡ i). inr e) (λ (g : In settled z). inl (tt, g)) h
settled_before (ended l loaded) i z n h = absurd n

-- what a try has settled it settled before, or it is filled
tried_before : (s : Stock) (a : Work) (z : ℕ) {v : View} {i x y : ℕ} {w : View} (m : Move v i x y w)
    → IsFilled s (deed_of m)
    → IsTrying (work_after a m).try → In (slots_of (work_after a m).try) z
    → (IsTrying a.try × In (slots_of a.try) z) ⊎ (In v.taken z × (s.filled z ≡ true))
tried_before s a z (table.load_epoch e) f n h = inl (loaded_before a.try z n h)
tried_before s a z (table.store_pin x e some_pin few) f n h = inl (n, h)
tried_before s a z (table.clear_pin x some_pin few) f n h = inl (n, h)
tried_before s a z (table.load_pin j x some_pin few) f n h = inl (n, h)
tried_before s a z (table.raise k some_reader low past) f n h = inl (n, h)
tried_before s a z (table.raise_lost k x past miss) f n h = inl (n, h)
tried_before s a z (table.take i some_reader room) f n h = inl (n, h)
tried_before s a z {v = v} (table.settle i inside) f n h = ⊎_elim
    (λ (g : IsTrying a.try × In (slots_of a.try) z). inl g)
    (λ (e : z ≡ i). inr (subst (In v.taken) (sym e) inside, ap s.filled e ∙ f)) (settled_before a.try i z n h)
tried_before s a z (table.withdraw i inside) f n h = inl (n, h)
tried_before s a z (table.retire i room past) f n h = inl (retired_before a.try i z n h)
tried_before s a z (table.give i r room open_at) f n h = inl (n, h)
tried_before s a z (table.lost i old x room miss) f n h = inl (n, h)
tried_before s a z (table.miss i x room ne) f n h = inl (n, h)

pub record Stamped (k : Sizes) (s : Stock) : Type 0 where
  pub joint : Joint k s.world
  pub head : (z : ℕ) → In s.world.reached z → s.lies z ≡ s.wanted (stamp_of (last_move s.world.log)) z
  pub held : (j z : ℕ) (a : Work) (c : Commit) → Does s.world j a → Among a.commits c → In c.slots z
      → s.lies z ≡ s.wanted (stamp_of c.at) z
  -- what a seat has placed lies there, until it takes the slot anew
  pub full : (j z : ℕ) (v : View) → Sees s.world j v → In v.taken z → s.filled z ≡ true → s.lies z ≡ s.mine j z
  pub tried : (j z : ℕ) (a : Work) → Does s.world j a → IsTrying a.try → In (slots_of a.try) z → s.lies z ≡ s.mine j z

drawn_try : (t : Try) (q : ℕ) → IsDrawnIn t q → IsTrying t
drawn_try no_try q h = absurd h
drawn_try (under_way settled drawn) q h = tt
drawn_try (ended l loaded) q h = absurd h

module _ (k : Sizes) (s : Stock) (o : Stamped k s) where
  table_stamped : (id i y : ℕ) (v w : View) (a : Work) (me : Sits s.world id v a)
      (m : Move v i (get_or s.world.words i 0) y w)
      → IsFilled s (deed_of m)
      → Joint k (record (put s.world id (work_after a m))
      { words = set s.world.words i y; views = set s.world.views id w })
      → Stamped k (after_deed s (record (put s.world id (work_after a m)) {
        words = set s.world.words i y;
        views =
            set s.world.views id w;
      }) id (deed_of m))
  table_stamped id i y v w a me m filled joint = let still : wanted_after s id (deed_of m)
      ≡ s.wanted = same_wanted s id m in record {
        joint = joint;
        head = λ z h. o.head z h ∙ ap (λ f. f (stamp_of (last_move s.world.log)) z) (sym still);
        held = λ j z d c does has inside. each (λ q d'. Among d'.commits c
            → s.lies z ≡ s.wanted (stamp_of c.at) z) s.world.works id (work_after a m)
            (λ h. o.held id z a c me.work (commits_from v a c i (get_or s.world.words i 0) y w m h).0 inside)
            (λ q d' ne at h. o.held q z d' c at h inside) j d does has ∙ ap (λ f. f (stamp_of c.at) z) (sym still);
        full = λ j z u sees inside f. each (λ q u'. In u'.taken z → s.lies z ≡ s.mine q z) s.world.views id w
            (λ h. o.full id z v me.view (taken_before s z m h f) (still_filled s (deed_of m) z f))
            (λ q u' ne at h. o.full q z u' at h (still_filled s (deed_of m) z f)) j u sees inside;
        tried = λ j z d does n inside. each (λ q d'. IsTrying d'.try → In (slots_of d'.try) z
            → s.lies z ≡ s.mine q z) s.world.works id (work_after a m)
            (λ n' h. ⊎_elim (λ (g : IsTrying a.try × In (slots_of a.try) z). o.tried id z a me.work g.0 g.1)
            (λ (g : In v.taken z × (s.filled z ≡ true)). o.full id z v me.view g.0 g.1)
            (tried_before s a z m filled n' h))
            (λ q d' ne at n' h. o.tried q z d' at n' h) j d does n inside;
      }

  -- where only the work of the seat changes, and the book by a draft
  beside : (id : ℕ) (a b : Work) (log : List Entry) → Does s.world id a → last_move log ≡ last_move s.world.log
      → ((c : Commit) → Among b.commits c → Among a.commits c ⊎ (c ≡ head s.world))
      → ((z : ℕ) → IsTrying b.try → In (slots_of b.try) z → IsTrying a.try × In (slots_of a.try) z)
      → Joint k (record (put s.world id b) { log = log })
      → Stamped k (record s { world = record (put s.world id b) { log = log } })
  beside id a b log me still commits slots joint = record {
    joint = joint;
    head = λ z h. o.head z h ∙ ap (λ r. s.wanted (stamp_of r) z) (sym still);
    held = λ j z d c does has inside. each
        (λ q d'. Among d'.commits c → s.lies z ≡ s.wanted (stamp_of c.at) z) s.world.works id b
        (λ h. ⊎_elim (λ (g : Among a.commits c). o.held id z a c me g inside)
        (λ (is : c ≡ head s.world). o.head z (subst (λ (f : Commit). In f.slots z) is inside) ∙ ap
        (λ (f : Commit). s.wanted (stamp_of f.at) z) (sym is)) (commits c h))
        (λ q d' ne at h. o.held q z d' c at h inside) j d does has;
    full = o.full;
    tried = λ j z d does n inside. each (λ q d'. IsTrying d'.try → In (slots_of d'.try) z → s.lies z ≡ s.mine q z)
        s.world.works id b
        (λ n' h. let g = slots z n' h in o.tried id z a me g.0 g.1)
        (λ q d' ne at n' h. o.tried q z d' at n' h) j d does n inside;
  }

  goes_stamped : (e : Event) (t : World) → JoinedSteps s.world e t → IsFilled s e.deed
      → Stamped k (after_deed s t e.seat e.deed)
  goes_stamped e t (machine.at_table id i y v w a me m may) f =
      table_stamped id i y v w a me m f (step_joint k s.world t e o.joint (machine.at_table id i y v w a me m may))
  goes_stamped e t (machine.look id z c v a me has' inside) f = o
  goes_stamped e t (machine.load_drafts id v a me) f = o
  goes_stamped e t (machine.load_head id v a me pin) f = beside id a (with_head s.world a) s.world.log me.work refl
      (λ c h. ⊎_elim (λ (is : c ≡ head s.world). inr is) (λ (g : Among a.commits c). inl g) h)
      (λ z n' h. (n', h)) (step_joint k s.world t e o.joint (machine.load_head id v a me pin))
  goes_stamped e t (machine.begin id v a me pin idle) f = beside id a
      (with_try a) s.world.log me.work refl (λ c h. inl h)
      (λ z n' h. absurd h) (step_joint k s.world t e o.joint (machine.begin id v a me pin idle))
  goes_stamped e t (machine.draw id contents v a me) f = let entry : Entry = drafted (Some id)
      (next_stamp s.world.log) contents in
      let log : List Entry = s.world.log ++ entry ∷ [] in let first : ℕ = next_stamp s.world.log in
      let end : ℕ = next_stamp log in
      beside id a (record a { try = with_drawn a.try first end }) log me.work
      (moved_more nowhere s.world.log (entry ∷ [])) (λ c h. inl h)
      (λ z n' h. (
        trying_drawn a.try first end n',
        slots_drawn a.try first end z h,
      )) (step_joint k s.world t e o.joint (machine.draw id contents v a me))
  goes_stamped e t (machine.publish id old new change v a me may) f =
      let entry : Entry = moved (Some id) new.at change in
      let log : List Entry = s.world.log ++ entry ∷ [] in
      let goes : last_move log ≡ new.at = moved_more nowhere s.world.log (entry ∷ []) in let q : ℕ = stamp_of new.at in
      let b : Work = with_won a old new in
      let here : (z : ℕ) → In new.slots z → s.lies z ≡ wanted_by s id z = λ z h.
      by_test (has s.world.reached z) (s.lies z ≡ wanted_by s id z)
      (λ hit. o.head z (in_has s.world.reached z hit) ∙ ap
      (λ u. cond u (s.wanted (stamp_of (last_move s.world.log)) z) (s.mine id z)) (sym hit))
      (λ miss. ⊎_elim (λ (g : In old.slots z). let hit : has s.world.reached z ≡ true = has_in s.world.reached z (subst
      (λ l. In l z) ((o.joint.known id a old me.work may.loaded).1 (sym may.still)) g) in absurd (cc))
      (λ (g : In (slots_of a.try) z). o.tried id z a me.work (drawn_try a.try q may.drawn) g ∙ ap
      (λ u. cond u (s.wanted (stamp_of (last_move s.world.log)) z) (s.mine id z)) (sym miss)) (may.made z h)) in
      record {
        joint = step_joint k s.world t e o.joint (machine.publish id old new change v a me may);
        head = λ z h. here z h ∙ ap (λ g. g z)
            (sym (at_same s.wanted q (wanted_by s id) (stamp_of (last_move log)) (ap stamp_of goes)));
        held = λ j z d c does has inside. each (λ j' d'. Among d'.commits c
            → s.lies z ≡ at s.wanted q (wanted_by s id) (stamp_of c.at) z) s.world.works id b
            (λ h. o.held id z a c me.work h inside ∙ ap
            (λ g. g z)
            (sym (at_other s.wanted q (wanted_by s id) (stamp_of c.at)
            (o.joint.unnamed id id q a a c me.work may.drawn me.work h))))
            (λ j' d' ne at' h. o.held j' z d' c at' h inside ∙ ap
            (λ g. g z)
            (sym (at_other s.wanted q (wanted_by s id) (stamp_of c.at)
            (o.joint.unnamed id j' q a d' c me.work may.drawn at' h))))
            j d does has;
        full = o.full;
        tried = λ j z d does n inside. each (λ j' d'. IsTrying d'.try → In (slots_of d'.try) z
            → s.lies z ≡ s.mine j' z) s.world.works id b (λ n' h. absurd n')
            (λ j' d' ne at' n' h. o.tried j' z d' at' n' h) j d does n inside;
      }
  goes_stamped e t (machine.lose id old v a me now has' ne) f = beside id a
      (with_lost a) s.world.log me.work refl (λ c h. inl h)
      (λ z n' h. absurd n') (step_joint k s.world t e o.joint (machine.lose id old v a me now has' ne))
  goes_stamped e t (machine.give_up id v a me now) f = beside id a (with_lost a) s.world.log me.work refl (λ c h. inl h)
      (λ z n' h. absurd n') (step_joint k s.world t e o.joint (machine.give_up id v a me now))

  -- what is placed is in a slot that is taken, so no commit and no try has it
  place_stamped : (id z q : ℕ) (v : View) → Sees s.world id v → In v.taken z → Stamped k (after_place s id z q)
  place_stamped id z q v me inside = let taken = (o.joint.sound.slots.taken id z v me inside).1 in
      let other : (y : ℕ) → IsLive s.world y
      → y ≢ z = λ y live e. let t : get_or s.world.words (slot_at y) 0 ≡ slot_word (Taken id) = ap
      (λ p. get_or s.world.words (slot_at p) 0) e ∙ taken in omega arith in record {
        joint = o.joint;
        head = λ y h. at_other s.lies z q y (other y (o.joint.head y h).1) ∙ o.head y h;
        held = λ j y a c does has inside'. let g = o.joint.held j a c does has in at_other s.lies z q y
            (λ e. let t : get_or s.world.words (slot_at y) 0 ≡ slot_word (Taken id) =
            ap (λ p. get_or s.world.words (slot_at p) 0) e ∙ taken in
            ⊎_elim (λ (live : IsLive s.world y). omega arith)
            (λ (r : (r : ℕ) × (g.epoch < r) × (get_or s.world.words (slot_at y) 0 ≡ slot_word (Retired r))).
            let gone = r.2 in
            omega arith) (g.safe y inside').1) ∙ o.held j y a c does has inside';
        full = λ j y u sees inside' f. dite (ℕ_discrete y z)
            (λ e. let there = (o.joint.sound.slots.taken j y u sees inside').1 in
            let t : get_or s.world.words (slot_at y) 0
            ≡ slot_word (Taken id) = ap (λ p. get_or s.world.words (slot_at p) 0) e ∙ taken in
            let one : j ≡ id = omega arith in
            at_same s.lies z q y e ∙ sym (ap (λ g. g y) (at_same s.mine id (at (s.mine id) z q) j one) ∙ at_same
            (s.mine id) z q y e))
            (λ ne. at_other s.lies z q y ne ∙ o.full j y u sees inside'
            (sym (at_other s.filled z true y ne) ∙ f) ∙ kept j y ne);
        tried = λ j y a does n inside'. let ne : y ≢ z = other y (o.joint.slots j a y does inside').1 in
            at_other s.lies z q y ne ∙ o.tried j y a does n inside' ∙ kept j y ne;
      } where
        kept : (j y : ℕ) → y ≢ z → s.mine j y ≡ at s.mine id (at (s.mine id) z q) j y
        kept j y ne = dite (ℕ_discrete j id) (λ e. sym (ap (λ g. g y) (at_same s.mine id (at (s.mine id) z q) j e)
            ∙ at_other (s.mine id) z q y ne ∙ ap (λ p. s.mine p y) (sym e)))
            (λ apart. ap (λ g. g y) (sym (at_other s.mine id (at (s.mine id) z q) j apart)))

stamped_on : (k : Sizes) (s t : Stock) (h : Happening) → Stamped k s → Goes s h t → Stamped k t
stamped_on k s t h o (stamps.happen e u step f) = goes_stamped k s o e u step f
stamped_on k s t h o (stamps.place id z q v me inside) = place_stamped k s o id z q v me inside

all_stamped : (k : Sizes) (s t : Stock) (hs : List Happening) → Stamped k s → GoesOn s hs t → Stamped k t
all_stamped k s t [] o r = subst (Stamped k) r o
all_stamped k s t (h ∷ hs) o r = all_stamped k r.0 t hs (stamped_on k s r.0 h o r.1) r.2

begins_stamped : (k : Sizes) (s : Stock) → BeginsStock k s → Stamped k s
begins_stamped k s b = let joint = opens_joint k s.world b.opens in record {
  joint = joint;
  head = b.right;
  held = λ j z a c does has inside. absurd
      (at_rest k s.world b.opens (λ d. Among d.commits c → ⊥) (λ n. n) j a does has);
  full = λ j z v sees inside f. absurd (subst (λ l. In l z) (b.opens.views j v sees).taken inside);
  tried = λ j z a does n inside. absurd (at_rest k s.world b.opens (λ d. IsTrying d.try → ⊥) (λ h. h) j a does n);
}

pub stamp_law : StampLaw
stamp_law k s t hs j z c begins goes has inside =
    (all_stamped k s t hs (begins_stamped k s begins) goes).held j z has.0 c has.1 has.2 inside
