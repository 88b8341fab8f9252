-- Each kind of step on a slot keeps the rule.
use Rattle.std.proofs.Common.{◌≡◌, ℕ, ◌+◌, ◌*◌, ◌^◌, ◌<◌, ◌≤◌, ◌≢◌, ◌⊎◌, cond, List, [], ◌∷◌, get_or, set, sym, refl}
use Rattle.std.proofs.Common.{ap, ◌∙◌, subst, inl, inr, ⊎_elim, arith, length-set, get_or-set_other, get_or-set_same}
use Rattle.std.proofs.Common.{eq-eqb, ne_eqb}
use mathlib.Core.Logic.{dite}
use mathlib.Core.Option.{some, some-injective}
use native.Mathlib.Decide.{ℕ_discrete}
use lib.ListN.{get_elem?}
use Rattle.atomic_table.proofs.Lists.{at_set, set_here, set_else}
use Rattle.reader_claims.specs.declared.words.SlotState.TheVariants.{Taken, Retired}
use Rattle.reader_claims.specs.declared.words.Pin.TheVariants.{Held}
use Rattle.reader_claims.specs.declared.view.Sizes.{Sizes}
use Rattle.reader_claims.specs.declared.view.View.{View}
use Rattle.reader_claims.specs.Words.{pin_at, slot_at, pin_word, slot_word}
use Rattle.reader_claims.specs.Lists.{In, Noted, without}
use Rattle.reader_claims.specs.Deeds.{Deed}
use Rattle.reader_claims.specs.Notes.{Note}
use Rattle.reader_claims.specs.Views.{NoneBelow}
use Rattle.reader_claims.proofs.Sound.{Sound}
use Rattle.reader_claims.proofs.Keeps.{St, board, below, unturned}

-- what is left of a list without x
pub left_of : (x z : ℕ) (ys : List ℕ) → In (without x ys) z → (z ≢ x) × In ys z
left_of x z [] h = absurd h
left_of x z (y ∷ ys) h = dite (ℕ_discrete x y)
    (λ e. let t = left_of x z ys (subst (λ b. In (cond b (without x ys) (y ∷ without x ys)) z) (eq-eqb x y e) h)
    in (t.0, inr t.1))
    (λ ne. let g : In (y ∷ without x ys) z = subst (λ b. In (cond b (without x ys) (y ∷ without x ys)) z)
    (ne_eqb x y ne) h in
    ⊎_elim (λ (q : z ≡ y). ((λ r. ne (sym r ∙ q)), inl q)) (λ g'. let t = left_of x z ys g' in (t.0, inr t.1)) g)

still_in : (x z : ℕ) (ys : List ℕ) → z ≢ x → In ys z → In (without x ys) z
still_in x z [] n h = absurd h
still_in x z (y ∷ ys) n h = dite (ℕ_discrete x y)
    (λ e. subst (λ b. In (cond b (without x ys) (y ∷ without x ys)) z) (sym (eq-eqb x y e))
    (⊎_elim (λ (q : z ≡ y). absurd (n (q ∙ sym e))) (λ g. still_in x z ys n g) h))
    (λ ne. subst (λ b. In (cond b (without x ys) (y ∷ without x ys)) z) (sym (ne_eqb x y ne))
    (⊎_elim (λ (q : z ≡ y). inl q) (λ g. inr (still_in x z ys n g)) h))

-- the view after a step on a slot
abbrev pub after : View → List ℕ → List ℕ → List Note → ℕ → List (ℕ × ℕ) → List ℕ → List Deed → View
after v t d f g h b a = record v {
  taken = t;
  settled = d;
  notes = f;
  floor = g;
  retired = h;
  withdrawn = b;
  deeds = a;
}

module _ (k : Sizes) where
  -- What a step on the slot i, to the word x, by the seat id, has to show
  pub record Moves (s : St) (id : ℕ) (v : View) (i x : ℕ) (t : List ℕ) (g : ℕ) : Type 0 where
    pub room : i < k.slots
    -- no other seat has it
    pub owner : (j : ℕ) → get_or s.words (slot_at i) 0 ≡ slot_word (Taken j) → j ≡ id
    pub mine : (z : ℕ) → In t z → ((z ≡ i) × (x ≡ slot_word (Taken id))) ⊎ ((z ≢ i) × In v.taken z)
    pub rest : (z : ℕ) → z ≢ i → In v.taken z → In t z
    pub new : (j : ℕ) → x ≡ slot_word (Taken j) → (j ≡ id) × In t i
    pub fits : (r : ℕ) → x ≡ slot_word (Retired r) → r ≤ get_or s.words 0 0
    pub low : g ≤ get_or s.words 0 0
    pub floor : (j : ℕ) (u : View) (e : ℕ) → get_elem? s.views j ≡ some u → u.pin ≡ Held e → g ≤ e

  pub moved : (s : St) (o : Sound k s) (id : ℕ) (v : View) (i x : ℕ) (t d : List ℕ) (f : List Note) (g : ℕ)
      (h : List (ℕ × ℕ)) (b : List ℕ) (a : List Deed) → get_elem? s.views id ≡ some v → Moves s id v i x t g
      → Sound k (board s (set s.words (slot_at i) x) (set s.views id (after v t d f g h b a)))
  moved s o id v i x t d f g h back deeds me m = let w = after v t d f g h back deeds in
      let ws : List ℕ = set s.words (slot_at i) x in let long = o.pins.wide in let near = m.room in
      let other : (j : ℕ) → j ≢ slot_at i → get_or ws j 0
      ≡ get_or s.words j 0 = λ j ne. get_or-set_other s.words (slot_at i) j x 0 ne in
      let here : get_or ws (slot_at i) 0 ≡ x = get_or-set_same s.words (slot_at i) x 0 (omega arith) in
      let epoch : get_or ws 0 0 ≡ get_or s.words 0 0 = other 0 (λ e. omega arith) in
      let else_at : (z : ℕ) → z ≢ i → get_or ws (slot_at z) 0
      ≡ get_or s.words (slot_at z) 0 = λ z ne. other (slot_at z) (λ e. ne (omega arith)) in
      let p = o.pins in let q = o.slots in
      -- a pin that some seat holds after the step was held before it
      let same_pin : (j : ℕ) (u : View) (e : ℕ) → get_elem? (set s.views id w) j ≡ some u → u.pin ≡ Held e
      → (u' : View) × (get_elem? s.views j ≡ some u') × (u'.pin ≡ Held e)
      = λ j u e a k'. ⊎_elim (λ (y : (j ≡ id) × (w ≡ u)).
      (v, ap (get_elem? s.views) y.0 ∙ me, ap (λ (z : View). z.pin) y.1 ∙ k'))
      (λ (y : (j ≢ id) × (get_elem? s.views j ≡ some u)). (u, y.1, k')) (at_set s.views id j w u a) in
      record {
        pins = record {
          wide = length-set s.words (slot_at i) x ∙ p.wide;
          sized = p.sized;
          few = subst (λ n. n ≤ k.readers + 1) (sym (length-set s.views id w)) p.few;
          of = λ j u a. ⊎_elim (λ (y : (j ≡ id) × (w ≡ u)). ap (λ (z : View). z.sizes) (sym y.1) ∙ p.of id v me)
              (λ y. p.of j u y.1) (at_set s.views id j w u a);
          numbered = λ j u a. ⊎_elim (λ (y : (j ≡ id) × (w ≡ u)). ap (λ (z : View). z.number)
              (sym y.1) ∙ p.numbered id v me ∙ sym y.0) (λ y. p.numbered j u y.1) (at_set s.views id j w u a);
          dealing = λ u a. ⊎_elim (λ (y : (0 ≡ id) × (w ≡ u)). ap (λ (z : View). z.next) (sym y.1) ∙ p.dealing v
              (ap (get_elem? s.views) y.0 ∙ me) ∙ sym (length-set s.views id w))
              (λ y. p.dealing u y.1 ∙ sym (length-set s.views id w)) (at_set s.views id 0 w u a);
          pinless = λ u a. ⊎_elim (λ (y : (0 ≡ id) × (w ≡ u)). ap (λ (z : View). z.pin) (sym y.1) ∙ p.pinless v
              (ap (get_elem? s.views) y.0 ∙ me)) (λ y. p.pinless u y.1) (at_set s.views id 0 w u a);
          undealt = λ j far slot. other (pin_at j) (λ e. omega arith) ∙ p.undealt j
              (subst (λ n. n ≤ j) (length-set s.views id w) far) slot;
          low = subst (λ n. n ≤ 2 ^ 60) (sym epoch) p.low;
          pinned = λ j u a some_pin. let few = p.few in let sized = p.sized in ⊎_elim
              (λ (y : (j ≡ id) × (w ≡ u)). let b = below s.views id v me in
              other (pin_at j) (λ e. let same = y.0 in omega arith) ∙ p.pinned j v
              (ap (get_elem? s.views) y.0 ∙ me) some_pin ∙ ap (λ (z : View). pin_word z.pin) y.1)
              (λ (y : (j ≢ id) × (get_elem? s.views j ≡ some u)). let b = below s.views j u y.1 in
              other (pin_at j) (λ e. omega arith) ∙ p.pinned j u y.1 some_pin) (at_set s.views id j w u a);
          behind = λ j u a. subst (λ n. (u.loaded ≤ u.reached) × (u.reached ≤ n)) (sym epoch)
              (⊎_elim (λ (y : (j ≡ id) × (w ≡ u)). subst
              (λ (z : View). (z.loaded ≤ z.reached) × (z.reached ≤ get_or s.words 0 0)) y.1 (p.behind id v me))
              (λ y. p.behind j u y.1) (at_set s.views id j w u a));
          held = λ j u e a h. let y = same_pin j u e a h in subst (λ n. e ≤ n) (sym epoch) (p.held j y.0 e y.1 y.2);
          learnt = λ j j' u u' y e a a' noted h. let z = same_pin j' u' e a' h in ⊎_elim
              (λ (c : (j ≡ id) × (w ≡ u)). subst (λ (b : View). (y ≡ e + 1) ⊎ (b.reached ≤ e)) c.1
              (p.learnt id j' v z.0 y e me z.1 (subst (λ (b : View). Noted b.read j' y) (sym c.1) noted) z.2))
              (λ (c : (j ≢ id) × (get_elem? s.views j ≡ some u)). p.learnt j j' u z.0 y e c.1 z.1 noted z.2)
              (at_set s.views id j w u a);
        };
        slots = record {
          taken = λ j z u a inside. ⊎_elim
              (λ (y : (j ≡ id) × (w ≡ u)). ⊎_elim
              (λ (c : (z ≡ i) × (x ≡ slot_word (Taken id))). (
                subst (λ n. n < k.slots) (sym c.0) near,
                ap (λ q. get_or ws (slot_at q) 0) c.0 ∙ here ∙ c.1 ∙ ap (λ n. slot_word (Taken n)) (sym y.0),
              ))
              (λ (c : (z ≢ i) × In v.taken z). let b = q.taken id z v me c.1 in
              (b.0, else_at z c.0 ∙ b.1 ∙ ap (λ n. slot_word (Taken n)) (sym y.0)))
              (m.mine z (subst (λ (b : View). In b.taken z) (sym y.1) inside)))
              (λ (y : (j ≢ id) × (get_elem? s.views j ≡ some u)). let b = q.taken j z u y.1 inside in
              (b.0, else_at z (λ e. y.0 (m.owner j (ap (λ q. get_or s.words (slot_at q) 0) (sym e) ∙ b.1))) ∙ b.1))
              (at_set s.views id j w u a);
          taker = λ z j lt is. dite (ℕ_discrete z i)
              (λ e. let c = m.new j (sym here ∙ ap (λ q. get_or ws (slot_at q) 0) (sym e) ∙ is) in (
                w,
                ap (get_elem? (set s.views id w)) c.0 ∙ set_here s.views id w (below s.views id v me),
                subst (In t) (sym e) c.1,
              ))
              (λ ne. let b = q.taker z j lt (sym (else_at z ne) ∙ is) in dite (ℕ_discrete j id)
              (λ e. let same : b.0 ≡ v = some-injective b.0 v (sym b.1 ∙ ap (get_elem? s.views) e ∙ me) in (
                w,
                ap (get_elem? (set s.views id w)) e ∙ set_here s.views id w (below s.views id v me),
                m.rest z ne (subst (λ (y : View). In y.taken z) same b.2),
              ))
              (λ apart. (b.0, set_else s.views id j w apart ∙ b.1, b.2)));
          retired = λ z r lt is. subst (λ n. r ≤ n) (sym epoch)
              (dite (ℕ_discrete z i) (λ e. m.fits r (sym here ∙ ap (λ q. get_or ws (slot_at q) 0) (sym e) ∙ is))
              (λ ne. q.retired z r lt (sym (else_at z ne) ∙ is)));
          floor = λ j u a. subst (λ n. u.floor ≤ n) (sym epoch)
              (⊎_elim (λ (y : (j ≡ id) × (w ≡ u)). subst (λ (z : View). z.floor ≤ get_or s.words 0 0) y.1 m.low)
              (λ y. q.floor j u y.1) (at_set s.views id j w u a));
          floors = λ j j' u u' e a a' h. let z = same_pin j' u' e a' h in
              ⊎_elim (λ (y : (j ≡ id) × (w ≡ u)). subst (λ (b : View). b.floor ≤ e) y.1 (m.floor j' z.0 e z.1 z.2))
              (λ y. q.floors j j' u z.0 e y.1 z.1 z.2) (at_set s.views id j w u a);
        };
      }

  -- a lost step on a slot, which may be noted
  pub unmoved : (s : St) (o : Sound k s) (i id : ℕ) (v : View) (f : List Note) (a : List Deed)
      → get_elem? s.views id ≡ some v
      → Sound k (board s (set s.words i (get_or s.words i 0))
      (set s.views id (after v v.taken v.settled f v.floor v.retired v.withdrawn a)))
  unmoved s o i id v f a me = unturned k s o i id v
      (after v v.taken v.settled f v.floor v.retired v.withdrawn a) me record {
        sizes = refl;
        number = refl;
        next = refl;
        long = refl;
        rises = omega arith;
        low = o.pins.low;
        others = λ j z other slot. refl;
        mine = λ z. o.pins.pinned id v me z;
        behind = o.pins.behind id v me;
        fresh = λ e h. inl h;
        learnt = λ j u y e other at noted h. o.pins.learnt id j v u y e me at noted h;
        own = λ y e noted h. o.pins.learnt id id v v y e me me noted h;
        first = λ z h. h;
        slots = λ j near. refl;
        taken = refl;
        floor = refl;
      }

  -- a slot that is not Taken is in no view
  pub not_taken : (s : St) (o : Sound k s) (id : ℕ) (v : View) (i z : ℕ) → get_elem? s.views id ≡ some v
      → ((j : ℕ) → get_or s.words (slot_at i) 0 ≢ slot_word (Taken j)) → In v.taken z → (z ≢ i) × In v.taken z
  not_taken s o id v i z me free h = (
    (λ e. free id
        (ap (λ q. get_or s.words (slot_at q) 0) (sym e) ∙ (o.slots.taken id z v me h).1)),
    h,
  )

  -- a taken slot becomes x, which is Live or Free
  pub ends_at : (s : St) (o : Sound k s) (id : ℕ) (v : View) (i x : ℕ) (d b : List ℕ) (a : List Deed)
      → get_elem? s.views id ≡ some v → In v.taken i → x < 2 → Sound k (board s (set s.words (slot_at i) x)
      (set s.views id (after v (without i v.taken) d v.notes v.floor v.retired b a)))
  ends_at s o id v i x d b a me inside small = let was = o.slots.taken id i v me inside in
      let there : get_or s.words (slot_at i) 0 ≡ 2 * id + 2 = was.1 in
      moved s o id v i x (without i v.taken) d v.notes v.floor v.retired b a me record {
        room = was.0;
        owner = λ j e. omega arith;
        mine = λ z h. inr (left_of i z v.taken h);
        rest = λ z ne h. still_in i z v.taken ne h;
        new = λ j e. absurd (omega arith);
        fits = λ e q. absurd (omega arith);
        low = o.slots.floor id v me;
        floor = λ j u e a h. o.slots.floors id j v u e me a h;
      }

  -- no pin is held below a number at which the pins are quiet
  pub quiet_holds : (s : St) (o : Sound k s) (id : ℕ) (v : View) (r : ℕ) → get_elem? s.views id ≡ some v → r ≤ v.reached
      → NoneBelow v r → (j : ℕ) (u : View) (e : ℕ) → get_elem? s.views j ≡ some u → u.pin ≡ Held e → r ≤ e
  quiet_holds s o id v r me past quiet j u e at h = dite (ℕ_discrete j 0)
      (λ first. let q = o.pins.pinless u (subst (λ i. get_elem? s.views i ≡ some u) first at) in absurd (cc))
      (λ later. let b = below s.views j u at in let few = o.pins.few in
      let size : v.sizes.readers ≡ k.readers = ap (λ z. z.readers) (o.pins.of id v me) in
      let t = quiet j (omega arith) (omega arith) in
      ⊎_elim (λ (is : t.0 ≡ e + 1). ⊎_elim (λ (none : t.0 ≡ 0). absurd (omega arith))
      (λ (above : r < t.0). omega arith) t.2) (λ (up : v.reached ≤ e). omega arith)
      (o.pins.learnt id j v u t.0 e me at t.1 h))
