-- Each kind of step keeps the rule.
use Rattle.std.proofs.Common.{◌≡◌, ℕ, zero, suc, ◌+◌, ◌^◌, ◌<◌, ◌≤◌, ◌≢◌, ◌⊎◌, cond, eqb, Bool, true, false, List, []}
use Rattle.std.proofs.Common.{◌∷◌, ◌++◌, length, get_or, set, sym, refl, ap, ◌∙◌, subst, inl, inr, ⊎_elim, arith}
use Rattle.std.proofs.Common.{length-set, length-append, get_or-set_other, get_or-set_same, eq-eqb, ne_eqb}
use mathlib.Core.Logic.{dite}
use mathlib.Core.Option.{some, some-injective, some-ne-none}
use native.Mathlib.Decide.{ℕ_discrete}
use lib.ListN.{get_elem?}
use lib.Seq.{set-get_or}
use Rattle.atomic_table.specs.Table.{State, Splits}
use Rattle.atomic_table.proofs.Lists.{at_set, set_here, set_else, at_longer}
use Rattle.reader_claims.specs.declared.words.SlotState.TheVariants.{Taken}
use Rattle.group_history.specs.Refs.{max_seats}
use Rattle.reader_claims.specs.Words.{pin_at, slot_at, pin_word, slot_word}
use Rattle.reader_claims.specs.Lists.{In, Noted}
use Rattle.reader_claims.specs.Views.{reader, dealer, promoted, with_pin}
use Rattle.reader_claims.specs.Inside.Plays.{dealt_left, dealt_right}
use Rattle.reader_claims.proofs.Sound.{Pins, Slots, Sound}
use Rattle.reader_claims.specs.declared.words.Pin.{Pin}
use Rattle.reader_claims.specs.declared.words.Pin.TheVariants.{Absent, Stored, Held}
use Rattle.reader_claims.specs.declared.view.Sizes.{Sizes}
use Rattle.reader_claims.specs.declared.view.View.{View}

abbrev pub St : Type 0
St = State (Unit {0}) View

abbrev pub board : St → List ℕ → List View → St
board s ws vs = record { words = ws; homes = s.homes; views = vs }

pub below : {A : Type 0} (l : List A) (i : ℕ) (a : A) → get_elem? l i ≡ some a → i < length l
below [] i a e = absurd (some-ne-none a (sym e))
below (x ∷ xs) zero a e = omega arith
below (x ∷ xs) (suc i) a e = let h = below xs i a e in omega arith

pub at_end : {A : Type 0} (l : List A) (a b : A) (j : ℕ) → get_elem? (l ++ a ∷ []) j ≡ some b
    → (get_elem? l j ≡ some b) ⊎ ((j ≡ length l) × (a ≡ b))
at_end [] a b zero e = inr (refl, some-injective a b e)
at_end [] a b (suc j) e = absurd (some-ne-none b (sym e))
at_end (x ∷ xs) a b zero e = inl e
at_end (x ∷ xs) a b (suc j) e = ⊎_elim inl (λ t. inr (ap suc t.0, t.1)) (at_end xs a b j e)

-- What a step of the seat id from the view v to w, which leaves the words ws, has to show
pub record Turns (k : Sizes) (s : St) (id : ℕ) (v w : View) (ws : List ℕ) : Type 0 where
  pub sizes : w.sizes ≡ v.sizes
  pub number : w.number ≡ v.number
  pub next : w.next ≡ v.next
  pub long : length ws ≡ length s.words
  pub rises : get_or s.words 0 0 ≤ get_or ws 0 0
  pub low : get_or ws 0 0 ≤ 2 ^ 60
  pub others : (j : ℕ) → 0 < j → j ≢ id → j ≤ max_seats → get_or ws (pin_at j) 0 ≡ get_or s.words (pin_at j) 0
  pub mine : 0 < id → get_or ws (pin_at id) 0 ≡ pin_word w.pin
  pub behind : (w.loaded ≤ w.reached) × (w.reached ≤ get_or ws 0 0)
  pub fresh : (e : ℕ) → w.pin ≡ Held e → (v.pin ≡ Held e) ⊎ (get_or s.words 0 0 ≡ e)
  pub learnt : (i : ℕ) (u : View) (x e : ℕ) → i ≢ id → get_elem? s.views i ≡ some u → Noted w.read i x → u.pin ≡ Held e
      → (x ≡ e + 1) ⊎ (w.reached ≤ e)
  pub own : (x e : ℕ) → Noted w.read id x → w.pin ≡ Held e → (x ≡ e + 1) ⊎ (w.reached ≤ e)
  pub first : id ≡ 0 → v.pin ≡ Absent → w.pin ≡ Absent
  pub slots : (i : ℕ) → i < k.slots → get_or ws (slot_at i) 0 ≡ get_or s.words (slot_at i) 0
  pub taken : w.taken ≡ v.taken
  pub floor : w.floor ≡ v.floor

module _ (k : Sizes) where
  pub pins_stay : (s : St) (o : Pins k s) (id : ℕ) (v w : View) (ws : List ℕ) → get_elem? s.views id ≡ some v
      → Turns k s id v w ws → Pins k (board s ws (set s.views id w))
  pins_stay s o id v w ws me t =
      let near = below s.views id v me in let same = length-set s.views id w in let few = o.few in
      let sized = o.sized in let rises = t.rises in
      let was : (e : ℕ) → v.pin ≡ Held e → e ≤ get_or s.words 0 0 = λ e h. o.held id v e me h in
      record {
        wide = t.long ∙ o.wide;
        sized = o.sized;
        few = omega arith;
        of = λ j u e. ⊎_elim (λ (x : (j ≡ id) × (w ≡ u)). ap (λ (y : View). y.sizes) (sym x.1) ∙ t.sizes ∙ o.of id v me)
            (λ x. o.of j u x.1) (at_set s.views id j w u e);
        numbered = λ j u e. ⊎_elim (λ (x : (j ≡ id) × (w ≡ u)). ap (λ (y : View). y.number)
            (sym x.1) ∙ t.number ∙ o.numbered id v me ∙ sym x.0) (λ x. o.numbered j u x.1) (at_set s.views id j w u e);
        dealing = λ u e. ⊎_elim (λ (x : (0 ≡ id) × (w ≡ u)). ap (λ (y : View). y.next) (sym x.1) ∙ t.next ∙ o.dealing v
            (subst (λ i. get_elem? s.views i ≡ some v) (sym x.0) me) ∙ sym same)
            (λ x. o.dealing u x.1 ∙ sym same) (at_set s.views id 0 w u e);
        pinless = λ u e. ⊎_elim (λ (x : (0 ≡ id) × (w ≡ u)). ap (λ (y : View). y.pin) (sym x.1) ∙ t.first (sym x.0)
            (o.pinless v (ap (get_elem? s.views) x.0 ∙ me))) (λ x. o.pinless u x.1) (at_set s.views id 0 w u e);
        undealt = λ j far slot. t.others j (omega arith) (λ e. omega arith) slot ∙ o.undealt j (omega arith) slot;
        low = t.low;
        pinned = λ j u e some_pin. ⊎_elim (λ (x : (j ≡ id) × (w ≡ u)). ap (λ i. get_or ws (pin_at i) 0) x.0 ∙ t.mine
            (omega arith) ∙ ap (λ (y : View). pin_word y.pin) x.1)
            (λ (x : (j ≢ id) × (get_elem? s.views j ≡ some u)). let h = below s.views j u x.1 in
            t.others j some_pin x.0 (omega arith) ∙ o.pinned j u x.1 some_pin) (at_set s.views id j w u e);
        behind = λ j u e. ⊎_elim (λ (x : (j ≡ id) × (w ≡ u)). subst
            (λ (y : View). (y.loaded ≤ y.reached) × (y.reached ≤ get_or ws 0 0)) x.1 t.behind)
            (λ (x : (j ≢ id) × (get_elem? s.views j ≡ some u)). let b = o.behind j u x.1 in (b.0, omega arith))
            (at_set s.views id j w u e);
        held = λ j u n e h. ⊎_elim (λ (x : (j ≡ id) × (w ≡ u)). ⊎_elim (λ old. let b = was n old in omega arith)
            (λ (new : get_or s.words 0 0 ≡ n). omega arith) (t.fresh n (ap (λ (y : View). y.pin) x.1 ∙ h)))
            (λ (x : (j ≢ id) × (get_elem? s.views j ≡ some u)). let b = o.held j u n x.1 h in omega arith)
            (at_set s.views id j w u e);
        learnt = λ j i u u' x n e e' noted h. ⊎_elim
            (λ (y : (j ≡ id) × (w ≡ u)). subst (λ (z : View). Noted z.read i x → (x ≡ n + 1) ⊎ (z.reached ≤ n))
            y.1 (λ mine. ⊎_elim
            (λ (y' : (i ≡ id) × (w ≡ u')). t.own x n (subst (λ q. Noted w.read q x) y'.0 mine)
            (ap (λ (z : View). z.pin) y'.1 ∙ h))
            (λ (y' : (i ≢ id) × (get_elem? s.views i ≡ some u')). t.learnt i u' x n y'.0 y'.1 mine h)
            (at_set s.views id i w u' e')) noted)
            (λ (y : (j ≢ id) × (get_elem? s.views j ≡ some u)). ⊎_elim
            (λ (y' : (i ≡ id) × (w ≡ u')). ⊎_elim
            (λ old. o.learnt j id u v x n y.1 me (subst (λ q. Noted u.read q x) y'.0 noted) old)
            (λ (new : get_or s.words 0 0 ≡ n). let b = o.behind j u y.1 in inr (omega arith))
            (t.fresh n (ap (λ (z : View). z.pin) y'.1 ∙ h)))
            (λ (y' : (i ≢ id) × (get_elem? s.views i ≡ some u')). o.learnt j i u u' x n y.1 y'.1 noted h)
            (at_set s.views id i w u' e')) (at_set s.views id j w u e);
      }

  slots_stay : (s : St) (o : Slots k s) (id : ℕ) (v w : View) (ws : List ℕ) → get_elem? s.views id ≡ some v
      → Turns k s id v w ws → Slots k (board s ws (set s.views id w))
  slots_stay s o id v w ws me t = let rises = t.rises in let same = t.floor in let low = o.floor id v me in record {
    taken = λ j i u e inside. ⊎_elim
        (λ (x : (j ≡ id) × (w ≡ u)). let y = o.taken id i v me
        (subst (λ l. In l i) (ap (λ (z : View). z.taken) (sym x.1) ∙ t.taken) inside) in
        (y.0, t.slots i y.0 ∙ y.1 ∙ ap (λ n. slot_word (Taken n)) (sym x.0)))
        (λ (x : (j ≢ id) × (get_elem? s.views j ≡ some u)). let y = o.taken j i u x.1 inside in
        (y.0, t.slots i y.0 ∙ y.1)) (at_set s.views id j w u e);
    taker = λ i j near is. let y = o.taker i j near (sym (t.slots i near) ∙ is) in dite (ℕ_discrete j id)
        (λ e. let q : y.0 ≡ v = some-injective y.0 v (sym y.1 ∙ ap (get_elem? s.views) e ∙ me) in (
          w,
          ap (get_elem? (set s.views id w)) e ∙ set_here s.views id w (below s.views id v me),
          subst (λ l. In l i) (ap (λ (z : View). z.taken) q ∙ sym t.taken) y.2,
        ))
        (λ ne. (y.0, set_else s.views id j w ne ∙ y.1, y.2));
    retired = λ i r near is. let y = o.retired i r near (sym (t.slots i near) ∙ is) in omega arith;
    floor = λ j u e. ⊎_elim (λ (x : (j ≡ id) × (w ≡ u)). subst (λ (z : View). z.floor ≤ get_or ws 0 0) x.1
        (omega arith)) (λ (x : (j ≢ id) × (get_elem? s.views j ≡ some u)). let y = o.floor j u x.1 in omega arith)
        (at_set s.views id j w u e);
    floors = λ j i u u' n e e' h.
        let old : (q : ℕ) (z : View) → get_elem? s.views q ≡ some z → z.floor ≤ n = λ q z f. ⊎_elim
        (λ (y' : (i ≡ id) × (w ≡ u')). ⊎_elim (λ was. o.floors q id z v n f me was)
        (λ (new : get_or s.words 0 0 ≡ n). let b = o.floor q z f in omega arith)
        (t.fresh n (ap (λ (y : View). y.pin) y'.1 ∙ h)))
        (λ (y' : (i ≢ id) × (get_elem? s.views i ≡ some u')). o.floors q i z u' n f y'.1 h)
        (at_set s.views id i w u' e') in
        ⊎_elim (λ (x : (j ≡ id) × (w ≡ u)). let y = old id v me in subst (λ (z : View). z.floor ≤ n) x.1 (omega arith))
        (λ (x : (j ≢ id) × (get_elem? s.views j ≡ some u)). old j u x.1) (at_set s.views id j w u e);
  }

  pub turned : (s : St) (o : Sound k s) (id : ℕ) (v w : View) (ws : List ℕ) → get_elem? s.views id ≡ some v
      → Turns k s id v w ws → Sound k (board s ws (set s.views id w))
  turned s o id v w ws me t = record {
    pins = pins_stay s o.pins id v w ws me t;
    slots = slots_stay s o.slots id v w ws me t;
  }

  -- the same where no word changes
  pub unturned : (s : St) (o : Sound k s) (i id : ℕ) (v w : View) → get_elem? s.views id ≡ some v
      → Turns k s id v w s.words → Sound k (board s (set s.words i (get_or s.words i 0)) (set s.views id w))
  unturned s o i id v w me t = subst (λ ws. Sound k (board s ws (set s.views id w))) (sym (set-get_or s.words i 0))
      (turned s o id v w s.words me t)

  pub promoted_word : (p : Pin) (r : ℕ) → pin_word (promoted p r) ≡ pin_word p
  promoted_word Absent r = refl
  promoted_word (Stored e) r = cases (eqb e r) where
    cases : (b : Bool) → pin_word (cond b (Held e) (Stored e)) ≡ e + 1
    cases true = refl
    cases false = refl
  promoted_word (Held e) r = refl

  pub promoted_held : (p : Pin) (r e : ℕ) → promoted p r ≡ Held e → (p ≡ Held e) ⊎ (r ≡ e)
  promoted_held Absent r e h = absurd (cc)
  promoted_held (Stored n) r e h = dite (ℕ_discrete n r)
      (λ same. let is : Held n ≡ Held e = sym (ap (λ b. cond b (Held n) (Stored n)) (eq-eqb n r same)) ∙ h in inr (cc))
      (λ other. let is : Stored n ≡ Held e = sym
      (ap (λ b. cond b (Held n) (Stored n)) (ne_eqb n r other)) ∙ h in absurd (cc))
  promoted_held (Held n) r e h = inl h

  pub none_noted : (i x : ℕ) (R : Type 0) → Noted [] i x → R
  none_noted i x R h = absurd (some-ne-none (i, x) (sym h.1))

  -- a step on the seat's own pin, which leaves it absent or stored
  pub own_pin : (s : St) (o : Sound k s) (id : ℕ) (v : View) (p : Pin) (x : ℕ) → get_elem? s.views id ≡ some v
      → 0 < v.number → v.number ≤ max_seats → x ≡ pin_word p → ((e : ℕ) → p ≢ Held e)
      → Sound k (board s (set s.words (pin_at v.number) x) (set s.views id (with_pin v p)))
  own_pin s o id v p x me some_pin few word never = let here : v.number ≡ id = o.pins.numbered id v me in
      let wide = o.pins.wide in let i : ℕ = pin_at v.number in
      let epoch : get_or (set s.words i x) 0 0
      ≡ get_or s.words 0 0 = get_or-set_other s.words i 0 x 0 (λ e. omega arith) in
      turned s o id v (with_pin v p) (set s.words i x) me record {
        sizes = refl;
        number = refl;
        next = refl;
        long = length-set s.words i x;
        rises = omega arith;
        low = let l = o.pins.low in omega arith;
        others = λ j z other z'. get_or-set_other s.words i (pin_at j) x 0 (λ e. other (omega arith));
        mine = λ z. subst (λ q. get_or (set s.words i x) (pin_at q) 0 ≡ pin_word p) here
            (get_or-set_same s.words i x 0 (omega arith) ∙ word);
        behind = let b = o.pins.behind id v me in (b.0, omega arith);
        fresh = λ e h. absurd (never e h);
        learnt = λ j u y e other at noted h. o.pins.learnt id j v u y e me at noted h;
        own = λ y e noted h. absurd (never e h);
        first = λ z h. absurd (omega arith);
        slots = λ j near. get_or-set_other s.words i (slot_at j) x 0 (λ e. omega arith);
        taken = refl;
        floor = refl;
      }

  pub deals : (id n : ℕ) → 0 < n → n ≤ k.readers
      → Splits (Sound k) id (dealer k n) (dealt_left (dealer k n)) (dealt_right (dealer k n))
  deals id n some_pin room s o me =
      let first : id ≡ 0 = sym (o.pins.numbered id (dealer k n) me) in
      let count : n ≡ length s.views = o.pins.dealing (dealer k n)
      (subst (λ i. get_elem? s.views i ≡ some (dealer k n)) first me) in
      let vs : List View = set s.views id (dealer k (n + 1)) in
      let same : length vs ≡ length s.views = length-set s.views id (dealer k (n + 1)) in
      let long : length (vs ++ reader k n ∷ []) ≡ n + 1 = omega (arith, length-append vs (reader k n ∷ [])) in
      let sized = o.pins.sized in
      let each : (P : ℕ → View → Type 0) → P n (reader k n) → P 0 (dealer k (n + 1))
      → ((j : ℕ) (u : View) → get_elem? s.views j ≡ some u → P j u) → (j : ℕ) (u : View)
      → get_elem? (vs ++ reader k n ∷ []) j ≡ some u → P j u
      = λ P new left old j u e. ⊎_elim
      (λ f. ⊎_elim (λ (x : (j ≡ id) × (dealer k (n + 1) ≡ u)). subst (λ (y : ℕ × View). P y.0 y.1)
      (λ i. (sym (x.0 ∙ first) i, x.1 i)) left) (λ (x : (j ≢ id) × (get_elem? s.views j ≡ some u)). old j u x.1)
      (at_set s.views id j (dealer k (n + 1)) u f))
      (λ (x : (j ≡ length vs) × (reader k n ≡ u)). subst (λ (y : ℕ × View). P y.0 y.1)
      (λ i. (sym (x.0 ∙ same ∙ sym count) i, x.1 i)) new) (at_end vs (reader k n) u j e) in
      record {
        pins = record {
          wide = o.pins.wide;
          sized = o.pins.sized;
          few = omega arith;
          of = each (λ j u. u.sizes ≡ k) refl refl o.pins.of;
          numbered = each (λ j u. u.number ≡ j) refl refl o.pins.numbered;
          dealing = λ u e. ⊎_elim
              (λ f. ⊎_elim (λ (x : (0 ≡ id) × (dealer k (n + 1) ≡ u)). ap (λ (y : View). y.next) (sym x.1) ∙ sym long)
              (λ (x : (0 ≢ id) × (get_elem? s.views 0 ≡ some u)). absurd (x.0 (sym first)))
              (at_set s.views id 0 (dealer k (n + 1)) u f))
              (λ (x : (0 ≡ length vs) × (reader k n ≡ u)). absurd (omega arith)) (at_end vs (reader k n) u 0 e);
          pinless = λ u e. ⊎_elim
              (λ f. ⊎_elim (λ (x : (0 ≡ id) × (dealer k (n + 1) ≡ u)). ap (λ (y : View). y.pin) (sym x.1))
              (λ (x : (0 ≢ id) × (get_elem? s.views 0 ≡ some u)). absurd (x.0 (sym first)))
              (at_set s.views id 0 (dealer k (n + 1)) u f))
              (λ (x : (0 ≡ length vs) × (reader k n ≡ u)). absurd (omega arith)) (at_end vs (reader k n) u 0 e);
          undealt = λ j far slot. o.pins.undealt j (omega arith) slot;
          low = o.pins.low;
          pinned = each (λ j u. 0 < j → get_or s.words (pin_at j) 0 ≡ pin_word u.pin)
              (λ z. o.pins.undealt n (omega arith) (omega arith)) (λ z. absurd (omega arith)) o.pins.pinned;
          behind = each (λ j u. (u.loaded ≤ u.reached) × (u.reached ≤ get_or s.words 0 0)) (omega arith, omega arith)
              (omega arith, omega arith) o.pins.behind;
          held = λ j u e f. each (λ j' u'. u'.pin ≡ Held e → e ≤ get_or s.words 0 0) (λ h. absurd (cc))
              (λ h. absurd (cc)) (λ j' u' f' h. o.pins.held j' u' e f' h) j u f;
          learnt = λ j i u u' x e f f' noted h. each (λ j' v. Noted v.read i x → (x ≡ e + 1) ⊎ (v.reached ≤ e))
              (λ z. none_noted i x ((x ≡ e + 1) ⊎ (0 ≤ e)) z) (λ z. none_noted i x ((x ≡ e + 1) ⊎ (0 ≤ e)) z)
              (λ j' v g noted'. each (λ i' v'. i ≡ i' → v'.pin ≡ Held e → (x ≡ e + 1) ⊎ (v.reached ≤ e))
              (λ q y. absurd (cc)) (λ q y. absurd (cc))
              (λ i' v' g' q y. o.pins.learnt j' i' v v' x e g g' (subst (λ t. Noted v.read t x) q noted') y) i u' f'
              refl h) j u f noted;
        };
        slots = record {
          taken = λ j i u e inside. each (λ j' u'. In u'.taken i
              → (i < k.slots) × (get_or s.words (slot_at i) 0 ≡ slot_word (Taken j'))) (λ z. absurd z) (λ z. absurd z)
              (λ j' u' f z. o.slots.taken j' i u' f z) j u e inside;
          taker = λ i j near is. let y = o.slots.taker i j near is in (
            y.0,
            at_longer vs (reader k n ∷ []) j y.0 (set_else s.views id j (dealer k (n + 1))
                (λ e. let q : y.0 ≡ dealer k n = some-injective y.0 (dealer k n)
                (sym y.1 ∙ ap (get_elem? s.views) e ∙ me) in subst (λ (z : View). In z.taken i) q y.2) ∙ y.1),
            y.2,
          );
          retired = o.slots.retired;
          floor = each (λ j u. u.floor ≤ get_or s.words 0 0) (omega arith) (omega arith) o.slots.floor;
          floors = λ j i u u' e f f' h. each (λ j' v. v.floor ≤ e) (omega arith) (omega arith)
              (λ j' v g. each (λ i' v'. v'.pin ≡ Held e → v.floor ≤ e) (λ y. absurd (cc)) (λ y. absurd (cc))
              (λ i' v' g' y. o.slots.floors j' i' v v' e g g' y) i u' f' h) j u f;
        };
      }
