-- A live slot is freed by no bare exchange: while the epoch is 0 nothing was retired, and each slot that some seat
-- settled last is live.
use Rattle.std.proofs.Common.{◌≡◌, ◌≢◌, ◌⊎◌, ◌<◌, ◌+◌, ℕ, zero, suc, List, [], ◌∷◌, ◌++◌, length, get_or, set}
use Rattle.std.proofs.Common.{replicate, arith, refl, sym, ap, subst, inl, inr, ⊎_elim, ◌∙◌, length-set}
use Rattle.std.proofs.Common.{get_or-set_same, get_or-set_other}
use Rattle.std.proofs.lemmas.List.{get_or_past, get_or-replicate, length-replicate}
use mathlib.Core.Logic.{dite}
use mathlib.Core.Option.{some, some-injective, some-ne-none}
use native.Mathlib.Decide.{ℕ_discrete, dec_lt}
use lib.ListN.{get_elem?}
use Rattle.atomic_table.proofs.Lists.{at_set}
use Rattle.reader_claims.specs.declared.view.Sizes.{Sizes}
use Rattle.reader_claims.specs.declared.view.View.{View}
use Rattle.reader_claims.specs.declared.words.SlotState.TheVariants.{Taken, Live, Retired}
use Rattle.reader_claims.specs.Words.{first_slot, slot_at, slot_word}
use Rattle.reader_claims.specs.Lists.{In}
use Rattle.reader_claims.specs.Views.{reader, dealer, with_taken, with_settled}
use Rattle.reader_claims.specs.Machine as machine
use Rattle.reader_claims.specs.Machine.{Move, Reached, left_there}
use Rattle.reader_claims.specs.Laws.{BareLaw}
use Rattle.reader_claims.proofs.Sound.{Sound}
use Rattle.reader_claims.proofs.Keeps.{at_end}
use Rattle.reader_claims.proofs.Reaching.{sound, state}
use Rattle.reader_claims.proofs.Lawful.{live, rises}

-- a number other than 0 stands inside the list
inside_of : (ws : List ℕ) (i : ℕ) → get_or ws i 0 ≢ 0 → i < length ws
inside_of ws i some_word = dite (dec_lt i (length ws)) (λ lt. lt)
    (λ ge. absurd (some_word (get_or_past ws i 0 (omega arith))))

abbrev AreLive : List ℕ → List View → Type 0
AreLive ws vs = (j z : ℕ) (u : View) → get_elem? vs j ≡ some u → In u.settled z → get_or ws 0 0 ≡ 0
    → get_or ws (slot_at z) 0 ≡ slot_word Live

-- what a step adds to the slots that its seat settled
adds : (v : View) (i x y : ℕ) (w : View) → Move v i x y w → (z : ℕ) → In w.settled z
    → In v.settled z ⊎ ((i ≡ slot_at z) × (y ≡ slot_word Live) × (x ≢ 0))
adds v i x y w (machine.load_epoch e) z h = inl h
adds v i x y w (machine.store_pin n e some_pin few) z h = absurd h
adds v i x y w (machine.clear_pin n some_pin few) z h = absurd h
adds v i x y w (machine.load_pin j n some_pin few) z h = inl h
adds v i x y w (machine.raise n some_reader low past) z h = inl h
adds v i x y w (machine.raise_lost n e past miss) z h = inl h
adds v i x y w (machine.take j some_reader room) z h = inl h
adds v i x y w (machine.settle j inside) z h = ⊎_elim
    (λ (e : z ≡ j). inr (ap slot_at (sym e), refl, (λ n. omega arith))) (λ g. inl g) h
adds v i x y w (machine.withdraw j inside) z h = inl h
adds v i x y w (machine.retire j room past) z h = inl h
adds v i x y w (machine.give j r room open_at) z h = inl h
adds v i x y w (machine.lost j old n room miss) z h = inl h
adds v i x y w (machine.miss j n room ne) z h = inl h

module _ (k : Sizes) where
  step_live : (ws : List ℕ) (vs : List View) (o : Sound k (state ws vs)) (h : AreLive ws vs) (id i y : ℕ) (v w : View)
      → get_elem? vs id ≡ some v → Move v i (get_or ws i 0) y w → AreLive (set ws i y) (set vs id w)
  step_live ws vs o h id i y v w me m j z u at inside none =
      let up = rises k ws vs o id v me i (get_or ws i 0) y w m refl in let first : get_or ws 0 0 ≡ 0 = omega arith in
      let new : i ≡ slot_at z → y ≡ slot_word Live → get_or ws i 0 ≢ 0
      → get_or (set ws i y) (slot_at z) 0 ≡ slot_word Live
      = λ e is some_word. subst (λ q. get_or (set ws i y) q 0 ≡ slot_word Live) e
      (get_or-set_same ws i y 0 (inside_of ws i some_word) ∙ is) in
      let old : get_or ws (slot_at z) 0 ≡ slot_word Live → get_or (set ws i y) (slot_at z) 0 ≡ slot_word Live
      = λ was. dite (ℕ_discrete i (slot_at z))
      (λ e. let found : get_or ws i 0 ≡ slot_word Live = ap (λ q. get_or ws q 0) e ∙ was in
      let b = o.pins.behind id v me in
      ⊎_elim (λ (is : y ≡ slot_word Live). new e is (λ n. omega arith))
      (λ (gone : (y ≡ slot_word (Retired (v.loaded + 1))) × (v.loaded < v.reached)). let past = gone.1 in
      absurd (omega arith)) (live k ws vs o id z v me i (get_or ws i 0) y w m e found))
      (λ ne. get_or-set_other ws i (slot_at z) y 0 (λ e. ne (sym e)) ∙ was) in
      ⊎_elim (λ (c : (j ≡ id) × (w ≡ u)). ⊎_elim (λ (was : In v.settled z). old (h id z v me was first))
      (λ (t : (i ≡ slot_at z) × (y ≡ slot_word Live) × (get_or ws i 0 ≢ 0)). new t.0 t.1 t.2)
      (adds v i (get_or ws i 0) y w m z (subst (λ (t : View). In t.settled z) (sym c.1) inside)))
      (λ (c : (j ≢ id) × (get_elem? vs j ≡ some u)). old (h j z u c.1 inside first)) (at_set vs id j w u at)

  -- the table as it was opened
  opened_live : (ws : List ℕ) → AreLive ws (dealer k 1 ∷ [])
  opened_live ws zero z u at inside none = absurd
      (subst (λ (t : View). In t.settled z) (sym (some-injective (dealer k 1) u at)) inside)
  opened_live ws (suc j) z u at inside none = absurd (some-ne-none u (sym at))

  dealt_live : (ws : List ℕ) (vs : List View) (id n : ℕ) → AreLive ws vs
      → AreLive ws (set vs id (dealer k (n + 1)) ++ reader k n ∷ [])
  dealt_live ws vs id n h j z u at inside none = ⊎_elim
      (λ f. ⊎_elim (λ (c : (j ≡ id) × (dealer k (n + 1) ≡ u)). absurd
      (subst (λ (t : View). In t.settled z) (sym c.1) inside))
      (λ (c : (j ≢ id) × (get_elem? vs j ≡ some u)). h j z u c.1 inside none)
      (at_set vs id j (dealer k (n + 1)) u f))
      (λ (c : (j ≡ length (set vs id (dealer k (n + 1)))) × (reader k n ≡ u)). absurd
      (subst (λ (t : View). In t.settled z) (sym c.1) inside))
      (at_end (set vs id (dealer k (n + 1))) (reader k n) u j at)

  are_live : (ws : List ℕ) (vs : List View) → Reached k ws vs → AreLive ws vs
  are_live ws vs (machine.opened ws' long sized zeros) = opened_live ws'
  are_live ws vs (machine.dealt ws' vs' id n r me some_pin room) = dealt_live ws' vs' id n (are_live ws' vs' r)
  are_live ws vs (machine.stepped ws' vs' id i y v w r me m) = step_live ws' vs' (sound k ws' vs' r)
      (are_live ws' vs' r) id i y v w me m

pub bare_law : BareLaw
bare_law k slot two sized room allowed =
    let size : ℕ = first_slot + k.slots in let ws : List ℕ = replicate size 0 in let i : ℕ = slot_at slot in
    let long : length ws ≡ size = length-replicate size 0 in
    let zeros : (j : ℕ) → get_or ws j 0 ≡ 0 = λ j. dite (dec_lt j size) (λ lt. get_or-replicate size j 0 0 lt)
    (λ ge. get_or_past ws j 0 (omega arith)) in
    let opened = machine.opened ws long sized zeros in
    let first = machine.dealt ws (dealer k 1 ∷ []) 0 1 opened refl (omega arith) (omega arith) in
    let vs : List View = dealer k 3 ∷ (reader k 1 ∷ (reader k 2 ∷ [])) in
    let both : Reached k ws vs = machine.dealt ws (dealer k 2 ∷ (reader k 1 ∷ [])) 0 2 first refl (omega arith)
    (omega arith) in
    let v : View = with_taken (reader k 1) slot in let w : View = with_settled v slot in
    let mine = slot_word (Taken 1) in
    let took : Reached k (set ws i mine) (dealer k 3 ∷ (v ∷ (reader k 2 ∷ []))) = machine.stepped ws vs 1 i mine
    (reader k 1) v both refl (subst (λ x. Move (reader k 1) i x mine v) (sym (zeros i))
    (machine.take slot (omega arith) room)) in
    let ws' : List ℕ = set ws i mine in let there : get_or ws' i 0 ≡ mine = get_or-set_same ws i mine 0 (omega arith) in
    let lived : Reached k (set ws' i 1) (dealer k 3 ∷ (w ∷ (reader k 2 ∷ []))) = machine.stepped ws'
    (dealer k 3 ∷ (v ∷ (reader k 2 ∷ []))) 1 i 1 v w took refl
    (subst (λ x. Move v i x 1 w) (sym there) (machine.settle slot (inl refl))) in
    let ws'' : List ℕ = set ws' i 1 in let long' : length ws' ≡ length ws = length-set ws i mine in
    let long'' : length ws'' ≡ length ws' = length-set ws' i 1 in
    let is_live : get_or ws'' i 0 ≡ 1 = get_or-set_same ws' i 1 0 (omega arith) in
    let epoch : get_or ws'' 0 0 ≡ 0 = get_or-set_other ws' i 0 1 0 (λ e. omega arith) ∙ get_or-set_other ws i 0 mine 0
    (λ e. omega arith) ∙ zeros 0 in
    let there' : get_elem? (dealer k 3 ∷ (w ∷ (reader k 2 ∷ []))) 2 ≡ some (reader k 2) = refl in
    let got = allowed (state ws'' (dealer k 3 ∷ (w ∷ (reader k 2 ∷ [])))) lived refl there' (omega arith) in
    let y : ℕ = left_there 1 0 (get_or ws'' i 0) in let freed : y ≡ 0 = ap (left_there 1 0) is_live in
    let after : List ℕ = set ws'' i y in
    let now : get_or after i 0 ≡ y = get_or-set_same ws'' i y 0 (omega arith) in
    let still : get_or after 0 0 ≡ 0 = get_or-set_other ws'' i 0 y 0 (λ e. omega arith) ∙ epoch in
    let alive : get_or after i 0 ≡ 1 = are_live k after (dealer k 3 ∷ (w ∷ (got.0 ∷ []))) got.3 1 slot w
    (refl {a = some w}) (inl refl) still in
    omega arith
