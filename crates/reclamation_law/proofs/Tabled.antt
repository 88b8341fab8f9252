-- Each step of the claims table keeps what holds of the joined machine.
use Rattle.std.proofs.Common.{◌≡◌, ◌≢◌, ◌⊎◌, ℕ, ◌+◌, ◌<◌, ◌≤◌, get_or, set, refl, sym, ap, ◌∙◌, subst, inl, inr, ⊎_elim}
use Rattle.std.proofs.Common.{arith}
use Rattle.std.proofs.Common.{get_or-set_same, get_or-set_other}
use mathlib.Core.Logic.{dite}
use mathlib.Core.Option.{some-injective}
use native.Mathlib.Decide.{ℕ_discrete}
use Rattle.atomic_table.proofs.Lists.{set_here, set_else}
use Rattle.group_history.specs.Refs.{stamp_of}
use Rattle.head_word.specs.Books.{next_stamp, last_move}
use Rattle.reader_claims.specs.declared.words.Pin.TheVariants.{Held}
use Rattle.reader_claims.specs.declared.words.SlotState.TheVariants.{Taken, Live, Retired}
use Rattle.reader_claims.specs.declared.view.Sizes.{Sizes}
use Rattle.reader_claims.specs.declared.view.View.{View}
use Rattle.reader_claims.specs.Words.{slot_at, slot_word}
use Rattle.reader_claims.specs.Lists.{In}
use Rattle.reader_claims.specs.Views.{IsOpen}
use Rattle.reader_claims.specs.Machine.{Move}
use Rattle.reader_claims.proofs.Keeps.{below}
use Rattle.reader_claims.proofs.Slotted.{quiet_holds}
use Rattle.reader_claims.proofs.Reaching.{state, move_sound}
use Rattle.reclamation_law.specs.Worlds.{Commit, Among, Work, World, Sits, put, slots_of, IsLateTry, IsDrawnIn}
use Rattle.reclamation_law.specs.Joined.{May, work_after}
use Rattle.reclamation_law.proofs.Joint.{Does, Sees, IsLive, IsSafe, Reads, Joint}
use Rattle.reclamation_law.proofs.Rows.{each}
use Rattle.reclamation_law.proofs.Deeds.{Retires, Settles, from_live, from_retired, slots_from, commits_from, late_from}
use Rattle.reclamation_law.proofs.Deeds.{drawn_from}

module _ (k : Sizes) (s : World) (o : Joint k s) (id i y : ℕ) (v w : View) (a : Work) (me : Sits s id v a)
    (m : Move v i (get_or s.words i 0) y w) (may : May a.try m) where
  abbrev x : ℕ
  x = get_or s.words i 0

  abbrev b : Work
  b = work_after a m

  -- the world after the step
  abbrev t : World
  t = record (put s id b) { words = set s.words i y; views = set s.views id w }

  -- what the step does to the word of a slot: nothing, or it is a step on that slot
  at_slot : (z : ℕ) → z < k.slots → (get_or t.words (slot_at z) 0 ≡ get_or s.words (slot_at z) 0) ⊎ ((i ≡ slot_at z)
      × (get_or t.words (slot_at z) 0 ≡ y))
  at_slot z room = let wide = o.sound.pins.wide in dite (ℕ_discrete i (slot_at z))
      (λ e. inr (e, ap (λ q. get_or t.words q 0) (sym e) ∙ get_or-set_same s.words i y 0 (omega arith)))
      (λ ne. inl (get_or-set_other s.words i (slot_at z) y 0 (λ e. ne (sym e))))

  abbrev Left : ℕ → Type 0
  Left z = (get_or t.words (slot_at z) 0 ≡ slot_word (Retired (v.loaded + 1))) × IsLateTry a.try × In (slots_of a.try) z
      × (In (slots_of b.try) z → ⊥)

  lives : (z : ℕ) → z < k.slots → IsLive s z → IsLive t z ⊎ Left z
  lives z room is = ⊎_elim (λ (same : get_or t.words (slot_at z) 0 ≡ get_or s.words (slot_at z) 0). inl (same ∙ is))
      (λ (here : (i ≡ slot_at z) × (get_or t.words (slot_at z) 0 ≡ y)).
      ⊎_elim (λ (e : y ≡ slot_word Live). inl (here.1 ∙ e))
      (λ (r : Retires v a z y b). inr (here.1 ∙ r.0, r.1, r.2, r.3)) (from_live v a z i x y w m may here.0 (ap
      (λ q. get_or s.words q 0) here.0 ∙ is))) (at_slot z room)

  stays_retired : (z r : ℕ) → z < k.slots → get_or s.words (slot_at z) 0 ≡ slot_word (Retired r)
      → (get_or t.words (slot_at z) 0 ≡ slot_word (Retired r)) ⊎ IsOpen v r
  stays_retired z r room is = ⊎_elim (λ (same : get_or t.words (slot_at z) 0 ≡ get_or s.words (slot_at z) 0).
      inl (same ∙ is))
      (λ (here : (i ≡ slot_at z) × (get_or t.words (slot_at z) 0 ≡ y)).
      ⊎_elim (λ (e : y ≡ slot_word (Retired r)). inl (here.1 ∙ e))
      (λ (open_at : IsOpen v r). inr open_at) (from_retired v z r i x y w m here.0 (ap (λ q. get_or s.words q 0) here.0
      ∙ is))) (at_slot z room)

  -- a slot that was settled now was taken before, so it was not live, and not retired
  abbrev Settled : ℕ → Type 0
  Settled z = (z < k.slots) × (get_or s.words (slot_at z) 0 ≡ slot_word (Taken id)) × IsLive t z

  slots_now : (z : ℕ) → In (slots_of b.try) z → In (slots_of a.try) z ⊎ Settled z
  slots_now z h = ⊎_elim (λ (g : In (slots_of a.try) z). inl g)
      (λ (n : Settles v z i x y). let was = o.sound.slots.taken id z v me.view n.0 in let wide = o.sound.pins.wide in
      let near = was.0 in
      inr (
        was.0,
        was.1,
        ap (λ q. get_or t.words q 0) (sym n.1) ∙ get_or-set_same s.words i y 0 (let e = n.1 in omega arith)
            ∙ n.3,
      )) (slots_from v a z i x y w m h)

  head_kept : (z : ℕ) → In s.reached z → (z < k.slots) × IsLive t z
  head_kept z h = let was = o.head z h in (
    was.0,
    ⊎_elim (λ (e : IsLive t z). e)
        (λ (r : Left z). absurd ((o.slots id a z me.work r.2).2 h)) (lives z was.0 was.1),
  )

  -- a slot that is safe for a commit of the seat j stays so
  safe_kept : (j : ℕ) (d : Work) (c : Commit) (u : View) (e z : ℕ) → Does s j d → Sees s j u → Among d.commits c
      → u.pin ≡ Held e
      → In c.slots z → z < k.slots → IsSafe s e z → IsSafe t e z
  safe_kept j d c u e z does sees has pin inside room safe = ⊎_elim
      (λ (is : IsLive s z). ⊎_elim (λ (n : IsLive t z). inl n)
      (λ (r : Left z). let low = o.late id j a d v u c z e me.work me.view r.1 r.2 does sees has inside pin in
      inr (v.loaded + 1, omega arith, r.0)) (lives z room is))
      (λ (old : (r : ℕ) × (e < r) × (get_or s.words (slot_at z) 0 ≡ slot_word (Retired r))).
      ⊎_elim (λ (n : get_or t.words (slot_at z) 0 ≡ slot_word (Retired old.0)). inr (old.0, old.1, n))
      (λ (open_at : IsOpen v old.0).
      let high = quiet_holds k (state s.words s.views) o.sound id v old.0 me.view open_at.0 open_at.1 j u e sees pin in
      let low = old.1 in absurd (omega arith)) (stays_retired z old.0 room old.2)) safe

  here : Sees t id w
  here = set_here s.views id w (below s.views id v me.view)

  held_kept : (j : ℕ) (d : Work) (c : Commit) → Does t j d → Among d.commits c → Reads k t j c
  held_kept j d c does has = each (λ q d'. Among d'.commits c → Reads k t q c) s.works id b
      (λ h. let keeps = commits_from v a c i x y w m h in let was = o.held id a c me.work keeps.0 in
      let same : was.view ≡ v = some-injective was.view v (sym was.seen ∙ me.view) in
      let pin : v.pin ≡ Held was.epoch = ap
      (λ (u : View). u.pin) (sym same) ∙ was.pin in
      record {
        view = w;
        epoch = was.epoch;
        seen = here;
        pin = keeps.1 was.epoch pin;
        safe = λ z inside. let old = was.safe z inside in
            (old.0, safe_kept id a c v was.epoch z me.work me.view keeps.0 pin inside old.0 old.1);
      })
      (λ q d' ne at h. let was = o.held q d' c at h in record {
        view = was.view;
        epoch = was.epoch;
        seen = set_else s.views id q w ne ∙ was.seen;
        pin = was.pin;
        safe = λ z inside. let old = was.safe z inside in
            (old.0, safe_kept q d' c was.view was.epoch z at was.seen h was.pin inside old.0 old.1);
      }) j d does has

  slots_kept : (j : ℕ) (d : Work) (z : ℕ) → Does t j d → In (slots_of d.try) z
      → (z < k.slots) × IsLive t z × (In s.reached z → ⊥)
  slots_kept j d z does inside = each (λ q d'. In (slots_of d'.try) z
      → (z < k.slots) × IsLive t z × (In s.reached z → ⊥)) s.works id b
      (λ h. ⊎_elim
      (λ (g : In (slots_of a.try) z). let was = o.slots id a z me.work g in
      (was.0, ⊎_elim (λ (n : IsLive t z). n) (λ (r : Left z). absurd (r.3 h)) (lives z was.0 was.1), was.2))
      (λ (n : Settled z). (n.0, n.2, λ g. let live = (o.head z g).1 in let taken = n.1 in absurd (omega arith)))
      (slots_now z h))
      (λ q d' ne at h. let was = o.slots q d' z at h in (
        was.0,
        ⊎_elim (λ (n : IsLive t z). n) (λ (r : Left z).
            absurd (ne (o.apart q id d' a z at me.work h r.2))) (lives z was.0 was.1),
        was.2,
      )) j d does inside

  -- what the seat has in its list is in no other seat's
  mine : (q : ℕ) (d : Work) (z : ℕ) → q ≢ id → Does s q d → In (slots_of d.try) z → In (slots_of b.try) z → ⊥
  mine q d z ne at h g = ⊎_elim (λ (old : In (slots_of a.try) z). ne (o.apart q id d a z at me.work h old))
      (λ (n : Settled z). let live = (o.slots q d z at h).1 in let taken = n.1 in absurd (omega arith)) (slots_now z g)

  apart_kept : (p q : ℕ) (c d : Work) (z : ℕ) → Does t p c → Does t q d → In (slots_of c.try) z
      → In (slots_of d.try) z → p ≡ q
  apart_kept p q c d z does does' = each (λ p' c'. In (slots_of c'.try) z → In (slots_of d.try) z → p' ≡ q) s.works id b
      (λ h. each (λ q' d'. In (slots_of d'.try) z → id ≡ q') s.works id b (λ h'. refl)
      (λ q' d' ne at h'. absurd (mine q' d' z ne at h' h)) q d does')
      (λ p' c' ne at h. each (λ q' d'. In (slots_of d'.try) z → p' ≡ q') s.works id b
      (λ h'. absurd (mine p' c' z ne at h h'))
      (λ q' d' ne' at' h'. o.apart p' q' c' d' z at at' h h') q d does') p c does

  -- where a seat reaches a slot after the step, it did so before, under the same pin
  abbrev Before : ℕ → ℕ → ℕ → Type 0
  Before q z e = (d : Work) × (u : View) × (c : Commit) × Does s q d × Sees s q u × Among d.commits c × In c.slots z
      × (u.pin ≡ Held e)

  before : (q : ℕ) (d : Work) (u : View) (c : Commit) (z e : ℕ) → Does t q d → Sees t q u
      → Among d.commits c → In c.slots z
      → u.pin ≡ Held e → Before q z e
  before q d u c z e does sees has inside pin = each
      (λ q' d'. Sees t q' u → Among d'.commits c → Before q' z e) s.works id b
      (λ sees' h. let keeps = commits_from v a c i x y w m h in let was = o.held id a c me.work keeps.0 in
      let same : was.view ≡ v = some-injective was.view v (sym was.seen ∙ me.view) in
      let old : v.pin ≡ Held was.epoch = ap
      (λ (u' : View). u'.pin) (sym same) ∙ was.pin in
      let is : w ≡ u = some-injective w u (sym here ∙ sees') in
      let now : Held was.epoch ≡ Held e = sym (keeps.1 was.epoch old) ∙ ap
      (λ (u' : View). u'.pin) is ∙ pin in
      (a, v, c, me.work, me.view, keeps.0, inside, old ∙ now))
      (λ q' d' ne at sees' h. (d', u, c, at, sym (set_else s.views id q' w ne) ∙ sees', h, inside, pin))
      q d does sees has

  late_kept : (p q : ℕ) (c d : Work) (v' u : View) (n : Commit) (z e : ℕ) → Does t p c → Sees t p v' → IsLateTry c.try
      → In (slots_of c.try) z → Does t q d → Sees t q u → Among d.commits n → In n.slots z
      → u.pin ≡ Held e → e ≤ v'.loaded
  late_kept p q c d v' u n z e does sees late inside does' sees' has inside' pin = let g = before q d u n z e does'
      sees' has inside' pin in
      each (λ p' c'. Sees t p' v' → IsLateTry c'.try → In (slots_of c'.try) z → e ≤ v'.loaded) s.works id b
      (λ at l h. let is : w ≡ v' = some-injective w v' (sym here ∙ at) in subst (λ (f : View). e ≤ f.loaded) is
      (⊎_elim (λ (now : (i ≡ 0) × (w.loaded ≡ x)). let high = o.sound.pins.held q g.1 e g.4 g.7 in
      let epoch : x ≡ get_or s.words 0 0 = ap
      (λ f. get_or s.words f 0) now.0 in let r = now.1 in omega arith)
      (λ (old : IsLateTry a.try × (w.loaded ≡ v.loaded)). let same = old.1 in ⊎_elim
      (λ (f : In (slots_of a.try) z). let low = o.late id q a g.0 v g.1 g.2 z e me.work me.view old.0 f g.3 g.4 g.5 g.6
      g.7 in omega arith)
      (λ (f : Settled z). let was = o.held q g.0 g.2 g.3 g.5 in let taken = f.1 in
      ⊎_elim (λ (live : IsLive s z). absurd (omega arith))
      (λ (r : (r : ℕ) × (was.epoch < r) × (get_or s.words (slot_at z) 0 ≡ slot_word (Retired r))). let gone = r.2 in
      absurd (omega arith)) (was.safe z g.6).1)
      (slots_now z h)) (late_from v a i x y w m l)))
      (λ p' c' ne at sees'' l h. o.late p' q c' g.0 v' g.1 g.2 z e at (sym (set_else s.views id p' w ne)
      ∙ sees'') l h g.3 g.4 g.5 g.6 g.7) p c does sees late inside

  pub table_kept : Joint k t
  table_kept = record {
    sound = move_sound k s.words s.views o.sound id v me.view i x y w refl m;
    head = head_kept;
    held = held_kept;
    slots = slots_kept;
    apart = apart_kept;
    late = late_kept;
    named = o.named;
    known = λ j d c does has. each (λ q d'. Among d'.commits c → (stamp_of c.at < next_stamp s.log)
        × (c.at ≡ last_move s.log → c.slots ≡ s.reached)) s.works id b
        (λ h. o.known id a c me.work (commits_from v a c i x y w m h).0)
        (λ q d' ne at h. o.known q d' c at h) j d does has;
    drawn = λ j d q does is. each (λ p d'. IsDrawnIn d'.try q
        → (q < next_stamp s.log) × (stamp_of (last_move s.log) ≢ q)) s.works id b
        (λ h. o.drawn id a q me.work (drawn_from v a q i x y w m h)) (λ p d' ne at h. o.drawn p d' q at h) j d does is;
    unnamed = λ p j q d e c does is does' has. each (λ p' d'. IsDrawnIn d'.try q → stamp_of c.at ≢ q) s.works id b
        (λ h. each (λ j' e'. Among e'.commits c → stamp_of c.at ≢ q) s.works id b
        (λ h'. o.unnamed id id q a a c me.work (drawn_from v a q i x y w m h) me.work
        (commits_from v a c i x y w m h').0)
        (λ j' e' ne' at' h'. o.unnamed id j' q a e' c me.work (drawn_from v a q i x y w m h) at' h') j e does' has)
        (λ p' d' ne at h. each (λ j' e'. Among e'.commits c → stamp_of c.at ≢ q) s.works id b
        (λ h'. o.unnamed p' id q d' a c at h me.work (commits_from v a c i x y w m h').0)
        (λ j' e' ne' at' h'. o.unnamed p' j' q d' e' c at h at' h') j e does' has) p d does is;
    own = λ p j q d e does does' is is'. each (λ p' d'. IsDrawnIn d'.try q → p' ≡ j) s.works id b
        (λ h. each (λ j' e'. IsDrawnIn e'.try q → id ≡ j') s.works id b (λ h'. refl)
        (λ j' e' ne' at' h'. o.own id j' q a e' me.work at' (drawn_from v a q i x y w m h) h') j e does' is')
        (λ p' d' ne at h. each (λ j' e'. IsDrawnIn e'.try q → p' ≡ j') s.works id b
        (λ h'. o.own p' id q d' a at me.work h (drawn_from v a q i x y w m h'))
        (λ j' e' ne' at' h'. o.own p' j' q d' e' at at' h h') j e does' is') p d does is;
  }
