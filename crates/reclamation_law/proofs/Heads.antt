-- Each event that is no step of the claims table keeps what holds of the joined machine.
use Rattle.std.proofs.Common.{◌≡◌, ◌≢◌, ◌⊎◌, ℕ, ◌<◌, ◌≤◌, List, [], ◌∷◌, ◌++◌, set, refl, sym, ap, ◌∙◌, subst, inl, inr}
use Rattle.std.proofs.Common.{⊎_elim, arith}
use mathlib.Core.Option.{some}
use lib.ListN.{get_elem?}
use Rattle.std.specs.Prelude.{Some}
use Rattle.group_history.specs.declared.changes.Change.{Change}
use Rattle.group_history.specs.declared.nodes.Node.{Node}
use Rattle.group_history.specs.declared.nodes.Child.{Child}
use Rattle.group_history.specs.Refs.{stamp_of}
use Rattle.head_word.specs.declared.entry.Entry.{Entry}
use Rattle.head_word.specs.Books.{next_stamp, last_move, nowhere, drafted, moved}
use Rattle.head_word.proofs.Books.{moved_more, next_more}
use Rattle.reader_claims.specs.declared.words.Pin.TheVariants.{Held}
use Rattle.reader_claims.specs.declared.view.Sizes.{Sizes}
use Rattle.reader_claims.specs.declared.view.View.{View}
use Rattle.reader_claims.specs.Lists.{In}
use Rattle.reclamation_law.specs.Worlds.{Commit, Among, Work, World, Sits, HoldsPin, head, put, slots_of, IsLateTry}
use Rattle.reclamation_law.specs.Worlds.{IsDrawnIn, minus}
use Rattle.reclamation_law.specs.Joined.{with_head, with_try, with_drawn, drew, MayPublish, with_won, with_lost}
use Rattle.reclamation_law.specs.Joined.{moved_to}
use Rattle.reclamation_law.proofs.Joint.{Does, Sees, IsLive, Reads, Joint}
use Rattle.reclamation_law.proofs.Rows.{each, in_minus, slots_drawn, late_drawn, drawn_now}

module _ (k : Sizes) (s : World) (o : Joint k s) (id : ℕ) (v : View) (a : Work) (me : Sits s id v a) where
  -- What an event has to show that leaves the head, draws stamps at most, and changes the work of its seat
  record Turns (log : List Entry) (b : Work) : Type 0 where
    still : last_move log ≡ last_move s.log
    rises : next_stamp s.log ≤ next_stamp log
    held : (c : Commit) → Among b.commits c → Reads k s id c
    slots : (z : ℕ) → In (slots_of b.try) z → In (slots_of a.try) z
    late : IsLateTry b.try → IsLateTry a.try
    commits : (c : Commit) → Among b.commits c → Among a.commits c ⊎ (c ≡ head s)
    -- a stamp that it has drawn was drawn before, or by nobody
    drawn : (q : ℕ) → IsDrawnIn b.try q → (q < next_stamp log) × (IsDrawnIn a.try q ⊎ (next_stamp s.log ≤ q))

  turned : (log : List Entry) (b : Work) → Turns log b → Joint k (record (put s id b) { log = log })
  turned log b g = let at_head : stamp_of (last_move log) ≡ stamp_of (last_move s.log) = ap stamp_of g.still in
      let rises = g.rises in
      let named = o.named in record {
        sound = o.sound;
        head = o.head;
        held = λ j d c does has. let h = each (λ q d'. Among d'.commits c → Reads k s q c) s.works id b
            (λ h. g.held c h)
            (λ q d' ne at h. o.held q d' c at h) j d does has in
            record { view = h.view; epoch = h.epoch; seen = h.seen; pin = h.pin; safe = h.safe };
        slots = λ j d z does inside. each (λ q d'. In (slots_of d'.try) z
            → (z < k.slots) × IsLive s z × (In s.reached z → ⊥)) s.works id b
            (λ h. o.slots id a z me.work (g.slots z h)) (λ q d' ne at h. o.slots q d' z at h) j d does inside;
        apart = λ p q c d z does does' is is'. each (λ p' c'. In (slots_of c'.try) z → p' ≡ q) s.works id b
            (λ h. each (λ q' d'. In (slots_of d'.try) z → id ≡ q') s.works id b (λ h'. refl)
            (λ q' d' ne at h'. o.apart id q' a d' z me.work at (g.slots z h) h') q d does' is')
            (λ p' c' ne at h. each (λ q' d'. In (slots_of d'.try) z → p' ≡ q') s.works id b
            (λ h'. o.apart p' id c' a z at me.work h (g.slots z h'))
            (λ q' d' ne' at' h'. o.apart p' q' c' d' z at at' h h') q d does' is') p c does is;
        late = λ p q c d v' u n z e does sees late inside does' sees' has inside' pin. each
            (λ p' c'. Sees s p' v' → IsLateTry c'.try → In (slots_of c'.try) z → e ≤ v'.loaded) s.works id b
            (λ at l h. reached q d id a v' u n z e me.work at (g.late l) (g.slots z h) does' sees' has inside' pin)
            (λ p' c' ne at sees'' l h. reached q d p' c' v' u n z e at sees'' l h does' sees' has inside' pin) p c does
            sees late inside;
        named = omega arith;
        known = λ j d c does has. let was = knew c j d does has in
            (let low = was.0 in omega arith, λ same. was.1 (same ∙ g.still));
        drawn = λ j d q does is. each (λ p d'. IsDrawnIn d'.try q
            → (q < next_stamp log) × (stamp_of (last_move log) ≢ q)) s.works id b
            (λ h. let was = g.drawn q h in (
              was.0,
              ⊎_elim
                  (λ (old : IsDrawnIn a.try q). λ same. (o.drawn id a q me.work old).1 (sym at_head ∙ same))
                  (λ (new : next_stamp s.log ≤ q). λ same. omega arith) was.1,
            ))
            (λ p d' ne at h. let was = o.drawn p d' q at h in
            (let low = was.0 in omega arith, λ same. was.1 (sym at_head ∙ same))) j d does is;
        unnamed = λ p j q d e c does is does' has. each (λ p' d'. IsDrawnIn d'.try q → stamp_of c.at ≢ q) s.works id b
            (λ h. ⊎_elim (λ (old : IsDrawnIn a.try q). has_not id a q c j e me.work old does' has)
            (λ (new : next_stamp s.log ≤ q). λ same. let low = (knew c j e does' has).0 in omega arith) (g.drawn q h).1)
            (λ p' d' ne at h. has_not p' d' q c j e at h does' has) p d does is;
        own = λ p j q d e does does' is is'. each (λ p' d'. IsDrawnIn d'.try q → p' ≡ j) s.works id b
            (λ h. each (λ j' e'. IsDrawnIn e'.try q → id ≡ j') s.works id b (λ h'. refl)
            (λ j' e' ne at h'. ⊎_elim (λ (old : IsDrawnIn a.try q). o.own id j' q a e' me.work at old h')
            (λ (new : next_stamp s.log ≤ q). let low = (o.drawn j' e' q at h').0 in absurd (omega arith))
            (g.drawn q h).1) j e does' is')
            (λ p' d' ne at h. each (λ j' e'. IsDrawnIn e'.try q → p' ≡ j') s.works id b
            (λ h'. ⊎_elim (λ (old : IsDrawnIn a.try q). o.own p' id q d' a at me.work h old)
            (λ (new : next_stamp s.log ≤ q). let low = (o.drawn p' d' q at h).0 in absurd (omega arith))
            (g.drawn q h').1)
            (λ j' e' ne' at' h'. o.own p' j' q d' e' at at' h h') j e does' is') p d does is;
      } where
        -- a seat has a commit that it had before, or the head
        before : (P : ℕ → Commit → Type 0) → ((j : ℕ) (d : Work) (c : Commit) → Does s j d → Among d.commits c
            → P j c) → P id (head s)
            → (c : Commit) (j : ℕ) (d : Work) → get_elem? (set s.works id b) j ≡ some d → Among d.commits c → P j c
        before P old new c j d does has = each (λ j' d'. Among d'.commits c → P j' c) s.works id b
            (λ has'. ⊎_elim (λ (h : Among a.commits c). old id a c me.work h)
            (λ (is : c ≡ head s). subst (P id) (sym is) new) (g.commits c has'))
            (λ j' d' ne at has'. old j' d' c at has') j d does has

        reached : (j : ℕ) (d : Work) (p : ℕ) (c : Work) (v' u : View) (n : Commit) (z e : ℕ) → Does s p c
            → Sees s p v' → IsLateTry c.try
            → In (slots_of c.try) z → get_elem? (set s.works id b) j ≡ some d → Sees s j u
            → Among d.commits n → In n.slots z
            → u.pin ≡ Held e
            → e ≤ v'.loaded
        reached j d p c v' u n z e at sees l h does sees' has inside pin = before
            (λ j' n'. Sees s j' u → In n'.slots z → e ≤ v'.loaded)
            (λ j' d' n' at' has' sees'' inside'. o.late p j' c d' v' u n' z e at sees l h at' sees'' has' inside' pin)
            (λ sees'' inside'. absurd ((o.slots p c z at h).2 inside')) n j d does has sees' inside

        has_not : (p : ℕ) (c : Work) (q : ℕ) (n : Commit) (j : ℕ) (d : Work) → Does s p c → IsDrawnIn c.try q
            → get_elem? (set s.works id b) j ≡ some d → Among d.commits n → stamp_of n.at ≢ q
        has_not p c q n j d at h does has = before (λ j' n'. stamp_of n'.at ≢ q)
            (λ j' d' n' at' has'. o.unnamed p j' q c d' n' at h at' has') (o.drawn p c q at h).1 n j d does has

        knew : (n : Commit) (j : ℕ) (d : Work) → get_elem? (set s.works id b) j ≡ some d → Among d.commits n
            → (stamp_of n.at < next_stamp s.log) × (n.at ≡ last_move s.log → n.slots ≡ s.reached)
        knew n j d does has = before (λ j' n'. (stamp_of n'.at < next_stamp s.log)
            × (n'.at ≡ last_move s.log → n'.slots ≡ s.reached))
            (λ j' d' n' at' has'. o.known j' d' n' at' has') (o.named, λ same. refl) n j d does has

  -- the seat loads the head under the pin that it holds
  pub load_kept : HoldsPin v → Joint k (put s id (with_head s a))
  load_kept pin = turned s.log (with_head s a) record {
    still = refl;
    rises = omega arith;
    held = λ c h. ⊎_elim
        (λ (is : c ≡ head s). record {
          view = v;
          epoch = pin.0;
          seen = me.view;
          pin = pin.1;
          safe = λ z inside. let was = o.head z (subst (λ (y : Commit). In y.slots z) is inside) in (was.0, inl was.1);
        }) (λ (old : Among a.commits c). o.held id a c me.work old) h;
    slots = λ z h. h;
    late = λ h. h;
    commits = λ c h. ⊎_elim (λ (is : c ≡ head s). inr is) (λ (old : Among a.commits c). inl old) h;
    drawn = λ q h. ((o.drawn id a q me.work h).0, inl h);
  }

  pub begin_kept : Joint k (put s id (with_try a))
  begin_kept = turned s.log (with_try a) record {
    still = refl;
    rises = omega arith;
    held = λ c h. o.held id a c me.work h;
    slots = λ z h. absurd h;
    late = λ h. absurd h;
    commits = λ c h. inl h;
    drawn = λ q h. absurd h;
  }

  pub draw_kept : (contents : List (Node Child))
      → Joint k (drew s id a (s.log ++ drafted (Some id) (next_stamp s.log) contents ∷ []))
  draw_kept contents = let entry : Entry = drafted (Some id) (next_stamp s.log) contents in
      let log : List Entry = s.log ++ entry ∷ [] in let first : ℕ = next_stamp s.log in let end : ℕ = next_stamp log in
      let rises : first ≤ end = let more = next_more s.log (entry ∷ []) in omega arith in
      turned log (record a { try = with_drawn a.try first end }) record {
        still = moved_more nowhere s.log (entry ∷ []);
        rises = rises;
        held = λ c h. o.held id a c me.work h;
        slots = λ z h. slots_drawn a.try first end z h;
        late = λ h. late_drawn a.try first end h;
        commits = λ c h. inl h;
        drawn = λ q h. ⊎_elim (λ (now : (first ≤ q) × (q < end)). (now.1, inr now.0))
            (λ (was : IsDrawnIn a.try q). let low = (o.drawn id a q me.work was).0 in (omega arith, inl was))
            (drawn_now a.try first end q h);
      }

  -- the try ends, and what it settled is left
  pub end_kept : Joint k (put s id (with_lost a))
  end_kept = turned s.log (with_lost a) record {
    still = refl;
    rises = omega arith;
    held = λ c h. o.held id a c me.work h;
    slots = λ z h. search h;
    late = λ h. absurd (cc);
    commits = λ c h. inl h;
    drawn = λ q h. absurd h;
  }

  -- the head moves to a commit that reaches only slots of the old one and slots that the seat settled
  pub publish_kept : (old new : Commit) (change : Change) → MayPublish s a old new
      → Joint k (moved_to s id a old new change)
  publish_kept old new change may = let b = with_won a old new in let drawn = may.drawn in
      let entry : Entry = moved (Some id) new.at change in let log : List Entry = s.log ++ entry ∷ [] in
      let goes : last_move log ≡ new.at = moved_more nowhere s.log (entry ∷ []) in
      let same_stamps : next_stamp log ≡ next_stamp s.log = let more = next_more s.log (entry ∷ []) in omega arith in
      let low = (o.drawn id a (stamp_of new.at) me.work drawn).0 in record {
        sound = o.sound;
        head = λ z inside. ⊎_elim (λ (g : In old.slots z). o.head z (was z g))
            (λ (g : In (slots_of a.try) z). let h = o.slots id a z me.work g in (h.0, h.1)) (may.made z inside);
        held = λ j d c does h. let g = each (λ q d'. Among d'.commits c → Reads k s q c) s.works id b
            (λ h'. o.held id a c me.work h')
            (λ q d' ne at' h'. o.held q d' c at' h') j d does h in
            record { view = g.view; epoch = g.epoch; seen = g.seen; pin = g.pin; safe = g.safe };
        slots = λ j d z does inside. each (λ q d'. In (slots_of d'.try) z
            → (z < k.slots) × IsLive s z × (In new.slots z → ⊥)) s.works id b
            (λ h. let g = in_minus old.slots new.slots z h in let live = o.head z (was z g.0) in (live.0, live.1, g.1))
            (λ q d' ne at' h. let g = o.slots q d' z at' h in (
              g.0,
              g.1,
              λ inside'. ⊎_elim (λ (f : In old.slots z). g.2 (was z f))
                  (λ (f : In (slots_of a.try) z). ne (o.apart q id d' a z at' me.work h f)) (may.made z inside'),
            )) j d does inside;
        apart = λ p q c d z does does' is is'. each (λ p' c'. In (slots_of c'.try) z → p' ≡ q) s.works id b
            (λ h. each (λ q' d'. In (slots_of d'.try) z → id ≡ q') s.works id b (λ h'. refl)
            (λ q' d' ne at' h'. absurd (dropped q' d' z at' h' h)) q d does' is')
            (λ p' c' ne at' h. each (λ q' d'. In (slots_of d'.try) z → p' ≡ q') s.works id b
            (λ h'. absurd (dropped p' c' z at' h h'))
            (λ q' d' ne' at'' h'. o.apart p' q' c' d' z at' at'' h h') q d does' is') p c does is;
        late = λ p q c d v' u n z e does sees late inside does' sees' has' inside' pin. each
            (λ p' c'. Sees s p' v' → IsLateTry c'.try → In (slots_of c'.try) z → e ≤ v'.loaded) s.works id b
            (λ at' l h. absurd (cc))
            (λ p' c' ne at' sees'' l h. each (λ q' d'. Sees s q' u → Among d'.commits n → e ≤ v'.loaded) s.works id b
            (λ f g. o.late p' id c' a v' u n z e at' sees'' l h me.work f g inside' pin)
            (λ q' d' ne' at'' f g. o.late p' q' c' d' v' u n z e at' sees'' l h at'' f g inside' pin) q d
            does' sees' has')
            p c does sees late inside;
        named = let to : stamp_of (last_move log) ≡ stamp_of new.at = ap stamp_of goes in omega arith;
        known = λ j d c does h. each (λ q d'. Among d'.commits c → (stamp_of c.at < next_stamp log)
            × (c.at ≡ last_move log → c.slots ≡ new.slots)) s.works id b
            (λ h'. (
              let g = (o.known id a c me.work h').0 in
                  omega arith,
              λ same. absurd (o.unnamed id id (stamp_of new.at) a a c me.work drawn me.work h'
                  (ap stamp_of (same ∙ goes))),
            ))
            (λ q d' ne at' h'. (
              let g = (o.known q d' c at' h').0 in
                  omega arith,
              λ same. absurd (o.unnamed id q (stamp_of new.at) a d' c me.work drawn at' h' (ap stamp_of (same
                  ∙ goes))),
            )) j d does h;
        drawn = λ j d q does is. each (λ p d'. IsDrawnIn d'.try q
            → (q < next_stamp log) × (stamp_of (last_move log) ≢ q)) s.works id b
            (λ h. absurd h)
            (λ p d' ne at' h. (
              let g = (o.drawn p d' q at' h).0 in
                  omega arith,
              λ same. ne (o.own p id q d' a at' me.work h (subst (IsDrawnIn a.try) (sym (ap stamp_of goes)
                  ∙ same) drawn)),
            )) j d does is;
        unnamed = λ p j q d e c does is does' h. each
            (λ p' d'. IsDrawnIn d'.try q → stamp_of c.at ≢ q) s.works id b (λ f. absurd f)
            (λ p' d' ne at' f. each (λ j' e'. Among e'.commits c → stamp_of c.at ≢ q) s.works id b
            (λ g. o.unnamed p' id q d' a c at' f me.work g)
            (λ j' e' ne' at'' g. o.unnamed p' j' q d' e' c at' f at'' g) j e does' h) p d does is;
        own = λ p j q d e does does' is is'. each (λ p' d'. IsDrawnIn d'.try q → p' ≡ j) s.works id b (λ f. absurd f)
            (λ p' d' ne at' f. each (λ j' e'. IsDrawnIn e'.try q → p' ≡ j') s.works id b (λ g. absurd g)
            (λ j' e' ne' at'' g. o.own p' j' q d' e' at' at'' f g) j e does' is') p d does is;
      } where
        -- the old commit's slots are the head's
        was : (z : ℕ) → In old.slots z → In s.reached z
        was z h = subst (λ l. In l z) ((o.known id a old me.work may.loaded).1 (sym may.still)) h

        -- what was dropped was the head's, so it is in no other list
        dropped : (q : ℕ) (d : Work) (z : ℕ) → Does s q d → In (slots_of d.try) z → In (minus old.slots new.slots) z → ⊥
        dropped q d z at' h g = (o.slots q d z at' h).2 (was z (in_minus old.slots new.slots z g).0)
