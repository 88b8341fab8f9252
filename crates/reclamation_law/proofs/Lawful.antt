-- The law of the joined machine, from what holds of every world that events lead to.
use Rattle.std.proofs.Common.{◌≡◌, ℕ, ◌^◌, ◌<◌, List, [], ◌∷◌, get_or, sym, ◌∙◌, subst, inl, inr, ⊎_elim, arith}
use mathlib.Core.Option.{some, some-injective}
use lib.ListN.{get_elem?}
use Rattle.reader_claims.specs.declared.words.SlotState.TheVariants.{Retired}
use Rattle.reader_claims.specs.declared.view.Sizes.{Sizes}
use Rattle.reader_claims.specs.declared.view.View.{View}
use Rattle.reader_claims.specs.Words.{slot_at, slot_word}
use Rattle.reader_claims.proofs.Slotted.{quiet_holds}
use Rattle.reader_claims.proofs.Reaching.{state}
use Rattle.reclamation_law.specs.Joined as machine
use Rattle.reclamation_law.specs.Worlds.{World}
use Rattle.reclamation_law.specs.Events.{Event}
use Rattle.reclamation_law.specs.Joined.{JoinedSteps, Opens, Runs}
use Rattle.reclamation_law.specs.Laws.{IsReached, Reuses, IsRetiring, JoinedLaw, HeadLaw, JoinedHoldLaw, HighestLaw}
use Rattle.reclamation_law.proofs.Joint.{Joint, IsLive}
use Rattle.reclamation_law.proofs.Deeds as deeds
use Rattle.reclamation_law.proofs.Deeds.{Found, found, raised}
use Rattle.reclamation_law.proofs.Tabled.{table_kept}
use Rattle.reclamation_law.proofs.Heads.{load_kept, begin_kept, draw_kept, publish_kept, end_kept}
use Rattle.reclamation_law.proofs.Opening.{opens_joint}

-- each event keeps what holds
pub step_joint : (k : Sizes) (s t : World) (e : Event) → Joint k s → JoinedSteps s e t → Joint k t
step_joint k s t e o (machine.at_table id i y v w a me m may) = table_kept k s o id i y v w a me m may
step_joint k s t e o (machine.look id z c v a me has inside) = o
step_joint k s t e o (machine.load_drafts id v a me) = o
step_joint k s t e o (machine.load_head id v a me pin) = load_kept k s o id v a me pin
step_joint k s t e o (machine.begin id v a me pin idle) = begin_kept k s o id v a me
step_joint k s t e o (machine.draw id contents v a me) = draw_kept k s o id v a me contents
step_joint k s t e o (machine.publish id old new change v a me may) = publish_kept k s o id v a me old new change may
step_joint k s t e o (machine.lose id old v a me now has ne) = end_kept k s o id v a me
step_joint k s t e o (machine.give_up id v a me now) = end_kept k s o id v a me

runs_joint : (k : Sizes) (s t : World) (es : List Event) → Joint k s → Runs s es t → Joint k t
runs_joint k s t [] o r = subst (Joint k) r o
runs_joint k s t (e ∷ es) o r = runs_joint k r.0 t es (step_joint k s r.0 e o r.1) r.2

-- a slot that is reached is live, or retired above a pin that some seat holds
module _ (k : Sizes) (s : World) (o : Joint k s) where
  -- so no step finds it free or taken, or retired and open
  not_found : (id z : ℕ) (v : View) → get_elem? s.views id ≡ some v → IsReached s z
      → Found v (get_or s.words (slot_at z) 0) → ⊥
  not_found id z v at (inl h) f = let live = (o.head z h).1 in shut f where
    shut : Found v (get_or s.words (slot_at z) 0) → ⊥
    shut (deeds.free e) = let live = (o.head z h).1 in omega arith
    shut (deeds.taken e) = let live = (o.head z h).1 in omega arith
    shut (deeds.open_at r e open_at) = let live = (o.head z h).1 in omega arith
  not_found id z v at (inr h) f = let held = o.held h.0 h.2.0 h.1 h.2.1 h.2.2 in ⊎_elim
      (λ (live : IsLive s z). shut live f)
      (λ (old : (r : ℕ) × (held.epoch < r) × (get_or s.words (slot_at z) 0 ≡ slot_word (Retired r))). late
      old.0 old.1 old.2 f)
      (held.safe z h.3).1 where
        shut : IsLive s z → Found v (get_or s.words (slot_at z) 0) → ⊥
        shut live (deeds.free e) = omega arith
        shut live (deeds.taken e) = omega arith
        shut live (deeds.open_at r e open_at) = omega arith

        late : (r : ℕ) → (o.held h.0 h.2.0 h.1 h.2.1 h.2.2).epoch < r
            → get_or s.words (slot_at z) 0 ≡ slot_word (Retired r)
            → Found v (get_or s.words (slot_at z) 0) → ⊥
        late r low is (deeds.free e) = omega arith
        late r low is (deeds.taken e) = omega arith
        late r low is (deeds.open_at q e open_at) = let held = o.held h.0 h.2.0 h.1 h.2.1 h.2.2 in
            let high = quiet_holds k (state s.words s.views) o.sound id v q at open_at.0 open_at.1
            h.0 held.view held.epoch held.seen held.pin in
            omega arith

  not_reused : (t : World) (e : Event) (z : ℕ) → JoinedSteps s e t → IsReached s z → Reuses e.deed z → ⊥
  not_reused t e z (machine.at_table id i y v w a me m may) h reuses = let f = found v z i
      (get_or s.words i 0) y w m reuses in
      not_found id z v me.view h (subst (λ q. Found v (get_or s.words q 0)) f.0 f.1)
  not_reused t e z (machine.look id y c v a me has inside) h reuses = reuses
  not_reused t e z (machine.load_drafts id v a me) h reuses = reuses
  not_reused t e z (machine.load_head id v a me pin) h reuses = reuses
  not_reused t e z (machine.begin id v a me pin idle) h reuses = reuses
  not_reused t e z (machine.draw id contents v a me) h reuses = reuses
  not_reused t e z (machine.publish id old new change v a me may) h reuses = reuses
  not_reused t e z (machine.lose id old v a me now has ne) h reuses = reuses
  not_reused t e z (machine.give_up id v a me now) h reuses = reuses

  -- who retires has seen the epoch above what it loaded, and the epoch is 2 ^ 60 at most
  not_highest : (t : World) (e : Event) (v : View) → JoinedSteps s e t → get_elem? s.views e.seat ≡ some v
      → IsRetiring e.deed
      → v.loaded < 2 ^ 60
  not_highest t e v (machine.at_table id i y u w a me m may) at retires =
      let same : u ≡ v = some-injective u v (sym me.view ∙ at) in
      let past = raised u i (get_or s.words i 0) y w m retires in
      let b = o.sound.pins.behind id u me.view in let low = o.sound.pins.low in
      subst (λ (x : View). x.loaded < 2 ^ 60) same (omega arith)
  not_highest t e v (machine.look id y c u a me has inside) at retires = absurd retires
  not_highest t e v (machine.load_drafts id u a me) at retires = absurd retires
  not_highest t e v (machine.load_head id u a me pin) at retires = absurd retires
  not_highest t e v (machine.begin id u a me pin idle) at retires = absurd retires
  not_highest t e v (machine.draw id contents u a me) at retires = absurd retires
  not_highest t e v (machine.publish id old new change u a me may) at retires = absurd retires
  not_highest t e v (machine.lose id old u a me now has ne) at retires = absurd retires
  not_highest t e v (machine.give_up id u a me now) at retires = absurd retires

after : (k : Sizes) (s t : World) (es : List Event) → Opens k s → Runs s es t → Joint k t
after k s t es opens runs = runs_joint k s t es (opens_joint k s opens) runs

pub joined_law : JoinedLaw
joined_law k s t u es e z opens runs step = not_reused k t (after k s t es opens runs) u e z step

pub head_law : HeadLaw
head_law k s t es z opens runs = (after k s t es opens runs).head z

pub hold_law : JoinedHoldLaw
hold_law k s t es j z c opens runs has inside = let held = (after k s t es opens runs).held j has.0 c has.1 has.2 in
    (held.view, held.seen, (held.epoch, held.pin, (held.safe z inside).1))

pub highest_law : HighestLaw
highest_law k s t u es e v opens runs step at retires = not_highest k t
    (after k s t es opens runs) u e v step at retires
