-- The world that the machine opens with.
use Rattle.std.proofs.Common.{◌≡◌, ◌⊎◌, ℕ, ◌<◌, length, get_or, sym, ap, ◌∙◌, subst, inl, inr, ⊎_elim, arith}
use mathlib.Core.Option.{some}
use lib.ListN.{get_elem?}
use Rattle.group_history.specs.Refs.{stamp_of}
use Rattle.head_word.specs.Books.{next_stamp, last_move}
use Rattle.reader_claims.specs.declared.words.Pin.TheVariants.{Held}
use Rattle.reader_claims.specs.declared.words.SlotState.TheVariants.{Free, Live}
use Rattle.reader_claims.specs.declared.view.Sizes.{Sizes}
use Rattle.reader_claims.specs.declared.view.View.{View}
use Rattle.reader_claims.specs.Words.{pin_at, slot_at, pin_word, slot_word}
use Rattle.reader_claims.specs.Lists.{In}
use Rattle.reader_claims.proofs.Sound.{Sound}
use Rattle.reader_claims.proofs.Keeps.{below}
use Rattle.reader_claims.proofs.Reaching.{state}
use Rattle.reclamation_law.specs.Worlds.{Among, Work, no_work, World, slots_of, IsLateTry, IsDrawnIn}
use Rattle.reclamation_law.specs.Joined.{Opens}
use Rattle.reclamation_law.proofs.Joint.{Does, Joint}
use Rattle.reclamation_law.proofs.Rows.{in_or_not, copied}

module _ (k : Sizes) (s : World) (o : Opens k s) where
  -- a slot is live or free
  slot : (z : ℕ) → z < k.slots → (get_or s.words (slot_at z) 0 ≡ slot_word Live)
      ⊎ (get_or s.words (slot_at z) 0 ≡ slot_word Free)
  slot z room = ⊎_elim (λ (h : In s.reached z). inl (o.live z h).1)
      (λ (n : In s.reached z → ⊥). inr (o.free z room n)) (in_or_not s.reached z)

  epoch : get_or s.words 0 0 ≡ 0
  epoch = o.epoch_and_pins 0 (omega arith)

  opens_sound : Sound k (state s.words s.views)
  opens_sound = let sized = o.sized in record {
    pins = record {
      wide = o.long;
      sized = o.sized;
      few = let many = o.seats in omega arith;
      of = λ j v at. (o.views j v at).sizes;
      numbered = λ j v at. (o.views j v at).number;
      dealing = o.dealt;
      pinless = λ v at. (o.views 0 v at).pin;
      undealt = λ j far room. o.epoch_and_pins (pin_at j) (omega arith);
      low = let e = epoch in omega arith;
      pinned = λ j v at some_pin. let near = below s.views j v at in let many = o.seats in
          o.epoch_and_pins (pin_at j) (omega arith) ∙ ap pin_word (sym (o.views j v at).pin);
      behind = λ j v at. let idle = o.views j v at in let n = idle.loaded in let m = idle.reached in
          (omega arith, omega arith);
      held = λ j v e at pin. absurd (no_pin j v e at pin);
      learnt = λ j i v u x e at at' noted pin. absurd (no_pin i u e at' pin);
    };
    slots = record {
      taken = λ j i v at inside. absurd (subst (λ l. In l i) (o.views j v at).taken inside);
      taker = λ i j room is. ⊎_elim (λ (e : get_or s.words (slot_at i) 0 ≡ slot_word Live). absurd (omega arith))
          (λ (e : get_or s.words (slot_at i) 0 ≡ slot_word Free). absurd (omega arith)) (slot i room);
      retired = λ i r room is. ⊎_elim (λ (e : get_or s.words (slot_at i) 0 ≡ slot_word Live). absurd (omega arith))
          (λ (e : get_or s.words (slot_at i) 0 ≡ slot_word Free). absurd (omega arith)) (slot i room);
      floor = λ j v at. let f = (o.views j v at).floor in omega arith;
      floors = λ j i v u e at at' pin. absurd (no_pin i u e at' pin);
    };
  } where
    no_pin : (j : ℕ) (v : View) (e : ℕ) → get_elem? s.views j ≡ some v → v.pin ≡ Held e → ⊥
    no_pin j v e at pin = let absent = (o.views j v at).pin in cc

  -- no seat has anything under way
  pub at_rest : (P : Work → Type 0) → P no_work → (j : ℕ) (a : Work) → Does s j a → P a
  at_rest P h j a at = subst P (sym (copied (length s.views) no_work j a
      (ap (λ l. get_elem? l j) (sym o.works) ∙ at))) h

  pub opens_joint : Joint k s
  opens_joint = record {
    sound = opens_sound;
    head = o.live;
    held = λ j a c at h. absurd (at_rest (λ b. Among b.commits c → ⊥) (λ n. n) j a at h);
    slots = λ j a z at h. absurd (at_rest (λ b. In (slots_of b.try) z → ⊥) (λ n. n) j a at h);
    apart = λ i j a b z at at' h h'. absurd (at_rest (λ d. In (slots_of d.try) z → ⊥) (λ n. n) i a at h);
    late = λ i j a b v u c z e at sees l h at' sees' has inside pin. absurd
        (at_rest (λ d. IsLateTry d.try → ⊥) (λ n. n) i a at l);
    named = let at : stamp_of (last_move s.log) ≡ stamp_of o.at = ap (λ l. stamp_of (last_move l)) o.book in
        let two : next_stamp s.log ≡ 2 = ap next_stamp o.book in let one = o.stamp in omega arith;
    known = λ j a c at h. absurd (at_rest (λ b. Among b.commits c → ⊥) (λ n. n) j a at h);
    drawn = λ i a q at h. absurd (at_rest (λ b. IsDrawnIn b.try q → ⊥) (λ n. n) i a at h);
    unnamed = λ i j q a b c at h at' h'. absurd (at_rest (λ d. IsDrawnIn d.try q → ⊥) (λ n. n) i a at h);
    own = λ i j q a b at at' h h'. absurd (at_rest (λ d. IsDrawnIn d.try q → ⊥) (λ n. n) i a at h);
  }
