use Rattle.std.proofs.Common.{rules, arith, inl, subst, ap, ◌∙◌, sym, min, ◌-◌, ◌≤◌, ◌≡◌, ◌<◌, ℕ}
use Rattle.reader_claims.specs.Inside.Known.{view}
use Rattle.reader_claims.specs.declared.view.View.{View}
use Rattle.reader_claims.specs.declared.view.Sizes.{Sizes}
use Rattle.reader_claims.specs.Seats.{ClaimsId}
use Rattle.reader_claims.proofs.Pins.{OpenTo, more_open, more_closed, all_read}
use Rattle.reader_claims.specs.Machine as machine
use Rattle.reader_claims.proofs.Moving.{one_move, moves_moves}
use Rattle.reader_claims.proofs.steps.Words.open_below.Goals as goal

pub loop-other-preserved : goal.loop-other-preserved
loop-other-preserved c =
    let was : View = view c.loop-other.reader in let now : View = view c.load_pin.new.reader in
    let is = c.load_pin.ensures.view in let n = c.loop-other.other in
    let first : View = view c.load_epoch-least.new.reader in
    let k : was.sizes ≡ c.args.self.now.sizes = c.loop-other.invariant.sizes in
    let near : n < was.sizes.readers = subst (λ (s : Sizes). n < s.readers) (sym k) (search rules) in
    let old = c.loop-other.least in let new = c.lower-least.result in
    let low = subst (λ x. (x ≡ 0 → new ≡ old) × (0 < x → new ≡ min old (x - 1))) c.of_word.ensures.word
    (c.lower-least.ensures.absent, c.lower-least.ensures.there) in record {
      table = search rules;
      moves = moves_moves first was now c.loop-other.invariant.moves (one_move was now _ _ _ c.load_pin.ensures.step);
      kept = search rules;
      sizes = ap (λ (v : View). v.sizes) is ∙ k;
      open_at = more_open was now n c.load_pin.result old new is low c.loop-other.invariant.open_at;
      closed_at = more_closed was now n c.load_pin.result old new is near low c.loop-other.invariant.closed_at;
    }

pub returns-clause-open_at : goal.returns-clause-open_at
returns-clause-open_at c = let v : View = view c.loop-other.reader in
    let last : c.loop-other.other ≡ c.args.self.now.sizes.readers = omega arith in
    subst (λ n. (r : ℕ) → r ≤ c.loop-other.least → OpenTo n v r)
    (last ∙ sym (ap (λ (z : Sizes). z.readers) c.loop-other.invariant.sizes)) c.loop-other.invariant.open_at

pub returns-clause-read : goal.returns-clause-read
returns-clause-read c = let v : View = view c.loop-other.reader in
    let last : c.loop-other.other ≡ c.args.self.now.sizes.readers = omega arith in
    all_read v (subst (λ n. (r : ℕ) → r ≤ c.loop-other.least → OpenTo n v r)
    (last ∙ sym (ap (λ (z : Sizes). z.readers) c.loop-other.invariant.sizes)) c.loop-other.invariant.open_at
    0 (omega arith))

pub loop-other-init : goal.loop-other-init
loop-other-init c = let now : View = view c.load_epoch-least.new.reader in let is = c.load_epoch-least.ensures.view in
    let at : now.reached ≡ c.load_epoch-least.result = ap (λ (v : View). v.reached) is in record {
      table = search rules;
      moves = machine.still now;
      kept = search rules;
      sizes = ap (λ (v : View). v.sizes) is ∙ ap (λ (z : ClaimsId). z.sizes) c.requires;
      open_at = λ r le. (omega arith, λ j some_pin few. absurd (omega arith));
      closed_at = λ r lt. inl (omega arith);
    }

pub returns-clause-moves : goal.returns-clause-moves
returns-clause-moves c = let v : View = view c.args.reader.now in let u : View = view c.load_epoch-least.new.reader in
    let t : View = view c.loop-other.reader in
    moves_moves v u t (one_move v u _ _ _ c.load_epoch-least.ensures.step) c.loop-other.invariant.moves

pub invariant_of-reader : goal.invariant_of-reader
invariant_of-reader c = record {
  own = c.loop-other.reader.own;
  bare = c.loop-other.reader.bare;
  low = c.loop-other.reader.low;
  opens = λ r low high. let v : View = view c.loop-other.reader in
      let last : c.loop-other.other ≡ c.args.self.now.sizes.readers = omega arith in
      ∣ subst (λ n. (r : ℕ) → r ≤ c.loop-other.least → OpenTo n v r)
      (last ∙ sym (ap (λ (z : Sizes). z.readers) c.loop-other.invariant.sizes))
      c.loop-other.invariant.open_at r high ∣₁;
}
