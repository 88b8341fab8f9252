use Rattle.std.proofs.Common.{rules, refl, arith, ap, sym, ◌∙◌, ◌+◌, subst}
use Rattle.reader_claims.specs.declared.words.SlotState.TheVariants.{Retired}
use Rattle.reader_claims.specs.Words.{slot_at, slot_word}
use Rattle.reader_claims.specs.Views.{IsOpen, with_retired, with_missed}
use Rattle.reader_claims.specs.Machine.{Move}
use Rattle.reader_claims.proofs.Reaching.{retires_at}
use Rattle.reader_claims.proofs.Opens.{still_open}
use Rattle.reader_claims.proofs.Readers.{Stays, stays, either_way, went, left_move, but_retired, but_missed}
use Rattle.reader_claims.specs.Passes.{IsButRetired}
use Rattle.reader_claims.proofs.steps.Words.retire.Goals as goal

pub compare_exchange-requires : goal.compare_exchange-requires
compare_exchange-requires c = (
  search rules,
  omega arith,
  retires_at _ _ _ _ c.args.slot c.args.r _ _ c.place.ensures (search rules) (search rules)
      (search rules) c.word-retired.ensures,
)

pub invariant_of-reader : goal.invariant_of-reader
invariant_of-reader c = let was = c.args.reader.now in
    let did = c.compare_exchange.ensures.2.3 c.args.slot c.place.ensures in
    let t = either_way c.compare_exchange.result 1
    (Stays was.seat.table_id c.compare_exchange.new.seat.table_id was.seat.me
    c.compare_exchange.new.seat.me was.number)
    (λ e. stays _ _ _ _ _ _ c.compare_exchange.ensures.0 (did.0 e).0 refl refl was.low was.own was.bare)
    (λ ne. stays _ _ _ _ _ _ c.compare_exchange.ensures.0 (did.1 ne).0 refl refl was.low was.own was.bare) in
    record {
      own = t.own;
      bare = t.bare;
      low = t.low;
      opens = λ r low high. either_way c.compare_exchange.result 1 ∥ IsOpen c.compare_exchange.new.seat.me.0 r ∥₁
          (λ e. still_open was.seat.me c.compare_exchange.new.seat.me _ was.bound (did.0 e).0 refl refl
          (λ j x h. h) was.opens r low high)
          (λ ne. still_open was.seat.me c.compare_exchange.new.seat.me _ was.bound (did.1 ne).0 refl refl
          (λ j x h. h) was.opens r low high);
    }

pub returns-clause-table : goal.returns-clause-table
returns-clause-table c = let was = c.args.reader.now in
    let did = c.compare_exchange.ensures.2.3 c.args.slot c.place.ensures in
    (either_way c.compare_exchange.result 1
    (Stays was.seat.table_id c.compare_exchange.new.seat.table_id was.seat.me
    c.compare_exchange.new.seat.me was.number)
    (λ e. stays _ _ _ _ _ _ c.compare_exchange.ensures.0 (did.0 e).0 refl refl was.low was.own was.bare)
    (λ ne. stays _ _ _ _ _ _ c.compare_exchange.ensures.0 (did.1 ne).0 refl refl was.low was.own was.bare)).table

pub returns-clause-won : goal.returns-clause-won
returns-clause-won c = λ e. ap (λ s. s.0) ((c.compare_exchange.ensures.2.3 c.args.slot c.place.ensures).0 e).0 ∙ ap
    (with_retired c.args.reader.now.seat.me.0 c.args.slot) (sym c.requires.raised.0)

pub returns-clause-lost : goal.returns-clause-lost
returns-clause-lost c = λ ne. ap (λ s. s.0) ((c.compare_exchange.ensures.2.3 c.args.slot c.place.ensures).1 ne).0

pub returns-clause-step : goal.returns-clause-step
returns-clause-step c = let m = c.args.reader.now.seat.me in let n = c.compare_exchange.new.seat.me in
    let x = c.compare_exchange.result in let slot = c.args.slot in
    let did = c.compare_exchange.ensures.2.3 slot c.place.ensures in
    left_move x 1 (slot_word (Retired c.args.r)) (slot_at slot) m.0 n.0
    (λ e. subst (λ y. Move m.0 (slot_at slot) x y n.0) c.word-retired.ensures
    (went m n c.place.result (slot_at slot) x c.word-retired.result
    (with_retired m.0 slot (m.0.loaded + 1)) c.place.ensures (did.0 e)))
    (λ ne. went m n c.place.result (slot_at slot) x x (with_missed m.0 slot x) c.place.ensures (did.1 ne))

pub returns-clause-kept : goal.returns-clause-kept
returns-clause-kept c = let m = c.args.reader.now.seat.me in let n = c.compare_exchange.new.seat.me in
    let x = c.compare_exchange.result in let slot = c.args.slot in
    let did = c.compare_exchange.ensures.2.3 slot c.place.ensures in
    either_way x 1 (IsButRetired m.0 n.0) (λ e. but_retired m.0 n.0 slot (m.0.loaded + 1) (ap (λ s. s.0) (did.0 e).0))
    (λ ne. but_missed m.0 n.0 slot x (ap (λ s. s.0) (did.1 ne).0))
