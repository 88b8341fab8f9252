use Rattle.std.proofs.Common.{rules, refl, arith, ap, sym, ◌∙◌, subst}
use Rattle.reader_claims.specs.Words.{slot_at, slot_word}
use Rattle.reader_claims.specs.Views.{IsOpen, with_taken, with_note}
use Rattle.reader_claims.specs.Machine.{Move}
use Rattle.reader_claims.specs.declared.words.SlotState.TheVariants.{Taken}
use Rattle.reader_claims.proofs.Reaching.{takes_at}
use Rattle.reader_claims.proofs.Opens.{still_open}
use Rattle.reader_claims.proofs.Readers.{Stays, stays, either_way, went, left_move}
use Rattle.reader_claims.proofs.steps.Words.take.Goals as goal

pub compare_exchange-requires : goal.compare_exchange-requires
compare_exchange-requires c = (
  search rules,
  omega arith,
  takes_at _ _ _ _ c.args.slot _ _ c.place.ensures
      (let own = c.args.reader.now.own in let e = own.0 in let low = own.1 in omega arith) (search rules)
      (c.word-mine.ensures ∙ ap (λ j. slot_word (Taken j)) (sym c.args.reader.now.own.0)),
)

pub invariant_of-reader : goal.invariant_of-reader
invariant_of-reader c = let was = c.args.reader.now in
    let did = c.compare_exchange.ensures.2.2 c.args.slot c.place.ensures in
    let t = either_way c.compare_exchange.result 0
    (Stays was.seat.table_id c.compare_exchange.new.seat.table_id was.seat.me
    c.compare_exchange.new.seat.me was.number)
    (λ e. stays _ _ _ _ _ _ c.compare_exchange.ensures.0 (did.0 e).0.0 refl refl was.low was.own was.bare)
    (λ ne. stays _ _ _ _ _ _ c.compare_exchange.ensures.0 (did.1 ne).0.0 refl refl was.low was.own was.bare) in
    record {
      own = t.own;
      bare = t.bare;
      low = t.low;
      opens = λ r low high. either_way c.compare_exchange.result 0 ∥ IsOpen c.compare_exchange.new.seat.me.0 r ∥₁
          (λ e. still_open was.seat.me c.compare_exchange.new.seat.me _ was.bound (did.0 e).0.0 refl refl
          (λ j x h. h) was.opens r low high)
          (λ ne. still_open was.seat.me c.compare_exchange.new.seat.me _ was.bound (did.1 ne).0.0 refl refl
          (λ j x h. h) was.opens r low high);
    }

pub returns-clause-table : goal.returns-clause-table
returns-clause-table c = let was = c.args.reader.now in
    let did = c.compare_exchange.ensures.2.2 c.args.slot c.place.ensures in
    (either_way c.compare_exchange.result 0
    (Stays was.seat.table_id c.compare_exchange.new.seat.table_id was.seat.me
    c.compare_exchange.new.seat.me was.number)
    (λ e. stays _ _ _ _ _ _ c.compare_exchange.ensures.0 (did.0 e).0.0 refl refl was.low was.own was.bare)
    (λ ne. stays _ _ _ _ _ _ c.compare_exchange.ensures.0 (did.1 ne).0.0 refl refl was.low was.own was.bare)).table

pub returns-clause-won : goal.returns-clause-won
returns-clause-won c = λ e. ap (λ s. s.0) ((c.compare_exchange.ensures.2.2 c.args.slot c.place.ensures).0 e).0.0

pub returns-clause-fresh : goal.returns-clause-fresh
returns-clause-fresh c = λ e. ((c.compare_exchange.ensures.2.2 c.args.slot c.place.ensures).0 e).1

pub returns-clause-lost : goal.returns-clause-lost
returns-clause-lost c = λ ne. ap (λ s. s.0) ((c.compare_exchange.ensures.2.2 c.args.slot c.place.ensures).1 ne).0.0

pub returns-clause-own : goal.returns-clause-own
returns-clause-own c = λ ne. ((c.compare_exchange.ensures.2.2 c.args.slot c.place.ensures).1 ne).1

pub returns-clause-step : goal.returns-clause-step
returns-clause-step c = let m = c.args.reader.now.seat.me in let n = c.compare_exchange.new.seat.me in
    let x = c.compare_exchange.result in let slot = c.args.slot in
    let did = c.compare_exchange.ensures.2.2 slot c.place.ensures in
    left_move x 0 (slot_word (Taken m.0.number)) (slot_at slot) m.0 n.0
    (λ e. subst (λ y. Move m.0 (slot_at slot) x y n.0) c.compare_exchange.ensures.2.1
    (went m n c.place.result (slot_at slot) x c.word-mine.result (with_taken m.0 slot) c.place.ensures (did.0 e).0))
    (λ ne. went m n c.place.result (slot_at slot) x x (with_note m.0 slot 0 x) c.place.ensures (did.1 ne).0)
