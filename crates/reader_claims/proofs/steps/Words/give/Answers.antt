use Rattle.std.proofs.Common.{rules, refl, arith, ap, sym, ◌∙◌}
use Rattle.reader_claims.specs.declared.words.SlotState.TheVariants.{Retired}
use Rattle.reader_claims.specs.Words.{slot_at, slot_word}
use Rattle.reader_claims.specs.Views.{IsOpen, with_given, with_note}
use Rattle.reader_claims.proofs.Reaching.{gives_at}
use Rattle.reader_claims.proofs.Opens.{still_open}
use Rattle.reader_claims.proofs.Readers.{Stays, stays, either_way, went, left_move}
use Rattle.reader_claims.proofs.steps.Words.give.Goals as goal

pub compare_exchange-requires : goal.compare_exchange-requires
compare_exchange-requires c = (
  search rules,
  omega arith,
  gives_at _ _ _ _ c.args.slot c.args.r _ _ c.place.ensures (search rules) c.requires.open_at c.word-retired.ensures,
)

pub invariant_of-reader : goal.invariant_of-reader
invariant_of-reader c = let was = c.args.reader.now in
    let did = c.compare_exchange.ensures.2.1 c.args.slot c.args.r c.place.ensures c.word-retired.ensures in
    let t = either_way c.compare_exchange.result c.word-retired.result
    (Stays was.seat.table_id c.compare_exchange.new.seat.table_id was.seat.me
    c.compare_exchange.new.seat.me was.number)
    (λ e. stays _ _ _ _ _ _ c.compare_exchange.ensures.0 (did.0 e).0 refl refl was.low was.own was.bare)
    (λ ne. stays _ _ _ _ _ _ c.compare_exchange.ensures.0 (did.1 ne).0 refl refl was.low was.own was.bare) in
    record {
      own = t.own;
      bare = t.bare;
      low = t.low;
      opens = λ r low high. either_way c.compare_exchange.result c.word-retired.result
          ∥ IsOpen c.compare_exchange.new.seat.me.0 r ∥₁
          (λ e. still_open was.seat.me c.compare_exchange.new.seat.me _ was.bound (did.0 e).0 refl refl
          (λ j x h. h) was.opens r low high)
          (λ ne. still_open was.seat.me c.compare_exchange.new.seat.me _ was.bound (did.1 ne).0 refl refl
          (λ j x h. h) was.opens r low high);
    }

pub returns-clause-table : goal.returns-clause-table
returns-clause-table c = let was = c.args.reader.now in
    let did = c.compare_exchange.ensures.2.1 c.args.slot c.args.r c.place.ensures c.word-retired.ensures in
    (either_way c.compare_exchange.result c.word-retired.result
    (Stays was.seat.table_id c.compare_exchange.new.seat.table_id was.seat.me
    c.compare_exchange.new.seat.me was.number)
    (λ e. stays _ _ _ _ _ _ c.compare_exchange.ensures.0 (did.0 e).0 refl refl was.low was.own was.bare)
    (λ ne. stays _ _ _ _ _ _ c.compare_exchange.ensures.0 (did.1 ne).0 refl refl was.low was.own was.bare)).table

pub returns-clause-won : goal.returns-clause-won
returns-clause-won c = λ e. ap (λ s. s.0)
    ((c.compare_exchange.ensures.2.1 c.args.slot c.args.r c.place.ensures c.word-retired.ensures).0
    (e ∙ sym c.word-retired.ensures)).0

pub returns-clause-lost : goal.returns-clause-lost
returns-clause-lost c = λ ne. ap (λ s. s.0)
    ((c.compare_exchange.ensures.2.1 c.args.slot c.args.r c.place.ensures c.word-retired.ensures).1
    (λ e. ne (e ∙ c.word-retired.ensures))).0
    ∙ ap (λ o. with_note c.args.reader.now.seat.me.0 c.args.slot o c.compare_exchange.result) c.word-retired.ensures

pub returns-clause-step : goal.returns-clause-step
returns-clause-step c = let m = c.args.reader.now.seat.me in let n = c.compare_exchange.new.seat.me in
    let x = c.compare_exchange.result in let slot = c.args.slot in
    let did = c.compare_exchange.ensures.2.1 slot c.args.r c.place.ensures c.word-retired.ensures in
    left_move x (slot_word (Retired c.args.r)) 0 (slot_at slot) m.0 n.0
    (λ e. went m n c.place.result (slot_at slot) x 0 (with_given m.0 slot c.args.r) c.place.ensures
    (did.0 (e ∙ sym c.word-retired.ensures)))
    (λ ne. went m n c.place.result (slot_at slot) x x (with_note m.0 slot c.word-retired.result x) c.place.ensures
    (did.1 (λ e. ne (e ∙ c.word-retired.ensures))))
