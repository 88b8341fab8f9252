use Rattle.std.proofs.Common.{rules, refl, arith, ap, subst}
use Rattle.reader_claims.specs.Words.{pin_at}
use Rattle.reader_claims.specs.Views.{with_pin}
use Rattle.reader_claims.specs.Machine.{Move}
use Rattle.reader_claims.specs.declared.words.Pin.TheVariants.{Stored}
use Rattle.reader_claims.proofs.Reaching.{stores_as}
use Rattle.reader_claims.proofs.Opens.{still_open}
use Rattle.reader_claims.proofs.Readers.{stays, went}
use Rattle.reader_claims.proofs.steps.Words.store_pin.Goals as goal

pub store-requires : goal.store-requires
store-requires c = (
  search rules,
  omega arith,
  stores_as _ _ _ _ _ _ c.args.epoch (omega arith) (omega arith) (omega arith) c.word.ensures,
)

pub invariant_of-reader : goal.invariant_of-reader
invariant_of-reader c = let was = c.args.reader.now in let did = c.store.ensures.2 c.args.epoch c.word.ensures in
    let t = stays was.seat.table_id _ was.seat.me c.store.new.seat.me was.number _ c.store.ensures.0 did.1.0 refl refl
    was.low was.own was.bare in record {
      own = t.own;
      bare = t.bare;
      low = t.low;
      opens = still_open was.seat.me c.store.new.seat.me _ was.bound did.1.0 refl refl (λ j x h. h) was.opens;
    }

pub returns-clause-table : goal.returns-clause-table
returns-clause-table c = let was = c.args.reader.now in let did = c.store.ensures.2 c.args.epoch c.word.ensures in
    (stays was.seat.table_id _ was.seat.me c.store.new.seat.me was.number _ c.store.ensures.0 did.1.0 refl refl was.low
    was.own was.bare).table

pub returns-clause-view : goal.returns-clause-view
returns-clause-view c = ap (λ m. m.0) (c.store.ensures.2 c.args.epoch c.word.ensures).1.0

pub returns-clause-step : goal.returns-clause-step
returns-clause-step c = let m = c.args.reader.now.seat.me in let n = c.store.new.seat.me in
    let did = c.store.ensures.2 c.args.epoch c.word.ensures in (
      did.0,
      subst (λ y. Move m.0 (pin_at m.0.number) did.0 y n.0) c.word.ensures
          (went m n c.place.result (pin_at m.0.number) did.0 c.word.result (with_pin m.0 (Stored c.args.epoch))
          (omega arith) did.1),
    )
