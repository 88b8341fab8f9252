use Rattle.std.proofs.Common.{rules, refl, arith}
use Rattle.reader_claims.specs.Words.{pin_at}
use Rattle.reader_claims.specs.Views.{with_pin}
use Rattle.reader_claims.specs.declared.words.Pin.TheVariants.{Absent}
use Rattle.reader_claims.proofs.Reaching.{clears_as}
use Rattle.reader_claims.proofs.Opens.{still_open}
use Rattle.reader_claims.proofs.Readers.{stays, went}
use Rattle.reader_claims.proofs.steps.Words.clear_pin.Goals as goal

pub store-requires : goal.store-requires
store-requires c = (search rules, omega arith, clears_as _ _ _ _ _ (omega arith) (omega arith) (omega arith))

pub invariant_of-reader : goal.invariant_of-reader
invariant_of-reader c = let was = c.args.reader.now in let did = c.store.ensures.2 in
    let t = stays was.seat.table_id _ was.seat.me c.store.new.seat.me was.number _ c.store.ensures.0 did.1.0 refl refl
    was.low was.own was.bare in record {
      own = t.own;
      bare = t.bare;
      low = t.low;
      opens = still_open was.seat.me c.store.new.seat.me _ was.bound did.1.0 refl refl (λ j x h. h) was.opens;
    }

pub returns-clause-table : goal.returns-clause-table
returns-clause-table c = let was = c.args.reader.now in let did = c.store.ensures.2 in
    (stays was.seat.table_id _ was.seat.me c.store.new.seat.me was.number _ c.store.ensures.0 did.1.0 refl refl was.low
    was.own was.bare).table

pub returns-clause-step : goal.returns-clause-step
returns-clause-step c = let was = c.args.reader.now in let did = c.store.ensures.2 in (
  did.0,
  went was.seat.me c.store.new.seat.me c.place.result (pin_at was.seat.me.0.number) did.0 0
      (with_pin was.seat.me.0 Absent) (omega arith) did.1,
)
