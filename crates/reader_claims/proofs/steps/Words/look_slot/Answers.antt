use Rattle.std.proofs.Common.{rules, refl, arith, ap}
use Rattle.reader_claims.specs.Words.{slot_at}
use Rattle.reader_claims.specs.Views.{with_look}
use Rattle.reader_claims.proofs.Reaching.{looks_at}
use Rattle.reader_claims.proofs.Opens.{still_open}
use Rattle.reader_claims.proofs.Readers.{stays, went}
use Rattle.reader_claims.proofs.steps.Words.look_slot.Goals as goal

pub load-requires : goal.load-requires
load-requires c = (
  search rules,
  omega arith,
  looks_at _ _ _ _ c.args.slot _ c.place.ensures (search rules),
)

pub invariant_of-reader : goal.invariant_of-reader
invariant_of-reader c = let was = c.args.reader.now in
    let did = c.load.ensures.2 c.args.slot c.place.ensures in
    let t = stays was.seat.table_id _ was.seat.me c.load.new.seat.me was.number _ c.load.ensures.0 did.0.0 refl refl
    was.low was.own was.bare in record {
      own = t.own;
      bare = t.bare;
      low = t.low;
      opens = still_open was.seat.me c.load.new.seat.me _ was.bound did.0.0 refl refl (λ j x h. h) was.opens;
    }

pub returns-clause-table : goal.returns-clause-table
returns-clause-table c = let was = c.args.reader.now in
    let did = c.load.ensures.2 c.args.slot c.place.ensures in
    (stays was.seat.table_id _ was.seat.me c.load.new.seat.me was.number _ c.load.ensures.0 did.0.0 refl refl was.low
    was.own was.bare).table

pub returns-clause-view : goal.returns-clause-view
returns-clause-view c = ap (λ m. m.0) (c.load.ensures.2 c.args.slot c.place.ensures).0.0

pub returns-clause-own : goal.returns-clause-own
returns-clause-own c = (c.load.ensures.2 c.args.slot c.place.ensures).1

pub returns-clause-step : goal.returns-clause-step
returns-clause-step c = let was = c.args.reader.now in
    went was.seat.me c.load.new.seat.me c.place.result (slot_at c.args.slot) c.load.result c.load.result
    (with_look was.seat.me.0 c.args.slot c.load.result) c.place.ensures
    (c.load.ensures.2 c.args.slot c.place.ensures).0
