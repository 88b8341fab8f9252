use Rattle.std.proofs.Common.{rules, refl, arith}
use Rattle.reader_claims.proofs.Reaching.{loads_as}
use Rattle.reader_claims.proofs.Readers.{stays, went}
use Rattle.reader_claims.specs.Views.{with_epoch}
use Rattle.reader_claims.proofs.steps.Words.load_epoch.Goals as goal

pub load-requires : goal.load-requires
load-requires c = (search rules, search rules, loads_as _ _ _ _)

pub invariant_of-reader : goal.invariant_of-reader
invariant_of-reader c = let was = c.args.reader.now in let did = c.load.ensures.2 in
    let t = stays was.seat.table_id _ was.seat.me c.load.new.seat.me was.number _ c.load.ensures.0 did.0.0 refl refl
    did.2 was.own was.bare in record {
      own = t.own;
      bare = t.bare;
      low = t.low;
      opens = λ r low high. absurd (omega arith);
    }

pub returns-clause-table : goal.returns-clause-table
returns-clause-table c = let was = c.args.reader.now in let did = c.load.ensures.2 in
    (stays was.seat.table_id _ was.seat.me c.load.new.seat.me was.number _ c.load.ensures.0 did.0.0 refl refl did.2
    was.own was.bare).table

pub returns-clause-step : goal.returns-clause-step
returns-clause-step c = let was = c.args.reader.now in
    went was.seat.me c.load.new.seat.me 0 0 c.load.result c.load.result
    (with_epoch was.seat.me.0 c.load.result) refl c.load.ensures.2.0
