use Rattle.std.proofs.Common.{rules, refl, arith, ap, max, ◌+◌}
use Rattle.reader_claims.specs.Views.{with_raise}
use Rattle.reader_claims.specs.Machine.{left_there}
use Rattle.reader_claims.proofs.Reaching.{raises_as}
use Rattle.reader_claims.proofs.Readers.{stays, went}
use Rattle.reader_claims.proofs.steps.Words.raise_epoch.Goals as goal

pub compare_exchange-requires : goal.compare_exchange-requires
compare_exchange-requires c = (
  search rules,
  search rules,
  raises_as _ _ _ _ _ (let own = c.args.reader.now.own in let e = own.0 in let some_reader = own.1 in omega arith)
      (search rules) (search rules),
)

pub invariant_of-reader : goal.invariant_of-reader
invariant_of-reader c = let was = c.args.reader.now in let did = c.compare_exchange.ensures.2.1 in
    let t = stays was.seat.table_id _ was.seat.me c.compare_exchange.new.seat.me was.number _
    c.compare_exchange.ensures.0 did.0 refl refl
    (omega (arith, c.compare_exchange.ensures.2.3, c.compare_exchange.ensures.2.2)) was.own was.bare in
    record {
      own = t.own;
      bare = t.bare;
      low = t.low;
      opens = λ r low high. absurd (omega arith);
    }

pub returns-clause-table : goal.returns-clause-table
returns-clause-table c = let was = c.args.reader.now in let did = c.compare_exchange.ensures.2.1 in
    (stays was.seat.table_id _ was.seat.me c.compare_exchange.new.seat.me was.number _ c.compare_exchange.ensures.0
    did.0 refl refl (omega (arith, c.compare_exchange.ensures.2.3, c.compare_exchange.ensures.2.2))
    was.own was.bare).table

pub returns-clause-view : goal.returns-clause-view
returns-clause-view c = ap (λ m. m.0) c.compare_exchange.ensures.2.1.0

pub returns-clause-step : goal.returns-clause-step
returns-clause-step c = let was = c.args.reader.now in let x = c.compare_exchange.result in
    went was.seat.me c.compare_exchange.new.seat.me 0 0 x (left_there c.args.n (c.args.n + 1) x)
    (with_raise was.seat.me.0 (max x (c.args.n + 1))) refl c.compare_exchange.ensures.2.1
