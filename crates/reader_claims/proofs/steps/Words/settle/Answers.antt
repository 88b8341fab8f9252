use Rattle.std.proofs.Common.{rules, refl, arith, ap, sym, ◌∙◌, subst}
use Rattle.reader_claims.specs.Words.{slot_at, slot_word}
use Rattle.reader_claims.specs.Views.{with_settled}
use Rattle.reader_claims.specs.Machine.{Move}
use Rattle.reader_claims.specs.declared.words.SlotState.TheVariants.{Taken}
use Rattle.reader_claims.proofs.Reaching.{settles_at}
use Rattle.reader_claims.proofs.Opens.{still_open}
use Rattle.reader_claims.proofs.Readers.{stays, went}
use Rattle.reader_claims.proofs.steps.Words.settle.Goals as goal

pub compare_exchange-requires : goal.compare_exchange-requires
compare_exchange-requires c = (
  search rules,
  omega arith,
  settles_at _ _ _ _ c.args.slot _ _ c.place.ensures (search rules)
      (c.word-mine.ensures ∙ ap (λ j. slot_word (Taken j)) (sym c.args.reader.now.own.0)),
)

pub invariant_of-reader : goal.invariant_of-reader
invariant_of-reader c = let was = c.args.reader.now in
    let did = c.compare_exchange.ensures.2.3 c.args.slot c.place.ensures in
    let t = stays was.seat.table_id _ was.seat.me c.compare_exchange.new.seat.me was.number _
    c.compare_exchange.ensures.0 did.0 refl refl was.low was.own was.bare in
    record {
      own = t.own;
      bare = t.bare;
      low = t.low;
      opens = still_open was.seat.me c.compare_exchange.new.seat.me _ was.bound did.0 refl refl (λ j x h. h) was.opens;
    }

pub returns-clause-table : goal.returns-clause-table
returns-clause-table c = let was = c.args.reader.now in
    let did = c.compare_exchange.ensures.2.3 c.args.slot c.place.ensures in
    (stays was.seat.table_id _ was.seat.me c.compare_exchange.new.seat.me was.number _ c.compare_exchange.ensures.0
    did.0 refl refl was.low was.own was.bare).table

pub returns-clause-view : goal.returns-clause-view
returns-clause-view c = ap (λ m. m.0) (c.compare_exchange.ensures.2.3 c.args.slot c.place.ensures).0

pub returns-clause-step : goal.returns-clause-step
returns-clause-step c = let m = c.args.reader.now.seat.me in let n = c.compare_exchange.new.seat.me in
    let x = c.compare_exchange.result in
    subst (λ y. Move m.0 (slot_at c.args.slot) y 1 n.0)
    (c.compare_exchange.ensures.2.2 ∙ c.compare_exchange.ensures.2.0)
    (went m n c.place.result (slot_at c.args.slot) x 1 (with_settled m.0 c.args.slot) c.place.ensures
    (c.compare_exchange.ensures.2.3 c.args.slot c.place.ensures))
