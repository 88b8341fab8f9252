use Rattle.std.proofs.Common.{sym, ◌∙◌}
use Rattle.std.specs.Vec.Iter.{into_iter_items}
use Rattle.test_threads.proofs.Numbering.{borne_more, borne_all}
use Rattle.test_threads.proofs.tests.gated.number_all.Goals as goal

pub loop-seat-preserved : goal.loop-seat-preserved
loop-seat-preserved g c = record {
  can = tt;
  finite = tt;
  whole = borne_more (λ numbered. numbered.seat) c.args.seats.items _ _ c.loop-seat.all.items c.push.new.self.items _
      c.loop-seat.invariant.whole c.in-Some.ensures.steps.0 c.in_ok-push.ensures.items;
}

pub returns : goal.returns
returns g c =
    let left = c.loop-seat.seat-iterator in
    borne_all (λ numbered. numbered.seat) c.args.seats.items (into_iter_items left) c.loop-seat.all.items
    c.loop-seat.invariant.whole (sym left.rest.ok.0 ∙ c.in-None.ensures.steps.0)
