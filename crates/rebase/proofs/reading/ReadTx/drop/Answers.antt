use Rattle.std.proofs.Common.{◌≡◌, arith, ap, sym, subst, ◌∙◌}
use Rattle.head_word.specs.Marks.{own}
use Rattle.reader_claims.specs.declared.view.View.{View}
use Rattle.reader_claims.specs.declared.words.Pin.TheVariants.{Absent}
use Rattle.reader_claims.specs.Views.{with_pin}
use Rattle.commit_graph.specs.Seats.{IsCalm, IsLater, SeatState}
use Rattle.commit_graph.proofs.Seating.{later-self}
use Rattle.rebase.specs.Clients.{ClientState}
use Rattle.rebase.specs.Readers.{lent}
use Rattle.rebase.proofs.reading.ReadTx.drop.Goals as goal

-- a pin that is taken away is all that is done to slots
calm_without : (v u w : View) → w ≡ with_pin v Absent → v ≡ u → IsCalm u w
calm_without v u w is same = record {
  deeds = ap (λ (x : View). x.deeds) is ∙ ap (λ (x : View). x.deeds) same;
  taken = ap (λ (x : View). x.taken) is ∙ ap (λ (x : View). x.taken) same;
  loads = let e : w.epoch_loads ≡ u.epoch_loads = ap (λ (x : View). x.epoch_loads) is
      ∙ ap (λ (x : View). x.epoch_loads) same in omega arith;
  reached = let e : w.reached ≡ u.reached = ap (λ (x : View). x.reached) is ∙ ap (λ (x : View). x.reached) same in
      omega arith;
}

pub returns-clause-stays : goal.returns-clause-stays
returns-clause-stays g c =
    let old = (lent c.args.self).now in
    let v = c.client.view_is in let w = c.seat.view_is in let e = c.unpin.ensures in
    let kept = c.client.invariant.0 in let shares = c.deref-group.ensures in
    let mark : c.seat.inside.mark ≡ old.seat.mark = ap (λ (s : SeatState). s.mark) w ∙ ap
    (λ (s : ClientState). s.seat.mark) v in
    let here : g.S.Slots.view c.seat.inside.slots ≡ c.client.inside.seat.view = ap (λ (s : SeatState). s.view) w in (
      record {
        client = (ap (λ (s : ClientState). s.group) v, ap (λ (s : ClientState). s.id) v);
        looked = record {
          seat = record {
            table = e.seat ∙ ap (λ q. q.shared.table) c.group.view_is ∙ ap (λ q. q.shared.table) shares
                ∙ sym kept.home.1 ∙ ap (λ (s : ClientState). s.seat.table) v;
            later = subst (IsLater old.seat.mark) (sym mark) (later-self old.seat.mark);
          };
          own = ap own mark;
          calm = λ r. calm_without (g.S.Slots.view c.seat.inside.slots) old.seat.view (g.S.Slots.view c.unpin.new.seat)
              (e.view r) (here ∙ ap (λ (s : ClientState). s.seat.view) v);
        };
        rests = λ r. (
          ap (λ (x : View). x.pin) (e.view r),
          ap (λ (x : View). x.taken) (e.view r) ∙ ap (λ (x : View). x.taken) here ∙ kept.none r,
        );
      },
      ap (λ (s : ClientState). s.last) v,
    )
