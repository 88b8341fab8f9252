use Rattle.std.proofs.Common.{Option, ◌∙◌, ap, sym, map, subst}
use Rattle.std.proofs.lemmas.List.{map-id, take_all}
use Rattle.std.proofs.lemmas.List.Elements.{All-push}
use Rattle.head_word.specs.Marks.{Known}
use Rattle.script_runner.specs.Sights.{CanLearnAll, IsSeenAt, sight_at}
use Rattle.script_runner.specs.Inside.Players.{player_of}
use Rattle.script_runner.proofs.Turns.{fused, mapped-more, seen_one}
use Rattle.script_runner.proofs.phase.sights_of.Goals as goal

pub loop-turn-preserved : goal.loop-turn-preserved
loop-turn-preserved g c =
    let l = c.loop-turn in
    record {
      seen = mapped-more (λ (s : Option Known). s) (λ t. sight_at t.client.place) l.sights.items
          c.push.new.self.items c.sight.result c.args.turns.now l.turn-index c.turn-item.result
          c.loop-turn-test.true c.turn-item.is l.invariant.seen c.in_ok-push.ensures.items c.sight.ensures.sight;
      there = λ group of.
          let home = ap (λ t. t.client.place.group) c.turn-item.is ∙ of l.turn-index c.turn-item.result
          c.loop-turn-test.true in
          subst (CanLearnAll group) (sym c.in_ok-push.ensures.items)
          (All-push (IsSeenAt group) l.sights.items c.sight.result (l.invariant.there group of)
          (seen_one c.sight.result group c.turn-item.result.client.place.group c.sight.ensures.book home));
    }

pub returns-clause-seen : goal.returns-clause-seen
returns-clause-seen g c =
    let l = c.loop-turn in
    sym (map-id l.sights.items) ∙ l.invariant.seen ∙ ap (map (λ t. sight_at t.client.place))
    (take_all l.turn-index c.args.turns.now c.loop-turn-test.false)
    ∙ sym (fused (λ p. sight_at p.place) (λ t. player_of t.client) c.args.turns.now)
