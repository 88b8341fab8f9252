use Rattle.std.proofs.Common.{arith, ap, length, map, sym, subst, ◌+◌, ◌∙◌}
use Rattle.std.proofs.lemmas.List.{length_push}
use Rattle.std.specs.Arc.{arc_value}
use Rattle.script_parser.specs.Scripts.{client_said}
use Rattle.script_runner.specs.Inside.Players.{AreNewIn, line_of}
use Rattle.script_runner.proofs.Openings.{new_more, none_new}
use Rattle.script_runner.proofs.Turns.{mapped-more}
use Rattle.script_runner.proofs.runner.open_clients.Goals as goal

pub loop-line-init : goal.loop-line-init
loop-line-init g c =
    let none = c.in_ok-turns.ensures.items in let count = length c.args.seats.free in
    let group = arc_value c.args.group.now in
    record {
      lines = ap (map line_of) none;
      count = ap length none;
      free = omega arith;
      seats = c.requires.seats;
      new = λ commit all. (
        subst (AreNewIn g.M.Means.means group count commit) (sym none) (none_new g.M.Means.means group count commit),
        all,
      );
    }

pub loop-line-preserved : goal.loop-line-preserved
loop-line-preserved g c =
    let l = c.loop-line in let made = c.in_ok-turn.ensures in let group = arc_value c.args.group.now in
    let count = length c.args.seats.free in
    record {
      lines = mapped-more line_of client_said l.turns.items
          c.push.new.self.items c.in_ok-turn.turn c.args.lines.now l.line-index c.line-item.result
          c.loop-line-test.true c.line-item.is l.invariant.lines c.in_ok-push.ensures.items made.name;
      count = ap length c.in_ok-push.ensures.items ∙ length_push l.turns.items c.in_ok-turn.turn
          ∙ ap (λ n. n + 1) l.invariant.count;
      free = omega (arith, l.invariant.free, made.left);
      seats = made.seats;
      new = λ commit all.
          let were = l.invariant.new commit all in
          let one = made.new count commit were.1 in (
            new_more g.M.Means.means group count commit l.turns.items c.in_ok-turn.turn c.push.new.self.items
                (length l.seats.free) c.in_ok-push.ensures.items
                (omega (arith, l.invariant.free, l.invariant.count)) were.0 one.0,
            one.1,
          );
    }

pub returns-clause-new : goal.returns-clause-new
returns-clause-new g c = λ commit all. (c.loop-line.invariant.new commit all).0
