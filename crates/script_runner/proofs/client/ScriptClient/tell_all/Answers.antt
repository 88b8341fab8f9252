use Rattle.std.proofs.Common.{◌∙◌, subst, sym}
use Rattle.script_runner.specs.Sights.{CanLearnAll}
use Rattle.script_runner.specs.Inside.Players.{player_of}
use Rattle.script_runner.proofs.Turns.{line-more}
use Rattle.script_runner.proofs.client.ScriptClient.tell_all.Goals as goal

pub loop-line-preserved : goal.loop-line-preserved
loop-line-preserved g c =
    let l = c.loop-line in
    record {
      told = line-more g.M.Means.means c.args.sights.now (player_of c.args.self.now) (player_of l.self)
          (player_of c.tell.new.self) c.args.lines.now l.line-index c.line-item.result l.printed.items
          c.tell.new.printed.items c.loop-line-test.true c.line-item.is l.invariant.told c.in_ok-tell.ensures.told;
      group = c.tell.ensures.group ∙ l.invariant.group;
    }

pub tell-requires-clause-learn : goal.tell-requires-clause-learn
tell-requires-clause-learn g c b m =
    subst (λ at. CanLearnAll at c.args.sights.now) (sym c.loop-line.invariant.group) c.requires
