use Rattle.std.proofs.Common.{inr, [], ◌∷◌, subst}
use Rattle.commit_graph.specs.Inside.Reach.{Adds, Walked}
use Rattle.commit_graph.proofs.Findings.{adds_one}
use Rattle.commit_graph.proofs.frontiers.Frontier.add_new.Goals as goal

pub returns-then-puts_near : goal.returns-then-puts_near
returns-then-puts_near c =
    let before : Walked = record { ahead = c.self.inside.ahead; met = c.self.inside.met } in
    let after : Walked = record { ahead = c.puts_near.new.self; met = c.self.inside.met } in
    subst (λ (w : Walked). Adds w (c.args.found ∷ []) after) c.self.view_is
    (adds_one before after c.args.found (c.puts_near.ensures.put c.if-puts_near.true) (λ x h. inr h))
