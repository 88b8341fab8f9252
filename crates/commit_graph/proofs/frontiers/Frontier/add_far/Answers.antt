use Rattle.std.proofs.Common.{◌≡◌, ℕ, inr, [], ◌∷◌, subst, ◌⊎◌}
use Rattle.std.specs.List.{Contains}
use Rattle.commit_graph.specs.Inside.Reach.{Adds, Walked, stamp_in}
use Rattle.commit_graph.proofs.Findings.{adds_one}
use Rattle.commit_graph.proofs.frontiers.Frontier.add_far.Goals as goal

pub returns-then-not-is_near : goal.returns-then-not-is_near
returns-then-not-is_near c =
    let before : Walked = record { ahead = c.self.inside.ahead; met = c.self.inside.met } in
    let after : Walked = record { ahead = c.put.new.self; met = c.note.new.self } in
    let noted : (x : ℕ) → Contains after.met x → (x ≡ stamp_in c.args.found) ⊎ Contains before.met x =
    subst (λ (k : ℕ). (x : ℕ) → Contains after.met x → (x ≡ k) ⊎ Contains before.met x) c.stamp_in-stamp.ensures
    c.note.ensures in
    subst (λ (w : Walked). Adds w (c.args.found ∷ []) after) c.self.view_is
    (adds_one before after c.args.found c.in_ok-put.ensures noted)

pub returns-else-not-is_near : goal.returns-else-not-is_near
returns-else-not-is_near c =
    let before : Walked = record { ahead = c.self.inside.ahead; met = c.self.inside.met } in
    let after : Walked = record { ahead = c.put.new.self; met = c.self.inside.met } in
    subst (λ (w : Walked). Adds w (c.args.found ∷ []) after) c.self.view_is
    (adds_one before after c.args.found c.in_ok-put.ensures (λ x h. inr h))
