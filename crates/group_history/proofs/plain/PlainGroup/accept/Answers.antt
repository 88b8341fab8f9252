use Rattle.std.proofs.Common.{◌+◌, sym, ap, ◌∙◌, Ok}
use Rattle.group_history.specs.State.{State, last_id, view_of}
use Rattle.group_history.proofs.Replays.{shown_with}
use Rattle.group_history.proofs.IdLemmas.{after_mutate-IdsFollow}
use Rattle.group_history.proofs.plain.PlainGroup.accept.Goals as goal

-- The view that the run left is the replay of what is pending now.
pub returns-clause-done : goal.returns-clause-done
returns-clause-done g c =
    c.in_ok-view.ensures
    ∙ ap Ok (shown_with g.M.Means.means c.self.inside.pulled c.self.inside.pending.items c.push.new.self.items
    c.args.mutation (view_of g.M.Means.means c.args.self.now) c.in_ok-view.view
    c.in_ok-view.ensures c.in_ok-push.ensures.items (sym (ap (view_of g.M.Means.means) c.self.view_is)))

-- And the new id follows.
pub invariant_of-self-2 : goal.invariant_of-self-2
invariant_of-self-2 g c = record {
  replay =
      shown_with g.M.Means.means c.self.inside.pulled c.self.inside.pending.items c.push.new.self.items c.args.mutation
      (view_of g.M.Means.means c.args.self.now) c.in_ok-view.view
      c.in_ok-view.ensures c.in_ok-push.ensures.items (sym (ap (view_of g.M.Means.means) c.self.view_is));
  ids =
      rw c.in_ok-push.ensures.items (after_mutate-IdsFollow c.self.inside.confirmed c.self.inside.pending.items
      c.args.mutation c.self.invariant.ids
      (c.requires ∙ ap (λ (s : State). last_id s c.args.mutation.client + 1) (sym c.self.view_is)));
}
