use Rattle.std.proofs.Common.{rules, refl, ap, ◌∙◌}
use Rattle.group_history.specs.Map.{Bytes}
use Rattle.group_history.specs.Refs.{stamp_of}
use Rattle.head_word.specs.Books.{drawn}
use Rattle.commit_graph.specs.LastIds.{last_at}
use Rattle.rebase.specs.Clients.{ClientState}
use Rattle.rebase.proofs.client.Client.refresh.Goals as goal

pub returns-clause-answer : goal.returns-clause-answer
returns-clause-answer g c = search rules

pub returns-clause-last : goal.returns-clause-last
returns-clause-last g c = refl

pub invariant_of-self : goal.invariant_of-self
invariant_of-self g c =
    let k = c.self.invariant.0 in let e = c.in_ok-found.ensures in let at = stamp_of c.in_ok-found.found.at in (
      record {
        home = k.home;
        none = k.none;
        at = ap (λ (s : ClientState). last_at (drawn s.seat.mark.log) at s.id) c.self.view_is ∙ ap
            (λ (id : Bytes). last_at (drawn c.find.new.self.seat.mark.log) at id) e.stays.0.client.1 ∙ e.found;
        low = e.low;
        rooted = k.rooted;
      },
      c.self.invariant.1,
    )
