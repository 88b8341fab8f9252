use Rattle.std.proofs.Common.{◌≡◌, rules, subst, IfOk}
use Rattle.group_history.specs.Cookies.{Cookie}
use Rattle.group_history.specs.State.{pulled_state}
use Rattle.change_drafts.specs.Chaining.{HasTip}
use Rattle.change_drafts.specs.declared.tips.Tip.{Tip}
use Rattle.map_chunks.specs.Places.{with_nodes}
use Rattle.change_drafts.proofs.pulls.add_answered.Goals as goal

pub returns-clause-tip : goal.returns-clause-tip
returns-clause-tip c known m behind h =
    let cookie : c.in_ok-cookie.cookie ≡ c.args.pull.now.cookie = search rules in
    subst (λ (w : Cookie). IfOk c.add_snapshot.result (λ (tip : Tip).
    HasTip (with_nodes known c.add_snapshot.new.draft.nodes) tip
    (record { state = pulled_state m w c.args.confirmed; read = m }))) cookie
    (c.add_snapshot.ensures.spelled known m behind h)
