use Rattle.std.proofs.Common.{sym, subst}
use Rattle.rebase.specs.Clients.{ClientState}
use Rattle.rebase.specs.Inside.Shown.{under_way}
use Rattle.rebase.specs.Replies.{reply_seen}
use Rattle.rebase.specs.Running.{IsAsked, IsUnwritten}
use Rattle.change_tries.specs.Missing.{map_ok}
use Rattle.rebase.proofs.Running.{go_end, go_fresh, go_run, shown_run}
use Rattle.rebase.proofs.client.Client.go_on.Goals as goal

pub returns-in-Run-clause-told : goal.returns-in-Run-clause-told
returns-in-Run-clause-told g c before same last seat tells =
    let means = g.M.Means.means in let reused = g.S.Slots.reused in
    subst (λ (w : ClientState). IsAsked means reused c.args.tries before c.args.change
    (under_way w c.args.change c.in-Run.attempt c.args.tries)) (sym c.client.view_is)
    (go_run g.M.Has.has means reused c.args.tries before c.args.self c.args.change c.args.progress c.in-Run.attempt
    c.in-Run.is same
    last c.requires.progress tells)

pub returns-in-Run-clause-fresh : goal.returns-in-Run-clause-fresh
returns-in-Run-clause-fresh g c =
    subst (λ (w : ClientState). IsUnwritten g.M.Has.has (under_way w c.args.change c.in-Run.attempt c.args.tries))
    (sym c.client.view_is) (go_fresh g.M.Has.has g.M.Means.means g.S.Slots.reused c.args.tries c.args.self c.args.change
    c.args.progress c.in-Run.attempt c.in-Run.is c.requires.progress)

pub returns-in-Run-clause-shown : goal.returns-in-Run-clause-shown
returns-in-Run-clause-shown g c = shown_run _ c.args.self c.args.change c.args.tries c.args.progress c.in-Run.attempt
    c.in-Run.is c.client.view_is

pub returns-in-Ended-clause-told : goal.returns-in-Ended-clause-told
returns-in-Ended-clause-told g c before same last seat tells =
    let means = g.M.Means.means in let reused = g.S.Slots.reused in
    let e = c.end_change-reply.ensures in
    go_end g.M.Has.has means reused c.args.tries before c.args.self c.end_change-reply.new.self c.args.change
    c.args.progress
    c.in-Ended.made (map_ok reply_seen c.end_change-reply.result) c.in-Ended.is same last seat c.requires.progress tells
    e.reply e.last e.seat e.same
