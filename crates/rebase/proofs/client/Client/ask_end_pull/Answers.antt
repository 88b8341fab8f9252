use Rattle.std.proofs.Common.{Ok, ap, ◌∙◌}
use Rattle.rebase.specs.Running.{IsFirstAsked, IsUnwritten}
use Rattle.rebase.proofs.Running.{closed_told_as, pulled_told_as, tells_none, unread_told, unsupported_told}
use Rattle.rebase.proofs.client.Client.ask_end_pull.Goals as goal

pub returns-in-Ok-Ok-clause-told : goal.returns-in-Ok-Ok-clause-told
returns-in-Ok-Ok-clause-told g c =
    pulled_told_as g.M.Means.means g.S.Slots.reused c.args.tries c.args.self c.args.ticket.now.cookie c.in-Ok-Ok.pull
    c.args.body.now c.ask_pulled.result (c.in-Ok-Ok.ensures.read ∙ ap Ok c.in-Ok-Ok.field-0-is)
    c.ask_pulled.ensures.told

pub returns-in-Ok-StateNotFound-clause-told : goal.returns-in-Ok-StateNotFound-clause-told
returns-in-Ok-StateNotFound-clause-told g c =
    closed_told_as g.M.Means.means g.S.Slots.reused c.args.tries c.args.self c.args.ticket.now.cookie
    c.args.body.now _ c.ask.result (c.in-Ok-StateNotFound.ensures.read ∙ ap Ok c.in-Ok-StateNotFound.field-0-is)
    c.ask.ensures.told

pub returns-in-Ok-VersionNotSupported-clause-told : goal.returns-in-Ok-VersionNotSupported-clause-told
returns-in-Ok-VersionNotSupported-clause-told g c =
    unsupported_told g.M.Means.means g.S.Slots.reused c.args.tries c.args.self c.args.ticket.now.cookie
    c.args.body.now _ c.ask_unsupported.result (c.ask_unsupported.ensures.told c.args.ticket.now.cookie
    c.args.body.now (c.in-Ok-VersionNotSupported.ensures.read ∙ ap Ok c.in-Ok-VersionNotSupported.field-0-is))

pub returns-in-Err-clause-told : goal.returns-in-Err-clause-told
returns-in-Err-clause-told g c =
    unread_told g.M.Means.means g.S.Slots.reused c.args.tries c.args.self c.args.ticket.now.cookie
    c.args.body.now c.in-Err.e _ c.refuse_asked.result c.in-Err.ensures.legal c.in-Err.ensures.read
    c.refuse_asked.ensures.told

pub returns-in-Ok-VersionNotSupported-clause-first : goal.returns-in-Ok-VersionNotSupported-clause-first
returns-in-Ok-VersionNotSupported-clause-first g c = tells_none c.ask_unsupported.result (IsFirstAsked g.M.Has.has) _
    (c.ask_unsupported.ensures.told c.args.ticket.now.cookie c.args.body.now
    (c.in-Ok-VersionNotSupported.ensures.read ∙ ap Ok c.in-Ok-VersionNotSupported.field-0-is))

pub returns-in-Err-clause-first : goal.returns-in-Err-clause-first
returns-in-Err-clause-first g c =
    tells_none c.refuse_asked.result (IsFirstAsked g.M.Has.has) _ c.refuse_asked.ensures.told

pub returns-in-Ok-VersionNotSupported-clause-fresh : goal.returns-in-Ok-VersionNotSupported-clause-fresh
returns-in-Ok-VersionNotSupported-clause-fresh g c = tells_none c.ask_unsupported.result (IsUnwritten g.M.Has.has) _
    (c.ask_unsupported.ensures.told c.args.ticket.now.cookie c.args.body.now
    (c.in-Ok-VersionNotSupported.ensures.read ∙ ap Ok c.in-Ok-VersionNotSupported.field-0-is))

pub returns-in-Err-clause-fresh : goal.returns-in-Err-clause-fresh
returns-in-Err-clause-fresh g c = tells_none c.refuse_asked.result (IsUnwritten g.M.Has.has) _
    c.refuse_asked.ensures.told
