use Rattle.std.proofs.Common.{sym, subst}
use Rattle.client_desk.specs.Told.{told}
use Rattle.client_desk.specs.Waiting.{MayAnswerWaiting}
use Rattle.client_desk.proofs.waiting.Place+Whole+M.tell_waiting.Goals as goal

pub returns-in-End : goal.returns-in-End
returns-in-End g c =
    subst (λ bytes. MayAnswerWaiting g.M.Means.means c.args.call c.args.self.now (told c.end_waiting.result bytes)
    c.end_waiting.new.self) (sym c.requires) (rw c.in-End.is c.end_waiting.ensures)
