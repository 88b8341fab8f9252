use Rattle.std.proofs.Common.{IfSome, Some, sym, subst}
use Rattle.client_desk.specs.Closing.{IsBack}
use Rattle.client_desk.specs.Drafts.{HasLeftAsked}
use Rattle.client_desk.specs.Sitting.{asking_of}
use Rattle.client_desk.proofs.sitting.Sitting.close.Goals as goal

pub returns-in-Asking-clause-gave : goal.returns-in-Asking-clause-gave
returns-in-Asking-clause-gave g c =
    let means = g.M.Means.means in let a = c.in-Asking.asking in let seat = c.leave-in-Asking in
    let left : HasLeftAsked means a seat.result = record {
      client = c.abandon.result;
      gave = λ before began.
          let h = c.abandon.ensures.left before began in record { acts = h.0; last = h.1; own = h.2; frees = h.3 };
      gone = record { looked = seat.ensures.looked; mark = seat.ensures.mark; rests = seat.ensures.rests };
    } in
    subst (λ s. IfSome (asking_of s) (λ asking. IsBack (HasLeftAsked means asking) (Some seat.result)))
    (sym c.in-Asking.is) left
