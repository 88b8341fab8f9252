use Rattle.std.proofs.Common.{Ok, Err, refl, ap, ◌∙◌}
use Rattle.std.specs.Prelude.{is_some}
use Rattle.client_desk.proofs.drafts.tell_is_drafted.Goals as goal

pub returns-in-Ok : goal.returns-in-Ok
returns-in-Ok g c = record {
  reply = Ok c.is_some.result;
  answer = c.is_some.ensures ∙ ap is_some c.in-Ok.ensures.value;
  refused = tt;
  told = refl;
}

pub returns-in-Err : goal.returns-in-Err
returns-in-Err g c = record { reply = Err c.in-Err.refusal; answer = tt; refused = c.in-Err.ensures.err; told = refl }
