use Rattle.std.proofs.Common.{Ok, Err, refl, ap}
use Rattle.client_desk.specs.Told.{told}
use Rattle.client_desk.specs.declared.outcomes.Outcome.TheVariants.{Refused}
use Rattle.client_desk.proofs.reading.tell_push_as_of.Goals as goal

pub returns-in-Ok : goal.returns-in-Ok
returns-in-Ok g c = (
  record { reply = Ok c.in-Ok.body.items; answer = c.in-Ok.ensures.body; refused = tt; told = refl },
  c.moment.ensures,
)

pub returns-in-Err : goal.returns-in-Err
returns-in-Err g c = (
  record {
    reply = Err c.in-Err.refusal;
    answer = tt;
    refused = c.in-Err.ensures.err;
    told = ap (told (Refused c.in-Err.refusal)) c.requires;
  },
  refl,
)
