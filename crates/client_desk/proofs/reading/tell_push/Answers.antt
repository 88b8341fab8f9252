use Rattle.std.proofs.Common.{Ok, Err, refl, ap}
use Rattle.client_desk.specs.Told.{told}
use Rattle.client_desk.specs.declared.outcomes.Outcome.TheVariants.{Refused}
use Rattle.client_desk.proofs.reading.tell_push.Goals as goal

pub returns-in-Ok : goal.returns-in-Ok
returns-in-Ok g c = (
  record {
    reply = Ok c.in-Ok.body.items;
    answer = c.in-Ok.ensures.answer;
    at = c.in-Ok.ensures.now;
    refused = c.in-Ok.ensures.err;
    stays = c.in-Ok.ensures.stays;
    told = refl;
  },
  c.in-Ok.ensures.moment,
)

pub returns-in-Err : goal.returns-in-Err
returns-in-Err g c = (
  record {
    reply = Err c.in-Err.refusal;
    answer = c.in-Err.ensures.answer;
    at = tt;
    refused = c.in-Err.ensures.err;
    stays = c.in-Err.ensures.stays;
    told = ap (told (Refused c.in-Err.refusal)) c.requires;
  },
  refl,
)
