use Rattle.std.proofs.Common.{inl, refl}
use Rattle.client_desk.proofs.tickets.keep_ticket.Goals as goal

pub returns-in-Ok : goal.returns-in-Ok
returns-in-Ok c = inl (record {
  number = c.in-Ok.number;
  kept = record { body = c.new.result; cookie = c.args.ticket.cookie };
  cookie = refl;
  there = c.in-Ok.ensures.kept;
  told = refl;
})
