use Rattle.std.proofs.Common.{Err, sym, ap}
use Rattle.group_history.specs.Scans.{rows_of}
use Rattle.client_desk.specs.declared.outcomes.Outcome.TheVariants.{Refused}
use Rattle.client_desk.specs.Told.{rows_told, told}
use Rattle.client_desk.proofs.Asking.{map_told}
use Rattle.client_desk.proofs.drafts.tell_drafted_rows.Goals as goal

pub returns-in-Ok : goal.returns-in-Ok
returns-in-Ok g c =
    map_told rows_told (rows_of c.args.scan.now) c.args.asking.now c.in-Ok.rows.items c.print_rows.result _
    c.args.bytes.now.items c.print_rows.new.out.items _ c.requires c.print_rows.ensures c.wrote.ensures.ok
    c.wrote.ensures.err (ap rows_told (sym c.deref.ensures.value)) c.in-Ok.ensures.rows

pub returns-in-Err : goal.returns-in-Err
returns-in-Err g c = record {
  reply = Err c.in-Err.refusal;
  answer = tt;
  refused = c.in-Err.ensures.err;
  told = ap (told (Refused c.in-Err.refusal)) c.requires;
}
