use Rattle.std.proofs.Common.{◌∙◌}
use Rattle.change_tries.specs.Missing.{map_ok}
use Rattle.client_desk.specs.declared.outcomes.Outcome.{Outcome}
use Rattle.client_desk.specs.Told.{told}
use Rattle.client_desk.proofs.Querying.{err_mapped, moment_mapped, ok_mapped}
use Rattle.client_desk.proofs.reading.tell_by_reading.Goals as goal

pub returns : goal.returns
returns g c =
    let reply = c.ask_reading-reply.result in
    let telling = λ (o : Outcome). told o c.ask_reading-reply.new.bytes.items in record {
      reply = map_ok telling reply;
      answer = ok_mapped telling _ reply c.ask_reading-reply.ensures.told;
      refused = err_mapped telling _ reply c.ask_reading-reply.ensures.refused;
      told = c.read_outcome.ensures;
      moment = c.ask_reading-reply.ensures.moment
          ∙ moment_mapped telling reply c.args.reader.now c.args.moment.now;
    }
