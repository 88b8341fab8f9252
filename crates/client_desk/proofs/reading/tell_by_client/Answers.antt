use Rattle.std.proofs.Common.{◌∙◌}
use Rattle.change_tries.specs.Missing.{map_ok}
use Rattle.client_desk.specs.declared.outcomes.Outcome.{Outcome}
use Rattle.client_desk.specs.Told.{told}
use Rattle.client_desk.proofs.Querying.{err_mapped, moment_mapped, ok_mapped}
use Rattle.client_desk.proofs.reading.tell_by_client.Goals as goal

pub returns : goal.returns
returns g c =
    let reply = c.ask_client-reply.result in
    let telling = λ (o : Outcome). told o c.ask_client-reply.new.bytes.items in record {
      reply = map_ok telling reply;
      answer = c.ask_client-reply.ensures.answer;
      point = ok_mapped telling _ reply c.ask_client-reply.ensures.point;
      at = ok_mapped telling _ reply c.ask_client-reply.ensures.now;
      refused = err_mapped telling _ reply c.ask_client-reply.ensures.refused;
      stays = c.ask_client-reply.ensures.stays;
      told = c.read_outcome.ensures;
      moment = c.ask_client-reply.ensures.moment
          ∙ moment_mapped telling reply c.ask_client-reply.new.client c.args.moment.now;
    }
