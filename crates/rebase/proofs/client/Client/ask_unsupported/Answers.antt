use Rattle.std.proofs.Common.{refl}
use Rattle.change_tries.specs.Missing.{map_ok}
use Rattle.rebase.specs.Replies.{ended, reply_seen}
use Rattle.rebase.specs.declared.calls.CallReply.TheVariants as reply
use Rattle.rebase.proofs.CallLemmas.{mapped}
use Rattle.rebase.proofs.Running.{unsupported_ends}
use Rattle.rebase.proofs.client.Client.ask_unsupported.Goals as goal

pub returns : goal.returns
returns g c =
    let e = c.end_unsupported.ensures in let r = c.end_unsupported.result in
    record {
      told = λ ticket body read. unsupported_ends g.M.Means.means g.S.Slots.reused c.args.tries c.args.self
          c.end_unsupported.new.self ticket body c.args.kind r (map_ok reply_seen c.map-reply.result) read
          (mapped reply.Ended ended r c.map-reply.result (λ w. refl) c.map-reply.ensures.cases) (e.answer ticket.text)
          e.stays e.cause;
    }
