use Rattle.std.proofs.Common.{◌≡◌, None, arith, subst}
use Rattle.std.specs.Prelude.{IfErr}
use Rattle.group_history.specs.declared.refusals.Refusal.{Refusal}
use Rattle.group_history.specs.declared.refusals.Refusal.TheVariants as refusal
use Rattle.group_history.specs.Record.{after}
use Rattle.head_word.specs.Books.{next_stamp, record_of}
use Rattle.map_chunks.specs.Drafts.{IsLate}
use Rattle.linearized.specs.Trying.{IsUnproposed}
use Rattle.change_tries.specs.Missing.{IsStop}
use Rattle.change_tries.specs.Proposing.{asked_reply, change_asked}
use Rattle.change_tries.proofs.Giving.{cause_unproposed, frees_as, gives_none}
use Rattle.change_tries.proofs.trying.make_there.Goals as goal

pub returns-in-Ok-None-clause-frees : goal.returns-in-Ok-None-clause-frees
returns-in-Ok-None-clause-frees g c r = gives_none _ c.args.seat.now

pub returns-in-Err-clause-frees : goal.returns-in-Err-clause-frees
returns-in-Err-clause-frees g c r = frees_as _ _ 0 1 c.args.seat.now c.args.seat.now None (omega arith) (λ end is. is)
    (gives_none _ c.args.seat.now)

pub returns-in-Err-clause-cause : goal.returns-in-Err-clause-cause
returns-in-Err-clause-cause g c =
    let means = g.M.Means.means in let seat = c.args.seat.now in let change = c.args.request.now.call.change.now in
    let last = c.args.request.now.before.id in let s = after (record_of c.args.arrival.now.seen.log) in
    cause_unproposed means g.S.Slots.reused s last change seat seat c.in-Err.e
    (subst (λ r. IfErr r (IsUnproposed (IsStop g.S.Slots.reused) (change_asked change)
    (asked_reply means s last change))) c.in-Err.is c.requires.unproposed)
    (subst (λ r. IfErr r (λ (e : Refusal). e ≡ refusal.Stamps → IsLate (next_stamp seat.mark.log))) c.in-Err.is
    c.requires.late)
