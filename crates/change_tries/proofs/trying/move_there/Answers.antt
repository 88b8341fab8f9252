use Rattle.std.proofs.Common.{◌≡◌, ◌<◌, ◌^◌, ℕ, None, Ok, Option, Some, ap, arith, sym, subst, ◌∙◌, rules}
use Rattle.std.specs.Prelude.{IfSome}
use Rattle.group_history.specs.declared.refs.Ref.{Ref}
use Rattle.group_history.specs.Record.{after, after_change}
use Rattle.group_history.specs.Refs.{stamp_of}
use Rattle.group_history.specs.Spelling.{Spells}
use Rattle.group_history.proofs.RecordLaws.{record_laws_hold}
use Rattle.head_word.specs.Books.{drawn, record_of}
use Rattle.linearized.specs.Trying.{IsBase, IsWon}
use Rattle.change_tries.specs.Proposing.{IsProposalFor}
use Rattle.reader_claims.specs.Seats.{kind_end}
use Rattle.change_tries.specs.Changing.{EndsAt, FreesMove}
use Rattle.change_tries.proofs.Giving.{drawn_grown, frees_as, lacks_room}
use Rattle.change_tries.proofs.Answering.{has_last}
use Rattle.change_tries.proofs.trying.move_there.Goals as goal

pub move_head-requires-clause-leads : goal.move_head-requires-clause-leads
move_head-requires-clause-leads g c κs within =
    let means = g.M.Means.means in let mark = c.args.seat.now.mark in let p = c.args.proposal in
    let change = c.args.request.now.call.change.now in let s = after (record_of c.args.arrival.now.seen.log) in
    let leads = c.requires.proposed.1 in
    record {
      log = c.args.arrival.now.seen.log;
      seen = c.requires.stands.since;
      stood = leads.begins ∙ c.requires.stands.stood;
      base = subst (λ (b : Ref). IsBase means mark b s) (sym leads.begins) c.requires.stands.spelled;
      leads = subst (λ (b : Ref). IsProposalFor means (drawn mark.log) b s change p) (sym leads.begins) leads;
    }

pub returns-in-Ok-Some-clause-tried : goal.returns-in-Ok-Some-clause-tried
returns-in-Ok-Some-clause-tried g c =
    let means = g.M.Means.means in let old = c.args.seat.now.mark in let new = c.move_head.new.seat.mark in
    let p = c.args.proposal in let change = c.args.request.now.call.change.now in
    let before = c.args.request.now.before in let log = c.args.arrival.now.seen.log in let s = after (record_of log) in
    let proposed = c.requires.proposed in
    let base = subst (λ (b : Ref). IsBase means old b s) (sym proposed.1.begins) c.requires.stands.spelled in
    let won = subst (λ o. IfSome o (λ (at : Ref). IsWon means old new change s
    × Spells means (drawn new.log) (stamp_of at) (after_change s change))) c.in-Ok-Some.field-0-is
    (c.in-Ok-Some.ensures.won s base) in
    let bits : c.in-Ok-Some.at.bits < 2 ^ 64 = search rules in
    let ids = (record_laws_hold means).ids_follow (record_of log) c.legal.ensures.opened.0.legal in (
      proposed.0,
      won.0,
      has_last means (drawn old.log) (drawn new.log) c.in-Ok-Some.at s before change bits ids c.requires.asks proposed.0
          won.1,
    )

pub returns-in-Ok-Some-clause-frees : goal.returns-in-Ok-Some-clause-frees
returns-in-Ok-Some-clause-frees g c r =
    let old = c.args.seat.now in let new = c.move_head.new.seat in let change = c.args.request.now.call.change.now in
    let sizes = c.args.group.now.shared.table.sizes in let s = after (record_of c.args.arrival.now.seen.log) in
    let may = λ (end : ℕ). end ≡ kind_end sizes c.args.proposal.kind in
    frees_as may (EndsAt sizes s change) 0 0 old new (Some change) (omega arith)
    (λ end is. is ∙ ap (kind_end sizes) c.requires.proposed.1.kind)
    (subst (λ (o : Option Ref). FreesMove may change old new (Ok o)) c.in-Ok-Some.field-0-is
    (c.in-Ok-Some.ensures.frees r))

pub returns-in-Ok-None-clause-frees : goal.returns-in-Ok-None-clause-frees
returns-in-Ok-None-clause-frees g c r =
    let old = c.args.seat.now in let new = c.move_head.new.seat in let change = c.args.request.now.call.change.now in
    let sizes = c.args.group.now.shared.table.sizes in let s = after (record_of c.args.arrival.now.seen.log) in
    let may = λ (end : ℕ). end ≡ kind_end sizes c.args.proposal.kind in
    frees_as may (EndsAt sizes s change) 1 1 old new None (omega arith)
    (λ end is. is ∙ ap (kind_end sizes) c.requires.proposed.1.kind)
    (subst (λ (o : Option Ref). FreesMove may change old new (Ok o)) c.in-Ok-None.field-0-is
    (c.in-Ok-None.ensures.frees r))

pub returns-in-Err-clause-frees : goal.returns-in-Err-clause-frees
returns-in-Err-clause-frees g c r =
    let old = c.args.seat.now in let new = c.move_head.new.seat in let change = c.args.request.now.call.change.now in
    let sizes = c.args.group.now.shared.table.sizes in let s = after (record_of c.args.arrival.now.seen.log) in
    frees_as (λ (end : ℕ). end ≡ kind_end sizes c.args.proposal.kind) (EndsAt sizes s change) 1 1 old new None
    (omega arith) (λ end is. is ∙ ap (kind_end sizes) c.requires.proposed.1.kind) (c.in-Err.ensures.frees r)

pub returns-in-Err-clause-cause : goal.returns-in-Err-clause-cause
returns-in-Err-clause-cause g c =
    let means = g.M.Means.means in let seat = c.args.seat.now in let new = c.move_head.new.seat in
    let change = c.args.request.now.call.change.now in let s = after (record_of c.args.arrival.now.seen.log) in
    let e = c.in-Err.ensures in let (asked, leads) = c.requires.proposed in
    record {
      asked = λ full. asked;
      room = λ r full. lacks_room means s change seat new c.args.group.now.shared.table c.args.proposal
          (drawn_grown seat.mark.log new.mark.log e.seat.later.seen) c.requires.reading.0.1 leads (e.full r full);
      past = e.past;
      busy = e.busy;
      stamps = e.late;
    }
