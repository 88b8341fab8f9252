use Rattle.std.proofs.Common.{◌≡◌, ℕ, true, false, None, Option, refl, rules, subst, ◌∙◌}
use Rattle.std.specs.Prelude.{IfErr}
use Rattle.group_history.specs.declared.changes.Change.{Change}
use Rattle.pull_patch.specs.Grammar.{answer_to}
use Rattle.linearized.specs.Changes.{change_read}
use Rattle.commit_graph.proofs.Seating.{seat-self, seat-trans}
use Rattle.change_tries.specs.Causes.{HasCause}
use Rattle.change_tries.specs.Leaving.{Frees, spared}
use Rattle.rebase.specs.Asking.{change_wanted, end_bytes_reply, is_passing}
use Rattle.rebase.proofs.Causing.{cause_anew, frees_anew, frees_loads, frees_self, if_err_then, looked_looked}
use Rattle.rebase.proofs.Causing.{looked_self}
use Rattle.rebase.proofs.Lasting.{begun_anew, left_alone, passing_changes, passing_read}
use Rattle.rebase.proofs.client.Client.end_pull.Goals as goal

pub returns-then-is_last-clause-answer : goal.returns-then-is_last-clause-answer
returns-then-is_last-clause-answer g c =
    let old = c.args.self.now.seat.mark in let mid = c.loop-turn.self.seat.mark in
    let new = c.try_end_pull-reply.new.self.seat.mark in
    let i = c.loop-turn.invariant in let reply = c.try_end_pull-reply.result in
    let ticket = c.args.ticket.now.cookie in
    let lasts : is_passing reply ≡ false = search rules in
    begun_anew g.M.Means.means 1000 0 old mid new reply (change_read ticket (answer_to c.args.body.now))
    (λ s. end_bytes_reply s ticket.text c.args.body.now) i.seat.later.seen i.seat.later.seat i.own lasts
    c.try_end_pull-reply.ensures.answer

pub loop-turn-preserved : goal.loop-turn-preserved
loop-turn-preserved g c =
    let old = c.args.self.now in let mid = c.loop-turn.self in let new = c.try_end_pull-reply.new.self in
    let i = c.loop-turn.invariant in let e = c.try_end_pull-reply.ensures in
    let ticket = c.args.ticket.now.cookie in
    let passes : is_passing c.try_end_pull-reply.result ≡ true = search rules in record {
      client = (e.acts.0.client.0 ∙ i.client.0, e.acts.0.client.1 ∙ i.client.1);
      last = e.acts.1 ∙ i.last;
      seat = seat-trans old.seat mid.seat new.seat i.seat e.acts.0.seat;
      own = left_alone g.M.Means.means 1000 mid.seat.mark new.seat.mark c.try_end_pull-reply.result
          (change_read ticket (answer_to c.args.body.now)) (λ s. end_bytes_reply s ticket.text c.args.body.now) passes
          (passing_read ticket (answer_to c.args.body.now)) e.answer ∙ i.own;
      gave = λ r. frees_anew (change_wanted ticket (answer_to c.args.body.now)) (spared c.try_end_pull-reply.result)
          old.seat mid.seat new.seat None i.seat e.acts.0.seat (i.gave r)
          (subst (λ (o : Option Change). Frees (change_wanted ticket (answer_to c.args.body.now))
          (spared c.try_end_pull-reply.result) mid.seat new.seat o)
          (passing_changes c.try_end_pull-reply.result (change_read ticket (answer_to c.args.body.now)) passes
          (passing_read ticket (answer_to c.args.body.now))) (e.frees r));
      looked = λ none. looked_looked g.S.Slots.reused old.seat mid.seat new.seat (i.looked none) (e.looked none);
    }

pub loop-turn-init : goal.loop-turn-init
loop-turn-init g c = let old = c.args.self.now in record {
  client = (refl, refl);
  last = refl;
  seat = seat-self old.seat;
  gave = λ r. frees_self (change_wanted c.args.ticket.now.cookie (answer_to c.args.body.now)) old.seat;
  own = refl;
  looked = λ none. looked_self g.S.Slots.reused old.seat;
}

pub returns-then-is_last-clause-cause : goal.returns-then-is_last-clause-cause
returns-then-is_last-clause-cause g c =
    let means = g.M.Means.means in let reused = g.S.Slots.reused in let old = c.args.self.now in
    let mid = c.loop-turn.self in let new = c.try_end_pull-reply.new.self in let i = c.loop-turn.invariant in
    let reply = c.try_end_pull-reply.result in
    let asked = change_wanted c.args.ticket.now.cookie (answer_to c.args.body.now) in
    let last = subst (λ (n : ℕ). IfErr reply (HasCause means reused n asked mid.seat new.seat)) i.last
    c.try_end_pull-reply.ensures.cause in
    if_err_then (HasCause means reused old.last asked mid.seat new.seat)
    (HasCause means reused old.last asked old.seat new.seat) reply last (λ e h.
    cause_anew means reused old.last asked old.seat mid.seat new.seat e i.seat.later.seen i.seat.table
    (λ r. frees_loads asked old.seat mid.seat (i.gave r)) h)

pub returns-then-is_last-clause-frees : goal.returns-then-is_last-clause-frees
returns-then-is_last-clause-frees g c r =
    let old = c.args.self.now in let mid = c.loop-turn.self in let new = c.try_end_pull-reply.new.self in
    let i = c.loop-turn.invariant in let reply = c.try_end_pull-reply.result in
    let change = change_read c.args.ticket.now.cookie (answer_to c.args.body.now) reply in
    frees_anew (change_wanted c.args.ticket.now.cookie (answer_to c.args.body.now)) (spared reply) old.seat mid.seat
    new.seat change i.seat c.try_end_pull-reply.ensures.acts.0.seat (i.gave r) (c.try_end_pull-reply.ensures.frees r)

pub returns-then-is_last-clause-looked : goal.returns-then-is_last-clause-looked
returns-then-is_last-clause-looked g c none =
    let old = c.args.self.now in let mid = c.loop-turn.self in let new = c.try_end_pull-reply.new.self in
    looked_looked g.S.Slots.reused old.seat mid.seat new.seat (c.loop-turn.invariant.looked none)
    (c.try_end_pull-reply.ensures.looked none)
