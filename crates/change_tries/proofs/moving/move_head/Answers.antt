use Rattle.std.proofs.Common.{◌≡◌, ◌<◌, ◌∷◌, ◌++◌, [], ℕ, arith, length, map, List, Some, Option, refl, sym, subst, ap}
use Rattle.std.proofs.Common.{◌∙◌, append-nil, append_assoc}
use Rattle.std.specs.List.{Contains}
use Rattle.std.proofs.lemmas.List.Elements.{All-nil}
use Rattle.std.proofs.lemmas.Result.{err_from_is_err_and}
use Rattle.group_history.specs.declared.refs.Ref.{Ref}
use Rattle.group_history.specs.Naming.{placed_ref}
use Rattle.group_history.specs.Record.{after, after_change}
use Rattle.group_history.specs.Refs.{slot_of, stamp_of}
use Rattle.group_history.specs.Spelling.{version_of, Spells}
use Rattle.group_history.specs.State.{State}
use Rattle.group_history.proofs.Lists.{prefix_trans}
use Rattle.head_word.specs.declared.entry.Entry.{Entry}
use Rattle.head_word.specs.Books.{drafted as drafted_by, drawn, moved, record_of}
use Rattle.head_word.specs.Marks.{own}
use Rattle.head_word.proofs.BookLaws.{spelled-stays}
use Rattle.reader_claims.specs.declared.slot.Kind.{Kind}
use Rattle.reader_claims.specs.Seats.{ClaimsId, kind_end}
use Rattle.reader_claims.specs.Deeds.{Deed}
use Rattle.linearized.specs.declared.trying.Published.{Published}
use Rattle.linearized.specs.Trying.{Ends, added}
use Rattle.linearized.proofs.Losing.{point_since}
use Rattle.commit_publishing.proofs.Reaching.{placed-reached}
use Rattle.commit_graph.specs.Reach.{Reaches}
use Rattle.commit_graph.proofs.Reached.{reaches_stays}
use Rattle.commit_publishing.proofs.Carrying.{placed_among, placed-later, placed-spelled}
use Rattle.commit_publishing.specs.Placed.{LieBelow}
use Rattle.commit_publishing.specs.Retiring.{AreFreed, GivenUp, GivesOneUp, draft_deeds}
use Rattle.change_tries.specs.Changing.{FreesMove}
use Rattle.change_tries.specs.Leaving.{FreesWhatIsLeft}
use Rattle.change_tries.proofs.Drafting.{one_state}
use Rattle.change_tries.proofs.Giving.{are_left_grown, drawn_grown, gives_lost, gives_up, move_since}
use Rattle.change_tries.proofs.moving.move_head.Goals as goal

pub exchange-requires-clause-among : goal.exchange-requires-clause-among
exchange-requires-clause-among g c κs within =
    let means = g.M.Means.means in let m = c.requires.leads in let st = after (record_of m.log) in
    let p = c.args.proposal in
    let old = c.args.seat.now.mark.log in let mid = c.place_draft.new.seat.mark.log in
    let refs = c.in_ok-refs.refs.items in let new = c.place_of-new.result in
    let placed : new ≡ placed_ref p.draft.first refs p.at =
    c.place_of-new.ensures ∙ ap (λ n. placed_ref n c.deref.result.now p.at) c.first-from.ensures ∙ ap
    (λ rs. placed_ref p.draft.first rs p.at) c.deref.ensures.value in
    let among = placed_among (drawn old) (drawn mid) p.draft refs c.in_ok-refs.ensures.placed m.leads.contents
    m.leads.first p.at
    (version_of means (after_change st c.args.change.now)) m.leads.then m.leads.new in
    subst (λ (ats : List Ref). Contains ats new) (sym c.deref-2.ensures.value)
    (subst (Contains refs) (sym placed) among)

pub exchange-requires-clause-follows : goal.exchange-requires-clause-follows
exchange-requires-clause-follows g c κs within =
    let means = g.M.Means.means in let m = c.requires.leads in let st = after (record_of m.log) in
    let p = c.args.proposal in
    let change = c.args.change.now in
    let old = c.args.seat.now.mark.log in let new = c.place_draft.new.seat.mark.log in
    let refs = c.in_ok-refs.refs.items in
    let placed : c.place_of-new.result ≡ placed_ref p.draft.first refs p.at =
    c.place_of-new.ensures ∙ ap (λ n. placed_ref n c.deref.result.now p.at) c.first-from.ensures ∙ ap
    (λ rs. placed_ref p.draft.first rs p.at) c.deref.ensures.value in
    let spelled = placed-spelled (drawn old)
    (drawn new) p.draft refs c.in_ok-refs.ensures.placed m.leads.contents m.leads.drawn m.leads.first p.at
    (version_of means (after_change st change)) m.leads.then in
    let later = placed-later (drawn old) (drawn new) p.draft refs c.in_ok-refs.ensures.placed m.leads.contents
    m.leads.first p.at (version_of means (after_change st change)) m.leads.then m.leads.new p.base
    (version_of means st) m.base in
    record {
      state = st;
      later = subst (λ (r : Ref). stamp_of p.base < stamp_of r) (sym placed) later;
      before = spelled-stays old new c.place_draft.ensures.seat.later.seen (stamp_of c.args.proposal.base)
          (version_of means st) m.base;
      accepted = m.leads.accepted;
      then = subst (λ (r : Ref). Spells means (drawn new) (stamp_of r) (after_change st change)) (sym placed) spelled;
    }

pub returns-in-Ok-Won-clause-won : goal.returns-in-Ok-Won-clause-won
returns-in-Ok-Won-clause-won g c s is =
    let means = g.M.Means.means in let m = c.requires.leads in let st = after (record_of m.log) in
    let p = c.args.proposal in
    let change = c.args.change.now in
    let old = c.args.seat.now.mark in let mid = c.place_draft.new.seat.mark in let new = c.exchange.new.seat.mark in
    let refs = c.in_ok-refs.refs.items in
    let placed : c.place_of-new.result ≡ placed_ref p.draft.first refs p.at =
    c.place_of-new.ensures ∙ ap (λ n. placed_ref n c.deref.result.now p.at) c.first-from.ensures ∙ ap
    (λ rs. placed_ref p.draft.first rs p.at) c.deref.ensures.value in
    let spelled = placed-spelled (drawn old.log)
    (drawn mid.log) p.draft refs c.in_ok-refs.ensures.placed m.leads.contents m.leads.drawn m.leads.first p.at
    (version_of means (after_change st change)) m.leads.then in
    let there = subst (λ (r : Ref). Spells means (drawn mid.log) (stamp_of r) (after_change st change))
    (sym placed) spelled in
    let later = spelled-stays mid.log new.log c.exchange.ensures.seat.later.seen (stamp_of c.place_of-new.result)
    (version_of means (after_change st change)) there in
    let same = one_state means (drawn old.log) (stamp_of c.args.proposal.base) st s m.base is in
    let base = spelled-stays old.log mid.log c.place_draft.ensures.seat.later.seen (stamp_of c.args.proposal.base)
    (version_of means s) is in
    let ends = subst (Ends means mid new c.args.proposal.base change) c.in-Ok-Won.field-0-is c.in-Ok-Won.ensures.ends in
    let won = ends s base in (
      (
        won.0,
        point_since means old mid new (Some change) won.0 c.place_draft.ensures.seat.later.seen
            c.place_draft.ensures.seat.later.seat
            c.place_draft.ensures.own won.1,
        won.2,
      ),
      subst (λ (t : State). Spells means (drawn new.log) (stamp_of c.place_of-new.result)
          (after_change t change)) same later,
    )

pub returns-in_err-refs-clause-frees : goal.returns-in_err-refs-clause-frees
returns-in_err-refs-clause-frees g c r =
    let old = c.args.seat.now in let mid = c.place_draft.new.seat in
    let may = λ (end : ℕ). end ≡ kind_end c.args.shared.now.table.sizes c.args.proposal.kind in
    let p = err_from_is_err_and c.from_residual.result c.from_residual.ensures.1 in
    let e = c.place_draft.ensures in
    subst (FreesMove may c.args.change.now old mid) (sym p.1)
    (gives_up may _ (length c.args.proposal.draft.nodes) old mid refl (e.loads r) (e.reached r)
    (subst (λ (t : ClaimsId). GivesOneUp t.sizes.slots (kind_end c.args.shared.now.table.sizes c.args.proposal.kind)
    (length c.args.proposal.draft.nodes) old.view.deeds old mid) (sym c.requires.reading.0.1)
    (c.in_err-refs.ensures.given r)))

pub returns-in-Ok-Lost-clause-frees : goal.returns-in-Ok-Lost-clause-frees
returns-in-Ok-Lost-clause-frees g c r =
    let sizes = c.args.shared.now.table.sizes in let old = c.args.seat.now in
    let mid = c.place_draft.new.seat in let new = c.exchange.new.seat in let refs = c.in_ok-refs.refs.items in
    let what = subst (FreesWhatIsLeft sizes.slots (drawn mid.mark.log) c.args.proposal.base c.place_of-new.result
    c.args.change.now c.deref-2.result.now mid.view new.view) c.in-Ok-Lost.field-0-is (c.in-Ok-Lost.ensures.freed r) in
    let first = c.place_draft.ensures in let then = c.exchange.ensures in
    let same : own new.mark ≡ own mid.mark = subst (λ (p : Published). own new.mark ≡ own mid.mark
    ++ added mid.mark.seat c.place_of-new.result c.args.change.now p) c.in-Ok-Lost.field-0-is c.in-Ok-Lost.ensures.own
    ∙ append-nil (own mid.mark) in
    gives_lost (λ (end : ℕ). end ≡ kind_end sizes c.args.proposal.kind) _ old mid new refs refl
    (c.in_ok-refs.ensures.within r) c.in_ok-refs.ensures.drawn same
    (let x = first.loads r in let y = then.loads r in omega arith)
    (let x = first.reached r in let y = then.reached r in omega arith) (c.in_ok-refs.ensures.drafted r)
    (subst (λ (t : ClaimsId). AreFreed t.sizes.slots new.view.reached (map slot_of refs) mid.view.deeds new.view.deeds)
    (sym c.requires.reading.0.1)
    (subst (λ (ats : List Ref). AreFreed sizes.slots new.view.reached (map slot_of ats) mid.view.deeds new.view.deeds)
    c.deref-2.ensures.value what.2))

pub returns-clause-frees : goal.returns-clause-frees
returns-clause-frees g c r =
    let sizes = c.args.shared.now.table.sizes in let old = c.args.seat.now in
    let mid = c.place_draft.new.seat in let new = c.exchange.new.seat in let refs = c.in_ok-refs.refs.items in
    let first = c.place_draft.ensures in let then = c.exchange.ensures in
    gives_lost (λ (end : ℕ). end ≡ kind_end sizes c.args.proposal.kind) _ old mid new refs refl
    (c.in_ok-refs.ensures.within r) c.in_ok-refs.ensures.drawn (ap own c.in-Err.ensures.err.1)
    (let x = first.loads r in let y = then.loads r in omega arith)
    (let x = first.reached r in let y = then.reached r in omega arith) (c.in_ok-refs.ensures.drafted r)
    (subst (λ (t : ClaimsId). AreFreed t.sizes.slots new.view.reached (map slot_of refs) mid.view.deeds new.view.deeds)
    (sym c.requires.reading.0.1)
    (subst (λ (ats : List Ref). AreFreed sizes.slots new.view.reached (map slot_of ats) mid.view.deeds new.view.deeds)
    c.deref-2.ensures.value (c.in-Err.ensures.given r)))

pub returns-in-Ok-Won-clause-frees : goal.returns-in-Ok-Won-clause-frees
returns-in-Ok-Won-clause-frees g c r =
    let means = g.M.Means.means in let m = c.requires.leads in let st = after (record_of m.log) in
    let p = c.args.proposal in
    let slots = c.args.shared.now.table.sizes.slots in let change = c.args.change.now in
    let to = c.place_of-new.result in
    let old = c.args.seat.now in let mid = c.place_draft.new.seat in let new = c.exchange.new.seat in
    let refs = c.in_ok-refs.refs.items in
    let placed : to ≡ placed_ref p.draft.first refs p.at =
    c.place_of-new.ensures ∙ ap (λ n. placed_ref n c.deref.result.now p.at) c.first-from.ensures ∙ ap
    (λ rs. placed_ref p.draft.first rs p.at) c.deref.ensures.value in
    let spelled = placed-spelled (drawn old.mark.log)
    (drawn mid.mark.log) p.draft refs c.in_ok-refs.ensures.placed m.leads.contents m.leads.drawn m.leads.first p.at
    (version_of means (after_change st change)) m.leads.then in
    let there = subst (λ (at : Ref). Spells means (drawn mid.mark.log) (stamp_of at) (after_change st change))
    (sym placed) spelled in
    let base = spelled-stays old.mark.log mid.mark.log c.place_draft.ensures.seat.later.seen (stamp_of p.base)
    (version_of means st) m.base in
    let what = subst (FreesWhatIsLeft slots (drawn mid.mark.log) p.base to change c.deref-2.result.now mid.view
    new.view)
    c.in-Ok-Won.field-0-is (c.in-Ok-Won.ensures.freed r) in
    let d = c.in_ok-refs.ensures.drawn in
    let first = c.place_draft.ensures in let then = c.exchange.ensures in
    let later = c.place_draft.ensures.seat.later in
    let among = placed_among (drawn old.mark.log) (drawn mid.mark.log) p.draft refs c.in_ok-refs.ensures.placed
    m.leads.contents m.leads.first p.at (version_of means (after_change st change)) m.leads.then m.leads.new in
    let all = subst (λ (t : ClaimsId). LieBelow (kind_end t.sizes p.kind) refs) (sym c.requires.reading.0.1)
    (c.in_ok-refs.ensures.within r) in
    let low = subst (λ (k : Kind). LieBelow (kind_end old.table.sizes k) refs) m.leads.kind all in
    record {
      base = p.base;
      to = to;
      goes = move_since old.mark mid.mark new.mark p.base to change later.seen later.seat
          (c.in-Ok-Won.ensures.goes c.in-Ok-Won.field-0-is);
      log = m.log;
      seen = prefix_trans m.log old.mark.log new.mark.log m.seen
          (prefix_trans old.mark.log mid.mark.log new.mark.log later.seen c.exchange.ensures.seat.later.seen);
      stood = m.stood;
      left = what.0;
      are = are_left_grown (drawn mid.mark.log) (drawn new.mark.log) p.base to (version_of means st)
          (version_of means (after_change st change)) change what.0
          (drawn_grown mid.mark.log new.mark.log c.exchange.ensures.seat.later.seen) base there what.1;
      refs = refs;
      first = d.first;
      contents = d.contents;
      stamps = d.stamps;
      each = d.count;
      within = low;
      among = subst (Contains refs) (sym placed) among;
      needed = λ at i. reaches_stays (drawn mid.mark.log) (drawn new.mark.log) (stamp_of to) (stamp_of at)
          (drawn_grown mid.mark.log new.mark.log then.seat.later.seen)
          (subst (λ (r : Ref). Reaches (drawn mid.mark.log) (stamp_of r) (stamp_of at)) (sym placed)
          (placed-reached (drawn old.mark.log) (drawn mid.mark.log) p.draft refs c.in_ok-refs.ensures.placed p.at
          m.leads.needed at i));
      given = [];
      few = omega arith;
      lost = old.view.deeds;
      back = record {
        ends = All-nil (λ (g : GivenUp). g.end ≡ kind_end c.args.shared.now.table.sizes p.kind);
        gave = refl;
        loads = let x = first.loads r in let y = then.loads r in omega arith;
        reached = let x = first.reached r in let y = then.reached r in omega arith;
      };
      own = subst (λ (p : Published). own new.mark ≡ own mid.mark ++ added mid.mark.seat to change p)
          c.in-Ok-Won.field-0-is c.in-Ok-Won.ensures.own
          ∙ ap (λ (s : Option ℕ). own mid.mark ++ moved s to change ∷ []) later.seat
          ∙ ap (λ (es : List Entry). es ++ moved old.mark.seat to change ∷ []) d.own
          ∙ append_assoc (own old.mark) (drafted_by old.mark.seat d.first d.contents ∷ [])
          (moved old.mark.seat to change ∷ []);
      freed = subst (λ (t : ClaimsId). AreFreed t.sizes.slots new.view.reached (map slot_of what.0)
          (draft_deeds (map slot_of refs) [] old.view.deeds) new.view.deeds) (sym c.requires.reading.0.1)
          (subst (λ (xs : List Deed). AreFreed slots new.view.reached (map slot_of what.0) xs new.view.deeds)
          (c.in_ok-refs.ensures.drafted r) what.2);
    }
