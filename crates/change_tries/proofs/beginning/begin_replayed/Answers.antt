use Rattle.std.proofs.Common.{◌≡◌, refl, sym, ap, ◌∙◌}
use Rattle.group_history.specs.Map.{patched}
use Rattle.group_history.specs.Pulling.{after_pull}
use Rattle.group_history.specs.Spelling.{Version, version_of}
use Rattle.group_history.specs.State.{State, pulled_state}
use Rattle.head_word.specs.Books.{drawn}
use Rattle.change_drafts.specs.Pending.{with_more}
use Rattle.change_drafts.proofs.ReplayLemmas.{tip-same}
use Rattle.change_drafts.proofs.StateLemmas.{pull_parts}
use Rattle.change_tries.specs.Places.{state_at}
use Rattle.change_tries.specs.Runs.{with_draft}
use Rattle.change_tries.proofs.Running.{ended_open, first_of_left}
use Rattle.change_tries.proofs.beginning.begin_replayed.Goals as goal

pub begin_left-requires-clause-tip : goal.begin_left-requires-clause-tip
begin_left-requires-clause-tip g c κs within =
    let s = state_at c.args.at.now in let pull = c.args.pull.now in (
      pulled_state (patched s.pulled pull.patch) pull.cookie c.args.rebased.confirmed,
      c.in_ok-chain.ensures.tip,
      refl,
      refl,
    )

pub begin_left-requires-clause-told : goal.begin_left-requires-clause-told
begin_left-requires-clause-told g c κs within s before newest tip is =
    let now = state_at c.args.at.now in let pull = c.args.pull.now in
    let start : State = pulled_state (patched now.pulled pull.patch) pull.cookie c.args.rebased.confirmed in
    let chain = c.in_ok-chain.chain in
    let same : s ≡ start = ap (λ (v : Version). v.state) (tip-same (with_draft (drawn c.args.at.now.mark.log) chain)
    chain.tip (version_of g.M.Means.means s) (record { state = start; read = patched now.pulled pull.patch }) tip
    c.in_ok-chain.ensures.tip) in
    c.in_ok-told.ensures.told s before newest (ap (λ (w : State). w.confirmed) same)
    (ap (λ (w : State). w.pending) same) (c.deref.ensures.value ∙ is)

pub returns-clause-step : goal.returns-clause-step
returns-clause-step g c last ticket applied =
    let s = state_at c.args.at.now in let pull = c.args.pull.now in
    let base = c.requires.before in let left = c.args.rebased.left in
    let start : State = pulled_state (patched s.pulled pull.patch) pull.cookie c.args.rebased.confirmed in
    let whole : with_more start left.items ≡ after_pull s pull =
    pull_parts s pull pull.cookie c.args.rebased.confirmed c.args.before.now.confirmed pull.patch pull.changes
    left.items s.pending refl refl c.requires.confirmed refl (sym base.1) c.requires.left refl
    c.requires.spot.opened in
    c.begin_left.ensures.step start last ticket pull c.in_ok-chain.ensures.tip refl refl
    (ended_open s ticket.text pull c.requires.spot.opened ∙ applied, c.requires.in_range)
    whole

pub returns-clause-first : goal.returns-clause-first
returns-clause-first g c ticket =
    let s = state_at c.args.at.now in let pull = c.args.pull.now in
    let base = c.requires.before in let left = c.args.rebased.left in
    let start : State = pulled_state (patched s.pulled pull.patch) pull.cookie c.args.rebased.confirmed in
    let whole : with_more start left.items ≡ after_pull s pull =
    pull_parts s pull pull.cookie c.args.rebased.confirmed c.args.before.now.confirmed pull.patch pull.changes
    left.items s.pending refl refl c.requires.confirmed refl (sym base.1) c.requires.left refl
    c.requires.spot.opened in
    first_of_left g.M.Has.has s ticket pull left.items c.begin_left.result c.begin_left.ensures.first
    (ap (λ (w : State). w.pending) whole)
