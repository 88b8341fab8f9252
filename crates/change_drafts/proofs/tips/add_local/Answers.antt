use Rattle.std.proofs.Common.{◌+◌, [], ◌∷◌, length, sym, ◌∙◌}
use Rattle.group_history.specs.Refs.{stamp_of}
use Rattle.map_chunks.specs.Places.{with_nodes}
use Rattle.map_nodes.proofs.FreezeLemmas.{nodes-grown}
use Rattle.commit_graph.proofs.Spelled.{version-grown, snapshot-grown}
use Rattle.map_chunks.proofs.DraftLemmas.{below-more}
use Rattle.change_drafts.proofs.BelowLemmas.{below-cons, drafts-grown}
use Rattle.group_history.proofs.Lists.{prefix_trans}
use Rattle.change_drafts.proofs.NeededLemmas.{needed_local}
use Rattle.change_drafts.proofs.tips.add_local.Goals as goal

pub returns-clause-spelled : goal.returns-clause-spelled
returns-clause-spelled c contents v m l b s is_open right h =
    let old = with_nodes contents c.args.draft.now.nodes in let mid = with_nodes contents c.freeze.new.draft.nodes in
    let grown = nodes-grown contents c.args.draft.now.nodes c.freeze.new.draft.nodes c.freeze.ensures.grown in
    let at = stamp_of c.args.basis.commit in
    c.in_ok-tip.ensures.spelled contents v m (l ∙ sym c.freeze.ensures.first) (version-grown old mid at v grown b)
    (snapshot-grown old mid at (stamp_of c.args.basis.snapshot) grown s) is_open right
    (c.in_ok-root.ensures.spelled contents m l h)

pub add_over-requires : goal.add_over-requires
add_over-requires c =
    let old = c.args.draft.now in let new = c.freeze.new.draft in
    let chain = c.args.basis.commit ∷ c.args.basis.snapshot ∷ [] in
    let more = drafts-grown old new c.freeze.ensures.first c.freeze.ensures.grown in
    record {
      below = below-cons (new.first + length new.nodes) c.in_ok-root.root chain c.in_ok-root.ensures.below
          (below-more (old.first + length old.nodes) (new.first + length new.nodes) chain more c.requires.chain);
    }

pub returns-clause-grown : goal.returns-clause-grown
returns-clause-grown c =
    prefix_trans _ _ _ c.freeze.ensures.grown c.add_over.ensures.grown

pub returns-in_err-tip-clause-grown : goal.returns-in_err-tip-clause-grown
returns-in_err-tip-clause-grown c =
    prefix_trans _ _ _ c.freeze.ensures.grown c.add_over.ensures.grown

pub returns-clause-needed : goal.returns-clause-needed
returns-clause-needed c =
    let basis = c.args.basis in
    needed_local c.in_ok-root.root basis.commit basis.snapshot c.in_ok-tip.tip.commit c.args.draft.now
    c.freeze.new.draft c.add_over.new.draft c.in_ok-root.ensures.needed c.in_ok-tip.ensures.needed
