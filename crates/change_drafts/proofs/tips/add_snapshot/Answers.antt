use Rattle.std.proofs.Common.{◌+◌, [], ◌∷◌, length, ap, ◌∙◌, sym, subst}
use Rattle.map_chunks.specs.Drafts.{Drafted}
use Rattle.change_drafts.proofs.NewestLemmas.{snapshot_tip}
use Rattle.map_chunks.proofs.DraftLemmas.{below-none}
use Rattle.change_drafts.proofs.BelowLemmas.{below-cons}
use mathlib.Core.List.{IsPrefix}
use Rattle.group_history.proofs.Lists.{prefix_trans}
use Rattle.change_drafts.proofs.BelowLemmas.{pushed_on}
use Rattle.group_history.specs.declared.nodes.CommitKind.TheVariants.{Snapshot}
use Rattle.group_history.specs.declared.nodes.Node.TheVariants as node
use Rattle.map_chunks.proofs.NeededLemmas.{adds_over}
use Rattle.change_drafts.proofs.tips.add_snapshot.Goals as goal

pub returns-clause-spelled : goal.returns-clause-spelled
returns-clause-spelled c contents m l h =
    snapshot_tip contents c.freeze.new.draft.nodes c.push_commit.new.self.nodes c.freeze.new.draft.first
    c.in_ok-root.root c.in_ok-commit.commit c.args.cookie c.args.confirmed m (l ∙ sym c.freeze.ensures.first)
    (ap (λ (d : Drafted). d.nodes) c.in_ok-commit.ensures.ok) c.in_ok-commit.ensures.stamp.0
    (c.in_ok-root.ensures.spelled contents m l h)

pub push_commit-requires : goal.push_commit-requires
push_commit-requires c =
    let new = c.freeze.new.draft in
    record {
      children = below-cons (new.first + length new.nodes) c.in_ok-root.root [] c.in_ok-root.ensures.below
          (below-none (new.first + length new.nodes));
    }

pub returns-clause-grown : goal.returns-clause-grown
returns-clause-grown c =
    prefix_trans _ _ _ c.freeze.ensures.grown (pushed_on c.freeze.new.draft.nodes c.push_commit.new.self.nodes _
    (ap (λ (d : Drafted). d.nodes) c.in_ok-commit.ensures.ok)).0

pub returns-clause-some : goal.returns-clause-some
returns-clause-some c =
    (pushed_on c.freeze.new.draft.nodes c.push_commit.new.self.nodes _
    (ap (λ (d : Drafted). d.nodes) c.in_ok-commit.ensures.ok)).1

pub returns-in_err-commit-clause-grown : goal.returns-in_err-commit-clause-grown
returns-in_err-commit-clause-grown c =
    subst (λ (d : Drafted). IsPrefix c.args.draft.now.nodes d.nodes) (sym c.in_err-commit.ensures.err)
    c.freeze.ensures.grown

pub returns-clause-needed : goal.returns-clause-needed
returns-clause-needed c = adds_over (c.in_ok-root.root ∷ []) c.args.draft.now c.freeze.new.draft c.push_commit.new.self
    (node.Commit (record {
      root = c.in_ok-root.root;
      kind = Snapshot (record { cookie = c.args.cookie; confirmed = c.args.confirmed });
    })) c.in_ok-commit.commit (λ r i. i) c.in_ok-root.ensures.needed c.in_ok-commit.ensures.stamp.0
    c.in_ok-commit.ensures.ok
