use Rattle.std.proofs.Common.{ap, sym, subst}
use Rattle.map_chunks.specs.Drafts.{Drafted}
use Rattle.change_drafts.proofs.NewestLemmas.{over_tip}
use mathlib.Core.List.{IsPrefix}
use Rattle.group_history.proofs.Lists.{prefix_self}
use Rattle.change_drafts.proofs.BelowLemmas.{pushed_on}
use Rattle.group_history.specs.declared.nodes.CommitKind.TheVariants.{Over}
use Rattle.group_history.specs.declared.nodes.Node.TheVariants as node
use Rattle.map_chunks.proofs.NeededLemmas.{adds_one}
use Rattle.change_drafts.proofs.tips.add_over.Goals as goal

pub returns-clause-spelled : goal.returns-clause-spelled
returns-clause-spelled c contents v m l b s is_open right h =
    over_tip contents c.args.draft.now.nodes c.push_commit.new.self.nodes c.args.draft.now.first c.args.basis
    c.args.root c.in_ok-commit.commit c.args.step c.args.told v m l
    (ap (λ (d : Drafted). d.nodes) c.in_ok-commit.ensures.ok) c.in_ok-commit.ensures.stamp.0 b s is_open right h

pub push_commit-requires : goal.push_commit-requires
push_commit-requires c = record { children = c.requires.below }

pub returns-clause-grown : goal.returns-clause-grown
returns-clause-grown c =
    (pushed_on c.args.draft.now.nodes c.push_commit.new.self.nodes _
    (ap (λ (d : Drafted). d.nodes) c.in_ok-commit.ensures.ok)).0

pub returns-clause-some : goal.returns-clause-some
returns-clause-some c =
    (pushed_on c.args.draft.now.nodes c.push_commit.new.self.nodes _
    (ap (λ (d : Drafted). d.nodes) c.in_ok-commit.ensures.ok)).1

pub returns-in_err-commit-clause-grown : goal.returns-in_err-commit-clause-grown
returns-in_err-commit-clause-grown c =
    subst (λ (d : Drafted). IsPrefix c.args.draft.now.nodes d.nodes) (sym c.in_err-commit.ensures.err)
    (prefix_self c.args.draft.now.nodes)

pub returns-clause-needed : goal.returns-clause-needed
returns-clause-needed c =
    let basis = c.args.basis in
    adds_one c.args.draft.now c.push_commit.new.self (node.Commit (record {
      root = c.args.root;
      kind = Over (record {
        basis = basis.commit;
        snapshot = basis.snapshot;
        step = c.args.step;
        told = c.args.told;
      });
    })) c.in_ok-commit.commit c.in_ok-commit.ensures.stamp.0 c.in_ok-commit.ensures.ok
