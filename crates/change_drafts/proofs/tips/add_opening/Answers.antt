use Rattle.std.proofs.Common.{ℕ, ◌+◌, ◌++◌, ◌∷◌, [], length, ap, subst, ◌∙◌}
use Rattle.group_history.specs.Rows.{Rows}
use Rattle.group_history.specs.declared.nodes.Chunk.TheVariants.{Leaf}
use Rattle.group_history.specs.declared.nodes.Node.TheVariants as node
use Rattle.map_chunks.specs.Drafts.{AreNeeded, Drafted}
use Rattle.change_drafts.proofs.NewestLemmas.{opening_tip}
use Rattle.map_chunks.proofs.DraftLemmas.{below-none, pushed-below}
use Rattle.change_drafts.proofs.BelowLemmas.{below-cons}
use Rattle.group_history.specs.declared.nodes.CommitKind.TheVariants.{Snapshot}
use Rattle.map_chunks.proofs.NeededLemmas.{adds_one, adds_over, needed_begun}
use Rattle.change_drafts.proofs.tips.add_opening.Goals as goal

pub returns-clause-spelled : goal.returns-clause-spelled
returns-clause-spelled c =
    let leaf = node.Chunk (Leaf c.in_ok-empty_leaf.field-0) in
    let one = c.push.new.self.nodes in
    opening_tip one c.push_commit.new.self.nodes leaf c.in_ok-root.root c.in_ok-head.head c.in_ok-cookie.cookie
    c.in_ok-confirmed.confirmed
    (ap (λ (d : Drafted). d.nodes) c.in_ok-root.ensures.ok ∙ ap (λ (d : Drafted). d.nodes ++ leaf ∷ []) c.requires)
    (ap (λ (rows : Rows). node.Chunk (Leaf rows)) c.in_ok-empty_leaf.ensures)
    (c.in_ok-root.ensures.stamp.0 ∙ ap (λ (d : Drafted). d.first + length d.nodes) c.requires)
    (ap (λ (d : Drafted). d.nodes) c.in_ok-head.ensures.ok)
    (c.in_ok-head.ensures.stamp.0 ∙ ap (λ (k : ℕ). k + length one)
    (ap (λ (d : Drafted). d.first) c.in_ok-root.ensures.ok ∙ ap (λ (d : Drafted). d.first) c.requires))
    c.in_ok-cookie.ensures (c.in_ok-confirmed.ensures ∙ c.new.ensures)

pub push-requires : goal.push-requires
push-requires c = record { children = below-none (c.args.draft.now.first + length c.args.draft.now.nodes) }

pub push_commit-requires : goal.push_commit-requires
push_commit-requires c =
    let old = c.args.draft.now in let new = c.push.new.self in
    let root = pushed-below old new (node.Chunk (Leaf c.in_ok-empty_leaf.field-0)) c.in_ok-root.root
    c.in_ok-root.ensures.ok c.in_ok-root.ensures.stamp.0 in
    record {
      children = below-cons (new.first + length new.nodes) c.in_ok-root.root [] root
          (below-none (new.first + length new.nodes));
    }

pub returns-clause-needed : goal.returns-clause-needed
returns-clause-needed c =
    let none = c.args.draft.now in let one = c.push.new.self in let two = c.push_commit.new.self in
    let root = adds_one none one (node.Chunk (Leaf c.in_ok-empty_leaf.field-0)) c.in_ok-root.root
    c.in_ok-root.ensures.stamp.0 c.in_ok-root.ensures.ok in
    let first = ap (λ (d : Drafted). d.first) c.in_ok-head.ensures.ok
    ∙ (ap (λ (d : Drafted). d.first) c.in_ok-root.ensures.ok ∙ ap (λ (d : Drafted). d.first) c.requires) in
    subst (λ n. AreNeeded n two.nodes (c.in_ok-head.head ∷ [])) first
    (needed_begun [] c.in_ok-head.head 0 none two c.requires (adds_over (c.in_ok-root.root ∷ []) none one two
    (node.Commit (record {
      root = c.in_ok-root.root;
      kind = Snapshot (record { cookie = c.in_ok-cookie.cookie; confirmed = c.in_ok-confirmed.confirmed });
    })) c.in_ok-head.head (λ r i. i) root c.in_ok-head.ensures.stamp.0 c.in_ok-head.ensures.ok))
