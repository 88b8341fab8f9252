use Rattle.std.proofs.Common.{◌≡◌, ◌+◌, ◌<◌, [], ◌∷◌, sym, ap, subst, ◌∙◌, length, Ok, OnOk, IfErr, refl, arith, ◌⊎◌}
use Rattle.std.proofs.Common.{inl}
use Rattle.group_history.specs.Refs.{stamps}
use Rattle.map_chunks.specs.Drafts.{AreBelow}
use Rattle.map_chunks.specs.Places.{with_nodes, AddsNamed}
use Rattle.map_nodes.proofs.FreezeLevels.{map_level, named_all}
use Rattle.map_nodes.proofs.PutLevels.{if_ok_both}
use Rattle.map_nodes.specs.Levels.{seen_levels, AreNamedNow}
use Rattle.map_tree.proofs.RootCounts.{placed_as}
use Rattle.map_tree.specs.declared.tree.Root.TheVariants.{Placed}
use Rattle.map_tree.specs.Trees.{root_places, root_levels, tree_places, root_map, root_fresh, placed_root, IsWide}
use Rattle.group_history.specs.declared.refusals.Refusal.TheVariants as refusal
use Rattle.group_history.proofs.Lists.{no_element, one_here}
use Rattle.map_chunks.proofs.NeededLemmas.{adds_same}
use Rattle.map_nodes.proofs.FreezeLemmas.{map_frozen}
use Rattle.map_chunks.proofs.JoinLemmas.{some_is}
use Rattle.std.specs.List.{Contains}
use Rattle.map_nodes.proofs.NamedLemmas.{adds-none, drafted-named}
use Rattle.map_nodes.proofs.WideLemmas.{wide_frozen}
use Rattle.map_tree.proofs.tree.Tree.freeze.Goals as goal

pub returns-in-Own-clause-spelled : goal.returns-in-Own-clause-spelled
returns-in-Own-clause-spelled c contents m l h =
    map_frozen c.frozen.result (with_nodes contents c.args.draft.now.nodes)
    (with_nodes contents c.frozen.new.draft.nodes) c.in-Own.node m
    (ap (root_map (with_nodes contents c.args.draft.now.nodes)) (sym c.in-Own.is) ∙ h)
    (λ rows e. c.frozen.ensures.spelled contents rows l e)

pub returns-in-Placed-clause-wide : goal.returns-in-Placed-clause-wide
returns-in-Placed-clause-wide c contents m l h w = subst
    (IsWide (with_nodes contents c.args.draft.now.nodes)) c.in-Placed.is w

pub returns-in-Placed-clause-shared : goal.returns-in-Placed-clause-shared
returns-in-Placed-clause-shared c at h = (ap Ok (some_is (ap placed_root (sym c.in-Placed.is) ∙ h)), refl)

pub returns-in-Placed-clause-count : goal.returns-in-Placed-clause-count
returns-in-Placed-clause-count c = omega (arith, ap root_fresh c.in-Placed.is)

pub returns-in-Own-clause-wide : goal.returns-in-Own-clause-wide
returns-in-Own-clause-wide c contents m l h w =
    wide_frozen c.frozen.result (with_nodes contents c.args.draft.now.nodes)
    (with_nodes contents c.frozen.new.draft.nodes) c.in-Own.node m
    (ap (root_map (with_nodes contents c.args.draft.now.nodes)) (sym c.in-Own.is) ∙ h)
    (subst (IsWide (with_nodes contents c.args.draft.now.nodes)) c.in-Own.is w)
    (λ rows e. c.frozen.ensures.spelled contents rows l e) (λ n. c.frozen.ensures.wide contents l n)

pub returns-in-Own-clause-shared : goal.returns-in-Own-clause-shared
returns-in-Own-clause-shared c at h = let e = ap placed_root (sym c.in-Own.is) ∙ h in absurd (cc e)

pub returns-in-Own-clause-count : goal.returns-in-Own-clause-count
returns-in-Own-clause-count c =
    subst (λ n. OnOk c.frozen.result (length c.frozen.new.draft.nodes ≡ length c.args.draft.now.nodes + n))
    (ap root_fresh (sym c.in-Own.is)) c.frozen.ensures.count

pub returns-in-Own-clause-why : goal.returns-in-Own-clause-why
returns-in-Own-clause-why c =
    subst (λ n. IfErr c.frozen.result (λ e. (e ≡ refusal.NoMemory)
    ⊎ ((e ≡ refusal.Stamps) × (stamps < c.args.draft.now.first + length c.args.draft.now.nodes + n))))
    (ap root_fresh (sym c.in-Own.is)) c.frozen.ensures.why

pub returns-in-Placed-clause-named : goal.returns-in-Placed-clause-named
returns-in-Placed-clause-named c = adds-none c.args.draft.now.first (tree_places c.args.self) c.args.draft.now.nodes

pub returns-in-Placed-clause-name : goal.returns-in-Placed-clause-name
returns-in-Placed-clause-name c = inl (subst (λ r. Contains (root_places r) c.in-Placed.at) (sym c.in-Placed.is)
    (one_here c.in-Placed.at))

pub returns-in-Placed-clause-needed : goal.returns-in-Placed-clause-needed
returns-in-Placed-clause-needed c = adds_same [] (c.in-Placed.at ∷ []) c.args.draft.now (λ r i. absurd (no_element r i))

pub returns-in-Own-clause-named : goal.returns-in-Own-clause-named
returns-in-Own-clause-named c =
    subst (λ r. OnOk c.frozen.result (AddsNamed c.args.draft.now.first
    (root_places r) c.args.draft.now.nodes c.frozen.new.draft.nodes)) (sym c.in-Own.is) c.frozen.ensures.named

pub returns-in-Own-clause-name : goal.returns-in-Own-clause-name
returns-in-Own-clause-name c = drafted-named c.args.draft.now.first
    (tree_places c.args.self) c.frozen.result c.frozen.ensures.drafted

pub returns-in-Placed-clause-below : goal.returns-in-Placed-clause-below
returns-in-Placed-clause-below c = c.requires.below c.in-Placed.at
    (subst (λ r. Contains (root_places r) c.in-Placed.at) (sym c.in-Placed.is) (one_here c.in-Placed.at))

pub frozen-requires : goal.frozen-requires
frozen-requires c = record {
  below = subst
      (λ r. AreBelow (c.args.draft.now.first + length c.args.draft.now.nodes) (root_places r)) c.in-Own.is
      c.requires.below;
}

pub returns-in-Placed-clause-levels : goal.returns-in-Placed-clause-levels
returns-in-Placed-clause-levels c contents m l h later pre level =
    let first = c.args.draft.now.first in
    let at = root_levels (Placed c.in-Placed.at) later level in
    subst (λ r. AreNamedNow first (root_levels r later level) at) (sym c.in-Placed.is) (named_all first at)

pub returns-in-Own-clause-levels : goal.returns-in-Own-clause-levels
returns-in-Own-clause-levels c contents m l h =
    let first = c.args.draft.now.first in
    let p = with_nodes contents c.args.draft.now.nodes in
    let q = with_nodes contents c.frozen.new.draft.nodes in
    let n = c.in-Own.node in
    if_ok_both c.frozen.result (map_level c.frozen.result p q n m (ap (root_map p) (sym c.in-Own.is) ∙ h)
    (λ rows e. c.frozen.ensures.spelled contents rows l e)) (c.frozen.ensures.levels contents l)
    (λ root deep named later pre level.
    subst (λ r. AreNamedNow first (root_levels r later level) (root_levels (Placed root) later level))
    (sym c.in-Own.is) (subst (AreNamedNow first (seen_levels n later level))
    (sym (placed_as q later (Placed root) root n.depth refl deep pre level)) (named later pre level)))
