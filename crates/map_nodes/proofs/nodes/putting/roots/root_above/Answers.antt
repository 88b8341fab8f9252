use Rattle.std.proofs.Common.{◌≡◌, ◌∙◌, ◌<◌, ◌+◌, ◌-◌, ◌++◌, [], ◌∷◌, ap, sym, subst, arith, length, is_ok}
use Rattle.map_nodes.specs.Nodes.{AllKids}
use Rattle.map_chunks.specs.Shown.{Seen}
use Rattle.map_nodes.specs.declared.nodes.OwnChild.TheVariants.{Own}
use Rattle.group_history.specs.Rows.{paired, AreKeys}
use Rattle.map_chunks.proofs.ListLemmas.{succeeded}
use Rattle.map_nodes.proofs.RootLemmas.{root}
use Rattle.map_nodes.proofs.nodes.putting.roots.root_above.Goals as goal

pub invariant_of-result : goal.invariant_of-result
invariant_of-result c =
    let k1 = succeeded (is_ok c.push.result) _ _ _
    (c.push.ensures.succeeds (omega (arith, c.args.room.keys.ok.0, ap length c.requires.keys.0, c.requires.keys.1)))
    c.push.ensures.items ∙ ap (λ w. w ++ c.args.first ∷ []) c.requires.keys.0 in
    let k2 = succeeded (is_ok c.push-2.result) _ _ _
    (c.push-2.ensures.succeeds (omega (
      arith,
      c.push.new.self.ok.0,
      ap length k1,
      c.push.ensures.capacity,
      c.requires.keys.1,
    ))) c.push-2.ensures.items ∙ ap (λ w. w ++ c.in-Some.second ∷ []) k1 in
    let c1 = succeeded (is_ok c.push-3.result) _ _ _
    (c.push-3.ensures.succeeds (omega (
      arith,
      c.args.room.entries.ok.0,
      ap length c.requires.kids.0,
      c.requires.kids.1,
    ))) c.push-3.ensures.items ∙ ap (λ w. w ++ Own c.args.lower ∷ []) c.requires.kids.0 in
    let c2 = succeeded (is_ok c.push-4.result) _ _ _
    (c.push-4.ensures.succeeds (omega (
      arith,
      c.push-3.new.self.ok.0,
      ap length c1,
      c.push-3.ensures.capacity,
      c.requires.kids.1,
    ))) c.push-4.ensures.items ∙ ap (λ w. w ++ Own c.args.half.node ∷ []) c1 in
    let r = root c.args.first c.in-Some.second c.args.lower c.args.half c.own.result.texts c.pop.new.self.items
    c.push-4.new.self.items c.requires.head c.requires.half c.requires.order c.in-Some.ensures.items
    (c.own.ensures ∙ k2) c2 in
    let d = c.depth-depth.ensures ∙ ap (λ (s : Seen). s.depth) c.deref.ensures in
    subst (λ n. AreKeys c.own.result.texts
    × ((0 < n + 1) × (0 < length c.own.result.texts) × (length c.push-4.new.self.items ≡ length c.own.result.texts)
    × AllKids ((n + 1) - 1) (paired c.own.result.texts c.push-4.new.self.items))) (sym d) r.node
