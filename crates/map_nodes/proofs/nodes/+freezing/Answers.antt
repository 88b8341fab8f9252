use Rattle.std.proofs.Common.{refl, ◌<◌, [], ◌∷◌, ◌++◌, append_assoc, ◌≡◌, ◌∙◌, ◌≤◌, ◌+◌, ◌-◌, ap, sym, subst, arith}
use Rattle.std.proofs.Common.{length, length-append, List, IfOk, OnOk, Some, inl}
use Rattle.group_history.specs.declared.nodes.Chunk.TheVariants as chunked
use Rattle.group_history.specs.declared.nodes.Node.TheVariants as node
use Rattle.group_history.specs.Naming.{content_of}
use Rattle.group_history.specs.Refs.{stamp_of}
use Rattle.group_history.specs.Rows.{Rows, keys_of, paired}
use Rattle.group_history.proofs.Pairs.{keys_of-paired}
use Rattle.std.specs.Vec.Iter.{into_iter_items}
use Rattle.group_history.specs.Spelling.{Contents, rows_at, joined_rows}
use Rattle.group_history.proofs.Lists.{prefix_trans, one_here, no_element}
use Rattle.map_chunks.specs.Places.{with_nodes, places_of, IsNamed, AreNamed, AddsNamed}
use Rattle.map_nodes.specs.Inside.Freezing.{IsFrozen, AreFrozen, IsLevel, AreLevel, child_places, kids_places}
use Rattle.map_nodes.specs.Nodes.{body_marks, body_pieces, body_height, child_height, child_fresh, kids_fresh}
use Rattle.map_nodes.specs.Nodes.{kids_height, IsNode}
use Rattle.map_chunks.specs.Shown.{own, leaf_keys, Seen, shown}
use Rattle.map_nodes.specs.declared.nodes.Body.TheVariants.{Leaf, Inner}
use Rattle.map_nodes.specs.declared.nodes.OwnChild.{OwnChild}
use Rattle.map_chunks.proofs.JoinLemmas.{some_is}
use Rattle.map_chunks.proofs.OpenLemmas.{shows_by}
use Rattle.map_nodes.proofs.NodeLemmas.{shown-rows, shown-kids}
use Rattle.map_nodes.proofs.WideLemmas.{pushed_at, wide_node, wide_inner}
use Rattle.map_nodes.proofs.FreezeLemmas.{if_ok, err_so, own_frozen, leaf_pushed, inner_pushed, all-spelled}
use Rattle.map_nodes.proofs.FreezeLemmas.{frozen-length, frozen-sooner, all-later, all-one, fresh-one, fresh-within}
use Rattle.map_nodes.proofs.FreezeLemmas.{high-within}
use Rattle.map_nodes.proofs.FreezeLevels.{all_level-later, all_level-one, inner_level, leaf_level, placed_level}
use Rattle.std.specs.List.{Contains}
use Rattle.map_chunks.proofs.AnswerLemmas.{on_err, on_ok}
use Rattle.map_chunks.specs.Drafts.{AddsNeeded, AreBelow, Drafted}
use Rattle.map_nodes.proofs.CountLemmas.{fresh-inner}
use Rattle.map_chunks.proofs.DraftLemmas.{pushed-below}
use Rattle.map_nodes.proofs.BelowLemmas.{kid-below, below-one, inner-below, pushed-grown}
use Rattle.map_nodes.proofs.NamedLemmas.{adds-none, adds-one, kid-added, kid-named, places-kids, inner-named}
use Rattle.map_nodes.proofs.NamedLemmas.{drafted-named}
use Rattle.map_chunks.proofs.NeededLemmas.{adds_next, adds_one, adds_same}
use Rattle.map_nodes.proofs.NeededLemmas.{needed_inner}
use Rattle.map_nodes.proofs.nodes.+freezing.Goals as goal
use Rattle.map_chunks.proofs.ListLemmas.{length-paired}

pub OwnNode::freeze-returns-in-Leaf-clause-spelled : goal.OwnNode::freeze-returns-in-Leaf-clause-spelled
OwnNode::freeze-returns-in-Leaf-clause-spelled t c contents rows l h =
    let p = with_nodes contents c.args.draft.now.nodes in
    let depth = c.self.inside.depth in
    let texts = c.self.inside.keys.texts in
    let inv : IsNode depth texts (Leaf c.in-Leaf.values) = subst (IsNode depth texts) c.in-Leaf.is c.self.invariant in
    let pieces = ap (body_pieces depth texts) (sym c.in-Leaf.is) ∙ ap (λ (s : Seen). s.pieces) c.self.view_is in
    let same : paired texts c.in-Leaf.values.items
    ≡ rows = some_is (sym (shown-rows p (paired texts c.in-Leaf.values.items)) ∙ ap (shown p) pieces ∙ h) in
    let leaf : c.new-leaf.result ≡ paired texts c.in-Leaf.values.items = c.new-leaf.ensures ∙ ap
    (λ w. paired w c.in-Leaf.values.items) c.in_ok-keys.ensures in
    if_ok c.push.result c.push.ensures.stamp c.push.ensures.ok (λ at k o.
    leaf_pushed contents c.args.draft.now.first c.args.draft.now.nodes c.push.new.self.nodes c.new-leaf.result rows
    c.args.self.depth at l (ap (λ d. d.nodes) o) k.0
    (omega (arith, ap length leaf, length-paired texts c.in-Leaf.values.items inv.1.1, inv.0.0))
    (sym (ap (λ (s : Seen). s.depth) c.self.view_is) ∙ inv.1.0) (leaf ∙ same))

pub OwnNode::freeze-freeze_kids-requires : goal.OwnNode::freeze-freeze_kids-requires
OwnNode::freeze-freeze_kids-requires t c =
    let high : body_height (Inner c.in-Inner.kids)
    ≡ c.args.self.height = ap body_height (sym c.in-Inner.is) ∙ ap (λ (s : Seen). s.height) c.self.view_is in
    let depth = c.self.inside.depth in
    let texts = c.self.inside.keys.texts in
    let kids = c.in-Inner.kids.items in
    let inv : IsNode depth texts (Inner c.in-Inner.kids) = subst (IsNode depth texts) c.in-Inner.is c.self.invariant in
    let pieces = ap (body_pieces depth texts) (sym c.in-Inner.is) ∙ ap (λ (s : Seen). s.pieces) c.self.view_is in
    let places : places_of c.args.self.pieces
    ≡ kids_places kids = ap places_of (sym pieces) ∙ places-kids (depth - 1) texts kids inv.1.2 in (
      omega (arith, high, c.decreases),
      subst
          (AreBelow (c.args.draft.now.first + length c.args.draft.now.nodes)) places c.requires.below,
    )

pub OwnNode::freeze-push-requires-in-Inner : goal.OwnNode::freeze-push-requires-in-Inner
OwnNode::freeze-push-requires-in-Inner t c =
    let depth = c.self.inside.depth in
    let texts = c.self.inside.keys.texts in
    let kids = c.in-Inner.kids.items in
    let ats = c.in_ok-children-in-Inner.children.items in
    let inv : IsNode depth texts (Inner c.in-Inner.kids) = subst (IsNode depth texts) c.in-Inner.is c.self.invariant in
    let inner : c.new-inner.result ≡ paired texts ats = c.new-inner.ensures ∙ ap
    (λ w. paired w ats) c.in_ok-keys.ensures in
    let long : length ats ≡ length texts = frozen-length _ _ _ kids ats
    c.in_ok-children-in-Inner.ensures.frozen ∙ inv.1.2 in
    let drafted = c.freeze_kids.new.draft in
    record {
      children = inner-below (drafted.first + length drafted.nodes) texts ats c.new-inner.result long inner
          c.in_ok-children-in-Inner.ensures.below;
    }

pub OwnNode::freeze-new-inner-requires-clause-children : goal.OwnNode::freeze-new-inner-requires-clause-children
OwnNode::freeze-new-inner-requires-clause-children t c =
    let depth = c.self.inside.depth in
    let texts = c.self.inside.keys.texts in
    let inv : IsNode depth texts (Inner c.in-Inner.kids) = subst (IsNode depth texts) c.in-Inner.is c.self.invariant in
    frozen-length _ _ _ c.in-Inner.kids.items c.in_ok-children-in-Inner.children.items
    c.in_ok-children-in-Inner.ensures.frozen ∙ inv.1.2 ∙ ap length (sym c.in_ok-keys.ensures)

pub OwnNode::freeze-returns-in-Inner-clause-spelled : goal.OwnNode::freeze-returns-in-Inner-clause-spelled
OwnNode::freeze-returns-in-Inner-clause-spelled t c contents rows l h =
    let p = with_nodes contents c.args.draft.now.nodes in
    let depth = c.self.inside.depth in
    let texts = c.self.inside.keys.texts in
    let kids = c.in-Inner.kids.items in
    let ats = c.in_ok-children-in-Inner.children.items in
    let inv : IsNode depth texts (Inner c.in-Inner.kids) = subst (IsNode depth texts) c.in-Inner.is c.self.invariant in
    let pieces = ap (body_pieces depth texts) (sym c.in-Inner.is) ∙ ap (λ (s : Seen). s.pieces) c.self.view_is in
    let shows = sym (shown-kids p (depth - 1) (paired texts kids) inv.1.3) ∙ ap (shown p) pieces ∙ h in
    let spelt = all-spelled contents c.args.draft.now.first c.args.draft.now.nodes c.freeze_kids.new.draft.nodes
    (depth - 1) texts kids ats rows l c.in_ok-children-in-Inner.ensures.frozen inv.1.3 shows in
    let inner : c.new-inner.result ≡ paired texts ats = c.new-inner.ensures ∙ ap
    (λ w. paired w ats) c.in_ok-keys.ensures in
    let long : length ats ≡ length texts = frozen-length _ _ _ kids ats
    c.in_ok-children-in-Inner.ensures.frozen ∙ inv.1.2 in
    let size : length c.new-inner.result ≡ length texts = ap length inner ∙ length-paired texts ats long in
    let here = ap (λ (s : Seen). s.depth) c.self.view_is in
    if_ok c.push-in-Inner.result c.push-in-Inner.ensures.stamp c.push-in-Inner.ensures.ok (λ at k o.
    inner_pushed contents c.args.draft.now.first c.freeze_kids.new.draft.nodes c.push-in-Inner.new.self.nodes
    c.new-inner.result rows (depth - 1) c.args.self.depth at l (ap (λ d. d.nodes) o)
    (k.0 ∙ ap (λ n. n + length c.freeze_kids.new.draft.nodes) c.freeze_kids.ensures.first)
    (omega (arith, size, inv.1.1)) (omega (arith, size, inv.0.0)) (omega (arith, here, inv.1.0))
    (ap (λ w. joined_rows (shows_by (rows_at (with_nodes contents c.freeze_kids.new.draft.nodes) (depth - 1))
    w)) inner ∙ spelt))

pub freezing::freeze_kid-returns-in-Own-clause-frozen : goal.freezing::freeze_kid-returns-in-Own-clause-frozen
freezing::freeze_kid-returns-in-Own-clause-frozen t c =
    subst (λ (k : OwnChild). IfOk c.freeze.result
    (IsFrozen c.args.draft.now.first c.args.draft.now.nodes c.freeze.new.draft.nodes k)) (sym c.in-Own.is)
    (own_frozen c.freeze.result c.args.draft.now.first c.args.draft.now.nodes c.freeze.new.draft.nodes c.in-Own.node
    (subst (λ (s : Seen). (contents : Contents) (rows : Rows) → length contents ≡ c.args.draft.now.first
    → shown (with_nodes contents c.args.draft.now.nodes) s.pieces ≡ Some rows
    → IfOk c.freeze.result (λ root. rows_at (with_nodes contents c.freeze.new.draft.nodes) s.depth (stamp_of root)
    ≡ Some rows)) c.into_inner.ensures c.freeze.ensures.spelled))

pub OwnNode::freeze-returns-in-Leaf-clause-levels : goal.OwnNode::freeze-returns-in-Leaf-clause-levels
OwnNode::freeze-returns-in-Leaf-clause-levels t c contents l =
    let depth = c.self.inside.depth in
    let texts = c.self.inside.keys.texts in
    let inv : IsNode depth texts (Leaf c.in-Leaf.values) = subst (IsNode depth texts) c.in-Leaf.is c.self.invariant in
    let leaf : c.new-leaf.result ≡ paired texts c.in-Leaf.values.items = c.new-leaf.ensures ∙ ap
    (λ w. paired w c.in-Leaf.values.items) c.in_ok-keys.ensures in
    let same : keys_of c.new-leaf.result ≡ texts = ap keys_of leaf ∙ keys_of-paired texts c.in-Leaf.values.items
    inv.1.1 in
    let marks : c.args.self.marks ≡ own 0 (leaf_keys (keys_of c.new-leaf.result)) ∷ [] =
    sym (ap (body_marks depth texts) (sym c.in-Leaf.is) ∙ ap (λ (s : Seen). s.marks) c.self.view_is)
    ∙ ap (λ w. own 0 (leaf_keys w) ∷ []) (sym same) in
    if_ok c.push.result c.push.ensures.stamp c.push.ensures.ok (λ at k o.
    leaf_level contents c.args.draft.now.first c.args.draft.now.nodes c.push.new.self.nodes c.args.self
    c.new-leaf.result at l (ap (λ d. d.nodes) o) k.0
    (sym (ap (λ (s : Seen). s.depth) c.self.view_is) ∙ inv.1.0) marks)

pub OwnNode::freeze-returns-in-Inner-clause-levels : goal.OwnNode::freeze-returns-in-Inner-clause-levels
OwnNode::freeze-returns-in-Inner-clause-levels t c contents l =
    let depth = c.self.inside.depth in
    let texts = c.self.inside.keys.texts in
    let kids = c.in-Inner.kids.items in
    let ats = c.in_ok-children-in-Inner.children.items in
    let mid = c.freeze_kids.new.draft.nodes in
    let inv : IsNode depth texts (Inner c.in-Inner.kids) = subst (IsNode depth texts) c.in-Inner.is c.self.invariant in
    let marks = ap (body_marks depth texts) (sym c.in-Inner.is) ∙ ap (λ (s : Seen). s.marks) c.self.view_is in
    let inner : c.new-inner.result ≡ paired texts ats = c.new-inner.ensures ∙ ap
    (λ w. paired w ats) c.in_ok-keys.ensures in
    let long : length ats ≡ length texts = frozen-length _ _ _ kids ats
    c.in_ok-children-in-Inner.ensures.frozen ∙ inv.1.2 in
    if_ok c.push-in-Inner.result c.push-in-Inner.ensures.stamp c.push-in-Inner.ensures.ok (λ at k o.
    inner_level contents c.args.draft.now.first mid c.push-in-Inner.new.self.nodes c.args.self
    (depth - 1) depth texts kids ats at l
    (ap (λ d. d.nodes) o ∙ ap (λ w. mid ++ node.Chunk (chunked.Inner w) ∷ []) inner)
    (k.0 ∙ ap (λ n. n + length mid) c.freeze_kids.ensures.first)
    (sym (ap (λ (s : Seen). s.depth) c.self.view_is)) (omega (arith, inv.1.0)) (sym marks) inv.1.2 long inv.1.3
    c.in_ok-children-in-Inner.ensures.levels)

pub freezing::freeze_kid-returns-in-Placed-clause-levels :
    goal.freezing::freeze_kid-returns-in-Placed-clause-levels
freezing::freeze_kid-returns-in-Placed-clause-levels t c =
    subst (λ (k : OwnChild). IsLevel c.args.draft.now.first c.args.draft.now.nodes k c.in-Placed.at)
    (sym c.in-Placed.is) (placed_level c.args.draft.now.first c.args.draft.now.nodes c.in-Placed.at)

pub freezing::freeze_kids-freeze_kid-requires : goal.freezing::freeze_kids-freeze_kid-requires
freezing::freeze_kids-freeze_kid-requires t c =
    let w : c.args.kids.items ≡ c.loop-kid.yielded
    ++ (c.in-Some.kid ∷ into_iter_items c.next.new.self) = c.loop-kid.invariant.whole ∙ ap
    (λ w. c.loop-kid.yielded ++ w) c.in-Some.ensures.steps.0 in
    let high : child_height c.in-Some.kid ≤ kids_height c.args.kids.items =
    subst (λ w. child_height c.in-Some.kid ≤ kids_height w) (sym w)
    (high-within c.loop-kid.yielded c.in-Some.kid (into_iter_items c.next.new.self)) in
    let more : c.args.draft.now.first + length c.args.draft.now.nodes
    ≤ c.loop-kid.draft.first + length c.loop-kid.draft.nodes = omega
    (arith, c.loop-kid.invariant.first, c.loop-kid.invariant.count) in (
      omega (arith, high, c.decreases),
      kid-below (c.args.draft.now.first + length c.args.draft.now.nodes)
          (c.loop-kid.draft.first + length c.loop-kid.draft.nodes) c.args.kids.items c.loop-kid.yielded
          (into_iter_items c.next.new.self) c.in-Some.kid w more c.requires.below,
    )

pub freezing::freeze_kids-returns-in_err-at-clause-bound : goal.freezing::freeze_kids-returns-in_err-at-clause-bound
freezing::freeze_kids-returns-in_err-at-clause-bound t c =
    let w : c.args.kids.items ≡ c.loop-kid.yielded
    ++ (c.in-Some.kid ∷ into_iter_items c.next.new.self) = c.loop-kid.invariant.whole ∙ ap
    (λ w. c.loop-kid.yielded ++ w) c.in-Some.ensures.steps.0 in
    let most : kids_fresh c.loop-kid.yielded + child_fresh c.in-Some.kid ≤ kids_fresh c.args.kids.items =
    subst (λ w. kids_fresh c.loop-kid.yielded + child_fresh c.in-Some.kid ≤ kids_fresh w) (sym w)
    (fresh-within c.loop-kid.yielded c.in-Some.kid (into_iter_items c.next.new.self)) in
    err_so c.from_residual-in_err-at.result (omega (arith, most, c.loop-kid.invariant.count, c.in_err-at.ensures.bound))

pub freezing::freeze_kids-returns-in_err-push-clause-bound : goal.freezing::freeze_kids-returns-in_err-push-clause-bound
freezing::freeze_kids-returns-in_err-push-clause-bound t c =
    let w : c.args.kids.items ≡ c.loop-kid.yielded
    ++ (c.in-Some.kid ∷ into_iter_items c.next.new.self) = c.loop-kid.invariant.whole ∙ ap
    (λ w. c.loop-kid.yielded ++ w) c.in-Some.ensures.steps.0 in
    let most : kids_fresh c.loop-kid.yielded + child_fresh c.in-Some.kid ≤ kids_fresh c.args.kids.items =
    subst (λ w. kids_fresh c.loop-kid.yielded + child_fresh c.in-Some.kid ≤ kids_fresh w) (sym w)
    (fresh-within c.loop-kid.yielded c.in-Some.kid (into_iter_items c.next.new.self)) in
    err_so c.from_residual-in_err-push.result
    (omega (arith, most, c.loop-kid.invariant.count, c.in_ok-at.ensures.count))

pub freezing::freeze_kids-loop-kid-preserved : goal.freezing::freeze_kids-loop-kid-preserved
freezing::freeze_kids-loop-kid-preserved t c =
    let first = c.args.draft.now.first in
    let old = c.args.draft.now.nodes in
    let mid = c.loop-kid.draft.nodes in
    let new = c.freeze_kid.new.draft.nodes in
    let done = c.loop-kid.yielded in
    let kid = c.in-Some.kid in
    let w : c.args.kids.items ≡ c.loop-kid.yielded
    ++ (c.in-Some.kid ∷ into_iter_items c.next.new.self) = c.loop-kid.invariant.whole ∙ ap
    (λ w. c.loop-kid.yielded ++ w) c.in-Some.ensures.steps.0 in
    let this : IsFrozen first mid new kid c.in_ok-at.at = subst
    (λ n. IsFrozen n mid new kid c.in_ok-at.at) c.loop-kid.invariant.first c.in_ok-at.ensures.frozen in
    let level : IsLevel first new kid c.in_ok-at.at = subst
    (λ n. IsLevel n new kid c.in_ok-at.at) c.loop-kid.invariant.first c.in_ok-at.ensures.levels in
    record {
      can = tt;
      finite = tt;
      whole = w ∙ sym (append_assoc c.loop-kid.yielded (c.in-Some.kid ∷ []) (into_iter_items c.next.new.self));
      first = c.freeze_kid.ensures.first ∙ c.loop-kid.invariant.first;
      grown = prefix_trans old mid new c.loop-kid.invariant.grown c.freeze_kid.ensures.grown;
      count = omega (arith, fresh-one done kid, c.loop-kid.invariant.count, c.in_ok-at.ensures.count);
      frozen = subst (λ ats. AreFrozen first old new (done ++ kid ∷ []) ats) (sym c.in_ok-push.ensures.items)
          (all-one first old new done c.loop-kid.children.items kid c.in_ok-at.at
          (all-later first old mid new done c.loop-kid.children.items c.freeze_kid.ensures.grown
          c.loop-kid.invariant.frozen)
          (frozen-sooner first old mid new kid c.in_ok-at.at c.loop-kid.invariant.grown this));
      levels = subst (λ ats. AreLevel first new (done ++ kid ∷ []) ats) (sym c.in_ok-push.ensures.items)
          (all_level-one first new done c.loop-kid.children.items kid c.in_ok-at.at
          (all_level-later first mid new done c.loop-kid.children.items c.freeze_kid.ensures.grown
          c.loop-kid.invariant.levels) level);
      named = kid-added first done kid old mid new c.loop-kid.invariant.named
          (subst (λ n. AddsNamed n (child_places kid) mid new) c.loop-kid.invariant.first c.in_ok-at.ensures.named);
      needed = subst (λ ats. AddsNeeded [] ats c.args.draft.now c.freeze_kid.new.draft) (sym c.in_ok-push.ensures.items)
          (adds_next c.loop-kid.children.items c.in_ok-at.at c.args.draft.now c.loop-kid.draft c.freeze_kid.new.draft
          c.loop-kid.invariant.needed c.in_ok-at.ensures.needed);
      below = subst (AreBelow (c.freeze_kid.new.draft.first + length new)) (sym c.in_ok-push.ensures.items)
          (below-one (c.loop-kid.draft.first + length mid)
          (c.freeze_kid.new.draft.first + length new) c.loop-kid.children.items c.in_ok-at.at
          (omega (arith, c.freeze_kid.ensures.first, c.in_ok-at.ensures.count)) c.loop-kid.invariant.below
          c.in_ok-at.ensures.below);
      names = subst (AreNamed first (kids_places (done ++ kid ∷ []))) (sym c.in_ok-push.ensures.items)
          (kid-named first done kid c.loop-kid.children.items c.in_ok-at.at c.loop-kid.invariant.names
          (subst (λ n. IsNamed n (child_places kid) c.in_ok-at.at) c.loop-kid.invariant.first
          c.in_ok-at.ensures.name));
    }

pub OwnNode::freeze-returns-in-Leaf-clause-wide : goal.OwnNode::freeze-returns-in-Leaf-clause-wide
OwnNode::freeze-returns-in-Leaf-clause-wide t c contents l h =
    let x = node.Chunk (chunked.Leaf c.new-leaf.result) in
    if_ok c.push.result c.push.ensures.stamp c.push.ensures.ok (λ at k o.
    wide_node (with_nodes contents c.push.new.self.nodes) (stamp_of at) (content_of x)
    (pushed_at contents c.args.draft.now.first c.args.draft.now.nodes c.push.new.self.nodes x at l
    (ap (λ d. d.nodes) o) k.0) refl)

pub OwnNode::freeze-returns-in-Inner-clause-wide : goal.OwnNode::freeze-returns-in-Inner-clause-wide
OwnNode::freeze-returns-in-Inner-clause-wide t c contents l h =
    let depth = c.self.inside.depth in
    let texts = c.self.inside.keys.texts in
    let kids = c.in-Inner.kids.items in
    let ats = c.in_ok-children-in-Inner.children.items in
    let inv : IsNode depth texts (Inner c.in-Inner.kids) = subst (IsNode depth texts) c.in-Inner.is c.self.invariant in
    let inner : c.new-inner.result ≡ paired texts ats = c.new-inner.ensures ∙ ap
    (λ w. paired w ats) c.in_ok-keys.ensures in
    let long : length ats ≡ length texts = frozen-length _ _ _ kids ats
    c.in_ok-children-in-Inner.ensures.frozen ∙ inv.1.2 in
    let size : length c.new-inner.result ≡ length texts = ap length inner ∙ length-paired texts ats long in
    let more : 1 < length c.new-inner.result = omega (arith, size, ap (λ (s : Seen). s.entries) c.self.view_is, h) in
    let x = node.Chunk (chunked.Inner c.new-inner.result) in
    if_ok c.push-in-Inner.result c.push-in-Inner.ensures.stamp c.push-in-Inner.ensures.ok (λ at k o.
    wide_node (with_nodes contents c.push-in-Inner.new.self.nodes) (stamp_of at) (content_of x)
    (pushed_at contents c.args.draft.now.first c.freeze_kids.new.draft.nodes c.push-in-Inner.new.self.nodes x at l
    (ap (λ d. d.nodes) o)
    (k.0 ∙ ap (λ n. n + length c.freeze_kids.new.draft.nodes) c.freeze_kids.ensures.first))
    (wide_inner c.new-inner.result more))

pub OwnNode::freeze-returns-in-Leaf-clause-named : goal.OwnNode::freeze-returns-in-Leaf-clause-named
OwnNode::freeze-returns-in-Leaf-clause-named t c =
    let old = c.args.draft.now.nodes in
    on_ok c.push.result c.push.ensures.ok (λ o.
    adds-one c.args.draft.now.first (places_of c.args.self.pieces) old old c.push.new.self.nodes
    (node.Chunk (chunked.Leaf c.new-leaf.result))
    (adds-none c.args.draft.now.first (places_of c.args.self.pieces) old)
    (λ at h. absurd (no_element at h)) (ap (λ d. d.nodes) o))

pub OwnNode::freeze-returns-in-Leaf-clause-drafted : goal.OwnNode::freeze-returns-in-Leaf-clause-drafted
OwnNode::freeze-returns-in-Leaf-clause-drafted t c = if_ok c.push.result c.push.ensures.stamp c.push.ensures.ok
    (λ at k o. (omega (arith, k.0), k.1))

pub OwnNode::freeze-returns-in-Inner-clause-named : goal.OwnNode::freeze-returns-in-Inner-clause-named
OwnNode::freeze-returns-in-Inner-clause-named t c =
    let first = c.args.draft.now.first in
    let old = c.args.draft.now.nodes in
    let mid = c.freeze_kids.new.draft.nodes in
    let depth = c.self.inside.depth in
    let texts = c.self.inside.keys.texts in
    let kids = c.in-Inner.kids.items in
    let ats = c.in_ok-children-in-Inner.children.items in
    let inv : IsNode depth texts (Inner c.in-Inner.kids) = subst (IsNode depth texts) c.in-Inner.is c.self.invariant in
    let pieces = ap (body_pieces depth texts) (sym c.in-Inner.is) ∙ ap (λ (s : Seen). s.pieces) c.self.view_is in
    let places : places_of c.args.self.pieces
    ≡ kids_places kids = ap places_of (sym pieces) ∙ places-kids (depth - 1) texts kids inv.1.2 in
    let inner : c.new-inner.result ≡ paired texts ats = c.new-inner.ensures ∙ ap
    (λ w. paired w ats) c.in_ok-keys.ensures in
    let long : length ats ≡ length texts = frozen-length _ _ _ kids ats
    c.in_ok-children-in-Inner.ensures.frozen ∙ inv.1.2 in
    on_ok c.push-in-Inner.result c.push-in-Inner.ensures.ok (λ o.
    subst (λ w. AddsNamed first w old c.push-in-Inner.new.self.nodes) (sym places)
    (adds-one first (kids_places kids) old mid c.push-in-Inner.new.self.nodes
    (node.Chunk (chunked.Inner c.new-inner.result)) c.in_ok-children-in-Inner.ensures.named
    (inner-named first (kids_places kids) texts ats c.new-inner.result long inner
    c.in_ok-children-in-Inner.ensures.names) (ap (λ d. d.nodes) o)))

pub OwnNode::freeze-returns-in-Inner-clause-drafted : goal.OwnNode::freeze-returns-in-Inner-clause-drafted
OwnNode::freeze-returns-in-Inner-clause-drafted t c =
    if_ok c.push-in-Inner.result c.push-in-Inner.ensures.stamp c.push-in-Inner.ensures.ok
    (λ at k o. (omega (arith, k.0, c.freeze_kids.ensures.first), k.1))

pub freezing::freeze_kid-returns-in-Placed-clause-named : goal.freezing::freeze_kid-returns-in-Placed-clause-named
freezing::freeze_kid-returns-in-Placed-clause-named t c = adds-none c.args.draft.now.first
    (child_places c.args.kid) c.args.draft.now.nodes

pub OwnNode::freeze-returns-in-Leaf-clause-needed : goal.OwnNode::freeze-returns-in-Leaf-clause-needed
OwnNode::freeze-returns-in-Leaf-clause-needed t c = if_ok c.push.result c.push.ensures.stamp c.push.ensures.ok
    (λ at k o. adds_one c.args.draft.now c.push.new.self (node.Chunk (chunked.Leaf c.new-leaf.result)) at k.0 o)

pub OwnNode::freeze-returns-in-Inner-clause-needed : goal.OwnNode::freeze-returns-in-Inner-clause-needed
OwnNode::freeze-returns-in-Inner-clause-needed t c =
    let depth = c.self.inside.depth in
    let texts = c.self.inside.keys.texts in
    let kids = c.in-Inner.kids.items in
    let ats = c.in_ok-children-in-Inner.children.items in
    let inv : IsNode depth texts (Inner c.in-Inner.kids) = subst (IsNode depth texts) c.in-Inner.is c.self.invariant in
    let inner : c.new-inner.result ≡ paired texts ats = c.new-inner.ensures ∙ ap
    (λ w. paired w ats) c.in_ok-keys.ensures in
    let long : length ats ≡ length texts = frozen-length _ _ _ kids ats
    c.in_ok-children-in-Inner.ensures.frozen ∙ inv.1.2 in
    if_ok c.push-in-Inner.result c.push-in-Inner.ensures.stamp c.push-in-Inner.ensures.ok (λ at k o.
    needed_inner c.args.draft.now c.freeze_kids.new.draft c.push-in-Inner.new.self texts ats c.new-inner.result at long
    inner c.in_ok-children-in-Inner.ensures.needed k.0 o)

pub freezing::freeze_kid-returns-in-Placed-clause-needed : goal.freezing::freeze_kid-returns-in-Placed-clause-needed
freezing::freeze_kid-returns-in-Placed-clause-needed t c = adds_same [] (c.in-Placed.at ∷ []) c.args.draft.now
    (λ r i. absurd (no_element r i))

pub freezing::freeze_kid-returns-in-Placed-clause-name : goal.freezing::freeze_kid-returns-in-Placed-clause-name
freezing::freeze_kid-returns-in-Placed-clause-name t c = inl
    (subst (λ (k : OwnChild). Contains (child_places k) c.in-Placed.at) (sym c.in-Placed.is) (one_here c.in-Placed.at))

pub freezing::freeze_kid-returns-in-Own-clause-named : goal.freezing::freeze_kid-returns-in-Own-clause-named
freezing::freeze_kid-returns-in-Own-clause-named t c =
    subst (λ (k : OwnChild). OnOk c.freeze.result
    (AddsNamed c.args.draft.now.first (child_places k) c.args.draft.now.nodes c.freeze.new.draft.nodes))
    (sym c.in-Own.is)
    (subst (λ (s : Seen). OnOk c.freeze.result
    (AddsNamed c.args.draft.now.first (places_of s.pieces) c.args.draft.now.nodes c.freeze.new.draft.nodes))
    c.into_inner.ensures c.freeze.ensures.named)

pub freezing::freeze_kid-returns-in-Own-clause-name : goal.freezing::freeze_kid-returns-in-Own-clause-name
freezing::freeze_kid-returns-in-Own-clause-name t c = drafted-named c.args.draft.now.first
    (child_places c.args.kid) c.freeze.result c.freeze.ensures.drafted

pub OwnNode::freeze-returns-in-Leaf-clause-below : goal.OwnNode::freeze-returns-in-Leaf-clause-below
OwnNode::freeze-returns-in-Leaf-clause-below t c =
    if_ok c.push.result c.push.ensures.stamp c.push.ensures.ok
    (λ at k o. pushed-below c.args.draft.now c.push.new.self (node.Chunk (chunked.Leaf c.new-leaf.result)) at o k.0)

pub OwnNode::freeze-returns-in-Inner-clause-below : goal.OwnNode::freeze-returns-in-Inner-clause-below
OwnNode::freeze-returns-in-Inner-clause-below t c =
    if_ok c.push-in-Inner.result c.push-in-Inner.ensures.stamp c.push-in-Inner.ensures.ok
    (λ at k o. pushed-below c.freeze_kids.new.draft c.push-in-Inner.new.self
    (node.Chunk (chunked.Inner c.new-inner.result)) at o k.0)

pub freezing::freeze_kid-returns-in-Placed-clause-below : goal.freezing::freeze_kid-returns-in-Placed-clause-below
freezing::freeze_kid-returns-in-Placed-clause-below t c = c.requires.below c.in-Placed.at
    (subst (λ (k : OwnChild). Contains (child_places k) c.in-Placed.at) (sym c.in-Placed.is) (one_here c.in-Placed.at))

pub OwnNode::freeze-returns-in-Leaf-clause-grown : goal.OwnNode::freeze-returns-in-Leaf-clause-grown
OwnNode::freeze-returns-in-Leaf-clause-grown t c =
    pushed-grown c.args.draft.now c.push.new.self _ c.push.result c.push.ensures.ok c.push.ensures.err

pub OwnNode::freeze-returns-in-Inner-clause-grown : goal.OwnNode::freeze-returns-in-Inner-clause-grown
OwnNode::freeze-returns-in-Inner-clause-grown t c =
    let mid = c.freeze_kids.new.draft in
    prefix_trans c.args.draft.now.nodes mid.nodes c.push-in-Inner.new.self.nodes c.freeze_kids.ensures.grown
    (pushed-grown mid c.push-in-Inner.new.self _ c.push-in-Inner.result c.push-in-Inner.ensures.ok
    c.push-in-Inner.ensures.err)

pub freezing::freeze_kids-returns-in_err-at-clause-grown : goal.freezing::freeze_kids-returns-in_err-at-clause-grown
freezing::freeze_kids-returns-in_err-at-clause-grown t c =
    prefix_trans c.args.draft.now.nodes c.loop-kid.draft.nodes c.freeze_kid.new.draft.nodes
    c.loop-kid.invariant.grown c.freeze_kid.ensures.grown

pub freezing::freeze_kids-returns-in_err-push-clause-grown : goal.freezing::freeze_kids-returns-in_err-push-clause-grown
freezing::freeze_kids-returns-in_err-push-clause-grown t c =
    prefix_trans c.args.draft.now.nodes c.loop-kid.draft.nodes c.freeze_kid.new.draft.nodes
    c.loop-kid.invariant.grown c.freeze_kid.ensures.grown

-- COUNTS

one_behind : {A : Type 0} (xs new : List A) (x : A) → new ≡ xs ++ x ∷ [] → length new ≡ length xs + 1
one_behind xs new x e = omega (arith, ap length e, length-append xs (x ∷ []))

pub OwnNode::freeze-returns-in_err-children-in-Inner-clause-bound :
    goal.OwnNode::freeze-returns-in_err-children-in-Inner-clause-bound
OwnNode::freeze-returns-in_err-children-in-Inner-clause-bound t c =
    let f = fresh-inner c.self.inside.depth c.self.inside.keys.texts c.self.inside.body c.in-Inner.kids c.args.self
    (ap (λ (s : Seen). s.marks) c.self.view_is) c.in-Inner.is in
    err_so c.from_residual-in_err-children-in-Inner.result (omega (arith, f, c.in_err-children-in-Inner.ensures.bound))

pub OwnNode::freeze-returns-in-Inner-clause-count : goal.OwnNode::freeze-returns-in-Inner-clause-count
OwnNode::freeze-returns-in-Inner-clause-count t c =
    let f = fresh-inner c.self.inside.depth c.self.inside.keys.texts c.self.inside.body c.in-Inner.kids c.args.self
    (ap (λ (s : Seen). s.marks) c.self.view_is) c.in-Inner.is in
    on_ok c.push-in-Inner.result c.push-in-Inner.ensures.ok (λ o. omega (
      arith,
      f,
      c.in_ok-children-in-Inner.ensures.count,
      one_behind _ _ _ (ap (λ (d : Drafted). d.nodes) o),
    ))

pub OwnNode::freeze-returns-in-Inner-clause-bound : goal.OwnNode::freeze-returns-in-Inner-clause-bound
OwnNode::freeze-returns-in-Inner-clause-bound t c =
    let f = fresh-inner c.self.inside.depth c.self.inside.keys.texts c.self.inside.body c.in-Inner.kids c.args.self
    (ap (λ (s : Seen). s.marks) c.self.view_is) c.in-Inner.is in
    on_err c.push-in-Inner.result c.push-in-Inner.ensures.err (λ e. omega (
      arith,
      f,
      c.in_ok-children-in-Inner.ensures.count,
      ap (λ (d : Drafted). length d.nodes) e,
    ))
