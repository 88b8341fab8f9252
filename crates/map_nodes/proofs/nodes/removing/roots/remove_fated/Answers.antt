use Rattle.std.proofs.Common.{◌<◌, ◌-◌, ◌∙◌, ap, sym, subst, arith, refl, get_or, length, remove, Some}
use Rattle.std.specs.Prelude.{IsSome}
use Rattle.map_nodes.specs.Nodes.{body_pieces, child_levels}
use Rattle.map_nodes.specs.Removing.{without_key}
use Rattle.map_nodes.specs.Inside.Removing.{IsFate}
use Rattle.map_nodes.proofs.RemoveLevels.{root_gone, still_root, thin_since}
use Rattle.map_chunks.proofs.SearchLemmas.{got}
use Rattle.map_chunks.specs.Shown.{shown, rows_or}
use Rattle.map_nodes.specs.declared.nodes.Body.TheVariants.{Inner}
use Rattle.map_nodes.specs.declared.nodes.OwnChild.{OwnChild}
use Rattle.map_nodes.specs.declared.nodes.OwnChild.TheVariants.{Placed}
use Rattle.map_nodes.proofs.EndLemmas.{first_at}
use Rattle.map_nodes.proofs.HeirLemmas.{heir-rows, heir-wide, heir-kept, still_wide}
use Rattle.map_nodes.proofs.PathLemmas.{node_at}
use Rattle.map_nodes.proofs.RemoveLemmas.{fate_here, gives_way-is, last_shown, leaves_none}
use Rattle.map_chunks.proofs.OpenLemmas.{known}
use Rattle.map_nodes.proofs.nodes.removing.roots.remove_fated.Goals as goal

pub heir-requires-clause-tree : goal.heir-requires-clause-tree
heir-requires-clause-tree g c =
    let p = g.C.Chunks.contents c.args.chunks.now in
    let depth = c.args.depth in
    let keys = c.args.keys.now.texts in
    let kids = c.args.kids.now in
    let key = c.args.removal.key.now in
    let i = c.args.removal.place in
    let at : OwnChild = Placed (record { bits = 0 }) in
    let child = get_or kids.items i at in
    let pieces = body_pieces depth keys (Inner kids) in
    let x = node_at p depth keys (Inner kids) kids pieces keys key i at refl refl c.requires.can.node refl
    c.requires.can.place c.requires.can.tree in
    let w = gives_way-is c.args.removal.fate c.len.result (sym c.gives_way.ensures ∙ c.if-gives_way.true) in
    let f = subst (IsFate key x.0.first x.0.way.here) w.0
    (fate_here p depth keys kids.items pieces key i child c.args.removal.fate c.requires.can.node.1.2 x.0
    (c.requires.can.fate child x.1)) in
    let last = last_shown p depth keys kids.items pieces key i child c.requires.can.node.1.2
    (omega (arith, w.1, c.len.ensures, kids.ok.0)) x.0 (leaves_none key x.0.first x.0.way.here x.0.way.starts f) in
    subst IsSome (sym last) refl

pub returns-then-gives_way-clause-done : goal.returns-then-gives_way-clause-done
returns-then-gives_way-clause-done g c =
    let p = g.C.Chunks.contents c.args.chunks.now in
    let depth = c.args.depth in
    let keys = c.args.keys.now.texts in
    let kids = c.args.kids.now in
    let key = c.args.removal.key.now in
    let i = c.args.removal.place in
    let at : OwnChild = Placed (record { bits = 0 }) in
    let child = get_or kids.items i at in
    let pieces = body_pieces depth keys (Inner kids) in
    let x = node_at p depth keys (Inner kids) kids pieces keys key i at refl refl c.requires.can.node refl
    c.requires.can.place c.requires.can.tree in
    let w = gives_way-is c.args.removal.fate c.len.result (sym c.gives_way.ensures ∙ c.if-gives_way.true) in
    let f = subst (IsFate key x.0.first x.0.way.here) w.0
    (fate_here p depth keys kids.items pieces key i child c.args.removal.fate c.requires.can.node.1.2 x.0
    (c.requires.can.fate child x.1)) in
    let last = last_shown p depth keys kids.items pieces key i child c.requires.can.node.1.2
    (omega (arith, w.1, c.len.ensures, kids.ok.0)) x.0 (leaves_none key x.0.first x.0.way.here x.0.way.starts f) in
    heir-rows p (g.C.Chunks.contents c.heir.new.chunks)
    (remove kids.items i) c.heir.new.kids.items depth keys c.in_ok-heir.heir c.in_ok-heir.ensures.heir
    ∙ last ∙ ap (λ z. Some (without_key key (rows_or z))) (sym x.0.rows_is)

pub returns-then-gives_way-clause-levels : goal.returns-then-gives_way-clause-levels
returns-then-gives_way-clause-levels g c =
    let p = g.C.Chunks.contents c.args.chunks.now in
    let q = g.C.Chunks.contents c.heir.new.chunks in
    let depth = c.args.depth in
    let keys = c.args.keys.now.texts in
    let kids = c.args.kids.now.items in
    let i = c.args.removal.place in
    let can = c.requires.can in
    let within : i < length kids = omega (arith, can.place.0, can.node.1.2) in
    let x = get_or kids i (Placed (record { bits = 0 })) in
    let here = got kids i (Placed (record { bits = 0 })) within in
    let n = known (shown p (body_pieces depth keys (Inner c.args.kids.now))) can.tree in
    let w = gives_way-is c.args.removal.fate c.len.result (sym c.gives_way.ensures ∙ c.if-gives_way.true) in
    root_gone q depth keys keys kids c.heir.new.kids.items i x c.in_ok-heir.heir can.node.1.0 within
    (omega (arith, w.1, c.len.ensures, c.args.kids.now.ok.0)) here
    (thin_since p q (depth - 1) (child_levels (depth - 1) x) c.heir.ensures.grown.0 (can.thin x here w.0))
    (c.in_ok-heir.ensures.levels (depth - 1) (first_at p (depth - 1) keys kids i n.rows can.node.1.2 can.node.1.3 n.is))

pub returns-clause-levels : goal.returns-clause-levels
returns-clause-levels g c =
    still_root (g.C.Chunks.contents c.remove_at.new.chunks) c.args.depth _ _ c.in_ok-remove_at.ensures.levels

pub returns-then-gives_way-clause-wide : goal.returns-then-gives_way-clause-wide
returns-then-gives_way-clause-wide g c =
    heir-wide (g.C.Chunks.contents c.args.chunks.now) (g.C.Chunks.contents c.heir.new.chunks)
    (remove c.args.kids.now.items c.args.removal.place) (length c.args.keys.now.texts) (length c.args.keys.now.texts)
    c.in_ok-heir.heir c.in_ok-heir.ensures.heir

pub returns-then-gives_way-clause-kept : goal.returns-then-gives_way-clause-kept
returns-then-gives_way-clause-kept g c at e =
    (refl, heir-kept c.args.kids.now.items c.heir.new.kids.items c.in_ok-heir.heir at c.in_ok-heir.ensures.kept e)

pub returns-clause-node : goal.returns-clause-node
returns-clause-node g c e = c.remove_at.ensures.node

pub returns-clause-wide : goal.returns-clause-wide
returns-clause-wide g c more =
    still_wide c.args.removal.fate (length c.args.keys.now.texts) (length c.remove_at.new.keys.texts) c.len.result
    (omega (arith, c.len.ensures, c.args.kids.now.ok.0, c.requires.can.node.1.2))
    (sym c.gives_way.ensures ∙ c.if-gives_way.false)
    c.in_ok-remove_at.ensures.left more
