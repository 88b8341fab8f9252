use Rattle.std.proofs.Common.{◌≡◌, ◌∙◌, None, ap, length, refl, subst, sym}
use Rattle.std.specs.Arc.{arc_value}
use Rattle.group_history.specs.Rows.{AreKeys, keys_of}
use Rattle.map_nodes.proofs.LeafEnds.{grown_end, laid_end, made_longer, no_half}
use Rattle.map_nodes.proofs.LeafRows.{no_other, value_misses}
use Rattle.map_nodes.specs.Inside.Laying.{rows_seen, IsMadeLeaf}
use Rattle.map_nodes.specs.declared.nodes.trails.End.{End}
use Rattle.map_nodes.proofs.nodes.trails.laying.put_absent.Goals as goal

pub returns-then-is_none : goal.returns-then-is_none
returns-then-is_none c =
    let rows = c.args.leaf.now in
    let key = c.args.down.now.key.now in
    let value = c.args.value in
    let o : AreKeys (keys_of rows) = subst AreKeys c.keys.ensures.keys c.keys.ensures.order in
    let none = value_misses rows key c.args.place o c.requires.absent in
    let texts = c.in_ok-keys.keys.texts in
    let values = c.in_ok-keys.values in
    let is = c.in_ok-keys.ensures in
    let made = made_longer c.args.down.now.copies rows key value texts values.items c.in_ok-keys.half none is.rows
    is.half
    is.leaf.1 is.leaf.2 is.entries is.keys in
    let same : arc_value c.in_ok-keys-2.keys ≡ texts = c.in_ok-keys-2.ensures in
    let end : End = record { keys = c.in_ok-keys-2.keys; values = values } in
    laid_end c.args.down.now.copies c.args.down.now.as_trail rows key value end c.begin.new.self c.begin.result
    (no_other _ value none) c.if-down.true (subst AreKeys (sym same) is.leaf.0, is.leaf.1 ∙ ap length (sym same))
    (subst (λ w. IsMadeLeaf c.args.down.now.copies rows key value (rows_seen w values.items) None) (sym same)
    (subst (λ w. IsMadeLeaf c.args.down.now.copies rows key value (rows_seen texts values.items) w)
    (no_half c.in_ok-keys.half c.is_none.result c.is_none.ensures c.if-is_none.true) made)) c.begin.ensures

pub returns : goal.returns
returns c =
    let rows = c.args.leaf.now in
    let key = c.args.down.now.key.now in
    let value = c.args.value in
    let o : AreKeys (keys_of rows) = subst AreKeys c.keys.ensures.keys c.keys.ensures.order in
    let none = value_misses rows key c.args.place o c.requires.absent in
    let texts = c.in_ok-keys.keys.texts in
    let values = c.in_ok-keys.values.items in
    let is = c.in_ok-keys.ensures in
    grown_end c.args.down.now.copies c.args.down.now.as_trail rows key value c.of_rows.result c.in_ok-keys.half
    c.grow.new.self c.grow.result (no_other _ value none)
    (subst (λ n. IsMadeLeaf c.args.down.now.copies rows key value n c.in_ok-keys.half) (sym c.of_rows.ensures)
    (made_longer c.args.down.now.copies rows key value texts values c.in_ok-keys.half none is.rows is.half
    is.leaf.1 is.leaf.2 is.entries is.keys)) c.grow.ensures
