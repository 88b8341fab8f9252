use Rattle.std.proofs.Common.{◌∙◌, ◌<◌, [], None, Some, ap, arith, get_or, length, refl, subst, sym}
use Rattle.group_history.specs.Rows.{AreKeys, keys_of}
use Rattle.map_chunks.proofs.SearchLemmas.{length-keys_of}
use Rattle.map_chunks.proofs.Texts.{same_text-is}
use Rattle.map_nodes.proofs.LeafEnds.{grown_end, laid_end, made_replaced}
use Rattle.map_nodes.proofs.LeafRows.{found_itself, value_differs, value_has}
use Rattle.map_nodes.specs.Inside.Laying.{IsMadeLeaf}
use Rattle.map_nodes.proofs.nodes.trails.laying.put_found.Goals as goal

pub returns-then-eq : goal.returns-then-eq
returns-then-eq c key found =
    let rows = c.args.leaf.now in
    let there = c.index-values-place.result in
    let o : AreKeys (keys_of rows) = subst AreKeys c.keys.ensures.keys c.keys.ensures.order in
    let is = value_has rows key c.args.place there o found
    (c.index-values-place.is ∙ ap (λ w. get_or w c.args.place there) c.values.ensures) in (
      c.args.value,
      refl,
      is ∙ ap (λ w. Some w) (same_text-is there c.args.value (sym c.eq.ensures ∙ c.if-eq.true)),
    )

pub returns-then-down : goal.returns-then-down
returns-then-down c key found =
    let rows = c.args.leaf.now in
    let there = c.index-values-place.result in
    let o : AreKeys (keys_of rows) = subst AreKeys c.keys.ensures.keys c.keys.ensures.order in
    let is = value_has rows key c.args.place there o found
    (c.index-values-place.is ∙ ap (λ w. get_or w c.args.place there) c.values.ensures) in
    let end = c.in_ok-end.ensures key found in
    laid_end c.args.down.now.copies c.args.down.now.as_trail rows key c.args.value c.in_ok-end.end c.begin.new.self
    c.begin.result (value_differs _ there c.args.value c.eq.result is c.eq.ensures c.if-eq.false) c.if-down.true end.0
    (made_replaced c.args.down.now.copies rows key c.args.value c.args.place c.in_ok-end.end o found end)
    c.begin.ensures

pub into_node-requires : goal.into_node-requires
into_node-requires c =
    let rows = c.args.leaf.now in
    let within : c.args.place < length (keys_of rows) = omega (arith, length-keys_of rows, c.requires.within) in
    (c.in_ok-end.ensures (get_or (keys_of rows) c.args.place []) (found_itself (keys_of rows) c.args.place within)).0

pub returns : goal.returns
returns c key found =
    let rows = c.args.leaf.now in
    let there = c.index-values-place.result in
    let o : AreKeys (keys_of rows) = subst AreKeys c.keys.ensures.keys c.keys.ensures.order in
    let is = value_has rows key c.args.place there o found
    (c.index-values-place.is ∙ ap (λ w. get_or w c.args.place there) c.values.ensures) in
    let end = c.in_ok-end.ensures key found in
    grown_end c.args.down.now.copies c.args.down.now.as_trail rows key c.args.value c.into_node.result None
    c.grow.new.self c.grow.result (value_differs _ there c.args.value c.eq.result is c.eq.ensures c.if-eq.false)
    (subst (λ n. IsMadeLeaf c.args.down.now.copies rows key c.args.value n None) (sym c.into_node.ensures)
    (made_replaced c.args.down.now.copies rows key c.args.value c.args.place c.in_ok-end.end o found end))
    c.grow.ensures
