use Rattle.std.proofs.Common.{◌≡◌, ◌∙◌, ap, sym, subst, arith, length, length-set}
use Rattle.std.specs.Arc.{arc_value}
use Rattle.group_history.specs.Rows.{AreKeys, keys_of, values_of}
use Rattle.map_chunks.proofs.SearchLemmas.{length-keys_of, length-values_of}
use Rattle.map_chunks.specs.Search.{IsFound}
use Rattle.map_nodes.proofs.LeafRows.{value_put}
use Rattle.map_nodes.proofs.nodes.trails.End.replaced.Goals as goal

pub returns : goal.returns
returns c key found =
    let rows = c.args.leaf.now in
    let keys = arc_value c.in_ok-keys.keys in
    let values = c.in_ok-values.values.items in
    let v = c.args.value in
    let i = c.args.place in
    let k : keys ≡ keys_of rows = c.in_ok-keys.ensures.cases ∙ c.keys.ensures.keys in
    let x : values ≡ values_of rows = c.in_ok-values.ensures ∙ c.values.ensures in
    let o : AreKeys keys = subst AreKeys (sym c.in_ok-keys.ensures.cases) c.keys.ensures.order in
    let f : IsFound key keys i = subst (λ w. IsFound key w i) (sym k) found in (
      (
        o,
        length-set values i v ∙ (let l : length values ≡ length keys = omega
            (arith, ap length k, ap length x, length-keys_of rows, length-values_of rows) in l),
      ),
      value_put rows keys values key v i k x o f,
    )
