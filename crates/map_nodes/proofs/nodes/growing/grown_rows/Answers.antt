use Rattle.std.proofs.Common.{◌≡◌, ◌∙◌, ap, subst, nat_cmp}
use Rattle.std.specs.Cmp.Lexicographic.{slice_cmp}
use Rattle.std.specs.FinMap as finite
use Rattle.group_history.specs.Rows.{keys_of, paired, values_of}
use Rattle.map_nodes.proofs.LeafRows.{rows_whole}
use Rattle.map_nodes.specs.Inside.Puts.{IsLeafPut}
use Rattle.map_nodes.specs.Nodes.{row_pieces}
use Rattle.map_nodes.proofs.nodes.growing.grown_rows.Goals as goal

pub returns-clause-rows : goal.returns-clause-rows
returns-clause-rows c =
    let rows = c.args.leaf.now in
    let keys = c.shared-keys.result.texts in
    let values = c.in_ok-values.values.items in
    let k : keys ≡ keys_of rows = c.shared-keys.ensures ∙ c.in_ok-clone.ensures.cases ∙ c.keys.ensures.keys in
    let x : values ≡ values_of rows = c.in_ok-values.ensures ∙ c.values-2.ensures in
    let key : c.put.result.key.now ≡ c.args.down.now.key.now = c.put.ensures.key ∙ c.in_ok-key.ensures in
    c.in_ok-half.ensures.rows
    ∙ ap (λ w. row_pieces (finite.put (slice_cmp nat_cmp) w c.args.value (paired keys values))) key
    ∙ ap (λ w. row_pieces (finite.put (slice_cmp nat_cmp) c.args.down.now.key.now c.args.value w))
    (rows_whole rows keys values k x)

pub returns-clause-keys : goal.returns-clause-keys
returns-clause-keys c =
    let k = c.shared-keys.ensures ∙ c.in_ok-clone.ensures.cases ∙ c.keys.ensures.keys in
    subst (λ ks. IsLeafPut ks c.insert_row.new.keys.texts c.in_ok-half.half) k c.in_ok-half.ensures.keys
