use Rattle.std.proofs.Common.{◌≡◌, ◌<◌, length, Some, subst, sym, ap, ◌∙◌, arith, nat_cmp, slice_get, slice_index_or}
use Rattle.std.specs.Cmp.Lexicographic.{slice_cmp}
use Rattle.std.specs.FinMap as finite
use Rattle.group_history.specs.declared.nodes.Chunk.{Chunk}
use Rattle.group_history.specs.declared.refs.Ref.{Ref}
use Rattle.group_history.specs.Rows.{Rows, paired, keys_of, values_of}
use Rattle.group_history.proofs.Pairs.{paired-parts}
use Rattle.map_chunks.specs.Search.{IsPlace}
use Rattle.map_chunks.specs.Inside.Steps.{Descends}
use Rattle.map_chunks.specs.declared.looks.Descent.TheVariants.{Found, Below}
use Rattle.map_chunks.proofs.SearchLemmas.{got, length-values_of, length-keys_of}
use Rattle.map_chunks.proofs.placed.step_of.Goals as goal

pub returns-in_ok-value-in-Leaf : goal.returns-in_ok-value-in-Leaf
returns-in_ok-value-in-Leaf c =
    let key = c.args.key.now in
    let rows : Rows = c.in-Leaf.leaf in
    let keys : c.as_slice.result.now ≡ keys_of rows = c.as_slice.ensures.keys ∙ c.deref.ensures ∙ c.keys.ensures.keys in
    let values : c.values.result.now ≡ values_of rows = c.values.ensures in
    subst (λ (ch : Chunk Ref). Descends ch key (Found c.in_ok-value-in-Leaf.value)) (sym c.in-Leaf.is)
    (c.in_ok-value-in-Leaf.ensures ∙ ap (λ w. finite.find (slice_cmp nat_cmp) key (paired w c.values.result.now)) keys
    ∙ ap (λ w. finite.find (slice_cmp nat_cmp) key (paired (keys_of rows) w)) values ∙ ap
    (finite.find (slice_cmp nat_cmp) key) (paired-parts rows))

pub returns-else-is_empty : goal.returns-else-is_empty
returns-else-is_empty c =
    let key = c.args.key.now in
    let kids = c.in-Inner.inner in
    let keys : c.as_slice-in-Inner.result.now
    ≡ keys_of kids = c.as_slice-in-Inner.ensures.keys ∙ c.deref-in-Inner.ensures ∙ c.firsts.ensures.keys in
    let children : c.children-children.result.now ≡ values_of kids = c.children-children.ensures in
    let place = c.place_for-place.result in
    let at = slice_index_or c.children-children.result.now place (record { bits = 0 }) in
    let p : IsPlace key (keys_of kids) place = subst (λ w. IsPlace key w place) keys c.place_for-place.ensures in
    let l : place < length c.children-children.result.now = omega
    (arith, p.0, length-keys_of kids, length-values_of kids, ap length children) in
    subst (λ (ch : Chunk Ref). Descends ch key (Below at)) (sym c.in-Inner.is) (
      place,
      p,
      subst (λ w. slice_get w place ≡ Some at) children
          (got c.children-children.result.now place (record { bits = 0 }) l),
    )
