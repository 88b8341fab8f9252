use Rattle.std.proofs.Common.{◌≡◌, ◌<◌, length, Some, subst, sym, ap, ◌∙◌, arith, slice_get, slice_index_or}
use Rattle.group_history.specs.declared.nodes.Chunk.{Chunk}
use Rattle.group_history.specs.declared.refs.Ref.{Ref}
use Rattle.group_history.specs.Rows.{Rows, paired, keys_of, values_of}
use Rattle.group_history.proofs.Pairs.{paired-parts}
use Rattle.map_chunks.specs.Search.{IsPlace}
use Rattle.map_chunks.specs.Seeking.{is_key_in}
use Rattle.map_chunks.specs.Inside.Seeking.{IsHint}
use Rattle.map_chunks.specs.declared.looks.Hint.TheVariants.{Known, On}
use Rattle.map_chunks.proofs.SearchLemmas.{got, length-values_of, length-keys_of}
use Rattle.map_chunks.proofs.seeking.hint_of.Goals as goal

pub returns-in-Leaf : goal.returns-in-Leaf
returns-in-Leaf c =
    let key = c.args.key.now in
    let rows : Rows = c.in-Leaf.leaf in
    let keys : c.as_slice.result.now ≡ keys_of rows = c.as_slice.ensures.keys ∙ c.deref.ensures ∙ c.keys.ensures.keys in
    let same : length (values_of rows) ≡ length c.as_slice.result.now = omega
    (arith, length-keys_of rows, length-values_of rows, ap length keys) in
    subst (λ (ch : Chunk Ref). IsHint ch key (Known c.has_key.result)) (sym c.in-Leaf.is)
    (c.has_key.ensures (values_of rows) same ∙ ap (λ w. is_key_in (paired w (values_of rows)) key) keys
    ∙ ap (λ w. is_key_in w key) (paired-parts rows))

pub returns-else-is_empty : goal.returns-else-is_empty
returns-else-is_empty c =
    let key = c.args.key.now in
    let kids = c.in-Inner.inner in
    let keys : c.as_slice-in-Inner.result.now
    ≡ keys_of kids = c.as_slice-in-Inner.ensures.keys ∙ c.deref-in-Inner.ensures ∙ c.firsts.ensures.keys in
    let children : c.children-children.result.now ≡ values_of kids = c.children-children.ensures in
    let place = c.place_for-place.result in
    let at = slice_index_or c.children-children.result.now place (record { bits = 0 }) in
    let p : IsPlace key (keys_of kids) place = subst (λ w. IsPlace key w place) keys c.place_for-place.ensures in
    let l : place < length c.children-children.result.now = omega
    (arith, p.0, length-keys_of kids, length-values_of kids, ap length children) in
    subst (λ (ch : Chunk Ref). IsHint ch key (On at)) (sym c.in-Inner.is) (
      place,
      p,
      subst (λ w. slice_get w place ≡ Some at) children
          (got c.children-children.result.now place (record { bits = 0 }) l),
    )
