use Rattle.std.proofs.Common.{◌≡◌, ◌∙◌, ◌+◌, ◌-◌, ap, refl, sym, subst, arith, length, set, get_or, []}
use Rattle.group_history.specs.Rows.{keys_of, paired, values_of}
use Rattle.map_chunks.proofs.SearchLemmas.{length-keys_of}
use Rattle.map_chunks.specs.Search.{IsPlace}
use Rattle.map_nodes.proofs.PathLemmas.{length-lowered, ninth_lowered_in}
use Rattle.map_chunks.specs.Shown.{Seen}
use Rattle.map_nodes.specs.Inside.Counts.{HasKept}
use Rattle.map_nodes.specs.Inside.Halves.{lowered, with_half, Finished, IsHalf, IsLower}
use Rattle.map_nodes.specs.Inside.Laying.{entries_over, inner_seen, kids_over}
use Rattle.map_nodes.specs.Inside.Puts.{IsHalved}
use Rattle.map_nodes.specs.Inside.Ready.{AreNinthIn, Suits}
use Rattle.map_nodes.specs.Trails.{placed_kids}
use Rattle.map_nodes.specs.declared.nodes.OwnChild.TheVariants.{Own}
use Rattle.map_nodes.proofs.nodes.growing.grown_over.Goals as goal

pub ready_over-requires : goal.ready_over-requires
ready_over-requires c = record {
  place = subst (λ w. IsPlace c.args.down.now.key.now w c.args.place) (sym c.in_ok-keys.ensures.keys) c.requires.place;
}

pub finish-half-requires-clause-fits : goal.finish-half-requires-clause-fits
finish-half-requires-clause-fits c =
    let kids = c.args.inner.now in
    let i = c.args.place in
    let texts : c.in_ok-keys.keys.texts ≡ keys_of kids = c.in_ok-keys.ensures.keys in
    let items : c.in_ok-keys.kids.items ≡ placed_kids (values_of kids) = c.in_ok-keys.ensures.kids in
    let lower = c.in_ok-ready.ready.lower in
    let kid = c.args.child in
    let low : IsLower c.args.down.now.key.now (get_or (keys_of kids) i []) lower =
    subst (λ ks. IsLower c.args.down.now.key.now (get_or ks i []) lower) texts c.in_ok-ready.ensures.lower in
    let now : c.lower_first.new.keys.texts ≡ lowered i lower (keys_of kids) =
    c.lower_first.ensures.texts ∙ ap (lowered i lower) (c.ready_over.ensures.texts ∙ texts) in
    let deep : c.depth-depth.result + 1 ≡ c.args.child.value.depth + 1 = ap (λ n. n + 1)
    (c.depth-depth.ensures ∙ ap (λ (s : Seen). s.depth) c.deref.ensures) in
    subst (λ n. Suits n i c.lower_first.new.keys.texts (set c.in_ok-keys.kids.items i (Own kid)) c.args.half) (sym deep)
    (subst (λ ks. Suits (c.args.child.value.depth + 1) i ks (set c.in_ok-keys.kids.items i (Own kid)) c.args.half)
    (sym now)
    (subst (λ xs. Suits (c.args.child.value.depth + 1) i (lowered i lower (keys_of kids)) (set xs i (Own kid))
    c.args.half)
    (sym items) (c.requires.fits.fits lower kid low refl)))

pub returns : goal.returns
returns c =
    let kids = c.args.inner.now in
    let i = c.args.place in
    let child = c.args.child.value in
    let half = c.args.half in
    let made = c.finish-half.result in
    let copies = c.args.down.now.copies in
    let texts : c.in_ok-keys.keys.texts ≡ keys_of kids = c.in_ok-keys.ensures.keys in
    let items : c.in_ok-keys.kids.items ≡ placed_kids (values_of kids) = c.in_ok-keys.ensures.kids in
    let lower = c.in_ok-ready.ready.lower in
    let kid = c.args.child in
    let low : IsLower c.args.down.now.key.now (get_or (keys_of kids) i []) lower =
    subst (λ ks. IsLower c.args.down.now.key.now (get_or ks i []) lower) texts c.in_ok-ready.ensures.lower in
    let now : c.lower_first.new.keys.texts ≡ lowered i lower (keys_of kids) =
    c.lower_first.ensures.texts ∙ ap (lowered i lower) (c.ready_over.ensures.texts ∙ texts) in
    let over : set c.in_ok-keys.kids.items i (Own kid) ≡ kids_over kids i kid = ap (λ xs. set xs i (Own kid)) items in
    let deep : c.depth-depth.result + 1 ≡ child.depth + 1 = ap (λ n. n + 1)
    (c.depth-depth.ensures ∙ ap (λ (s : Seen). s.depth) c.deref.ensures) in
    let one : c.depth-depth.result + 1 - 1 ≡ child.depth = omega (arith, deep) in
    let es : with_half i half (paired c.lower_first.new.keys.texts (set c.in_ok-keys.kids.items i (Own kid)))
    ≡ entries_over kids i lower kid half =
    ap (λ ks. with_half i half (paired ks (set c.in_ok-keys.kids.items i (Own kid)))) now
    ∙ ap (λ xs. with_half i half (paired (lowered i lower (keys_of kids)) xs)) over in
    let n : length c.lower_first.new.keys.texts ≡ length kids =
    ap length now ∙ length-lowered i lower (keys_of kids) ∙ length-keys_of kids in
    let keys = c.finish-half.new.keys.texts in
    let children = c.finish-half.new.kids.items in
    record {
      lower = lower;
      kid = kid;
      keys = keys;
      children = children;
      first = low;
      child_is = refl;
      is = c.in_ok-boxed.ensures ∙ ap (λ d. inner_seen d keys children) deep;
      shape = subst (λ d. Finished d (entries_over kids i lower kid half) keys children made) deep
          (subst (λ es. Finished (c.depth-depth.result + 1) es keys children made) es c.finish-half.ensures.shape);
      half_is = subst (λ d. IsHalf copies d made) deep (c.finish-half.ensures.half copies
          (subst (λ d. IsHalf (copies + 1) d half) (sym one) c.requires.fits.half_is)
          (λ some k z. subst (λ ks. AreNinthIn copies ks (i + 1) k c.in_ok-ready.ready.room) (sym now)
          (ninth_lowered_in copies (keys_of kids) i c.args.down.now.key.now lower c.in_ok-ready.ready.room
          c.requires.place low (subst (λ ks. AreNinthIn copies ks (i + 1) c.args.down.now.key.now
          c.in_ok-ready.ready.room) texts (c.in_ok-ready.ensures.ready some).1) k z)));
      entries = subst (λ m. HasKept m (length keys) made) n c.finish-half.ensures.entries;
      parted = subst (λ d. IsHalved d keys children made (keys_of (entries_over kids i lower kid half))
          (values_of (entries_over kids i lower kid half))) deep
          (subst (λ es. IsHalved (c.depth-depth.result + 1) keys children made (keys_of es) (values_of es)) es
          c.finish-half.ensures.parted);
      whole = c.finish-half.ensures.whole;
    }
