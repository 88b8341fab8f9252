use Rattle.std.proofs.Common.{arith, length, ◌≡◌, ◌∙◌, ◌-◌, ap, sym, subst, refl, Some}
use Rattle.std.specs.Prelude.{IsSome}
use Rattle.map_nodes.specs.Nodes.{body_pieces, IsNode}
use Rattle.map_nodes.specs.Removing.{without_key}
use Rattle.map_chunks.specs.Search.{IsPlace}
use Rattle.map_chunks.specs.Shown.{rows_or, IsTree}
use Rattle.map_nodes.specs.declared.nodes.Body.TheVariants.{Inner}
use Rattle.map_chunks.proofs.AnswerLemmas.{if_ok_so}
use Rattle.map_nodes.proofs.NodeLemmas.{node_down}
use Rattle.map_nodes.proofs.RemoveLemmas.{fate_later, fate_thin, shown_later}
use Rattle.map_nodes.proofs.ScanLemmas.{kid_shown-at}
use Rattle.map_chunks.proofs.KeptLemmas.{all_on, grows_on}
use Rattle.map_nodes.proofs.PlaceLemmas.{kid_all}
use Rattle.map_nodes.proofs.nodes.removing.roots.remove_inner.Goals as goal

pub fate_of-requires-clause-places : goal.fate_of-requires-clause-places
fate_of-requires-clause-places g c =
    kid_all (g.C.Chunks.places c.args.chunks.now) c.args.kids.now.items c.place_of-place.result c.index.result.now
    (omega (arith, c.requires.node.1.2, ap length c.as_slice-texts.ensures, c.place_of-place.ensures.0))
    c.index.ensures c.requires.places

pub remove_fated-requires-clause-places : goal.remove_fated-requires-clause-places
remove_fated-requires-clause-places g c = all_on (g.C.Chunks.places c.args.chunks.now)
    (g.C.Chunks.places c.fate_of.new.chunks) _ c.fate_of.ensures.grown.1 c.requires.places

pub fate_of-requires-clause-tree : goal.fate_of-requires-clause-tree
fate_of-requires-clause-tree g c =
    let p = g.C.Chunks.contents c.args.chunks.now in
    let d = node_down p c.args.depth c.args.keys.now.texts (Inner c.args.kids.now) c.args.kids.now
    (body_pieces c.args.depth c.args.keys.now.texts (Inner c.args.kids.now))
    c.as_slice-texts.result.now c.args.key.now
    c.place_of-place.result c.index.result.now refl refl c.requires.node c.as_slice-texts.ensures
    c.place_of-place.ensures c.index.ensures c.requires.tree in
    subst IsSome (sym (kid_shown-at p (c.args.depth - 1) c.index.result.now d.way.here d.way.here_is)) refl

pub remove_fated-requires-clause-can : goal.remove_fated-requires-clause-can
remove_fated-requires-clause-can g c =
    let p = g.C.Chunks.contents c.args.chunks.now in
    let q = g.C.Chunks.contents c.fate_of.new.chunks in
    let depth = c.args.depth in
    let keys = c.args.keys.now.texts in
    let kids = c.args.kids.now in
    let key = c.args.key.now in
    let i = c.place_of-place.result in
    let fate = c.in_ok-fate.fate in
    let node : IsNode depth keys (Inner kids) = c.requires.node in
    let view : body_pieces depth keys (Inner kids) ≡ body_pieces depth keys (Inner kids) = refl in
    let d = node_down p depth keys (Inner c.args.kids.now) kids
    (body_pieces c.args.depth c.args.keys.now.texts (Inner c.args.kids.now)) c.as_slice-texts.result.now key i
    c.index.result.now view refl c.requires.node c.as_slice-texts.ensures c.place_of-place.ensures
    c.index.ensures c.requires.tree in
    record {
      node = node;
      tree = subst IsTree (sym (shown_later p q depth keys (Inner kids) kids (body_pieces depth keys (Inner kids))
          c.fate_of.ensures.grown.0 refl refl c.requires.tree)) c.requires.tree;
      place = subst (λ w. IsPlace key w i) c.as_slice-texts.ensures c.place_of-place.ensures;
      fate = fate_later p q depth keys c.as_slice-texts.result.now kids.items
          (body_pieces c.args.depth c.args.keys.now.texts (Inner c.args.kids.now)) key c.index-texts-place.result i
          c.index.result.now fate c.fate_of.ensures.grown.0 node.1.2 c.as_slice-texts.ensures
          c.place_of-place.ensures.0 d c.index.ensures c.index-texts-place.is c.in_ok-fate.ensures.fate;
      thin = fate_thin p q depth keys c.as_slice-texts.result.now (Inner kids) kids
          (body_pieces depth keys (Inner kids)) key i c.index.result.now fate refl refl node c.as_slice-texts.ensures
          c.place_of-place.ensures c.index.ensures c.requires.tree (c.in_ok-fate.ensures.thin (depth - 1));
    }

pub returns-clause-done : goal.returns-clause-done
returns-clause-done g c =
    let p = g.C.Chunks.contents c.args.chunks.now in
    let q = g.C.Chunks.contents c.fate_of.new.chunks in
    let depth = c.args.depth in
    let keys = c.args.keys.now.texts in
    let kids = c.args.kids.now in
    let later = shown_later p q depth keys (Inner kids) kids
    (body_pieces depth keys (Inner kids)) c.fate_of.ensures.grown.0 refl refl c.requires.tree in
    if_ok_so c.remove_fated.result c.remove_fated.ensures.done
    (λ heir done. done ∙ ap (λ z. Some (without_key c.args.key.now (rows_or z))) later)

pub returns-clause-grown : goal.returns-clause-grown
returns-clause-grown g c =
    grows_on g.C.Chunks.contents g.C.Chunks.places _ _ _ c.fate_of.ensures.grown c.remove_fated.ensures.grown
