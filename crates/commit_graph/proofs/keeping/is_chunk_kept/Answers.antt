use Rattle.std.proofs.Common.{◌≡◌, ◌↔◌, ℕ, None, sym, subst, ◌∙◌}
use Rattle.std.specs.Prelude.{IsTrue}
use Rattle.std.proofs.lemmas.Bool.{eqb-true, eq-eqb}
use Rattle.std.proofs.lemmas.Result.{IfOk-at_ok}
use Rattle.group_history.specs.Refs.{stamp_of}
use Rattle.commit_graph.specs.Reach.{Reaches}
use Rattle.commit_graph.specs.Inside.Meeting.{keys_in, IsFirstKey, HasKeyAt}
use Rattle.commit_graph.proofs.Chained.{none_from}
use Rattle.commit_graph.proofs.Rooted.{map_some_stays, kept_grown, kept_empty, kept_key}
use Rattle.map_chunks.proofs.KeptLemmas.{grows_on}
use Rattle.commit_graph.proofs.keeping.is_chunk_kept.Goals as goal

pub returns-in_default-clause-kept : goal.returns-in_default-clause-kept
returns-in_default-clause-kept g c =
    let m = g.C.Chunks.contents in let k = c.in_ok-look_at.ensures.told in
    let none : c.in_ok-key.field-0 ≡ None = none_from c.in_ok-key.field-0 c.in_default.not-Some in
    let e = kept_empty (m c.args.chunks.now) (m c.look_at.new.chunks) (stamp_of c.args.root)
    (stamp_of c.args.at) k.0.now c.requires.root c.requires.chunk c.look_at.ensures.grown.0 k.1.1
    (subst (IsFirstKey (keys_in k.0.now)) none (IfOk-at_ok (IsFirstKey (keys_in k.0.now)) c.in_ok-key.was k.2)) in (
      λ t. e.0 (sym c.stamp.ensures.stamp ∙ (eqb-true c.stamp.result c.stamp-in_default.result t ∙
          c.stamp-in_default.ensures.stamp)),
      λ r. eq-eqb c.stamp.result c.stamp-in_default.result
          (c.stamp.ensures.stamp ∙ (e.1 r ∙ sym c.stamp-in_default.ensures.stamp)),
    )

pub meets-requires-clause-root : goal.meets-requires-clause-root
meets-requires-clause-root g c = let m = g.C.Chunks.contents in
    map_some_stays (m c.args.chunks.now) (m c.look_at.new.chunks)
    (stamp_of c.args.root) c.look_at.ensures.grown.0 c.requires.root

pub meets-requires-clause-key : goal.meets-requires-clause-key
meets-requires-clause-key g c =
    let m = g.C.Chunks.contents in let k = c.in_ok-look_at.ensures.told in
    subst (λ (n : ℕ). HasKeyAt (m c.look_at.new.chunks) n c.in-Some.key) (sym c.stamp-2.ensures.stamp)
    (kept_key (m c.args.chunks.now) (m c.look_at.new.chunks)
    (stamp_of c.args.at) k.0.now c.in-Some.key c.requires.chunk c.look_at.ensures.grown.0 k.1.1
    (subst (IsFirstKey (keys_in k.0.now)) c.in-Some.is (IfOk-at_ok (IsFirstKey (keys_in k.0.now)) c.in_ok-key.was k.2)))

pub returns-clause-kept : goal.returns-clause-kept
returns-clause-kept g c =
    let m = g.C.Chunks.contents in
    let root = stamp_of c.args.root in let at = stamp_of c.args.at in
    let middle = m c.look_at.new.chunks in
    let met = subst (λ (n : ℕ). IsTrue c.in_ok-met.met ↔ Reaches middle root n) c.stamp-2.ensures.stamp
    c.in_ok-met.ensures.met in
    let both = kept_grown middle (m c.meets.new.chunks) root at
    (map_some_stays (m c.args.chunks.now) middle root c.look_at.ensures.grown.0 c.requires.root)
    c.meets.ensures.grown.0 in
    (λ t. both.0 (met.0 t), λ r. met.1 (both.1 r))

pub meets-requires-clause-place : goal.meets-requires-clause-place
meets-requires-clause-place g c = c.look_at.ensures.grown.1 c.args.root c.requires.places.0

pub returns-clause-grown : goal.returns-clause-grown
returns-clause-grown g c =
    grows_on g.C.Chunks.contents g.C.Chunks.places _ _ _
    c.look_at.ensures.grown c.meets.ensures.grown

pub returns-in_err-met-clause-grown : goal.returns-in_err-met-clause-grown
returns-in_err-met-clause-grown g c =
    grows_on g.C.Chunks.contents g.C.Chunks.places _ _ _
    c.look_at.ensures.grown c.meets.ensures.grown
