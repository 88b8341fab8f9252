use Rattle.std.proofs.Common.{◌≡◌, inl, inr, refl, true, false, [], ◌∷◌, ◌++◌, ap, sym, ◌∙◌}
use Rattle.group_history.specs.declared.refs.Ref.{Ref}
use Rattle.group_history.specs.Refs.{stamp_of}
use Rattle.commit_graph.specs.Inside.Reach.{ref_in, stamp_in}
use Rattle.commit_graph.proofs.Reached.{spelled_grown}
use Rattle.commit_graph.proofs.Rooted.{map_some_stays, kept_grown}
use Rattle.map_chunks.proofs.KeptLemmas.{grows_on}
use Rattle.commit_graph.proofs.reaching.visit.Goals as goal

pub look-requires-clause-found : goal.look-requires-clause-found
look-requires-clause-found g c = let m = g.N.Chunks.contents in
    spelled_grown (m c.args.nodes.now) (m c.is_kept.new.nodes) c.args.at c.is_kept.ensures.grown.0 c.requires.found

pub returns-clause-visited : goal.returns-clause-visited
returns-clause-visited g c =
    let m = g.N.Chunks.contents in let a = c.in_ok-look.ensures.added in
    let root = stamp_of c.args.part.root in let at = stamp_in c.args.at in
    let both = kept_grown (m c.is_kept.new.nodes) (m c.look.new.nodes) root at
    (map_some_stays (m c.args.nodes.now) (m c.is_kept.new.nodes) root c.is_kept.ensures.grown.0 c.requires.root)
    c.look.ensures.grown.0 in
    inr (
      a.0,
      a.1,
      (λ r. let t : c.in_ok-is_kept.field-0 ≡ true = c.in_ok-is_kept.ensures.kept.1 (both.1 r) in
          let x : false ≡ true = sym c.if-branch.false ∙ t in cc x),
      a.2,
      a.3,
      a.4,
      a.5,
      c.in_ok-add.ensures ∙ ap (λ (r : Ref). c.args.listed.now.items ++ r ∷ []) c.ref_in.ensures,
    )

pub look-requires-clause-places : goal.look-requires-clause-places
look-requires-clause-places g c = (
  c.is_kept.ensures.grown.1 c.args.part.root c.requires.places.0,
  c.is_kept.ensures.grown.1 (ref_in c.args.at) c.requires.places.1,
)

pub look-requires-clause-root : goal.look-requires-clause-root
look-requires-clause-root g c = let m = g.N.Chunks.contents in
    map_some_stays (m c.args.nodes.now) (m c.is_kept.new.nodes) (stamp_of c.args.part.root) c.is_kept.ensures.grown.0
    c.requires.root

pub returns-in_err-look-clause-grown : goal.returns-in_err-look-clause-grown
returns-in_err-look-clause-grown g c =
    grows_on g.N.Chunks.contents g.N.Chunks.places _ _ _ c.is_kept.ensures.grown c.look.ensures.grown

pub returns-in_err-add-clause-grown : goal.returns-in_err-add-clause-grown
returns-in_err-add-clause-grown g c =
    grows_on g.N.Chunks.contents g.N.Chunks.places _ _ _ c.is_kept.ensures.grown c.look.ensures.grown

pub returns-clause-grown : goal.returns-clause-grown
returns-clause-grown g c =
    grows_on g.N.Chunks.contents g.N.Chunks.places _ _ _ c.is_kept.ensures.grown c.look.ensures.grown

pub returns-then-branch-clause-visited : goal.returns-then-branch-clause-visited
returns-then-branch-clause-visited g c = inl (c.in_ok-is_kept.ensures.kept.0 c.if-branch.true, refl, refl)
