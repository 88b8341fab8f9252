use Rattle.std.proofs.Common.{[], refl, sym, subst}
use Rattle.std.proofs.lemmas.List.{append-nil}
use Rattle.map_chunks.specs.Covers.{Covers}
use Rattle.map_chunks.proofs.covers.cover_placed.Goals as goal

pub returns-clause-cover : goal.returns-clause-cover
returns-clause-cover g c =
    let p = g.C.Chunks.contents c.args.chunks.now in
    c.in_ok-add_shown.ensures.cover p ([], append-nil p) c.requires.tree []
    (subst (λ w. Covers c.args.scan.now p w []) (sym c.new-stamps.ensures.items) refl)
