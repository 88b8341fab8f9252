use Rattle.std.proofs.Common.{◌≡◌, length}
use Rattle.std.specs.Coded.{Coded-set, coded_ℕ, ×_prop, Π_prop}
use Rattle.transactions.proofs.KnownLemmas.{same_made}
use Rattle.transactions.proofs.staged.StagedChunks.leave.Goals as goal

pub returns-in-Placed : goal.returns-in-Placed
returns-in-Placed g c =
    let self = c.args.self.now in
    same_made (λ chunks. (self.draft.now.first ≡ length g.K.NamesContents.known)
    × ((at : _) → g.C.Chunks.places chunks.chunks at))
    (λ chunks facts. record self { chunks = chunks; behind = facts.0; everywhere = facts.1 })
    (λ chunks. ×_prop (Coded-set coded_ℕ self.draft.now.first (length g.K.NamesContents.known))
    (Π_prop (λ at. g.C.Chunks.places_prop chunks.chunks at))) self.chunks c.leave.new.self
    (self.behind, self.everywhere) (_, _) c.leave.ensures
