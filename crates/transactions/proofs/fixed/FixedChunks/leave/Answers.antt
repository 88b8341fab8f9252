use Rattle.std.proofs.Common.{◌≡◌, length, take}
use Rattle.std.specs.Coded.{Coded-set, codes}
use Rattle.group_history.specs.State.{ids_coded}
use Rattle.transactions.proofs.KnownLemmas.{same_made}
use Rattle.transactions.proofs.fixed.FixedChunks.leave.Goals as goal

pub returns : goal.returns
returns g c =
    same_made (λ chunks. take (length g.K.NamesContents.known) (g.C.Chunks.contents chunks) ≡ g.K.NamesContents.known)
    (λ chunks has. record c.args.self.now { chunks = chunks; has = has })
    (λ chunks. Prim.hlevel (codes, ids_coded, Coded-set)) c.args.self.now.chunks c.leave.new.self c.args.self.now.has
    _ c.leave.ensures
