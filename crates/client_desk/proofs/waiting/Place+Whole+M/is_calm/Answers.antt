use Rattle.std.proofs.Common.{◌∙◌, ap, sym}
use Rattle.client_desk.specs.Sitting.{asking_of}
use Rattle.client_desk.proofs.Staying.{none_asks}
use Rattle.client_desk.proofs.waiting.Place+Whole+M.is_calm.Goals as goal

pub returns : goal.returns
returns g c =
    ap (λ p. p.asking) (sym c.self.view_is) ∙ none_asks _ _ (asking_of c.self.inside.sitting) c.self.invariant.2
