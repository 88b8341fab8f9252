-- What a quick look at the slots led to.
use Rattle.std.specs.Prelude.{◌≡◌, ℕ, ◌<◌}
use Rattle.reader_claims.specs.declared.passes.Look.{Look}
use Rattle.reader_claims.specs.declared.passes.Look.TheVariants.{Took, Retired, Nothing}
use Rattle.reader_claims.specs.declared.view.View.{View}
use Rattle.reader_claims.specs.Passes.{Takes}

-- a slot below end was taken, or none, and a retired one is below end
abbrev pub IfTook : Look → ℕ → View → View → Type 0
IfTook (Took i) end v u = (i < end) × Takes v u i
IfTook (Retired i) end v u = (i < end) × (u.taken ≡ v.taken)
IfTook Nothing end v u = u.taken ≡ v.taken
