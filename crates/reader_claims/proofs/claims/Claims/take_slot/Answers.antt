use Rattle.std.proofs.Common.{◌≡◌, ℕ, ◌∷◌, ap, sym, ◌∙◌, subst, arith, rules}
use Rattle.std.proofs.Math.Logic.{∥∥₁_map}
use Rattle.std.proofs.lemmas.Bool.{leb-true}
use Rattle.reader_claims.specs.declared.view.Sizes.{Sizes}
use Rattle.reader_claims.specs.Passes.{FoundNone, KnowsNone}
use Rattle.reader_claims.specs.declared.view.View.{View}
use Rattle.reader_claims.specs.Deeds as deed
use Rattle.reader_claims.specs.Seats.{ClaimsId, Seated, first_reserved}
use Rattle.reader_claims.proofs.Taking.{took_none, took_one}
use Rattle.reader_claims.proofs.claims.Claims.take_slot.Goals as goal

pub found-requires : goal.found-requires
found-requires c = λ is. let u : View = c.find.new.reader.seat.me.0 in
    let same : c.self.inside.words.sizes ≡ u.sizes = search rules in
    subst (λ (k : Sizes). ∥ FoundNone u (first_reserved k) ∥₁) same
    (∥∥₁_map (c.in_ok-number.ensures.reserve (let far = leb-true _ _ is in omega arith)) (λ known. known.0))

pub returns-clause-reserve : goal.returns-clause-reserve
returns-clause-reserve c = λ far. let v : View = c.seat.inside.reader.seat.me.0 in
    let u : View = c.find.new.reader.seat.me.0 in let first = first_reserved c.args.self.now.sizes in
    let same : first_reserved c.self.inside.words.sizes ≡ first =
    ap (λ (z : ClaimsId). first_reserved z.sizes) c.self.view_is in
    let known : ∥ KnowsNone v u first ∥₁ = subst (λ (n : ℕ). ∥ KnowsNone v u n ∥₁) same
    (c.in_ok-number.ensures.reserve (omega (arith, far, same, c.new.ensures))) in
    subst (λ (w : View). ∥ KnowsNone c.args.seat.now.view w first ∥₁)
    (ap (λ (s : Seated). s.view) (sym c.found.ensures))
    (subst (λ (w : View). ∥ KnowsNone w u first ∥₁) (ap (λ (s : Seated). s.view) c.seat.view_is) known)

pub returns-in_err-number-clause-none : goal.returns-in_err-number-clause-none
returns-in_err-number-clause-none c = search rules

pub returns-in_err-number-clause-deeds : goal.returns-in_err-number-clause-deeds
returns-in_err-number-clause-deeds c = let v : View = c.seat.inside.reader.seat.me.0 in
    let u : View = c.find.new.reader.seat.me.0 in
    let same : u.deeds ≡ c.args.seat.now.view.deeds = took_none v u c.find.ensures.looks.took
    c.in_err-number.ensures.taken ∙ ap (λ (s : Seated). s.view.deeds) c.seat.view_is in
    search rules

pub returns-clause-deeds : goal.returns-clause-deeds
returns-clause-deeds c = let v : View = c.seat.inside.reader.seat.me.0 in
    let u : View = c.find.new.reader.seat.me.0 in
    let one : u.deeds ≡ deed.took c.in_ok-number.number ∷ c.args.seat.now.view.deeds =
    took_one v u c.in_ok-number.number c.find.ensures.looks.took c.in_ok-number.ensures.taken.1.1
    ∙ ap (λ (s : Seated). deed.took c.in_ok-number.number ∷ s.view.deeds) c.seat.view_is in
    search rules
