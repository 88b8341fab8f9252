use Rattle.std.proofs.Common.{rules, ◌∷◌, ap, map, subst, sym, ◌∙◌}
use Rattle.reader_claims.specs.Deeds as deed
use Rattle.reader_claims.specs.Seats.{ClaimsId, Seated}
use Rattle.chunk_slots.specs.Seats.{IsOpening}
use Rattle.chunk_slots.proofs.Begins.{none_left}
use Rattle.chunk_slots.proofs.Opened.{opened}
use Rattle.chunk_slots.proofs.dealt.Dealt.into_arena.Goals as goal

pub returns-clause-seats : goal.returns-clause-seats
returns-clause-seats g c = search (rules, none_left)

pub returns-clause-opening : goal.returns-clause-opening
returns-clause-opening g c =
    let dealt = c.args.self in let s = c.settle_both.ensures in let all = c.push.new.self.items in
    let (_, pin, _, two, leaf, commit, settled, did) = dealt.both in
    subst (λ (z : ClaimsId). IsOpening z.sizes (map (λ (seat : Seated). seat.view) all) dealt.commit)
    (sym c.in_ok-arena.ensures.claims)
    (opened dealt.claims all dealt.others.items c.settle_both.new.self dealt.leaf dealt.commit
    c.in_ok-push.ensures.items dealt.unused (two, leaf, commit)
    (s.settled ∙ ap (λ left. dealt.commit ∷ dealt.leaf ∷ left) settled) (s.pin ∙ pin, s.taken)
    (s.deeds ∙ ap (λ before. deed.settled dealt.commit ∷ deed.settled dealt.leaf ∷ before) did))
