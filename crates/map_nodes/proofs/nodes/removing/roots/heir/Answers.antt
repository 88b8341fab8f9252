use Rattle.std.proofs.Common.{◌≡◌, ◌<◌, ◌-◌, ℕ, List, [], ◌∷◌, length, arith, refl, subst, sym}
use Rattle.map_chunks.specs.Places.{AreKept, places_of}
use Rattle.map_nodes.specs.Inside.Freezing.{child_places, kids_places}
use Rattle.map_nodes.specs.Inside.Removing.{end_places, HeirNarrows}
use Rattle.map_nodes.specs.declared.nodes.removing.NewRoot.TheVariants as heir
use Rattle.map_nodes.proofs.EndLemmas.{other_left, heir_taken, kept-start, heir_own, heir_placed, none_left}
use Rattle.map_nodes.proofs.EndLemmas.{taken-places}
use Rattle.map_chunks.proofs.KeptLemmas.{kept-none, kept-same, kept-within}
use Rattle.map_nodes.proofs.NamedLemmas.{kid-within}
use Rattle.map_nodes.proofs.PlaceLemmas.{kid_all}
use Rattle.map_nodes.proofs.nodes.removing.roots.heir.Goals as goal

pub returns-in-None-clause-heir : goal.returns-in-None-clause-heir
returns-in-None-clause-heir g c =
    let kids = c.args.kids.now.items in
    let left = other_left kids c.args.place c.swap_remove.result c.requires.within c.requires.few
    (λ e. c.if-len-eq1.false (let q : c.len.result ≡ 1 = omega (arith, c.len.ensures, e, c.args.kids.now.ok.0) in q))
    c.swap_remove.ensures.value in
    heir_taken (g.C.Chunks.contents c.args.chunks.now)
    (g.C.Chunks.contents c.kid_end.new.chunks) _ c.swap_remove.result c.taken.result c.kid_end.ensures.grown.0 left
    c.requires.tree c.taken.ensures

two : {A : Type 0} (kids : List A) (i : ℕ) → i < length kids → (length kids ≡ 1 → ⊥) → 1 - i < length kids
two [] i w o = absurd (omega arith)
two (x ∷ []) i w o = absurd (o refl)
two (x ∷ y ∷ kids) i w o = omega arith

pub returns-in-Some-clause-places : goal.returns-in-Some-clause-places
returns-in-Some-clause-places g c =
    let at_q = g.C.Chunks.places c.kid_end.new.chunks in
    let kids = c.args.kids.now.items in
    let within : 1 - c.args.place < length kids = two kids c.args.place c.requires.within
    (λ e. c.if-len-eq1.false (let q : c.len.result
    ≡ 1 = omega (arith, c.len.ensures, e, c.args.kids.now.ok.0) in q)) in
    kept-start at_q (child_places c.index.result.now) (kids_places kids) (c.in-Some.at ∷ [])
    (kid-within kids (1 - c.args.place) c.index.result.now within c.index.ensures)
    (subst (λ e. AreKept at_q (child_places c.index.result.now) (end_places e)) c.in-Some.is c.in_ok-at.ensures.places)

pub returns-in-None-clause-places : goal.returns-in-None-clause-places
returns-in-None-clause-places g c =
    let at_q = g.C.Chunks.places c.kid_end.new.chunks in
    let kids = c.args.kids.now.items in
    let within : 1 - c.args.place < length kids = two kids c.args.place c.requires.within
    (λ e. c.if-len-eq1.false (let q : c.len.result
    ≡ 1 = omega (arith, c.len.ensures, e, c.args.kids.now.ok.0) in q)) in
    kept-start at_q (child_places c.swap_remove.result) (kids_places kids) (places_of c.taken.result.pieces)
    (kid-within kids (1 - c.args.place) c.swap_remove.result within c.swap_remove.ensures.value)
    (kept-within at_q (child_places c.swap_remove.result) (places_of c.taken.result.pieces)
    (child_places c.swap_remove.result) (taken-places c.swap_remove.result c.taken.result c.taken.ensures)
    (kept-same at_q (child_places c.swap_remove.result)))

pub returns-then-len-eq1-clause-places : goal.returns-then-len-eq1-clause-places
returns-then-len-eq1-clause-places g c =
    let at_p = g.C.Chunks.places c.args.chunks.now in
    let old = kids_places c.args.kids.now.items in
    subst (λ ps. AreKept at_p old (places_of ps)) (sym c.empty.ensures.pieces) (kept-none at_p old)

pub kid_end-requires-clause-places : goal.kid_end-requires-clause-places
kid_end-requires-clause-places g c =
    let kids = c.args.kids.now.items in
    let within : 1 - c.args.place < length kids = two kids c.args.place c.requires.within
    (λ e. c.if-len-eq1.false (let q : c.len.result
    ≡ 1 = omega (arith, c.len.ensures, e, c.args.kids.now.ok.0) in q)) in
    kid_all (g.C.Chunks.places c.args.chunks.now) kids
    (1 - c.args.place) c.index.result.now within c.index.ensures c.requires.places

pub returns-in-Some-clause-levels : goal.returns-in-Some-clause-levels
returns-in-Some-clause-levels g c below h =
    let kids = c.args.kids.now.items in
    let left = other_left kids c.args.place c.index.result.now c.requires.within c.requires.few
    (λ e. c.if-len-eq1.false (let q : c.len.result ≡ 1 = omega (arith, c.len.ensures, e, c.args.kids.now.ok.0) in q))
    c.index.ensures in
    heir_placed (g.C.Chunks.contents c.args.chunks.now)
    (g.C.Chunks.contents c.kid_end.new.chunks) below _ c.index.result.now _ c.in-Some.at left h
    (c.in_ok-at.ensures.levels below) c.in-Some.is

pub returns-in-None-clause-levels : goal.returns-in-None-clause-levels
returns-in-None-clause-levels g c below h =
    let kids = c.args.kids.now.items in
    let left = other_left kids c.args.place c.swap_remove.result c.requires.within c.requires.few
    (λ e. c.if-len-eq1.false (let q : c.len.result ≡ 1 = omega (arith, c.len.ensures, e, c.args.kids.now.ok.0) in q))
    c.swap_remove.ensures.value in
    heir_own (g.C.Chunks.contents c.args.chunks.now) (g.C.Chunks.contents c.kid_end.new.chunks) below _
    c.swap_remove.result c.taken.result left h c.taken.ensures

pub returns-then-len-eq1-clause-levels : goal.returns-then-len-eq1-clause-levels
returns-then-len-eq1-clause-levels g c below h =
    let kids = c.args.kids.now.items in
    subst (λ w. HeirNarrows (g.C.Chunks.contents c.args.chunks.now) below w (heir.Own c.empty.result))
    (sym (none_left kids c.args.place c.requires.within
    (let q : length kids ≡ 1 = omega (arith, c.len.ensures, c.if-len-eq1.true, c.args.kids.now.ok.0) in q)))
    (c.empty.ensures.depth, c.empty.ensures.marks)
