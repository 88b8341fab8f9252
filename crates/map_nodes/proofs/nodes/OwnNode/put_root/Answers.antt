use Rattle.std.proofs.Common.{◌≡◌, ◌⊎◌, ◌<◌, ℕ, ap, arith, length, sym, subst, refl, Option, Some, None, Result, Ok}
use Rattle.std.proofs.Common.{Err, IfOk, IfErr}
use mathlib.Core.List.{IsPrefix}
use Rattle.group_history.specs.declared.mutators.Ran.{Ran}
use Rattle.group_history.specs.declared.mutators.Stop.{Stop}
use Rattle.group_history.specs.declared.mutators.Stop.TheVariants.{NoMemory}
use Rattle.group_history.specs.declared.mutators.Update.{Update}
use Rattle.group_history.specs.declared.mutators.Update.TheVariants.{Put, Refuse}
use Rattle.group_history.specs.declared.refs.Ref.{Ref}
use Rattle.group_history.specs.Map.{Bytes}
use Rattle.group_history.specs.Spelling.{Contents}
use Rattle.map_chunks.specs.Shown.{Seen, shown, IsTree}
use Rattle.map_nodes.proofs.RenewLemmas.{put_unchanged, put_whole}
use Rattle.map_nodes.specs.Changes.{Makes}
use Rattle.map_nodes.specs.Inside.Counts.{HasKept}
use Rattle.map_nodes.specs.Inside.Puts.{shown_at}
use Rattle.map_nodes.specs.Inside.Unput.{IsAnswer, IsUnput}
use Rattle.map_nodes.specs.Updating.{IsPutOr}
use Rattle.map_nodes.specs.declared.nodes.putting.Half.{Half}
use Rattle.map_nodes.specs.declared.nodes.putting.PutRefused.{PutRefused}
use Rattle.map_nodes.specs.declared.nodes.putting.PutRefused.TheVariants.{Stopped, Same, Refused}
use Rattle.map_nodes.proofs.nodes.OwnNode.put_root.Goals as goal

-- what is answered where nothing is put
not_put : (p q : Contents) (may : Ref → Type 0) (makes : Result Update Stop → Type 0) (stops : Stop → Type 0)
    (key : Bytes) (n o : Seen) (why : PutRefused) (r : Result Ran Stop) → IsPrefix p q
    → IsTree (shown p n.pieces) → o ≡ n
    → IsUnput makes stops (shown_at (shown p n.pieces) key) why → IsAnswer why r
    → IfOk r (λ ran. (u : Update) × makes (Ok u) × IsPutOr p q may key n o u ran)
not_put p q may makes stops key n o (Stopped s) r pre tree e h is = subst (λ w. IfOk w (λ ran. (u : Update)
    × makes (Ok u) × IsPutOr p q may key n o u ran)) (sym is) tt
not_put p q may makes stops key n o Same r pre tree e h is = subst (λ w. IfOk w (λ ran. (u : Update)
    × makes (Ok u) × IsPutOr p q may key n o u ran)) (sym is)
    (Put h.0, h.2, (refl, put_unchanged p q may key h.0 n o pre tree h.1 e))
not_put p q may makes stops key n o (Refused code) r pre tree e h is = subst (λ w. IfOk w (λ ran. (u : Update)
    × makes (Ok u) × IsPutOr p q may key n o u ran)) (sym is) (Refuse code, h, (refl, e))

not_done : (makes : Result Update Stop → Type 0) (stops : Stop → Type 0) (found : Option Bytes) (why : PutRefused)
    (r : Result Ran Stop) → IsUnput makes stops found why → IsAnswer why r
    → IfErr r (λ s. (s ≡ NoMemory) ⊎ stops s ⊎ makes (Err s))
not_done makes stops found (Stopped s) r h is =
    subst (λ w. IfErr w (λ s. (s ≡ NoMemory) ⊎ stops s ⊎ makes (Err s))) (sym is) h
not_done makes stops found Same r h is =
    subst (λ w. IfErr w (λ s. (s ≡ NoMemory) ⊎ stops s ⊎ makes (Err s))) (sym is) tt
not_done makes stops found (Refused code) r h is =
    subst (λ w. IfErr w (λ s. (s ≡ NoMemory) ⊎ stops s ⊎ makes (Err s))) (sym is) tt

-- a chunk with room isn't split
had_room : (old new : ℕ) (half : Option Half) → HasKept old new half → old < 16 → half ≡ None
had_room old new None k l = refl
had_room old new (Some h) k l = absurd (omega (arith, k.0))

pub returns-in-Ok-clause-put : goal.returns-in-Ok-clause-put
returns-in-Ok-clause-put g c =
    let p = g.C.Chunks.contents c.args.chunks.now in
    let q = g.C.Chunks.contents c.put.new.chunks in
    let old = c.args.self.now in
    let made = c.in-Ok.ensures in
    let half = c.in-Ok.field-0 in
    let z = made.put in
    let few : old.entries < 16 = omega (
      arith,
      c.if-as_slice-lt-MOST.true,
      ap length c.as_slice.ensures,
      ap (λ (s : Seen). s.entries) c.self.view_is,
    ) in (
      Put z.0,
      z.1,
      (
        refl,
        put_whole p q (g.C.Chunks.places c.put.new.chunks) c.args.key.now z.0 old c.put.new.self half
            (had_room old.entries c.put.new.self.entries half made.entries few) c.put.ensures.depth z.2 made.places
            made.entries made.levels,
      ),
    )

pub returns-in-Err-clause-put : goal.returns-in-Err-clause-put
returns-in-Err-clause-put g c =
    let p = g.C.Chunks.contents c.args.chunks.now in
    let q = g.C.Chunks.contents c.put.new.chunks in
    let found = shown_at (shown p c.args.self.now.pieces) c.args.key.now in
    let makes : Result Update Stop → Type 0 =
    λ r. Makes (λ f x y. g.F.FnOnce.post f (x, tt) y) c.args.change found r in
    not_put p q (g.C.Chunks.places c.put.new.chunks) makes g.C.Chunks.stops c.args.key.now
    c.args.self.now c.put.new.self
    c.in-Err.refused c.answered.result c.put.ensures.grown.0 c.requires.tree c.in-Err.ensures.err c.in-Err.ensures.unput
    c.answered.ensures

pub returns-in-Err-put_full-clause-put : goal.returns-in-Err-put_full-clause-put
returns-in-Err-put_full-clause-put g c =
    let p = g.C.Chunks.contents c.args.chunks.now in
    let q = g.C.Chunks.contents c.put_full.new.chunks in
    let found = shown_at (shown p c.args.self.now.pieces) c.args.key.now in
    let makes : Result Update Stop → Type 0 =
    λ r. Makes (λ f x y. g.F.FnOnce.post f (x, tt) y) c.args.change found r in
    not_put p q (g.C.Chunks.places c.put_full.new.chunks) makes g.C.Chunks.stops c.args.key.now c.args.self.now
    c.put_full.new.self
    c.in-Err-put_full.refused c.answered-in-Err-put_full.result c.put_full.ensures.grown.0 c.requires.tree
    c.in-Err-put_full.ensures.err c.in-Err-put_full.ensures.unput
    c.answered-in-Err-put_full.ensures

pub returns-in-Err-clause-stopped : goal.returns-in-Err-clause-stopped
returns-in-Err-clause-stopped g c =
    let p = g.C.Chunks.contents c.args.chunks.now in
    let found = shown_at (shown p c.args.self.now.pieces) c.args.key.now in
    let makes : Result Update Stop → Type 0 =
    λ r. Makes (λ f x y. g.F.FnOnce.post f (x, tt) y) c.args.change found r in
    not_done makes g.C.Chunks.stops found c.in-Err.refused c.answered.result c.in-Err.ensures.unput c.answered.ensures

pub returns-in-Err-put_full-clause-stopped : goal.returns-in-Err-put_full-clause-stopped
returns-in-Err-put_full-clause-stopped g c =
    let p = g.C.Chunks.contents c.args.chunks.now in
    let found = shown_at (shown p c.args.self.now.pieces) c.args.key.now in
    let makes : Result Update Stop → Type 0 =
    λ r. Makes (λ f x y. g.F.FnOnce.post f (x, tt) y) c.args.change found r in
    not_done makes g.C.Chunks.stops found c.in-Err-put_full.refused c.answered-in-Err-put_full.result
    c.in-Err-put_full.ensures.unput c.answered-in-Err-put_full.ensures
