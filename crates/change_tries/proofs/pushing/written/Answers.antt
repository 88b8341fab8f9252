use native.Mathlib.Omega.{arith}
use Rattle.std.proofs.Common.{[], drop, subst, sym, ◌∙◌}
use Rattle.std.proofs.Math.ListN.{drop_of_length-le}
use Rattle.std.proofs.Math.Nat.{sub-zero}
use Rattle.push_body.specs.declared.identities.Identity.{Identity}
use Rattle.push_body.specs.Written.{HasWritten}
use Rattle.change_tries.proofs.pushing.written.Goals as goal

pub returns-clause-body : goal.returns-clause-body
returns-clause-body g c v h =
    let w = g.W.WhichPush in
    let begun = subst (λ (i : Identity). HasWritten i [] c.in_ok-writer.writer) c.requires.whose
    c.in_ok-writer.ensures in
    let none = subst (λ ms. HasWritten w.whose ms c.in_ok-writer.writer)
    (sym (drop_of_length-le [] {i = w.skipped} (omega arith))) begun in
    let left = c.requires.skipped ∙ sym (sub-zero w.skipped) in
    c.in_ok-into_bytes.ensures w.whose (drop w.skipped v.state.pending)
    (c.in_ok-hand_pending.ensures.pending v [] h (left, none)).1
