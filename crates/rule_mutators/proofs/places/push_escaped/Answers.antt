use Rattle.std.proofs.Common.{◌++◌, length, drop, string_bytes, sym, ap, ap₂, ◌∙◌, arith, append-nil}
use Rattle.std.proofs.lemmas.Iterator.{YieldsList-from_chars}
use Rattle.std.proofs.lemmas.Iterator.Consumers.{YieldsList-turn, YieldsList-end}
use Rattle.std.proofs.lemmas.List.{length_push, at_drop_all}
use Rattle.std.specs.Str.{chars}
use Rattle.rule_mutators.specs.Reading.{escaped_chars}
use Rattle.rule_mutators.proofs.Escapes.{escaped-turn}
use Rattle.rule_mutators.proofs.places.push_escaped.Goals as goal

pub loop-c-preserved : goal.loop-c-preserved
loop-c-preserved c =
    let cs = chars c.args.name.now in
    let n = length c.loop-c.yielded in
    let t = YieldsList-turn (YieldsList-from_chars c.args.name.now c.utf8.name cc) c.loop-c.yielded _
    c.loop-c.yielded_by
    _ _ c.in-Some.c c.in-Some.is c.next.ensures.steps in
    ap₂ (λ s k. s ++ escaped_chars (drop k cs)) c.in_ok-push_escaped_char.ensures
    (length_push c.loop-c.yielded c.in-Some.c)
    ∙ escaped-turn cs (string_bytes c.loop-c.to) n c.in-Some.c t ∙ c.loop-c.invariant

pub returns : goal.returns
returns c =
    let cs = chars c.args.name.now in
    let t = YieldsList-end (YieldsList-from_chars c.args.name.now c.utf8.name cc) c.loop-c.yielded _ c.loop-c.yielded_by
    _ _ c.in-None.is c.next.ensures.steps in
    sym (ap (λ s. string_bytes c.loop-c.to ++ s) (at_drop_all escaped_chars cs (length c.loop-c.yielded)
    (omega (arith, t.1))) ∙ append-nil (string_bytes c.loop-c.to)) ∙ c.loop-c.invariant
