use Rattle.std.proofs.Common.{◌∙◌, sym}
use Rattle.std.proofs.lemmas.Result.{on_ok_weaker}
use Rattle.pull_patch.proofs.PlainResponses.{parts_cookie, parts_changes, parts_other}
use Rattle.pull_patch.proofs.plain.read_small_part.Goals as goal

pub returns-then-eq-clause-read : goal.returns-then-eq-clause-read
returns-then-eq-clause-read c =
    let done = c.in_ok-read_cookie.ensures.read in record {
      tree = done.tree;
      reads = done.reads;
      parts = λ ms h. parts_cookie c.args.parts.now c.in_ok-read_cookie.field-0 done.tree c.args.name.now ms
          (sym c.eq.ensures ∙ c.if-eq.true) done.is h;
    }

pub returns-then-eq-2-clause-read : goal.returns-then-eq-2-clause-read
returns-then-eq-2-clause-read c =
    let done = c.in_ok-read_confirmed.ensures.read in record {
      tree = done.tree;
      reads = done.reads;
      parts = λ ms h. parts_changes c.args.parts.now c.in_ok-read_confirmed.field-0 done.tree c.args.name.now ms
          (sym c.eq-2.ensures ∙ c.if-eq-2.true) done.are done.in_range h;
    }

pub returns-clause-read : goal.returns-clause-read
returns-clause-read c =
    on_ok_weaker c.pass_value.result (λ done. record {
      tree = done.tree;
      reads = done.reads;
      parts = λ ms h.
          parts_other c.args.parts.now done.tree c.args.name.now ms c.requires.other
          (sym c.eq-3.ensures ∙ c.if-eq-3.false) (sym c.eq.ensures ∙ c.if-eq.false)
          (sym c.eq-2.ensures ∙ c.if-eq-2.false) h;
    }) c.pass_value.ensures.read
