use Rattle.std.proofs.Common.{◌∙◌, ap, arith, length, sym}
use Rattle.std.proofs.lemmas.List.{take_all}
use Rattle.std.proofs.lemmas.Slice.Eq.{bytes_eq-Decides}
use Rattle.group_history.proofs.texts.is_word.Goals as goal

pub returns : goal.returns
returns g c =
    let text = c.args.text.now in let word = c.args.word.now in let kept = c.bytes.invariant in
    let long = ap length c.as_bytes-bytes.ensures.value in
    let far = c.bytes-test.false in
    let same = sym (take_all c.bytes.i text (omega (arith, long, c.if-bytes.false, far))) ∙ kept.same
    ∙ take_all c.bytes.i word (omega (arith, long, c.if-bytes.false, far, kept.long)) in
    sym ((bytes_eq-Decides text word).1 same)
