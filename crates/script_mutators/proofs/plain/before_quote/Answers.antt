use Rattle.std.proofs.Common.{rules, ◌≡◌, ◌-◌, ◌<◌, length, get_or, arith, subst}
use Rattle.std.proofs.lemmas.Str.{IsCharBoundary-after_ascii}
use Rattle.json.specs.Written.{PlainBetween}
use Rattle.script_mutators.proofs.Cuts.{cut_at, plain_front}
use Rattle.script_mutators.proofs.plain.before_quote.Goals as goal

pub range_from-requires : goal.range_from-requires
range_from-requires c p =
    IsCharBoundary-after_ascii c.args.text.now c.plain_length-at.result c.utf8.text (search rules) (search rules)

pub returns : goal.returns
returns c =
    let text = c.args.text.now in
    let at = c.plain_length-at.result in
    let inside : at < length text = search rules in
    let quote : get_or text at 0 ≡ 34 = search rules in
    let plain : PlainBetween text 0 at =
    subst (λ s. PlainBetween s 0 at) c.as_bytes-bytes.ensures.value c.plain_length-at.ensures.plain in
    let all : at - 0 ≡ at = omega arith in
    rw (c.range.ensures.value, c.range_from.ensures.value, all)
    (cut_at text at 34 inside quote, plain_front text at (omega (arith, inside)) plain)
