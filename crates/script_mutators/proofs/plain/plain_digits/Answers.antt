use Rattle.std.proofs.Common.{rules, ◌<◌, ◌≤◌, ◌^◌, length, get_or, refl}
use Rattle.script_mutators.proofs.Digits.{digit_read}
use Rattle.script_mutators.proofs.plain.plain_digits.Goals as goal

pub loop-byte-preserved : goal.loop-byte-preserved
loop-byte-preserved c =
    let text = c.args.text.now in
    let l = c.loop-byte in
    let byte = get_or text l.byte-index 0 in
    let inside : l.byte-index < length text = search rules in
    let low : 48 ≤ byte = search rules in
    let high : byte ≤ 57 = search rules in
    let few : l.number < 10 ^ 17 = search rules in
    (l.invariant.0, digit_read text l.byte-index l.number byte l.invariant.0 inside refl low high few l.invariant.1)
