use Rattle.std.proofs.Common.{arith, refl, ◌≡◌, true}
use Rattle.std.proofs.lemmas.Str.Parse.{parse_digits}
use Rattle.script_parser.specs.Words.{is_decimal}
use Rattle.script_parser.proofs.Numbers.{own, digits, is_number-in, is_number-below, is_number-above, is_number-unread}
use Rattle.script_parser.proofs.lines.number.Goals.{then-number-low-via-then-number-low}
use Rattle.script_parser.proofs.lines.number.Goals.{then-number-low-via-else-number-low+then-high-number}
use Rattle.script_parser.proofs.lines.number.Goals as goal

pub returns-in_default-clause-form : goal.returns-in_default-clause-form
returns-in_default-clause-form c =
    let w = c.args.word.now in
    let decimal : is_decimal w ≡ true = cc in
    let read = parse_digits own 64 w c.parse.result c.parse.ensures.value.0 (digits w decimal) in
    let never = rw c.in_default.is at read in
    (is_number-unread c.args.low c.args.high w decimal (omega arith) never, refl)

pub returns-then-number-low-clause-form : goal.returns-then-number-low-clause-form
returns-then-number-low-clause-form c =
    let w = c.args.word.now in
    let decimal : is_decimal w ≡ true = cc in
    let read = parse_digits own 64 w c.parse.result c.parse.ensures.value.0 (digits w decimal) in
    let is = (rw c.in-Ok.is at read).1 in
    elim c.then-number-low.branch [
      | then-number-low-via-then-number-low b ↦ (is_number-below c.args.low c.args.high w (omega arith), refl)
      | then-number-low-via-else-number-low+then-high-number b ↦
          (is_number-above c.args.low c.args.high w (omega arith), refl)
    ]

pub returns-clause-form : goal.returns-clause-form
returns-clause-form c =
    let w = c.args.word.now in
    let decimal : is_decimal w ≡ true = cc in
    let read = parse_digits own 64 w c.parse.result c.parse.ensures.value.0 (digits w decimal) in
    let is = (rw c.in-Ok.is at read).1 in
    is_number-in c.args.low c.args.high w decimal (omega arith) (omega arith)

pub returns-clause-value : goal.returns-clause-value
returns-clause-value c =
    let w = c.args.word.now in
    let decimal : is_decimal w ≡ true = cc in
    let read = parse_digits own 64 w c.parse.result c.parse.ensures.value.0 (digits w decimal) in
    (rw c.in-Ok.is at read).1
