use Rattle.std.proofs.Common.{◌≡◌, Ok, sym, subst}
use Rattle.script_parser.specs.Faults.{said_with}
use Rattle.script_parser.specs.Kept.{without_lines}
use Rattle.script_parser.specs.Reading.{TakesAs}
use Rattle.script_parser.specs.Inside.Parsing.{context_of}
use Rattle.script_parser.specs.Inside.Reading.{kept_after}
use Rattle.script_parser.proofs.Kept.{IsSaidInRange, bare_beside, bare_settled, either, in_range, range_asked}
use Rattle.script_parser.proofs.Kept.{range_settled, said_in_range, took}
use Rattle.script_parser.proofs.reader.LineReader.take_text.Goals as goal

pub invariant_of-self-2 : goal.invariant_of-self-2
invariant_of-self-2 c =
    let was = c.args.self.now in let old = context_of was.parser in
    let mid = context_of c.ask.new.self in let new = context_of c.settle.new.self in
    let asked = c.in_ok-asked.asked in let asks = c.in_ok-asked.ensures in
    let bare = bare_beside c.args.number old mid asked was.bare asks.1 in
    let range = range_asked old mid c.args.number c.args.line.now asked was.bare (said_in_range was.parser was.range)
    asks.0 in
    record {
      bare = either (λ d. without_lines d ≡ d) c.settle.result mid (kept_after asked mid) new c.settle.ensures.settled
          c.settle.ensures.left (bare_settled asked mid bare) bare;
      range = in_range c.settle.new.self (either IsSaidInRange c.settle.result mid (kept_after asked mid) new
          c.settle.ensures.settled c.settle.ensures.left (range_settled asked mid range) range);
    }

pub returns-clause-taken : goal.returns-clause-taken
returns-clause-taken c =
    let was = c.args.self.now in let old = context_of was.parser in
    let mid = context_of c.ask.new.self in let asked = c.in_ok-asked.asked in let asks = c.in_ok-asked.ensures in
    let right = said_with old c.args.number c.args.line.now in
    subst (λ d. TakesAs right c.args.number old (Ok asked) d) (sym c.in_ok-settle.ensures.settled)
    (took right c.args.number old mid asked was.bare asks.0 asks.1)
