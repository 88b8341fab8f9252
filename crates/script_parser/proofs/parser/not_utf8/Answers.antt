use Rattle.std.proofs.Common.{◌≡◌, ◌==◌, ◌+◌, ◌≤◌, length, take, length-take-le, arith, rules, tests, ap, ◌∙◌}
use Rattle.std.specs.List.{count_by, filter}
use Rattle.std.specs.Str.Lossy.{utf8_valid_len}
use Rattle.std.proofs.lemmas.Iterator.{YieldsList-from_slice, YieldsList-from_take}
use Rattle.std.proofs.lemmas.Iterator.Consumers.{YieldsList-at, YieldsList-from_filter, count_from_yields_List}
use Rattle.std.proofs.lemmas.List.Sums.{length-filter, count_by-le-length}
use Rattle.std.proofs.lemmas.Str.{utf8_valid_len_le}
use Rattle.script_parser.specs.declared.faults.ScriptFault.TheVariants as script_fault
use Rattle.script_parser.specs.declared.faults.Fault.TheVariants as fault
use Rattle.script_parser.specs.Faults.{line_of_bad_byte}
use Rattle.script_parser.proofs.parser.not_utf8.Goals as goal

pub returns : goal.returns
unfolding line_of_bad_byte
returns c =
    let bytes = c.args.bytes.now in
    let count : c.count-feeds.result ≡ length (filter (λ b. b == 10) (take c.args.valid bytes)) =
    count_from_yields_List _ _ c.count-feeds.ensures.ran
    (YieldsList-from_filter _ (λ b. b == 10)
    (YieldsList-at c.filter.ensures.source
    (YieldsList-from_take c.args.valid (YieldsList-at c.take.ensures.source (YieldsList-from_slice bytes cc))
    c.take.ensures.count))
    c.filter.ensures.closure (λ x b q k. search (rules, tests))) in
    let feeds = count ∙ length-filter (λ b. b == 10) (take c.args.valid bytes) in
    let few = count_by-le-length (λ b. b == 10) (take c.args.valid bytes) in
    let valid : c.args.valid ≡ utf8_valid_len bytes = c.requires in
    let within : c.args.valid ≤ length bytes = omega (arith, utf8_valid_len_le bytes) in
    let long = length-take-le c.args.valid bytes within in
    let line : c.saturating_add.result ≡ count_by (λ b. b == 10) (take c.args.valid bytes) + 1 = omega
    (arith, c.saturating_add.ensures, feeds, few, long) in
    ap (λ n. fault.Script n script_fault.NotUtf8) (rw valid at line)
