use Rattle.std.proofs.Common.{◌≡◌, map, length}
use Rattle.script_parser.specs.Inside.Parsing.{context_of}
use Rattle.script_parser.proofs.Scripts.{Said}
use Rattle.script_parser.proofs.parser.read_lines.Given as goal

abbrev pub invariant-loop-line : goal.invariant-loop-line
invariant-loop-line l = record {
  counted : l.number ≡ length l.yielded;
  said : Said (length l.yielded) (map (λ x. x.now) l.yielded) (context_of l.parser);
}
