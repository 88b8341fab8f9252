use Rattle.std.proofs.Common.{◌⊎◌}
use Rattle.std.specs.List.{Contains}
use Rattle.transactions.specs.Spans.{IsOneMoved}
use Rattle.transactions.specs.declared.spans.Span.{Span}
use Rattle.transactions.proofs.spans.add_moved.Given as goal

abbrev pub invariant-loop-one : goal.invariant-loop-one
invariant-loop-one l = (s : Span) → Contains l.spans.items s
    → Contains l.fn.spans.items s ⊎ IsOneMoved l.rows.from l.rows.count l.rows.end l.kept s
