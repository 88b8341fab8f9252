use Rattle.std.proofs.Common.{take}
use Rattle.push_body.specs.Written.{HasWritten}
use Rattle.push_body.proofs.push.written.Given as goal

abbrev pub invariant-loop-mutation : goal.invariant-loop-mutation
invariant-loop-mutation l = HasWritten l.identity (take l.mutation-index l.pending) l.writer
