use Rattle.std.proofs.Common.{◌≡◌, []}
use Rattle.script_server.specs.Serving.{Served}
use Rattle.script_server.specs.Inside.Stages.{heads_stand, served_at}
use Rattle.script_server.proofs.heads.Heads.serve.Given as goal

abbrev pub invariant-loop-number : goal.invariant-loop-number
invariant-loop-number g l = record {
  served : Served (served_at (heads_stand l.fn.self) 1 (g.I.Read.remaining l.fn.input) (g.W.Write.contents l.fn.out))
      (served_at (heads_stand l.self) l.number (g.I.Read.remaining l.input) (g.W.Write.contents l.out));
  none : (heads_stand l.self).said.phases ≡ [];
}
