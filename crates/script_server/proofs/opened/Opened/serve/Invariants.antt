use Rattle.script_server.specs.Serving.{Served}
use Rattle.script_server.specs.Inside.Stages.{HasPhase, StaysSteady, WhereWhole, opened_stand, served_at}
use Rattle.script_server.proofs.opened.Opened.serve.Given as goal

abbrev pub invariant-loop-number : goal.invariant-loop-number
invariant-loop-number g l =
    record {
      served : WhereWhole (opened_stand l.fn.self) (opened_stand l.self)
          (Served (served_at (opened_stand l.fn.self) l.fn.first (g.I.Read.remaining l.fn.input)
          (g.W.Write.contents l.fn.out))
          (served_at (opened_stand l.self) l.number (g.I.Read.remaining l.input) (g.W.Write.contents l.out)));
      there : HasPhase (opened_stand l.self);
      steady : StaysSteady (opened_stand l.fn.self) (opened_stand l.self);
    }
