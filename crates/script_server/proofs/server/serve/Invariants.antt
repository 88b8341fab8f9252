use Rattle.script_server.specs.Standing.{rules_in}
use Rattle.script_server.specs.Inside.Stages.{heads_stand}
use Rattle.script_server.proofs.server.serve.Given as goal

-- the rules that were said
abbrev pub ghosts-serve_phases : goal.ghosts-serve_phases
ghosts-serve_phases g a = record { rules = rules_in (heads_stand a.heads) }
