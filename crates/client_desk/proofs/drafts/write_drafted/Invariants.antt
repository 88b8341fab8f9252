use Rattle.std.proofs.Common.{◌≡◌, take}
use Rattle.pull_patch.specs.Writes.{written}
use Rattle.client_desk.proofs.drafts.write_drafted.Given as goal

abbrev pub invariant-loop-write : goal.invariant-loop-write
invariant-loop-write g l =
    l.asking ≡ record l.fn.asking { map = written (take l.write-index l.writes) l.fn.asking.map }
