use Rattle.std.proofs.Common.{length, refl}
use Rattle.commit_publishing.proofs.Carrying.{draft-carried, placed-spelled}
use Rattle.commit_publishing.proofs.Reaching.{placed-reached}
use Rattle.commit_publishing.proofs.Numbers.{ref_stamped, node_stamped}
use Rattle.commit_publishing.proofs.laws.placing_laws.Goals as goal

pub returns : goal.returns
returns c = record {
  carried = λ cs ds nodes pre at v is. draft-carried cs ds (length ds) nodes pre refl at v is;
  stamped = λ from first refs are at low. ref_stamped from first refs at are low;
  content = λ from first refs are node below. node_stamped from first refs node are below;
  spelled = placed-spelled;
  reached = placed-reached;
}
