use Rattle.reclamation_law.proofs.Lawful.{joined_law, head_law, hold_law, highest_law}
use Rattle.reclamation_law.proofs.Stamped.{stamp_law}
use Rattle.reclamation_law.proofs.Tables.{table_law, opening_law}
use Rattle.reclamation_law.proofs.Turning.{turn_law}
use Rattle.reclamation_law.proofs.Losing.{lost_turn_law}
use Rattle.reclamation_law.proofs.laws.joined_law.Goals as goal

pub returns : goal.returns
returns c = record {
  joined = joined_law;
  head = head_law;
  hold = hold_law;
  stamps = stamp_law;
  highest = highest_law;
  table = table_law;
  opening = opening_law;
  turn = turn_law;
  lost_turn = lost_turn_law;
}
