use Rattle.client_desk.specs.Told.{told}
use Rattle.client_desk.proofs.Staying.{stays}
use Rattle.client_desk.proofs.waiting.Place+Whole+M.call_waiting.Goals as goal

pub returns-clause-group : goal.returns-clause-group
returns-clause-group g c =
    stays g.M.Means.means c.args.self.now c.tell_waiting.new.self
    (told c.tell_waiting.result c.tell_waiting.new.bytes.items) c.args.call c.is_calm.ensures c.tell_waiting.ensures
