use Rattle.client_desk.specs.Told.{told}
use Rattle.client_desk.proofs.Calm.{calm_told, none_asked}
use Rattle.client_desk.proofs.place.Place.call.Goals as goal

pub returns-in_default : goal.returns-in_default
returns-in_default g c =
    calm_told g.M.Hosted.had g.M.Means.means c.args.call c.args.self.now
    (told c.call_calm.result c.call_calm.new.bytes.items) c.call_calm.new.self
    (none_asked c.args.self.now.asking c.is_asking.result c.is_asking.ensures c.if-is_asking.false)
    c.in_default.not-Mutate c.in_default.not-End c.call_calm.ensures
