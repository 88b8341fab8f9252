use Rattle.std.proofs.Common.{sym}
use Rattle.host_places.proofs.Numbering.{key_run}
use Rattle.host_places.proofs.desk.Desk.call_key.Goals as goal

pub call-requires-after_bounds : goal.call-requires-after_bounds
call-requires-after_bounds g c κs within =
    let asked = c.args.asked in
    key_run g.M.Hosted.had g.M.Means.means c.args.self.now.place c.key_call.result asked.what asked.m asked.n
    asked.a.now asked.b.now c.requires
    (c.key_call.ensures asked.m asked.n asked.a.now asked.b.now (sym c.in-Ok.ensures))
