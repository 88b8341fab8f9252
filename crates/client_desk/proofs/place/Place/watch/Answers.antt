use Rattle.std.proofs.Common.{ap, sym, subst, ◌∙◌}
use Rattle.rebase.specs.Watching.{Watched}
use Rattle.client_desk.specs.Inside.Keeping.{AreFor}
use Rattle.client_desk.specs.Sitting.{client_of}
use Rattle.client_desk.specs.Told.{told_alone}
use Rattle.client_desk.proofs.Numbers.{room_of}
use Rattle.client_desk.proofs.Watching.{kept_watch, new_watch, watched}
use Rattle.client_desk.proofs.place.Place.watch.Goals as goal

pub invariant_of-self : goal.invariant_of-self
invariant_of-self g c =
    let was = c.self.invariant in (
      was.0,
      was.1,
      was.2,
      was.3,
      kept_watch _ _ c.in-Client.client c.args.keep _ _ _ _ (ap (λ sits. client_of sits) c.in-Client.is) was.1
          (ap (λ (w : Watched). w.book) c.watch-watch.ensures)
          (subst (AreFor _) (sym c.make_room.ensures) (room_of _ c.args.keep _ was.4)) c.keep_watch.ensures,
    )

pub returns-in-Ok : goal.returns-in-Ok
returns-in-Ok g c =
    watched c.args.keep c.args.scan.now _ c.args.self.now c.in-Client.client c.watch-watch.result
    (told_alone c.keep_watch.result) c.make_room.new.all.items c.keep_watch.new.watches.items c.self.view_is
    (ap (λ sits. client_of sits) c.in-Client.is)
    (c.watch-watch.ensures ∙ ap (new_watch c.in-Client.client) c.in-Ok.ensures.cases) c.make_room.ensures
    c.keep_watch.ensures
