use Rattle.std.proofs.Common.{Some, sym, ap, ◌∙◌}
use Rattle.std.specs.FinMap as finite
use Rattle.client_desk.specs.declared.outcomes.Outcome.TheVariants.{Done}
use Rattle.client_desk.specs.Told.{told, value_told}
use Rattle.client_desk.proofs.Asking.{map_told}
use Rattle.client_desk.proofs.Telling.{appended}
use Rattle.client_desk.proofs.drafts.tell_drafted.Goals as goal

pub returns-in-Ok-Some : goal.returns-in-Ok-Some
returns-in-Ok-Some g c =
    let is = rw c.in-Ok-Some.field-0-is at c.in-Ok-Some.ensures.value in
    map_told value_told (λ m. finite.get m c.args.key.now) c.args.asking.now (Some c.in-Ok-Some.json)
    c.extend_from_slice.result _ c.args.bytes.now.items c.extend_from_slice.new.self.items c.as_bytes.result.now
    c.requires (appended c.extend_from_slice.result c.extend_from_slice.new.self.items c.args.bytes.now.items
    c.as_bytes.result.now c.extend_from_slice.ensures.items) c.wrote.ensures.ok c.wrote.ensures.err
    (ap (told Done) (sym (c.as_bytes.ensures.value ∙ c.text.ensures))) is
