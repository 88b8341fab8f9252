use Rattle.std.proofs.Common.{◌==◌, not, length, ap, subst, sym, ◌∙◌}
use Rattle.script_server.specs.Inside.Reads.{HasRead}
use Rattle.script_server.proofs.Reading.{read_is}
use Rattle.script_server.proofs.streams.read_line.Goals as goal

pub returns : goal.returns
returns g c =
    let old = g.I.Read.remaining c.args.input.now in let new = g.I.Read.remaining c.read_until.new.self in
    let read = c.read_until.new.buf.items in let line = c.drop_line_feed.new.line.items in
    subst (λ b. HasRead old (not b) line new)
    (sym (c.is_empty-is_line.ensures ∙ ap (λ s. length s == 0) c.as_slice.ensures.value))
    (read_is old new c.clear.new.self.items read line c.clear.ensures.items c.in_default.ensures.bytes
    c.in_default.ensures.rest c.drop_line_feed.ensures)
