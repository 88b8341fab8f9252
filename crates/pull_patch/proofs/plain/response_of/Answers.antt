use Rattle.std.proofs.Common.{sym}
use Rattle.pull_patch.proofs.PlainResponses.{in_range_if, joined_parts}
use Rattle.pull_patch.proofs.plain.response_of.Goals as goal

pub joined-requires : goal.joined-requires
joined-requires c = in_range_if c.requires.0 c.args.parts.changes c.requires.1.changes

pub returns-in-Ok : goal.returns-in-Ok
returns-in-Ok c ms h = joined_parts ms c.args.parts c.in-Ok.response (sym c.in-Ok.ensures) h
