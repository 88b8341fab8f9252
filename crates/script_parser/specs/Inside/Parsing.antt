-- What a parser has read.
use Rattle.std.specs.Prelude.{map}
use Rattle.script_parser.specs.declared.parser.Parser.{Parser}
use Rattle.script_parser.specs.Context.{Context}
use Rattle.script_parser.specs.Scripts.{client_said, phase_said}

-- what the lines so far have said
abbrev pub context_of : Parser → Context
context_of p = record {
  group = p.header.group;
  profile = p.header.profile;
  schema = p.header.schema;
  slots = p.header.slots;
  clients = map client_said p.header.clients.items;
  phases = map phase_said p.phases.items;
  tickets = p.tickets.clients.items;
  watches = p.watches.clients.items;
}
