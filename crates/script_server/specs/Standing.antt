-- How things stand between two lines.
use Rattle.std.specs.Prelude.{List, [], Option, None, unwrap_or}
use Rattle.group_history.specs.declared.changes.Change.{Change}
use Rattle.group_history.specs.Meaning.{Meanings}
use Rattle.head_word.specs.Marks.{Known}
use Rattle.rule_mutators.specs.Meaning.{rules_mean}
use Rattle.rule_mutators.specs.Rules.{Rules}
use Rattle.script_parser.specs.Context.{Context, nothing_said}
use Rattle.script_runner.specs.Answering.{record_seen}
use Rattle.script_runner.specs.Commanding.{Player}

pub record Standing : Type 0 where
  -- what the lines so far have said, without the lines of the clients
  pub said : Context
  -- the rules, where a line gave them; from the first phase on those of the group, none of them where no line did
  pub rules : Option Rules
  -- the clients of the group, in the order of their lines; none before the first phase
  pub players : List Player
  -- what each client had seen when the phase began
  pub sights : List (Option Known)
  -- what the lines so far have seen of the group: how it stands; nothing before the first line of a client
  pub seen : Option Known

-- before the first line
abbrev pub at_first : Standing
at_first = record { said = nothing_said; rules = None; players = []; sights = []; seen = None }

-- the record of the group: the changes that the lines so far have made, in their order
abbrev pub record_in : Standing → List Change
record_in s = record_seen s.seen

-- the rules of the group
abbrev pub rules_in : Standing → Rules
rules_in s = unwrap_or s.rules []

-- what its mutators mean
abbrev pub means_in : Standing → Meanings
means_in s = rules_mean (rules_in s)
