use Rattle.std.proofs.Common.{rules}
use Rattle.group_history.proofs.plain.PlainGroup.end_pull.Goals as goal

pub returns-in-VersionNotSupported-clause-left : goal.returns-in-VersionNotSupported-clause-left
returns-in-VersionNotSupported-clause-left g c = search rules
