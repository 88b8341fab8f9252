use Rattle.std.proofs.Common.{ap, ◌∙◌}
use Rattle.group_history.specs.Record.{after}
use Rattle.group_history.specs.Refs.{stamp_of}
use Rattle.group_history.specs.Spelling.{Contents, version_at, map_at, version_of}
use Rattle.head_word.specs.Books.{record_of}
use Rattle.rebase.proofs.reading.Point.open.Goals as goal

pub at-requires-clause-read : goal.at-requires-clause-read
at-requires-clause-read g c =
    let p = c.self.inside in (
      version_of g.M.Means.means (after (record_of p.mark.log)),
      ap (λ (cs : Contents). version_at cs (stamp_of p.head)) c.new-nodes.ensures ∙ c.self.invariant.0,
      ap (λ (cs : Contents). map_at cs (stamp_of p.root)) c.new-nodes.ensures ∙ c.self.invariant.1,
    )
