use Rattle.std.proofs.Common.{rules}
use Rattle.group_history.proofs.RecordLaws.{record_laws_hold}
use Rattle.head_word.specs.Books.{record_of}
use Rattle.commit_graph.proofs.Few.{stamp-low}
use Rattle.change_tries.proofs.places.At.new.Goals as goal

pub invariant_of-result : goal.invariant_of-result
invariant_of-result g c =
    let low = stamp-low c.args.commit (search rules) in (
      c.requires.reading,
      record {
        since = c.requires.since;
        base = c.requires.base;
        ids = (record_laws_hold g.M.Means.means).ids_follow (record_of c.args.seen.now.log)
            c.legal.ensures.opened.0.legal;
        low = low;
      },
    )

pub returns-clause-is : goal.returns-clause-is
returns-clause-is g c =
    let low = stamp-low c.args.commit (search rules) in record {
      since = c.requires.since;
      base = c.requires.base;
      ids = (record_laws_hold g.M.Means.means).ids_follow (record_of c.args.seen.now.log)
          c.legal.ensures.opened.0.legal;
      low = low;
    }
