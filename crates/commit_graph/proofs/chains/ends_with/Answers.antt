use Rattle.std.proofs.Common.{sym, ◌∙◌}
use Rattle.std.proofs.lemmas.Slice.Eq.{bytes_eq-Decides}
use Rattle.commit_graph.proofs.chains.ends_with.Goals as goal

pub returns-in-Some : goal.returns-in-Some
returns-in-Some c same = (
  c.in-Some.field-0-1.now,
  c.in-Some.last.now,
  c.in-Some.ensures.cases.0,
  (bytes_eq-Decides c.in-Some.last.now.client c.args.client.now).0 (sym c.eq.ensures ∙ same),
)
