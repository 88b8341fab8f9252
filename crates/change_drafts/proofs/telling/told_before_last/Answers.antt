use Rattle.std.proofs.Common.{sym, ap, ◌∙◌}
use Rattle.group_history.specs.Pulling.{overwritten}
use Rattle.change_drafts.proofs.StateLemmas.{told_before}
use Rattle.change_drafts.proofs.telling.told_before_last.Goals as goal

pub returns : goal.returns
returns c = record {
  told = λ s before last confirmed bare is.
      told_before s c.in_ok-told.told c.args.confirmed.now before c.in-Some.before.now last _ confirmed bare
      (sym is ∙ c.in-Some.ensures.cases.0) (c.in_ok-told.ensures
      ∙ ap (overwritten c.args.confirmed.now) c.deref.ensures.value ∙ c.in_ok-said.ensures c.args.confirmed.now);
}
