use Rattle.std.proofs.Common.{◌≡◌, List, sym, ap, subst}
use Rattle.group_history.specs.declared.scans.Scan.{Scan}
use Rattle.head_word.specs.declared.entry.Entry.{Entry}
use Rattle.head_word.specs.Books.{drawn}
use Rattle.head_word.specs.Marks.{Known}
use Rattle.rebase.specs.Inside.Watching.{AreRead}
use Rattle.rebase.proofs.watching.WatchClone.clone.Goals as goal

pub invariant_of-result : goal.invariant_of-result
invariant_of-result g c =
    let own = c.self.inside in let scan : c.in_ok-scan.scan ≡ own.scan = c.in_ok-scan.ensures.cases in
    subst (λ (log : List Entry). AreRead (drawn log) c.in_ok-scan.scan c.in_ok-last.last)
    (sym (ap (λ (m : Known). m.log) c.copy.ensures))
    (subst (λ (s : Scan). AreRead (drawn own.mark.log) s c.in_ok-last.last) (sym scan)
    (subst (AreRead (drawn own.mark.log) own.scan) (sym c.in_ok-last.ensures) c.self.invariant))
