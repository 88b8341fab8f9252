use Rattle.std.proofs.Common.{subst, sym}
use mathlib.Core.List.{IsPrefix}
use Rattle.group_history.specs.Scans.{rows_of}
use Rattle.group_history.specs.Spelling.{Contents, Version}
use Rattle.transactions.specs.Rescans.{IsRescanned}
use Rattle.rebase.proofs.reading.ReadTx.scan_again.Goals as goal

pub returns-clause-found : goal.returns-clause-found
returns-clause-found g c all more known =
    let tx = c.in_ok-tx.tx in let scan = c.args.scan.now in let told = c.args.before.now in
    subst (λ (v : Version). IsRescanned scan all told (rows_of scan v.read)
    c.in_ok-scan_again.field-0) c.in_ok-tx.ensures.version
    (c.in_ok-scan_again.ensures.found all (subst (λ (cs : Contents). IsPrefix cs all) (sym c.in_ok-tx.ensures.contents)
    more) known)
