use Rattle.std.proofs.Common.{None, T, subst, sym}
use Rattle.group_history.specs.declared.scans.Scan.{Scan}
use Rattle.group_history.specs.declared.scans.Start.TheVariants.{Any}
use Rattle.group_history.specs.Rows.{keys_of, rises}
use Rattle.group_history.proofs.Rising.{rows_rise}
use Rattle.row_changes.proofs.tests.rows_of.Goals as goal

pub returns : goal.returns
returns c =
    let scan : Scan = record { prefix = c.default.result; start = Any; limit = None } in
    subst (λ rows. T (rises (keys_of rows))) (sym c.in_ok-rows.ensures) (rows_rise scan c.loop-key.map)
