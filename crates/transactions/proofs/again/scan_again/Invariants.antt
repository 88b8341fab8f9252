use Rattle.transactions.proofs.again.scan_again.Given as goal

abbrev pub ghosts-scan_beside : goal.ghosts-scan_beside
ghosts-scan_beside g a = record { rows = a.before.rows.now }
