use Rattle.change_tries.proofs.pushing.body_at.Given as goal

-- which push it is
abbrev pub ghosts-written : goal.ghosts-written
ghosts-written g a = record { whose = a.identity.now; skipped = a.skip }
