use Rattle.g4exact.proofs.summary.write_summary.Given as goal

-- the ledger that the new counter is of
abbrev pub ghosts-count_rows : goal.ghosts-count_rows
ghosts-count_rows g a = record { name = a.blank.name; parts = a.blank.parts }
