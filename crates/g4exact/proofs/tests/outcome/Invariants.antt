use Rattle.g4exact.proofs.tests.outcome.Given as goal

abbrev pub ghosts-counted-T-Ledger : goal.ghosts-counted-T-Ledger
ghosts-counted-T-Ledger a = record { name = a.tests.name; parts = a.tests.parts }

abbrev pub ghosts-counted-Q-Ledger : goal.ghosts-counted-Q-Ledger
ghosts-counted-Q-Ledger a = record { name = a.reads.name; parts = a.reads.parts }
