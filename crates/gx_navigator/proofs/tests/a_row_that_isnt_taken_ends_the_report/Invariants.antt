use Rattle.gx_navigator.proofs.tests.a_row_that_isnt_taken_ends_the_report.Given as goal

abbrev pub ghosts-traced-T-Ledger : goal.ghosts-traced-T-Ledger
ghosts-traced-T-Ledger g a = record { name = a.tests.name; parts = a.tests.parts }

abbrev pub ghosts-traced-Q-Ledger : goal.ghosts-traced-Q-Ledger
ghosts-traced-Q-Ledger g a = record { name = a.reads.name; parts = a.reads.parts }
