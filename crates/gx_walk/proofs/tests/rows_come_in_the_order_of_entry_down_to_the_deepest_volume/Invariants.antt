use Rattle.gx_walk.proofs.tests.rows_come_in_the_order_of_entry_down_to_the_deepest_volume.Given as goal

abbrev pub ghosts-walked-T-Ledger : goal.ghosts-walked-T-Ledger
ghosts-walked-T-Ledger g a = record { name = a.tests.name; parts = a.tests.parts }

abbrev pub ghosts-walked-Q-Ledger : goal.ghosts-walked-Q-Ledger
ghosts-walked-Q-Ledger g a = record { name = a.reads.name; parts = a.reads.parts }
