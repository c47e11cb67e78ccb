use Rattle.g4exact.proofs.check.print_verdicts.Given as goal

-- the reference that the sink is lent by, and what it has written
abbrev pub ghosts-check_lent : goal.ghosts-check_lent
ghosts-check_lent g a = record { name = a.sink.ghost_name; written = g.K.Sink.written a.sink.now }
