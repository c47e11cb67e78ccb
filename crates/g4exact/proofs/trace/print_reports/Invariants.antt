use Rattle.g4exact.proofs.trace.print_reports.Given as goal

-- the reference that the sink is lent by, and what it has written
abbrev pub ghosts-trace_lent : goal.ghosts-trace_lent
ghosts-trace_lent g a = record { name = a.sink.ghost_name; written = g.K.Sink.written a.sink.now }
