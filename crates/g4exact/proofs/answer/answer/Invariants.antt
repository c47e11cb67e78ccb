use Rattle.g4exact.proofs.answer.answer.Given as goal

-- the reference that the sink is lent by, and what it has written
abbrev pub ghosts-answer_lent : goal.ghosts-answer_lent
ghosts-answer_lent g a = record { name = a.sink.ghost_name; written = g.K.Sink.written a.sink.now }
