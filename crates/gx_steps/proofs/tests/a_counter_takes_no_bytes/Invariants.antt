use Rattle.gx_steps.proofs.tests.a_counter_takes_no_bytes.Given as goal

abbrev pub ghosts-size_after_a_step : goal.ghosts-size_after_a_step
ghosts-size_after_a_step g a = record { name = a.blank.name; parts = a.blank.parts }
