use Rattle.gx_refine.proofs.tests.a_header_has_runs_of_equal_slices_in_turn.Given as goal

abbrev pub ghosts-built : goal.ghosts-built
ghosts-built g a = record { name = a.blank.name; parts = a.blank.parts }
