use Rattle.gx_descend.proofs.tests.boxes_come_as_the_ray_comes_to_their_runs.Given as goal

abbrev pub ghosts-offered : goal.ghosts-offered
ghosts-offered g a = record { name = a.blank.name; parts = a.blank.parts }
