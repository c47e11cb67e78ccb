use Rattle.gx_text.proofs.PlaceLemmas.{Found}
use Rattle.gx_text.proofs.line.places.Given as goal

abbrev pub invariant-loop-i : goal.invariant-loop-i
invariant-loop-i l = Found l.text l.start l.i l.places.items
