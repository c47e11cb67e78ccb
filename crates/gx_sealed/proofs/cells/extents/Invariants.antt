use Rattle.std.proofs.Common.{◌≡◌, take, map}
use Rattle.gx_sealed.specs.declared.placed.Daughter.{Daughter}
use Rattle.gx_sealed.proofs.cells.extents.Given as goal

abbrev pub invariant-loop-daughter : goal.invariant-loop-daughter
invariant-loop-daughter l = l.extents.items ≡ map (λ (d : Daughter). d.extent) (take l.daughter-index l.daughters)
