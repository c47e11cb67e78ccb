use Rattle.std.proofs.Common.{ap, ◌∙◌, unsigned_abs, FitsSigned, rules}
use Rattle.std.specs.Int.{w64}
use Rattle.std.proofs.lemmas.Int.{to_z-of_z}
use Rattle.gx_plane.proofs.Divisors.{divisor_of-gcd}
use Rattle.gx_plane.proofs.plane.divisor.Goals as goal

pub returns : goal.returns
returns c =
    let v = c.args.v in
    let fits_x : FitsSigned w64 v.x = search rules in
    let fits_y : FitsSigned w64 v.y = search rules in
    let fits_z : FitsSigned w64 v.z = search rules in
    let x = c.magnitude.ensures ∙ ap unsigned_abs (to_z-of_z w64 v.x fits_x) in
    let y = c.magnitude-2.ensures ∙ ap unsigned_abs (to_z-of_z w64 v.y fits_y) in
    let z = c.magnitude-3.ensures ∙ ap unsigned_abs (to_z-of_z w64 v.z fits_z) in
    divisor_of-gcd v c.gcd.result c.gcd-2.result (rw (y, z) at c.gcd.ensures) (rw x at c.gcd-2.ensures)
