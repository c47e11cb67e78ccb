use Rattle.std.proofs.Common.{◌≡◌, ap, ◌∙◌, unsigned_abs, arith}
use Rattle.std.specs.Int.{w128}
use Rattle.std.proofs.lemmas.Int.{to_z-of_z}
use Rattle.gx_num.specs.Vector4.{Vec4, divisor_of4}
use Rattle.gx_num.proofs.Points.{divisor_of4-gcd, divisor_of4-pos, divisor_of4-le}
use Rattle.gx_num.proofs.point.divisor.Goals as goal
use Rattle.gx_num.proofs.point.divisor.Goals.{After-gcd-2}

abbrev point : After-gcd-2 → Vec4
point c = record { x = c.args.x; y = c.args.y; z = c.args.z; w = c.args.w }

value : (c : After-gcd-2) → c.gcd-2.result ≡ divisor_of4 (point c)
value c =
    let x = c.unsigned_abs-3.ensures.value ∙ ap unsigned_abs (to_z-of_z w128 c.args.x c.ranges.x) in
    let y = c.unsigned_abs-4.ensures.value ∙ ap unsigned_abs (to_z-of_z w128 c.args.y c.ranges.y) in
    let z = c.unsigned_abs.ensures.value ∙ ap unsigned_abs (to_z-of_z w128 c.args.z c.ranges.z) in
    let w = c.unsigned_abs-2.ensures.value ∙ ap unsigned_abs (to_z-of_z w128 c.args.w c.ranges.w) in
    divisor_of4-gcd (point c) c.gcd-last.result c.gcd.result c.gcd-2.result (rw (z, w) at c.gcd-last.ensures) (rw y at c.gcd.ensures) (rw x at c.gcd-2.ensures)

pub returns-clause-value : goal.returns-clause-value
returns-clause-value c = value c

pub returns-clause-positive : goal.returns-clause-positive
returns-clause-positive c = omega (arith, value c, divisor_of4-pos (point c) c.requires.positive)

pub returns-clause-small : goal.returns-clause-small
returns-clause-small c = omega (arith, value c, divisor_of4-le (point c) c.requires.positive, c.requires.small)
