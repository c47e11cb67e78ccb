use Rattle.std.proofs.Common.{◌≡◌, to_z, of_z, rules}
use Rattle.std.specs.Int.{w128}
use mir.Val.{SFits}
use Rattle.std.proofs.lemmas.Int.{to_z-of_z}
use Rattle.gx_num.specs.Vector4.{Vec4, divisor_of4, IsLowestPoint}
use Rattle.gx_num.proofs.Points.{IsLowestPoint-lowest4, quotient_by_bits}
use Rattle.gx_num.proofs.point.Hp.new.Goals as goal
use Rattle.gx_num.proofs.point.Hp.new.Goals.{After-quotient-4}

made : (c : After-quotient-4) → IsLowestPoint (record { x = to_z w128 (of_z w128 c.quotient.result); y = to_z w128 (of_z w128 c.quotient-2.result); z = to_z w128 (of_z w128 c.quotient-3.result); w = to_z w128 (of_z w128 c.quotient-4.result) })
made c =
    let p : Vec4 = record { x = c.args.x; y = c.args.y; z = c.args.z; w = c.args.w } in
    let d = c.divisor-divisor.result in
    let fx : SFits w128 c.quotient.result = search rules in
    let fy : SFits w128 c.quotient-2.result = search rules in
    let fz : SFits w128 c.quotient-3.result = search rules in
    let fw : SFits w128 c.quotient-4.result = search rules in
    let x = quotient_by_bits c.args.x c.quotient.result d c.ranges.x fx c.quotient.ensures in
    let y = quotient_by_bits c.args.y c.quotient-2.result d c.ranges.y fy c.quotient-2.ensures in
    let z = quotient_by_bits c.args.z c.quotient-3.result d c.ranges.z fz c.quotient-3.ensures in
    let w = quotient_by_bits c.args.w c.quotient-4.result d c.ranges.w fw c.quotient-4.ensures in
    let same : d ≡ divisor_of4 p = rw (to_z-of_z w128 p.x c.ranges.x, to_z-of_z w128 p.y c.ranges.y, to_z-of_z w128 p.z c.ranges.z, to_z-of_z w128 p.w c.ranges.w) at c.divisor-divisor.ensures.value in
    rw (x, y, z, w, same) (IsLowestPoint-lowest4 p c.requires.positive c.requires.x c.requires.y c.requires.z c.requires.w)

pub invariant_of-result : goal.invariant_of-result
invariant_of-result c = made c

pub returns-clause-lowest : goal.returns-clause-lowest
returns-clause-lowest c = made c
