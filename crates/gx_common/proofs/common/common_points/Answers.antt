use Rattle.std.proofs.Common.{◌≡◌, Some, None, List, [], map, length, sym, ap, ◌∙◌, arith}
use Rattle.gx_num.specs.Vector4.{Vec4, lowest4}
use Rattle.gx_convex.specs.Points.{distinct_by}
use Rattle.gx_common.specs.Common.{is_same_point, taken_of}
use Rattle.gx_common.proofs.Counts.{length-common}
use Rattle.gx_common.proofs.Quick.{apart_is}
use Rattle.gx_common.proofs.common.common_points.Goals as goal

pub returns-in_default-clause-apart : goal.returns-in_default-clause-apart
returns-in_default-clause-apart c =
    let e : None ≡ taken_of c.args.a.now c.args.b.now = rw c.in_default.is at c.in_ok-candidates.ensures.value in
    apart_is c.args.a.now c.args.b.now c.in_ok-candidates.ensures.vertices.solid c.in_ok-candidates.ensures.others.solid None e

pub returns-clause-apart : goal.returns-clause-apart
returns-clause-apart c =
    let e : Some c.in-Some.candidates.items ≡ taken_of c.args.a.now c.args.b.now = rw c.in-Some.is at c.in_ok-candidates.ensures.value in
    apart_is c.args.a.now c.args.b.now c.in_ok-candidates.ensures.vertices.solid c.in_ok-candidates.ensures.others.solid (Some c.in-Some.candidates.items) e

pub seal-requires : goal.seal-requires
seal-requires c =
    let e : Some c.in-Some.candidates.items ≡ taken_of c.args.a.now c.args.b.now = rw c.in-Some.is at c.in_ok-candidates.ensures.value in
    let few = length-common c.args.a.now c.args.b.now c.in-Some.candidates.items c.in_ok-candidates.ensures.vertices.few c.in_ok-candidates.ensures.others.few (sym e) in
    omega (arith, few, ap length (c.in_ok-distinct.ensures ∙ ap (λ (ps : List Vec4). distinct_by is_same_point [] (map lowest4 ps)) c.deref.ensures.value))
