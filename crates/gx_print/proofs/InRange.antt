-- The mother and the daughters of each verdict are in the hierarchy.
use Rattle.std.proofs.Common.{ℕ, ◌<◌, Bool, true, false, Option, None, Some, List, IsTrue, All, length, arith}
use Rattle.std.specs.Prelude.{◌&&◌}
use Rattle.std.proofs.lemmas.Bool.Decides.{nat_tests}
use Rattle.gx_num.specs.declared.vector.V3.{V3}
use Rattle.gx_num.specs.Space.{HalfSpace}
use Rattle.gx_num.specs.Vector4.{Vec4}
use Rattle.gx_tree.specs.Hierarchy.{Hierarchy, instances}
use Rattle.gx_check.specs.Verdicts.{verdicts, daughter_verdict, pair_verdict, contained, parted}
use Rattle.gx_check.proofs.Each.{All-verdicts}
use Rattle.gx_print.specs.Range.{has_daughter, is_in_range}

is-has_daughter : (h : Hierarchy) (v k : ℕ) → v < length h.volumes → k < length (instances h v) → IsTrue (has_daughter h v k)
is-has_daughter h v k volume ordinal = grind (arith, nat_tests, volume, ordinal)

both : (a b : Bool) → IsTrue a → IsTrue b → IsTrue (a && b)
both true b is is' = is'
both false b is is' = absurd cc

contained-in_range : (h : Hierarchy) (v k : ℕ) (outside : Option V3) → IsTrue (has_daughter h v k) → IsTrue (is_in_range h (contained v k outside))
contained-in_range h v k None is = is
contained-in_range h v k (Some point) is = is

parted-in_range : (h : Hierarchy) (v i j : ℕ) (plane : Option HalfSpace) (points : List Vec4) → IsTrue (has_daughter h v i && has_daughter h v j) → IsTrue (is_in_range h (parted v i j plane points))
parted-in_range h v i j (Some plane) points is = is
parted-in_range h v i j None points is = is

pub verdicts-in_range : (h : Hierarchy) → All (λ v. IsTrue (is_in_range h v)) (verdicts h)
unfolding daughter_verdict pair_verdict
verdicts-in_range h = All-verdicts (λ v. IsTrue (is_in_range h v)) h
    (λ v k volume ordinal. contained-in_range h v k _ (is-has_daughter h v k volume ordinal))
    (λ v i j volume below ordinal. parted-in_range h v i j _ _ (both (has_daughter h v i) (has_daughter h v j) (is-has_daughter h v i volume (omega (arith, below, ordinal))) (is-has_daughter h v j volume ordinal)))
