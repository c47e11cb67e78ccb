use Rattle.std.proofs.Common.{pos, negsuc, ◌*ℤ◌, ◌<ℤ◌, arith, true, false, List, [], ◌∷◌}
use Rattle.std.specs.Prelude.{IsTrue}
use Rattle.std.specs.List.{AllByRecursion}
use Rattle.std.proofs.lemmas.Int.{ints}
use Rattle.gx_num.specs.Space.{HalfSpace, normal_dot, is_inside}
use Rattle.gx_num.specs.Vector4.{Vec4}
use Rattle.gx_plane.specs.Plane.{plane_along}
use Rattle.gx_clip.specs.Clip.{IsBounded}
use Rattle.gx_clip.proofs.Parts.{inside-cons}
use Rattle.gx_clip.proofs.tests.cube.Goals as goal

within_all : (solid : List HalfSpace) (p : Vec4) → IsTrue (is_inside solid p) → AllByRecursion (λ h. normal_dot h p <ℤ (h.e *ℤ p.w)) solid
within_all [] p e = tt
within_all (h ∷ solid) p e = let all = (inside-cons h solid p).0 e in (all.0, within_all solid p all.1)

abbrev cube : List HalfSpace
cube =
    plane_along 0 true (pos 2) ∷ plane_along 0 false (negsuc 1)
    ∷ plane_along 1 true (pos 2) ∷ plane_along 1 false (negsuc 1)
    ∷ plane_along 2 true (pos 2) ∷ plane_along 2 false (negsuc 1) ∷ []

bounded : IsBounded cube
bounded = record {
  reach = 2;
  within = λ p positive inside.
      let all = within_all cube p inside in
      record {
        x = omega (arith, ints, positive, all.0, all.1.0);
        y = omega (arith, ints, positive, all.1.1.0, all.1.1.1.0);
        z = omega (arith, ints, positive, all.1.1.1.1.0, all.1.1.1.1.1.0);
      };
}

pub returns : goal.returns
returns c = rw (c.along.ensures, c.along-2.ensures, c.along-3.ensures, c.along-4.ensures, c.along-5.ensures, c.along-6.ensures) bounded
