-- Points of space, and the inequalities that bound a solid (the Geant4 Book for Application Developers, geometry, solids;
-- that the surface is not inside is this project's own).
use Rattle.std.specs.Prelude.{ℤ, Bool, List, ◌+ℤ◌, ◌*ℤ◌, int_lt, int_le}
use Rattle.std.specs.List.{list_all}
use Rattle.gx_num.specs.declared.vector.V3.{V3}
use Rattle.gx_num.specs.Vector4.{Vec4}

-- The points p with n . p <= e.
pub record HalfSpace : Type 0 where
  pub n : V3
  pub e : ℤ

-- n . p at a point, times the point's w
abbrev pub normal_dot : HalfSpace → Vec4 → ℤ
normal_dot h p = (h.n.x *ℤ p.x +ℤ h.n.y *ℤ p.y) +ℤ h.n.z *ℤ p.z

-- all the inequalities hold at the point
abbrev pub is_in : List HalfSpace → Vec4 → Bool
is_in solid p = list_all (λ h. int_le (normal_dot h p) (h.e *ℤ p.w)) solid

-- all of them hold strictly: a point of the surface is not inside
abbrev pub is_inside : List HalfSpace → Vec4 → Bool
is_inside solid p = list_all (λ h. int_lt (normal_dot h p) (h.e *ℤ p.w)) solid
