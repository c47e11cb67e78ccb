-- A solid is in another where its vertices are (any text on convex geometry).
use Rattle.std.specs.Prelude.{◌≡◌, ◌↔◌, pos, ◌<ℤ◌, false, IsTrue, List, None}
use Rattle.gx_num.specs.declared.vector.V3.{V3}
use Rattle.gx_num.specs.Space.{HalfSpace, is_in}
use Rattle.gx_num.specs.Vector4.{Vec4}
use Rattle.gx_convex.specs.Points.{are_coplanar}
use Rattle.gx_convex.specs.Hull.{IsHullOf}
use Rattle.gx_contain.specs.Outside.{first_outside}

-- each point in the one is in the other
abbrev pub IsContained : List HalfSpace → List HalfSpace → Type 0
IsContained inner outer = (p : Vec4) → pos 0 <ℤ p.w → IsTrue (is_in inner p) → IsTrue (is_in outer p)

-- for two solids by their vertices: no vertex of the daughter is outside exactly where each point of it is in the mother
abbrev pub Containment : Type 0
Containment = (mother daughter : List HalfSpace) (outer inner : List V3) → are_coplanar outer ≡ false → IsHullOf mother outer → IsHullOf daughter inner
    → first_outside outer inner ≡ None ↔ IsContained daughter mother
