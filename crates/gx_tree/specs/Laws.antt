-- What the deepest volume is, with no number of steps.
use Rattle.std.specs.Prelude.{◌≡◌, ℕ, List}
use Rattle.gx_num.specs.Vector4.{Vec4}
use Rattle.gx_tree.specs.Hierarchy.{Hierarchy, max_depth}
use Rattle.gx_tree.specs.Fault.{IsTree}
use Rattle.gx_tree.specs.Deepest.{descend, IsDeepest}

-- in a hierarchy the most placements of a chain are enough steps
abbrev pub DescentEnds : Type 0
DescentEnds = (h : Hierarchy) → IsTree h → (p : Vec4) → IsDeepest h h.world p (descend h max_depth h.world p)

-- a point has one deepest volume
abbrev pub OneDeepest : Type 0
OneDeepest = (h : Hierarchy) (v : ℕ) (p : Vec4) (a b : List ℕ) → IsDeepest h v p a → IsDeepest h v p b → a ≡ b
