-- A hierarchy is clean where no verdict refutes it.
use Rattle.std.specs.Prelude.{◌≡◌, ◌↔◌, find, None}
use Rattle.gx_tree.specs.Hierarchy.{Hierarchy}
use Rattle.gx_tree.specs.Fault.{IsTree}
use Rattle.gx_check.specs.Clean.{IsClean}
use Rattle.gx_check.specs.Verdicts.{verdicts, refutes}

-- clean, said of points, exactly where none of the verdicts, which speak of vertices and candidates, refutes
abbrev pub CleanWhereUnrefuted : Type 0
CleanWhereUnrefuted = (h : Hierarchy) → IsTree h → IsClean h ↔ (find refutes (verdicts h) ≡ None)
