use Rattle.std.proofs.Common.{◌≡◌, ◌≤◌, length}
use Rattle.std.specs.Prelude.{EachIndex}
use Rattle.gx_tree.specs.Hierarchy.{instances}
use Rattle.g4exact.proofs.RowCounts.{Counted}
use Rattle.g4exact.specs.Counters.{counters}
use Rattle.g4exact.proofs.Counters.{SoFar}
use Rattle.g4exact.proofs.summary.count_rows.Given as goal

-- the rows so far are those of the first rays; and so are the counts
abbrev pub invariant-loop-i : goal.invariant-loop-i
invariant-loop-i g l = record {
  counted : Counted l.sealed l.rays l.i l.rows;
  tested : SoFar l.sealed l.rays l.i (counters l.initial.tests l.initial.reads) (counters l.tests l.reads);
  room : EachIndex l.sealed.volumes (λ v. length (instances l.sealed v) ≤ l.scratch);
}
