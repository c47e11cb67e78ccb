use Rattle.std.proofs.Common.{length, ◌≡◌, ◌+◌, ◌≤◌, ◌≤ℤ◌, pos, vec_capacity, drop, map}
use Rattle.std.specs.Prelude.{sum_by}
use Rattle.gx_fraction.specs.Fraction.{parameter_of}
use Rattle.gx_walk.specs.Hits.{Count, cost_of, hit_of, hits_of, least_each, one_each}
use Rattle.gx_walk.specs.Giving.{items_below, rows_of}
use Rattle.gx_walk.proofs.Pending.{Owes, pending}
use Rattle.gx_walk.proofs.emit.+emit.Given as goal

abbrev pub decreases-emit : goal.decreases-emit
decreases-emit g l = length l.levels.now

-- what is still to be given of the volume's rows begins here
abbrev pub invariant-loop-met : goal.invariant-loop-met
invariant-loop-met g l =
    let hits = hits_of (g.G.Geometry.met_of l.geometry) (g.G.Geometry.count_of l.geometry) in
    let n = length l.initial.deeper in
    let left = drop l.met-index l.met-items in
    let whole = λ (count : Count). cost_of count hits (length l.fn.levels) (parameter_of l.fn.span.from) (parameter_of l.fn.span.to) l.frame in
    let rest = λ (count : Count). sum_by (λ h. cost_of count hits n h.from h.to h.daughter) (map hit_of left) in
    record {
      room : map vec_capacity l.deeper ≡ map vec_capacity l.initial.deeper;
      path : l.row.path ≡ l.initial.row.path;
      start : pos 0 ≤ℤ l.at.num;
      items : g.R.Rows.items l.rows ≡ g.R.Rows.items l.fn.rows;
      takes : g.R.Rows.takes l.rows ≡ g.R.Rows.takes l.fn.rows;
      faults : g.R.Rows.faults l.rows ≡ g.R.Rows.faults l.fn.rows;
      offers : l.offers.room ≡ l.fn.offers.room;
      few_tests : (most other : Count) → g.G.Geometry.bounds l.geometry most other → l.tests + rest most ≤ l.fn.tests + whole most;
      few_reads : (other most : Count) → g.G.Geometry.bounds l.geometry other most → l.reads + rest most ≤ l.fn.reads + whole most;
      some_tests : l.fn.tests + whole (one_each hits) ≤ l.tests + rest (one_each hits);
      some_reads : l.fn.reads + whole (least_each (g.G.Geometry.least_reads l.geometry)) ≤ l.reads + rest (least_each (g.G.Geometry.least_reads l.geometry));
      rows : Owes (g.R.Rows.held l.fn.rows) (g.R.Rows.held l.rows)
          (items_below (g.R.Rows.items l.fn.rows) l.initial.row.path (rows_of hits (length l.fn.levels) (parameter_of l.fn.span.from) (parameter_of l.fn.span.to) l.frame))
          (pending (g.R.Rows.items l.fn.rows) l.initial.row.path (λ h. rows_of hits n h.from h.to h.daughter) (parameter_of l.fn.span.to) (parameter_of l.at) left);
    }
