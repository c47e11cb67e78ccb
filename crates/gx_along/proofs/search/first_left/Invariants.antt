use Rattle.std.proofs.Common.{◌≡◌, ℕ, ◌-◌, ◌+◌, ◌<◌, ◌≤◌, true, false, length}
use Rattle.gx_along.specs.Digits.{digits}
use Rattle.gx_voxel.specs.Proxy.{list_of}
use Rattle.gx_along.specs.Line.{time}
use Rattle.gx_along.specs.Runs.{is_before}
use Rattle.gx_along.proofs.search.first_left.Given as goal

abbrev pub invariant-loop-low : goal.invariant-loop-low
invariant-loop-low g l = record {
  order : l.low ≤ l.high;
  within : l.high ≤ length (list_of l.header);
  before : (i : ℕ) → i < l.low → is_before l.line.o l.line.d l.header (time l.at) i ≡ true;
  after : (i : ℕ) → l.high ≤ i → i < length (list_of l.header) → is_before l.line.o l.line.d l.header (time l.at) i ≡ false;
  reads : l.reads + digits (l.high - l.low) ≤ l.fn.reads + digits (length (list_of l.header));
  more : l.fn.reads ≤ l.reads;
  some : l.high - l.low < length (list_of l.header) → l.fn.reads < l.reads;
}

abbrev pub decreases-loop-low : goal.decreases-loop-low
decreases-loop-low g l = l.high - l.low
