use Rattle.std.proofs.Common.{◌≡◌, ℕ, ◌-◌, ◌<◌, ◌≤◌, true, false}
use Rattle.gx_along.specs.Line.{time}
use Rattle.gx_slabs.specs.Row.{is_left_at}
use Rattle.gx_slabs.proofs.row.Row.first_left.Given as goal

abbrev pub invariant-loop-low : goal.invariant-loop-low
invariant-loop-low l = record {
  order : l.low ≤ l.high;
  within : l.high ≤ l.self.count;
  before : (j : ℕ) → j < l.low → is_left_at l.self (time l.at) j ≡ true;
  after : (j : ℕ) → l.high ≤ j → j < l.self.count → is_left_at l.self (time l.at) j ≡ false;
}

abbrev pub decreases-loop-low : goal.decreases-loop-low
decreases-loop-low l = l.high - l.low
