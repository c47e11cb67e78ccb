use Rattle.std.proofs.Common.{arith}
use Rattle.gx_measure.proofs.meets.sheared.Goals as goal
use borrow.Author.Differences.{ints}

pub returns : goal.returns
returns c = record {
  x = omega (arith, ints);
  y = omega (arith, ints);
  z = omega (arith, ints);
}
