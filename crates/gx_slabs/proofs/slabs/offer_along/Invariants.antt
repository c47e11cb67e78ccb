use Rattle.std.proofs.Common.{◌≡◌, ℕ, ◌-◌, ◌<◌, ◌≤◌, true, map}
use Rattle.std.specs.List.{range_with_len}
use Rattle.gx_offers.specs.Offers.{IsOffered}
use Rattle.gx_along.specs.Line.{time}
use Rattle.gx_slabs.specs.Row.{copy_at, is_entered_at}
use Rattle.gx_slabs.proofs.slabs.offer_along.Given as goal

abbrev pub invariant-loop-j : goal.invariant-loop-j
invariant-loop-j l = record {
  order : l.start ≤ l.j;
  bound : l.j ≤ l.row.count;
  entered : (j : ℕ) → l.start ≤ j → j < l.j → is_entered_at l.row (time l.stretch.to) j ≡ true;
  offered : IsOffered (λ _. Unit {0}) (map (copy_at l.row) (range_with_len l.start (l.j - l.start))) l.fn.offers l.offers;
}
