use Rattle.std.proofs.Common.{◌≡◌, ℕ, ◌<◌, ◌≤◌, ◌+◌, ◌-◌, length, true}
use Rattle.gx_voxel.specs.Proxy.{list_of}
use Rattle.gx_along.specs.Digits.{digits}
use Rattle.gx_along.specs.Line.{time}
use Rattle.gx_along.specs.Along.{is_entered_at, index_of}
use Rattle.gx_along.specs.Walked.{walked}
use Rattle.gx_descend.specs.Crossed.{GoesInto}
use Rattle.gx_descend.proofs.descent.+go.Given as goal

abbrev pub decreases-go : goal.decreases-go
decreases-go g l = l.n

abbrev pub invariant-loop-j : goal.invariant-loop-j
invariant-loop-j g l = record {
  entered : (m : ℕ) → m < l.j → is_entered_at l.line.o l.line.d l.header (time l.stretch.to) (index_of l.line.d l.start m) ≡ true;
  goes : (found : ℕ) × (found ≤ l.fn.reads + digits (length (list_of l.header))) × (0 < length (list_of l.header) → l.fn.reads < found) × GoesInto (l.n - 1) l.ray l.header (walked l.line.o l.line.d l.header l.stretch l.start l.j) l.fn.offers l.offers found l.reads;
  room : l.offers.room ≡ l.fn.offers.room;
}
