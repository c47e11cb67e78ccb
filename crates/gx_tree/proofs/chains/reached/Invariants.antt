use Rattle.std.proofs.Common.{◌≡◌, ◌-◌, ◌<◌, ◌≤◌, ℕ, true, length}
use Rattle.gx_tree.specs.Marks.{is_marked, IsSearch, AreStill, AreClosed, IsVisit}
use Rattle.gx_tree.proofs.chains.reached.Given as goal

abbrev pub invariant-loop-v : goal.invariant-loop-v
invariant-loop-v l = record {
  search : IsSearch l.volumes l.marks l.reached.items l.found.items;
  first : (w : ℕ) → w < l.v → is_marked l.marks w ≡ true → is_marked l.reached.items w ≡ true;
}

abbrev pub invariant-loop-next : goal.invariant-loop-next
invariant-loop-next l = record {
  search : IsSearch l.volumes l.marks l.reached.items l.found.items;
  still : AreStill l.marks l.reached.items;
  closed : AreClosed l.volumes l.reached.items l.found.items l.next;
  bounded : l.next ≤ length l.found.items;
}

abbrev pub invariant-loop-placement : goal.invariant-loop-placement
invariant-loop-placement l = IsVisit l.volumes l.marks l.reached.items l.found.items l.next l.placement-items l.placement-index

abbrev pub decreases-loop-next : goal.decreases-loop-next
decreases-loop-next l = length l.volumes - l.next
