use Rattle.std.proofs.Common.{◌≡◌, ◌≤◌, ◌*◌, unsigned_abs, filter_map, All}
use Rattle.std.specs.Iterator.Adapters.{zip_first, zip_second}
use Rattle.std.specs.List.{zip}
use Rattle.std.specs.Slice.Iter.{iter_rest}
use Rattle.gx_plane.specs.Plane.{offset_reach}
use Rattle.gx_common.specs.Sides.{crossing_in, crossings_of_two}
use Rattle.gx_common.specs.Slots.{after}
use Rattle.gx_common.proofs.offers.offer_each.Given as goal

-- offering all is offering those at the sides that are left
abbrev pub invariant-loop-side : goal.invariant-loop-side
invariant-loop-side l = record {
  all : after (filter_map (crossing_in l.first l.second) (zip (iter_rest (zip_first l.side-iterator)) (iter_rest (zip_second l.side-iterator)))) l.slots ≡ after (crossings_of_two l.fn.first l.fn.second) l.fn.slots;
  within : All (λ z. unsigned_abs z ≤ 2 * offset_reach) (iter_rest (zip_first l.side-iterator));
  others_within : All (λ z. unsigned_abs z ≤ 2 * offset_reach) (iter_rest (zip_second l.side-iterator));
}
