use Rattle.std.proofs.Common.{unsigned_abs, ◌^◌, arith}
use Rattle.gx_num.specs.declared.vector.TheConstants.{M}
use Rattle.gx_place.proofs.Sizes.{IsWithin-larger, IsWithin-sum_of}
use Rattle.gx_place.proofs.place.place_point.Goals as goal

pub add-requires-clause-second : goal.add-requires-clause-second
add-requires-clause-second c = IsWithin-larger (unsigned_abs M) (2 ^ 61) _ (omega arith) (c.undo.ensures.within (unsigned_abs M) c.requires.point)

pub returns-clause-within : goal.returns-clause-within
returns-clause-within c = rw c.add.ensures (IsWithin-sum_of (unsigned_abs M) c.args.offset _ c.requires.offset (c.undo.ensures.within (unsigned_abs M) c.requires.point))
