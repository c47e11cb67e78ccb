-- Casts to 64 bits and back.
use Rattle.std.proofs.Common.{◌≡◌, ◌≤◌, ℤ, pos, neg_ℤ, ◌-ℤ◌, unsigned_abs, All, to_z, of_z, arith}
use Rattle.std.specs.Int.{w64}
use Rattle.std.proofs.lemmas.Int.{ints, to_z-of_z, fits_signed_from_abs}
use Rattle.gx_num.specs.declared.vector.TheConstants.{M}
use Rattle.gx_num.specs.Vector.{IsWithin}
use Rattle.gx_shapes.specs.Space.{point}
use Rattle.gx_shapes.specs.Straight.{frustum}

pub short : (z : ℤ) → unsigned_abs z ≤ unsigned_abs M → to_z w64 (of_z w64 z) ≡ z
short z h = to_z-of_z w64 z (fits_signed_from_abs w64 z (omega arith))

opposite-is : (z : ℤ) → pos 0 -ℤ z ≡ neg_ℤ z
opposite-is z = omega (arith, ints)

abs_opposite : (z : ℤ) → unsigned_abs (neg_ℤ z) ≡ unsigned_abs z
abs_opposite z = omega (arith, ints)

pub short_opposite : (z : ℤ) → unsigned_abs z ≤ unsigned_abs M → to_z w64 (of_z w64 (pos 0 -ℤ to_z w64 (of_z w64 z))) ≡ neg_ℤ z
short_opposite z h =
    let cast = short z h in
    let opposite = opposite-is z in
    let same = abs_opposite z in
    rw (cast, opposite) (short (neg_ℤ z) (omega (arith, same)))

-- the corners of a frustum's ends, by numbers that were cast
pub frustum_within : (x1 x2 y1 y2 z : ℤ) → All (IsWithin (unsigned_abs M)) (frustum x1 x2 y1 y2 z) →
    IsWithin (unsigned_abs M) (point (to_z w64 (of_z w64 x1)) (to_z w64 (of_z w64 y1)) (neg_ℤ (to_z w64 (of_z w64 z))))
    × IsWithin (unsigned_abs M) (point (to_z w64 (of_z w64 x2)) (to_z w64 (of_z w64 y2)) (to_z w64 (of_z w64 z)))
frustum_within x1 x2 y1 y2 z h =
    let low = h 3 (point z z z) (omega arith) in
    let high = h 7 (point z z z) (omega arith) in
    (rw (short x1 low.x, short y1 low.y, short z high.z) low, rw (short x2 high.x, short y2 high.y, short z high.z) high)
