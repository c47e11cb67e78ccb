use Rattle.std.proofs.Common.{◌≡◌, ℕ, ℤ, ◌≤◌, unsigned_abs, to_z, of_z, w64, refl, arith, ◌∙◌}
use Rattle.std.proofs.lemmas.Int.{to_z-of_z, fits_signed_from_abs}
use Rattle.gx_plane.specs.Plane.{reach}
use Rattle.gx_separate.specs.Boxes.{between_ranges}
use Rattle.gx_separate.proofs.boxes.between_boxes.Goals as goal

same : (z : ℤ) → unsigned_abs z ≤ reach → to_z w64 (of_z w64 z) ≡ z
same z h = to_z-of_z w64 z (fits_signed_from_abs w64 z (omega (arith, h)))

ranges : (axis : ℕ) (low high other_low other_high : ℤ) → unsigned_abs low ≤ reach → unsigned_abs high ≤ reach → unsigned_abs other_low ≤ reach → unsigned_abs other_high ≤ reach → between_ranges axis (to_z w64 (of_z w64 low)) (to_z w64 (of_z w64 high)) (to_z w64 (of_z w64 other_low)) (to_z w64 (of_z w64 other_high)) ≡ between_ranges axis low high other_low other_high
ranges axis low high other_low other_high k l m n =
    rw (same low k, same high l, same other_low m, same other_high n) refl

pub returns : goal.returns
returns c =
    let a = c.args.a in
    let b = c.args.b in
    let r = c.requires in
    let x = c.between_ranges-x.ensures ∙ ranges 0 a.low.x a.high.x b.low.x b.high.x r.low.x r.high.x r.other_low.x r.other_high.x in
    let y = c.between_ranges-y.ensures ∙ ranges 1 a.low.y a.high.y b.low.y b.high.y r.low.y r.high.y r.other_low.y r.other_high.y in
    let z = c.between_ranges-z.ensures ∙ ranges 2 a.low.z a.high.z b.low.z b.high.z r.low.z r.high.z r.other_low.z r.other_high.z in
    rw (c.or.ensures, x, y, z) at c.or-2.ensures
