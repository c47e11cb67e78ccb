use Rattle.std.proofs.Common.{◌≡◌, ◌∙◌, ◌^◌, ◌<◌, ℤ, pos, negsuc, to_z, of_z, subst}
use Rattle.std.specs.Int.{w64}
use Rattle.std.specs.Int.Signed.{mag}
use Rattle.std.proofs.lemmas.Int.{to_z-of_z}
use Rattle.gx_slabs.specs.declared.row.Row.{Row}
use Rattle.gx_slabs.specs.Row.{AreOfferedAlong}
use Rattle.gx_slabs.proofs.Along.{offered, within-coordinate}
use Rattle.gx_slabs.proofs.slabs.offer_copies.Goals as goal

-- as the code's casts have it
bits : (z : ℤ) → mag z < 2 ^ 63 → to_z w64 (of_z w64 z) ≡ z
bits (pos n) h = to_z-of_z w64 (pos n) (record { sfits = h })
bits (negsuc n) h = to_z-of_z w64 (negsuc n) (record { sfits = h })

pub returns : goal.returns
returns c =
    let a = c.args in
    let o = bits c.on_axis.result c.on_axis.type_inv ∙ c.on_axis.ensures in
    let d = bits c.on_axis-2.result c.on_axis-2.type_inv ∙ c.on_axis-2.ensures in
    let low = to_z-of_z w64 a.low c.ranges.low in
    let width = to_z-of_z w64 a.width c.ranges.width in
    offered a.axis a.low a.width a.count a.ray.now a.stretch c.requires.axis c.requires.stretch
    (record { origin = within-coordinate a.axis (2 ^ 31) a.ray.now.o c.requires.origin; from = c.requires.from; to = c.requires.to; wide = c.requires.wide; few = c.requires.few })
    a.offers.now c.offer_along.new.offers
    (subst (λ (r : Row). AreOfferedAlong r a.stretch a.offers.now c.offer_along.new.offers) (λ i. record { line = record { o = o i; d = d i }; low = low i; width = width i; count = a.count }) c.offer_along.ensures)
