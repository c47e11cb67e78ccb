use Rattle.std.proofs.Common.{◌∙◌, ◌+ℤ◌, ap, arith}
use Rattle.gx_num.specs.declared.vector.V3.{V3}
use Rattle.gx_num.specs.Vector.{dot_of}
use Rattle.gx_rotation.specs.Matrix.{image, transpose}
use Rattle.gx_place.proofs.Sizes.{sum_by_bits}
use Rattle.gx_place.proofs.place.place_plane.Goals as goal

pub returns : goal.returns
returns c =
    let n = c.undo-n.ensures.value ∙ ap (image (transpose c.args.rotation)) c.n.ensures.value in
    let dot = c.dot.ensures.value ∙ ap (λ (v : V3). dot_of v c.args.offset) n in
    let sum = sum_by_bits c.e.result c.dot.result (omega (arith, c.e.ensures.within)) (omega (arith, c.dot.ensures.bound)) in
    c.from_parts.ensures ∙ (λ i. record { n = n i; e = (sum ∙ (λ j. c.e.ensures.value j +ℤ dot j)) i })
