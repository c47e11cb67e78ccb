use Rattle.std.proofs.Common.{◌≡◌, ◌∙◌, ◌≤◌, ◌^◌, ℤ, pos, ◌+ℤ◌, ◌*ℤ◌, unsigned_abs, to_z, of_z, sym, ap, subst, arith}
use Rattle.std.specs.Int.{w64}
use Rattle.std.proofs.lemmas.Int.{to_z-of_z, fits_signed_from_abs}
use Rattle.gx_slabs.specs.Row.{start_of}
use Rattle.gx_slabs.proofs.Rising.{near-width, near-start}
use Rattle.gx_slabs.proofs.row.Row.start.Goals as goal

-- as the code's casts have it
bits : (z : ℤ) → unsigned_abs z ≤ 2 ^ 45 → to_z w64 (of_z w64 z) ≡ z
bits z h = to_z-of_z w64 z (fits_signed_from_abs w64 z (omega (arith, h)))

pub times-requires-clause-width : goal.times-requires-clause-width
times-requires-clause-width c =
    let near = near-width c.args.self c.requires.row c.requires.some in
    subst (λ z. unsigned_abs z ≤ 2 ^ 31) (sym (bits c.args.self.width (omega (arith, near)))) near

pub returns-clause-small : goal.returns-clause-small
returns-clause-small c =
    let r = c.args.self in
    let low = bits r.low (omega (arith, c.requires.row.from)) in
    let product = bits c.times.result c.times.ensures.small ∙ c.times.ensures.value ∙ ap (λ (w : ℤ). pos c.args.k *ℤ w) (bits r.width (omega (arith, near-width r c.requires.row c.requires.some))) in
    let is : c.sum.result ≡ start_of r c.args.k = c.sum.ensures ∙ (λ i. low i +ℤ product i) in
    let near = near-start r c.requires.row c.args.k c.requires.copy in
    let small = subst (λ z. unsigned_abs z ≤ 2 ^ 31) (sym is) (omega (arith, near)) in
    subst (λ z. unsigned_abs z ≤ 2 ^ 31) (sym (bits c.sum.result (omega (arith, small)))) small
