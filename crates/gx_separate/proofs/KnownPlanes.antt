-- Planes between boxes, worked out by hand.
use Rattle.std.proofs.Common.{◌≡◌, ℕ, pred, ℤ, pos, negsuc, List, [], ◌∷◌, Some, None, refl}
use Rattle.gx_num.specs.declared.vector.V3.{V3}
use Rattle.gx_num.specs.Number.{common_divisor}
use Rattle.gx_separate.specs.Between.{first_between}

abbrev pub at : ℤ → ℤ → ℤ → V3
at x y z = record { x = x; y = y; z = z }

abbrev pub minus : ℕ → ℤ
minus n = negsuc (pred n)

-- the corners of a box with y and z from -5 to 5
abbrev pub box : ℤ → ℤ → List V3
box low high =
    at low (minus 5) (minus 5) ∷ at high (minus 5) (minus 5) ∷ at low (pos 5) (minus 5) ∷ at high (pos 5) (minus 5) ∷
    at low (minus 5) (pos 5) ∷ at high (minus 5) (pos 5) ∷ at low (pos 5) (pos 5) ∷ at high (pos 5) (pos 5) ∷ []

-- two that touch in a face, in either order: the face's plane, with the first box on its low side
touching_known : first_between (box (minus 5) (pos 5)) (box (pos 5) (pos 15)) ≡ Some (record { n = at (pos 1) (pos 0) (pos 0); e = pos 5 })
touching_known = refl

exchanged_known : first_between (box (pos 5) (pos 15)) (box (minus 5) (pos 5)) ≡ Some (record { n = at (minus 1) (pos 0) (pos 0); e = minus 5 })
exchanged_known = refl

-- two that overlap: none
overlapping_known : first_between (box (minus 5) (pos 5)) (box (pos 4) (pos 14)) ≡ None
unfolding common_divisor
overlapping_known = refl
