-- Vertices outside, worked by hand.
use Rattle.std.proofs.Common.{◌≡◌, ℕ, pos, List, [], ◌∷◌, Some, None, refl}
use Rattle.gx_num.specs.declared.vector.V3.{V3}
use Rattle.gx_num.specs.Number.{common_divisor}
use Rattle.gx_contain.specs.Outside.{first_outside}

-- the corners of a tetrahedron at the origin, n long
abbrev corner : ℕ → List V3
corner n = record { x = pos 0; y = pos 0; z = pos 0 } ∷ record { x = pos n; y = pos 0; z = pos 0 } ∷ record { x = pos 0; y = pos n; z = pos 0 } ∷ record { x = pos 0; y = pos 0; z = pos n } ∷ []

-- the smaller one touches three faces of the larger one from within
within : first_outside (corner 4) (corner 3) ≡ None
unfolding common_divisor
within = refl

-- the larger one's second corner is beyond the far face of the smaller one
beyond : first_outside (corner 3) (corner 4) ≡ Some (record { x = pos 4; y = pos 0; z = pos 0 })
unfolding common_divisor
beyond = refl
