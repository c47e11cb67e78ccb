-- The extent of points that aren't coplanar isn't empty on any axis.
use Rattle.std.proofs.Common.{◌≡◌, refl, false, ℤ, pos, ◌-ℤ◌, ◌<ℤ◌, List, [], ◌∷◌, get_or, ap, arith}
use Rattle.std.specs.Int.{int_min, int_max}
use Rattle.std.proofs.lemmas.Int.{ints, by_lt_z}
use Rattle.std.proofs.lemmas.List.Elements.{All-map}
use Rattle.gx_num.specs.declared.vector.V3.{V3}
use Rattle.gx_num.specs.Vector4.{Vec4, dot4, origin}
use Rattle.gx_algebra.proofs.Ring.{num}
use Rattle.gx_algebra.proofs.Terms as term
use Rattle.gx_algebra.proofs.Terms.{◌≣◌, ◌⊖◌, none}
use Rattle.gx_algebra.proofs.Identity.{identity, number, vector3}
use Rattle.gx_plane.proofs.Complete.{within, within_term}
use Rattle.gx_convex.specs.Points.{are_coplanar}
use Rattle.gx_convex.specs.Extent.{lower, upper, extent_of}
use Rattle.gx_convex.proofs.Extents.{low_below, high_above}
use Rattle.gx_convex.proofs.Spanning.{Spans-within}

abbrev across_x : ℤ → Vec4
across_x c = record { x = pos 1; y = pos 0; z = pos 0; w = c }

abbrev across_y : ℤ → Vec4
across_y c = record { x = pos 0; y = pos 1; z = pos 0; w = c }

abbrev across_z : ℤ → Vec4
across_z c = record { x = pos 0; y = pos 0; z = pos 1; w = c }

one : pos 1 ≡ pos 0 → ⊥
one e = omega (arith, ints, e)

module _ (points : List V3) (solid : are_coplanar points ≡ false) where
  -- else all points are on a plane across the axis
  apart_on : (part : V3 → ℤ) (across : ℤ → Vec4) → ((a b : V3) → part (lower a b) ≡ int_min (part a) (part b)) → ((a b : V3) → part (upper a b) ≡ int_max (part a) (part b)) → ((p : V3) (c : ℤ) → dot4 (within p) (across c) ≡ c -ℤ part p) → ((c : ℤ) → across c ≡ origin → ⊥)
      → part (extent_of points).low <ℤ part (extent_of points).high
  apart_on part across low high is some =
      let c = part (extent_of points).low in
      by_lt_z c (part (extent_of points).high) (λ lt. lt) (λ le. absurd (some c (Spans-within points solid (across c)
      (All-map (λ m. dot4 m (across c) ≡ pos 0) within points (λ k d lt. omega (arith, ints, low_below part low points k d lt, high_above part high points k d lt, is (get_or points k d) c, le))))))

  pub apart_x : (extent_of points).low.x <ℤ (extent_of points).high.x
  apart_x = apart_on (λ p. p.x) across_x (λ _ _. refl) (λ _ _. refl) (identity (vector3 ∷ number ∷ []) (λ p c. term.dot4 (within_term p) (record { x = num (pos 1); y = none; z = none; w = c }) ≣ c ⊖ p.x) tt) (λ c e. one (ap (λ (v : Vec4). v.x) e))

  pub apart_y : (extent_of points).low.y <ℤ (extent_of points).high.y
  apart_y = apart_on (λ p. p.y) across_y (λ _ _. refl) (λ _ _. refl) (identity (vector3 ∷ number ∷ []) (λ p c. term.dot4 (within_term p) (record { x = none; y = num (pos 1); z = none; w = c }) ≣ c ⊖ p.y) tt) (λ c e. one (ap (λ (v : Vec4). v.y) e))

  pub apart_z : (extent_of points).low.z <ℤ (extent_of points).high.z
  apart_z = apart_on (λ p. p.z) across_z (λ _ _. refl) (λ _ _. refl) (identity (vector3 ∷ number ∷ []) (λ p c. term.dot4 (within_term p) (record { x = none; y = none; z = num (pos 1); w = c }) ≣ c ⊖ p.z) tt) (λ c e. one (ap (λ (v : Vec4). v.z) e))
