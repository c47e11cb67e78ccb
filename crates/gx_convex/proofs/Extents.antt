-- All points are between the least and the greatest coordinates.
use Rattle.std.proofs.Common.{◌≡◌, List, [], ◌∷◌, map, fold, All, ℤ, ◌≤ℤ◌, refl, ap, ◌∙◌}
use Rattle.std.specs.Int.{int_min, int_max}
use Rattle.std.proofs.lemmas.List.Elements.{All-nil, All-cons}
use Rattle.std.proofs.lemmas.Int.{fold-int_min_bounds, fold-int_max_bounds}
use Rattle.gx_num.specs.declared.vector.V3.{V3}
use Rattle.gx_algebra.proofs.Lists.{All-from_map}
use Rattle.gx_convex.specs.Extent.{lower, upper, extent_of}

-- a coordinate of a fold is the fold of the coordinates
pub fold-part : (part : V3 → ℤ) (f : V3 → V3 → V3) (g : ℤ → ℤ → ℤ) → ((a b : V3) → part (f a b) ≡ g (part a) (part b)) → (p : V3) (ps : List V3) → part (fold f p ps) ≡ fold g (part p) (map part ps)
fold-part part f g e p [] = refl
fold-part part f g e p (q ∷ ps) = fold-part part f g e (f p q) ps ∙ ap (λ a. fold g a (map part ps)) (e p q)

pub low_below : (part : V3 → ℤ) → ((a b : V3) → part (lower a b) ≡ int_min (part a) (part b)) → (points : List V3) → All (λ p. part (extent_of points).low ≤ℤ part p) points
low_below part e [] = All-nil (λ p. part (extent_of []).low ≤ℤ part p)
low_below part e (p ∷ ps) =
    let bounds = fold-int_min_bounds (part p) (map part ps) (part (fold lower p ps)) (fold-part part lower int_min e p ps) in
    All-cons (λ q. part (fold lower p ps) ≤ℤ part q) p ps bounds.0 (All-from_map (λ z. part (fold lower p ps) ≤ℤ z) part ps bounds.1)

pub high_above : (part : V3 → ℤ) → ((a b : V3) → part (upper a b) ≡ int_max (part a) (part b)) → (points : List V3) → All (λ p. part p ≤ℤ part (extent_of points).high) points
high_above part e [] = All-nil (λ p. part p ≤ℤ part (extent_of []).high)
high_above part e (p ∷ ps) =
    let bounds = fold-int_max_bounds (part p) (map part ps) (part (fold upper p ps)) (fold-part part upper int_max e p ps) in
    All-cons (λ q. part q ≤ℤ part (fold upper p ps)) p ps bounds.0 (All-from_map (λ z. z ≤ℤ part (fold upper p ps)) part ps bounds.1)
