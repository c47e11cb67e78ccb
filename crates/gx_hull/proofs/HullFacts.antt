-- Why points have no hull.
use Rattle.std.proofs.Common.{◌≡◌, ◌≤◌, Bool, true, false, nat_lt, cond, Err, Ok, All, List, ◌∷◌, ◌++◌, length, ap, subst, arith}
use Rattle.std.proofs.lemmas.Bool.Decides.{nat_tests}
use Rattle.std.proofs.lemmas.List.{length-append}
use Rattle.gx_num.specs.declared.vector.V3.{V3}
use Rattle.gx_convex.specs.Points.{distinct, are_coplanar}
use Rattle.gx_convex.proofs.Distinct.{All-distinct}
use Rattle.gx_hull.specs.declared.fault.HullFault.TheVariants.{Vertices, Flat}
use Rattle.gx_hull.specs.Hull.{unless_flat, hull_of}

pub hull_of-too_many : (points kept : List V3) (p : V3) (rest : List V3) → 32 ≤ length kept → kept ++ p ∷ rest ≡ distinct points → hull_of points ≡ Err Vertices
hull_of-too_many points kept p rest le e =
    ap (λ (b : Bool). cond b (Err Vertices) (unless_flat (distinct points))) over
  where
    over : nat_lt 32 (length (distinct points)) ≡ true
    over = grind (arith, nat_tests, ap length e, length-append kept (p ∷ rest))

-- what holds of all points holds of the vertices of their hull
pub All-hull_of : (P : V3 → Type 0) (points hull : List V3) → hull_of points ≡ Ok hull → All P points → All P hull
All-hull_of P points hull e all = go (nat_lt 32 (length (distinct points))) (are_coplanar (distinct points)) e
  where
    go : (many flat : Bool) → cond many (Err Vertices) (cond flat (Err Flat) (Ok (distinct points))) ≡ Ok hull → All P hull
    go true flat e = absurd cc
    go false true e = absurd cc
    go false false e = let same : distinct points ≡ hull = cc in subst (All P) same (All-distinct P points all)
