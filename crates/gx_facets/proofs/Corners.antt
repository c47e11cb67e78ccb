-- What holds of all corners holds of each facet's.
use Rattle.std.proofs.Common.{◌≡◌, Option, Some, None, List, [], ◌∷◌, All, Contains, sym, subst, unsigned_abs, arith}
use Rattle.std.specs.Option.{IfSome}
use Rattle.std.proofs.lemmas.List.Elements.{All-nil, All-cons, All-weaker, All-contains_itself}
use Rattle.gx_num.specs.declared.vector.V3.{V3}
use Rattle.gx_num.specs.declared.vector.TheConstants.{M}
use Rattle.gx_num.specs.Vector.{IsWithin}
use Rattle.gx_algebra.proofs.Lists.{All-append_parts}
use Rattle.gx_plane.specs.Plane.{reach}
use Rattle.gx_convex.specs.Points.{distinct}
use Rattle.gx_convex.proofs.Distinct.{All-from_distinct}
use Rattle.gx_shapes.specs.declared.facet.Facet.{Facet}
use Rattle.gx_shapes.specs.Tessellation.{fourth, corners_of, tessellation_vertices}
use Rattle.gx_facets.specs.Facets.{EachCorner}

each_corner : (P : V3 → Type 0) (facets : List Facet) → All P (tessellation_vertices facets) → All (EachCorner P) facets
each_corner P [] all = All-nil (EachCorner P)
each_corner P (f ∷ facets) all =
    let parts = All-append_parts P (corners_of f) (tessellation_vertices facets) all in
    All-cons (EachCorner P) f facets (record {
      a = parts.0 0 f.a (omega arith);
      b = parts.0 1 f.a (omega arith);
      c = parts.0 2 f.a (omega arith);
      d = last f.d parts.0;
    }) (each_corner P facets parts.1)
  where
    last : (d : Option V3) → All P (f.a ∷ f.b ∷ f.c ∷ fourth d) → IfSome d P
    last None k = tt
    last (Some d) k = k 3 d (omega arith)

pub within_reach : (facets : List Facet) → All (IsWithin (unsigned_abs M)) (tessellation_vertices facets) → All (EachCorner (IsWithin reach)) facets
within_reach facets all =
    each_corner (IsWithin reach) facets
    (All-weaker (IsWithin (unsigned_abs M)) (IsWithin reach) (λ p w. record { x = omega (arith, w.x); y = omega (arith, w.y); z = omega (arith, w.z) }) (tessellation_vertices facets) all)

pub among : (facets : List Facet) (points : List V3) → points ≡ distinct (tessellation_vertices facets) → All (EachCorner (Contains points)) facets
among facets points same =
    each_corner (Contains points) facets
    (subst (λ (ps : List V3). All (Contains ps) (tessellation_vertices facets)) (sym same) (All-from_distinct (Contains (distinct (tessellation_vertices facets))) (tessellation_vertices facets) (All-contains_itself (distinct (tessellation_vertices facets)))))
