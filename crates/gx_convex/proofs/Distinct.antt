-- The distinct elements of a list are its members.
use Rattle.std.proofs.Common.{◌≡◌, ◌≤◌, Bool, true, false, ◌&&◌, List, [], ◌∷◌, length, pos, ◌≤ℤ◌, All, refl, sym, ap, ◌∙◌, arith}
use Rattle.std.specs.Bool.{Decides}
use Rattle.std.specs.List.{list_any}
use Rattle.std.specs.Ordering.{int_eq}
use Rattle.std.proofs.lemmas.Bool.{cond-true, cond-false}
use Rattle.std.proofs.lemmas.Bool.Decides.{Decides-int_eq, Decides-and, Decides-like}
use Rattle.std.proofs.lemmas.List.Elements.{All-nil, All-cons, All-head, All-tail, All-contains, All-weaker}
use Rattle.std.proofs.lemmas.Map.Views.{Contains-from_any}
use Rattle.gx_num.specs.Vector.{is_same}
use Rattle.gx_num.specs.declared.vector.V3.{V3}
use Rattle.gx_num.specs.Space.{HalfSpace}
use Rattle.gx_algebra.proofs.Identities.{same3}
use Rattle.gx_plane.specs.Plane.{side_of}
use Rattle.gx_convex.specs.Points.{distinct_by, distinct}
use Rattle.gx_convex.specs.Hull.{IsBound, IsHullOf}
use Rattle.gx_plane.proofs.PlaneFacts.{Decides-supports}

pub Decides-is_same : (a b : V3) → Decides (is_same a b) (a ≡ b)
Decides-is_same a b =
    Decides-like {P = ((a.x ≡ b.x) × (a.y ≡ b.y)) × (a.z ≡ b.z)} (is_same a b)
    (λ e. same3 a b e.0.0 e.0.1 e.1)
    (λ e. ((ap (λ (v : V3). v.x) e, ap (λ (v : V3). v.y) e), ap (λ (v : V3). v.z) e))
    (Decides-and (int_eq a.x b.x && int_eq a.y b.y) (int_eq a.z b.z) (Decides-and (int_eq a.x b.x) (int_eq a.y b.y) (Decides-int_eq a.x b.x) (Decides-int_eq a.y b.y)) (Decides-int_eq a.z b.z))

pub by_bool : {P : Type 0} (b : Bool) → (b ≡ true → P) → (b ≡ false → P) → P
by_bool true hit miss = hit refl
by_bool false hit miss = miss refl

module _ {X : Type 0} (same : X → X → Bool) where
  -- an element that was seen, and one that was not
  seen_is : (seen : List X) (x : X) (xs : List X) → list_any (same x) seen ≡ true → distinct_by same seen (x ∷ xs) ≡ distinct_by same seen xs
  seen_is seen x xs e = cond-true (list_any (same x) seen) (distinct_by same seen xs) (x ∷ distinct_by same (x ∷ seen) xs) e

  new_is : (seen : List X) (x : X) (xs : List X) → list_any (same x) seen ≡ false → distinct_by same seen (x ∷ xs) ≡ x ∷ distinct_by same (x ∷ seen) xs
  new_is seen x xs e = cond-false (list_any (same x) seen) (distinct_by same seen xs) (x ∷ distinct_by same (x ∷ seen) xs) e

  -- what holds of all elements holds of the distinct ones
  pub All-distinct_by : (P : X → Type 0) (seen xs : List X) → All P xs → All P (distinct_by same seen xs)
  All-distinct_by P seen [] h = h
  All-distinct_by P seen (x ∷ xs) h =
      by_bool (list_any (same x) seen)
      (λ e. rw (seen_is seen x xs e) (All-distinct_by P seen xs (All-tail P x xs h)))
      (λ e. rw (new_is seen x xs e) (All-cons P x _ (All-head P x xs h) (All-distinct_by P (x ∷ seen) xs (All-tail P x xs h))))

  -- and the other way, where it holds of those seen before
  pub All-from_distinct_by : ((a b : X) → same a b ≡ true → a ≡ b) → (P : X → Type 0) (seen xs : List X) → All P seen → All P (distinct_by same seen xs) → All P xs
  All-from_distinct_by equal P seen [] s h = h
  All-from_distinct_by equal P seen (x ∷ xs) s h =
      by_bool (list_any (same x) seen)
      (λ e. All-cons P x xs (All-contains P seen x s (Contains-from_any equal x seen e)) (All-from_distinct_by equal P seen xs s (rw (seen_is seen x xs e) at h)))
      (λ e.
      let k = rw (new_is seen x xs e) at h in
      let first : P x = All-head P x (distinct_by same (x ∷ seen) xs) k in
      All-cons P x xs first (All-from_distinct_by equal P (x ∷ seen) xs (All-cons P x seen first s) (All-tail P x (distinct_by same (x ∷ seen) xs) k)))

pub All-distinct : (P : V3 → Type 0) (ps : List V3) → All P ps → All P (distinct ps)
All-distinct P ps h = All-distinct_by is_same P [] ps h

pub All-from_distinct : (P : V3 → Type 0) (ps : List V3) → All P (distinct ps) → All P ps
All-from_distinct P ps h = All-from_distinct_by is_same (λ a b. (Decides-is_same a b).0) P [] ps (All-nil P) h

-- ---- distinct points stay as they are
distinct_by-distinct_by : (seen ps : List V3) → distinct_by is_same seen (distinct_by is_same seen ps) ≡ distinct_by is_same seen ps
distinct_by-distinct_by seen [] = refl
distinct_by-distinct_by seen (p ∷ ps) =
    by_bool (list_any (is_same p) seen)
    (λ e. ap (distinct_by is_same seen) (seen_is is_same seen p ps e) ∙ distinct_by-distinct_by seen ps ∙ sym (seen_is is_same seen p ps e))
    (λ e. ap (distinct_by is_same seen) (new_is is_same seen p ps e) ∙ new_is is_same seen p (distinct_by is_same (p ∷ seen) ps) e ∙ ap (λ (qs : List V3). p ∷ qs) (distinct_by-distinct_by (p ∷ seen) ps) ∙ sym (new_is is_same seen p ps e))

pub distinct-distinct : (ps : List V3) → distinct (distinct ps) ≡ distinct ps
distinct-distinct ps = distinct_by-distinct_by [] ps

length-distinct_by_le : (seen ps : List V3) → length (distinct_by is_same seen ps) ≤ length ps
length-distinct_by_le seen [] = omega arith
length-distinct_by_le seen (p ∷ ps) =
    by_bool (list_any (is_same p) seen)
    (λ e. omega (arith, ap length (seen_is is_same seen p ps e), length-distinct_by_le seen ps))
    (λ e. omega (arith, ap length (new_is is_same seen p ps e), length-distinct_by_le (p ∷ seen) ps))

pub length-distinct_le : (ps : List V3) → length (distinct ps) ≤ length ps
length-distinct_le ps = length-distinct_by_le [] ps

-- ---- the distinct vertices are those of the same solid
pub IsHullOf-distinct : (solid : List HalfSpace) (ps : List V3) → IsHullOf solid ps → IsHullOf solid (distinct ps)
IsHullOf-distinct solid ps hull = record {
  bounds = All-weaker (IsBound ps) (IsBound (distinct ps)) (λ h b. record { plane = b.plane; supports = (Decides-supports h (distinct ps)).1 (All-distinct (λ p. side_of h p ≤ℤ pos 0) ps ((Decides-supports h ps).0 b.supports)) }) solid hull.bounds;
  bounded = λ h s. hull.bounded h ((Decides-supports h ps).1 (All-from_distinct (λ p. side_of h p ≤ℤ pos 0) ps ((Decides-supports h (distinct ps)).0 s)));
}
