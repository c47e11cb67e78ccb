-- Points by their numbers among others.
use Rattle.std.proofs.Common.{get_or, ◌≡◌, ◌<◌, ◌+◌, ℕ, suc, Bool, true, false, cond, not, nat_lt, Some, None, List, [], ◌∷◌, ◌++◌, map, flat_map, take, length, Contains, ◌⊎◌, inl, inr, refl, sym, ap, subst, ◌∙◌, arith, true≢false}
use Rattle.std.specs.List.{position}
use Rattle.std.proofs.lemmas.Bool.Decides.{nat_tests}
use Rattle.std.proofs.lemmas.List.{append_assoc, flat_map_more, take_more}
use Rattle.std.proofs.lemmas.List.Sums.{passes_at_first}
use Rattle.gx_num.specs.declared.vector.V3.{V3}
use Rattle.gx_num.specs.Vector.{is_same}
use Rattle.gx_algebra.proofs.Lists.{Contains-cases}
use Rattle.gx_convex.proofs.Distinct.{Decides-is_same}
use Rattle.gx_polygon.specs.Around.{around}
use Rattle.gx_shapes.specs.declared.facet.Facet.{Facet}
use Rattle.gx_shapes.specs.Tessellation.{fourth}
use Rattle.gx_facets.specs.Edges.{number_of, numbered_edges, AreCounts}

-- ---- the number of a member
pub number_of-lt : (points : List V3) (p : V3) → Contains points p → number_of points p < length points
number_of-lt [] p m = absurd (omega (arith, m.1))
number_of-lt (q ∷ points) p m = by_test (is_same p q) refl (number_of-lt points p)
  where
    by_test : (b : Bool) → is_same p q ≡ b → (Contains points p → number_of points p < length points) → cond (not b) (1 + number_of points p) 0 < suc (length points)
    by_test true e rest = omega arith
    by_test false e rest = go (Contains-cases q points p m)
      where
        go : (q ≡ p) ⊎ Contains points p → 1 + number_of points p < suc (length points)
        go (inl same) = absurd (true≢false (sym ((Decides-is_same p q).1 (sym same)) ∙ e))
        go (inr n) = omega (arith, rest n)

pub position-member : (points : List V3) (p : V3) → Contains points p → position (is_same p) points ≡ Some (number_of points p)
position-member points p m = ap (λ (b : Bool). cond b (Some (number_of points p)) None) found
  where
    found : nat_lt (number_of points p) (length points) ≡ true
    found = grind (arith, nat_tests, number_of-lt points p m)

number_of-point : (points : List V3) (p d : V3) → Contains points p → p ≡ get_or points (number_of points p) d
number_of-point points p d m =
    (Decides-is_same p (get_or points (number_of points p) d)).0 (passes_at_first (is_same p) points d (number_of-lt points p m))

pub number_of-same : (points : List V3) (p q : V3) → Contains points p → Contains points q → number_of points p ≡ number_of points q → p ≡ q
number_of-same points p q m n e =
    number_of-point points p p m ∙ ap (λ (k : ℕ). get_or points k p) e ∙ sym (number_of-point points q p n)

-- ---- a facet's edges
pub numbered_edges-three : (points : List V3) (f : Facet) (a b c : ℕ) → a ≡ number_of points f.a → b ≡ number_of points f.b → c ≡ number_of points f.c → f.d ≡ None → (a, b) ∷ (b, c) ∷ (c, a) ∷ [] ≡ numbered_edges points f
numbered_edges-three points f a b c p q r none =
    λ i. around (p i ∷ q i ∷ r i ∷ map (number_of points) (fourth (sym none i)))

pub numbered_edges-four : (points : List V3) (f : Facet) (v : V3) (a b c d : ℕ) → a ≡ number_of points f.a → b ≡ number_of points f.b → c ≡ number_of points f.c → d ≡ number_of points v → f.d ≡ Some v → (a, b) ∷ (b, c) ∷ (c, d) ∷ (d, a) ∷ [] ≡ numbered_edges points f
numbered_edges-four points f v a b c d p q r s some =
    (λ i. around (p i ∷ q i ∷ r i ∷ s i ∷ [])) ∙ (λ i. around (number_of points f.a ∷ number_of points f.b ∷ number_of points f.c ∷ map (number_of points) (fourth (sym some i))))

-- ---- counts of edges that were added one by one
pub added_three : (edges more : List (ℕ × ℕ)) (counts : List ℕ) (x y z : ℕ × ℕ) → x ∷ y ∷ z ∷ [] ≡ more → AreCounts (edges ++ x ∷ [] ++ y ∷ [] ++ z ∷ []) counts → AreCounts (edges ++ more) counts
added_three edges more counts x y z e h = subst (λ es. AreCounts (edges ++ es) counts) e (simp append_assoc at h)

pub added_four : (edges more : List (ℕ × ℕ)) (counts : List ℕ) (x y z w : ℕ × ℕ) → x ∷ y ∷ z ∷ w ∷ [] ≡ more → AreCounts (edges ++ x ∷ [] ++ y ∷ [] ++ z ∷ [] ++ w ∷ []) counts → AreCounts (edges ++ more) counts
added_four edges more counts x y z w e h = subst (λ es. AreCounts (edges ++ es) counts) e (simp append_assoc at h)

pub added_next : (points : List V3) (facets : List Facet) (i : ℕ) (f : Facet) (counts : List ℕ) → i < length facets → AreCounts (flat_map (numbered_edges points) (take i facets) ++ numbered_edges points (get_or facets i f)) counts → AreCounts (flat_map (numbered_edges points) (take (i + 1) facets)) counts
added_next points facets i f counts lt h =
    let edges = numbered_edges points in
    subst (λ es. AreCounts es counts) (flat_map_more edges [] (take i facets) (get_or facets i f) ∙ ap (flat_map edges) (sym (take_more facets i f lt))) h
