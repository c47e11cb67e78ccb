-- The verdicts that are left, by numbers: of one on, of all, the next and no more.
use Rattle.std.proofs.Common.{◌≡◌, ℕ, suc, ◌+◌, ◌-◌, ◌<◌, ◌≤◌, List, [], ◌∷◌, ◌++◌, length, map, refl, sym, ap, ◌∙◌, arith}
use Rattle.std.specs.Prelude.{flat_map}
use Rattle.std.specs.List.{range_with_len}
use Rattle.gx_num.specs.declared.vector.V3.{V3}
use Rattle.gx_convex.specs.Points.{distinct}
use Rattle.gx_shapes.specs.declared.figure.Figure.{Figure}
use Rattle.gx_shapes.specs.Solid.{vertices_of}
use Rattle.gx_tree.specs.Hierarchy.{Hierarchy, volume_at}
use Rattle.gx_check.specs.declared.verdict.Verdict.{Verdict}
use Rattle.gx_check.specs.Verdicts.{placed_daughters, daughter_verdict, pair_verdict, daughter_verdicts, verdicts_with, pair_verdicts, verdicts_in, verdicts}

range_next : (k n : ℕ) → k < n → range_with_len k (n - k) ≡ k ∷ range_with_len (k + 1) (n - (k + 1))
range_next k n less = let next : n - k ≡ suc (n - (k + 1)) = omega arith in ap (range_with_len k) next

range_end : (k n : ℕ) → n ≤ k → range_with_len k (n - k) ≡ []
range_end k n le = let none : n - k ≡ 0 = omega arith in ap (range_with_len k) none

-- one for each number
each_from : (ℕ → Verdict) → ℕ → ℕ → List Verdict
each_from f n k = map f (range_with_len k (n - k))

each_next : (f : ℕ → Verdict) (n k : ℕ) (x : Verdict) → k < n → x ≡ f k → each_from f n k ≡ x ∷ each_from f n (k + 1)
unfolding each_from
each_next f n k x less is = ap (map f) (range_next k n less) ∙ ap (λ y. y ∷ map f (range_with_len (k + 1) (n - (k + 1)))) (sym is)

each_end : (f : ℕ → Verdict) (n k : ℕ) → n ≤ k → each_from f n k ≡ []
unfolding each_from
each_end f n k le = ap (map f) (range_end k n le)

-- some for each number
parts_from : (ℕ → List Verdict) → ℕ → ℕ → List Verdict
parts_from f n k = flat_map f (range_with_len k (n - k))

parts_next : (f : ℕ → List Verdict) (n k : ℕ) → k < n → parts_from f n k ≡ f k ++ parts_from f n (k + 1)
unfolding parts_from
parts_next f n k less = ap (flat_map f) (range_next k n less)

parts_end : (f : ℕ → List Verdict) (n k : ℕ) → n ≤ k → parts_from f n k ≡ []
unfolding parts_from
parts_end f n k le = ap (flat_map f) (range_end k n le)

-- ---- of daughters
module _ (mother : ℕ) (outer : List V3) (ds : List (List V3)) where
  pub daughters_left : ℕ → List Verdict
  daughters_left k = each_from (daughter_verdict mother outer ds) (length ds) k

  pub daughters_all : daughters_left 0 ≡ daughter_verdicts mother outer ds
  unfolding daughters_left each_from daughter_verdicts
  daughters_all = refl

  pub daughters_next : (k : ℕ) (x : Verdict) → k < length ds → x ≡ daughter_verdict mother outer ds k → daughters_left k ≡ (x ∷ []) ++ daughters_left (k + 1)
  unfolding daughters_left
  daughters_next k x less is = each_next (daughter_verdict mother outer ds) (length ds) k x less is

  pub daughters_end : (k : ℕ) → length ds ≤ k → daughters_left k ≡ []
  unfolding daughters_left
  daughters_end k le = each_end (daughter_verdict mother outer ds) (length ds) k le

-- ---- of pairs
module _ (mother : ℕ) (ds : List (List V3)) where
  pub with_left : ℕ → ℕ → List Verdict
  with_left i k = each_from (pair_verdict mother ds i) (length ds) k

  pub with_all : (i : ℕ) → with_left i (i + 1) ≡ verdicts_with mother ds i
  unfolding with_left each_from verdicts_with
  with_all i = refl

  pub with_next : (i k : ℕ) (x : Verdict) → k < length ds → x ≡ pair_verdict mother ds i k → with_left i k ≡ (x ∷ []) ++ with_left i (k + 1)
  unfolding with_left
  with_next i k x less is = each_next (pair_verdict mother ds i) (length ds) k x less is

  pub with_end : (i k : ℕ) → length ds ≤ k → with_left i k ≡ []
  unfolding with_left
  with_end i k le = each_end (pair_verdict mother ds i) (length ds) k le

  pub pairs_left : ℕ → List Verdict
  pairs_left k = parts_from (verdicts_with mother ds) (length ds) k

  pub pairs_all : pairs_left 0 ≡ pair_verdicts mother ds
  unfolding pairs_left parts_from pair_verdicts
  pairs_all = refl

  pub pairs_next : (k : ℕ) → k < length ds → pairs_left k ≡ verdicts_with mother ds k ++ pairs_left (k + 1)
  unfolding pairs_left
  pairs_next k less = parts_next (verdicts_with mother ds) (length ds) k less

  pub pairs_end : (k : ℕ) → length ds ≤ k → pairs_left k ≡ []
  unfolding pairs_left
  pairs_end k le = parts_end (verdicts_with mother ds) (length ds) k le

-- ---- of a mother
pub in_parts : (h : Hierarchy) (v : ℕ) (figure : Figure) (outer : List V3) (ds : List (List V3)) → figure ≡ (volume_at h.volumes v).solid → outer ≡ distinct (vertices_of figure) → ds ≡ placed_daughters h v
    → daughter_verdicts v outer ds ++ pair_verdicts v ds ≡ verdicts_in h v
unfolding verdicts_in
in_parts h v figure outer ds is of placed =
    let same = of ∙ ap (λ (f : Figure). distinct (vertices_of f)) is in
    λ i. daughter_verdicts v (same i) (placed i) ++ pair_verdicts v (placed i)

-- ---- of mothers
module _ (h : Hierarchy) where
  pub mothers_left : ℕ → List Verdict
  mothers_left k = parts_from (verdicts_in h) (length h.volumes) k

  pub mothers_all : mothers_left 0 ≡ verdicts h
  unfolding mothers_left parts_from verdicts
  mothers_all = let same : length h.volumes - 0 ≡ length h.volumes = omega arith in ap (λ n. flat_map (verdicts_in h) (range_with_len 0 n)) same

  pub mothers_next : (k : ℕ) → k < length h.volumes → mothers_left k ≡ verdicts_in h k ++ mothers_left (k + 1)
  unfolding mothers_left
  mothers_next k less = parts_next (verdicts_in h) (length h.volumes) k less

  pub mothers_end : (k : ℕ) → length h.volumes ≤ k → mothers_left k ≡ []
  unfolding mothers_left
  mothers_end k le = parts_end (verdicts_in h) (length h.volumes) k le
