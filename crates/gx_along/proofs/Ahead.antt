-- The runs along the ray from the place that the search gave aren't left when the stretch begins.
use Rattle.std.proofs.Common.{◌≡◌, ℕ, ◌+◌, ◌-◌, ◌<◌, ◌≤◌, refl, sym, ap, ◌∙◌, arith, ℤ, pos, Bool, true, false, not, length}
use Rattle.std.specs.Prelude.{int_lt, if◌then◌else◌}
use Rattle.gx_num.specs.Ray.{RayParameter}
use Rattle.gx_voxel.specs.declared.proxy.Header.{Header}
use Rattle.gx_voxel.specs.Proxy.{list_of}
use Rattle.gx_along.specs.Line.{is_left}
use Rattle.gx_along.specs.Runs.{is_run_before, is_before, low_at, high_at}
use Rattle.gx_along.specs.Along.{index_of, left_of}
use Rattle.gx_along.proofs.Before.{from-not}

pub before-up : (o d low high : ℤ) (t : RayParameter) → int_lt d (pos 0) ≡ false → is_run_before o d low high t ≡ is_left o d low high t
unfolding is_run_before
before-up o d low high t e = ap (λ b. if b then not (is_left o d low high t) else is_left o d low high t) e

pub before-down : (o d low high : ℤ) (t : RayParameter) → int_lt d (pos 0) ≡ true → is_run_before o d low high t ≡ not (is_left o d low high t)
unfolding is_run_before
before-down o d low high t e = ap (λ b. if b then not (is_left o d low high t) else is_left o d low high t) e

pub ahead : (o d : ℤ) (h : Header) (t : RayParameter) (start : ℕ) → start ≤ length (list_of h) → ((i : ℕ) → i < start → is_before o d h t i ≡ true) → ((i : ℕ) → start ≤ i → i < length (list_of h) → is_before o d h t i ≡ false)
    → (m : ℕ) → m < left_of d (length (list_of h)) start → (index_of d start m < length (list_of h)) × (is_left o d (low_at h (index_of d start m)) (high_at h (index_of d start m)) t ≡ false)
ahead o d h t start bound first rest m less = go (int_lt d (pos 0)) refl
  where
    go : (b : Bool) → int_lt d (pos 0) ≡ b → (index_of d start m < length (list_of h)) × (is_left o d (low_at h (index_of d start m)) (high_at h (index_of d start m)) t ≡ false)
    go true e =
        let at = index_of d start m in
        let i : at ≡ start - 1 - m = ap (λ b. if b then start - 1 - m else start + m) e in
        let all : left_of d (length (list_of h)) start ≡ start = ap (λ b. if b then start else length (list_of h) - start) e in
        let small : at < start = omega (arith, i, less, all) in
        (omega (arith, small, bound), from-not (is_left o d (low_at h at) (high_at h at) t) (sym (before-down o d (low_at h at) (high_at h at) t e) ∙ first at small))
    go false e =
        let at = index_of d start m in
        let i : at ≡ start + m = ap (λ b. if b then start - 1 - m else start + m) e in
        let all : left_of d (length (list_of h)) start ≡ length (list_of h) - start = ap (λ b. if b then start else length (list_of h) - start) e in
        let small : at < length (list_of h) = omega (arith, i, less, all, bound) in
        (small, sym (before-up o d (low_at h at) (high_at h at) t e) ∙ rest at (omega (arith, i)) small)
