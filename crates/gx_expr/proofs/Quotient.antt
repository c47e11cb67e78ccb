-- The quotient of a division without rest is the one number that the divisor goes into.
use Rattle.std.proofs.Common.{◌≡◌, ℕ, ℤ, pos, negsuc, neg_ℤ, zero, suc, ◌+◌, ◌*◌, ◌/◌, ◌%◌, ◌<◌, ◌*ℤ◌, ◌+ℤ◌, ◌<ℤ◌, Bool, true, false, None, Some, refl, subst, ap, arith}
use Rattle.std.specs.Prelude.{◌↔◌, Option, int_div, int_rem, if◌then◌else◌}
use Rattle.std.specs.Ordering.{int_eq}
use Rattle.std.proofs.lemmas.Int.{ints, quot-rem}
use Rattle.std.proofs.lemmas.Option.{none-some}
use Rattle.std.proofs.lemmas.Bool.Decides.{Decides-int_eq}
use Rattle.std.proofs.lemmas.Nat.{mod-mul-add}
use Rattle.std.proofs.Math.Nat.{mul-div_cancel}
use Rattle.gx_expr.specs.Convert.{whole_quotient}

no_rest : (m u : ℕ) → 0 < u → (m * u) % u ≡ 0
no_rest m u h = let p : (m * u + 0) % u ≡ 0 = mod-mul-add m u 0 h in let e : m * u + 0 ≡ m * u = omega arith in rw e at p

of_multiple : (n : ℤ) (k : ℕ) → whole_quotient (n *ℤ pos (suc k)) (pos (suc k)) ≡ Some n
of_multiple (pos m) k = rw (no_rest m (suc k) (omega arith), mul-div_cancel m {n = suc k} (omega arith)) refl
of_multiple (negsuc m) k =
    let t : suc m * suc k ≡ suc (m * suc k + k) = omega arith in
    let whole : negsuc m *ℤ pos (suc k) ≡ negsuc (m * suc k + k) = ap (λ x. neg_ℤ (pos x)) t in
    let rest : suc (m * suc k + k) % suc k ≡ 0 = subst (λ (x : ℕ). x % suc k ≡ 0) t (no_rest (suc m) (suc k) (omega arith)) in
    let times : suc (m * suc k + k) / suc k ≡ suc m = subst (λ (x : ℕ). x / suc k ≡ suc m) t (mul-div_cancel (suc m) {n = suc k} (omega arith)) in
    rw (whole, rest, times) refl

abbrev value_or : ℤ → Option ℤ → ℤ
value_or z None = z
value_or z (Some x) = x

chosen : (b : Bool) (r q n : ℤ) → int_eq r (pos 0) ≡ b → (if b then Some q else None) ≡ Some n → (r ≡ pos 0) × (q ≡ n)
chosen true r q n e h = ((Decides-int_eq r (pos 0)).0 e, ap (value_or q) h)
chosen false r q n e h = absurd (none-some n h)

multiple : (o u n : ℤ) → whole_quotient o u ≡ Some n → n *ℤ u ≡ o
multiple o u n h =
    let both = chosen (int_eq (int_rem o u) (pos 0)) (int_rem o u) (int_div o u) n refl h in
    let p : int_div o u *ℤ u +ℤ int_rem o u ≡ o = quot-rem o u in
    let q : n *ℤ u +ℤ pos 0 ≡ o = rw (both.0, both.1) at p in
    omega (arith, ints, q)

pub exact : (o u n : ℤ) → pos 0 <ℤ u → (whole_quotient o u ≡ Some n) ↔ (n *ℤ u ≡ o)
exact o (pos zero) n h = absurd (omega (arith, ints))
exact o (pos (suc k)) n h = (multiple o (pos (suc k)) n, λ e. subst (λ x. whole_quotient x (pos (suc k)) ≡ Some n) e (of_multiple n k))
exact o (negsuc u) n h = absurd (omega (arith, ints))
