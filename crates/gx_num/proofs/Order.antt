-- The order of parameters, by products crosswise.
use Rattle.std.proofs.Common.{◌≡◌, ℕ, zero, suc, ◌+◌, ◌*◌, ◌<◌, ◌≤◌, ◌⊎◌, inl, inr, refl, arith}
use Rattle.std.proofs.Math.Nat.{mul-le-mul_left, mul-lt-mul_of_pos_left, lt_of_mul-lt-mul_left}
use Rattle.std.proofs.lemmas.Bool.{cases_lt}
use Rattle.gx_num.specs.Ray.{RayParameter, IsBelow, IsUpTo, IsPositive}

le_of_mul : (k m n : ℕ) → 0 < k → k * m ≤ k * n → m ≤ n
le_of_mul k m n h l = elim (cases_lt n m) [ inl lt ↦ absurd (omega (arith, mul-lt-mul_of_pos_left {k = k} lt h, l)) | inr le ↦ le ]

pub le_le : (s t u : RayParameter) → 0 < t.den → IsUpTo s t → IsUpTo t u → IsUpTo s u
le_le s t u h p q =
    let one : u.den * (s.num * t.den) ≤ u.den * (t.num * s.den) = mul-le-mul_left u.den p in
    let two : s.den * (t.num * u.den) ≤ s.den * (u.num * t.den) = mul-le-mul_left s.den q in
    le_of_mul t.den (s.num * u.den) (u.num * s.den) h (omega (arith, one, two))

pub le_lt : (s t u : RayParameter) → 0 < s.den → IsUpTo s t → IsBelow t u → IsBelow s u
le_lt s t u h p q =
    let one : u.den * (s.num * t.den) ≤ u.den * (t.num * s.den) = mul-le-mul_left u.den p in
    let two : s.den * (t.num * u.den) < s.den * (u.num * t.den) = mul-lt-mul_of_pos_left q h in
    lt_of_mul-lt-mul_left t.den (omega (arith, one, two))

pub lt_le : (s t u : RayParameter) → 0 < u.den → IsBelow s t → IsUpTo t u → IsBelow s u
lt_le s t u h p q =
    let one : u.den * (s.num * t.den) < u.den * (t.num * s.den) = mul-lt-mul_of_pos_left p h in
    let two : s.den * (t.num * u.den) ≤ s.den * (u.num * t.den) = mul-le-mul_left s.den q in
    lt_of_mul-lt-mul_left t.den (omega (arith, one, two))

pub lt_lt : (s t u : RayParameter) → 0 < s.den → IsBelow s t → IsBelow t u → IsBelow s u
lt_lt s t u h p q = le_lt s t u h (omega (arith, p)) q

pub apart : (s t : RayParameter) → (IsBelow s t) ⊎ (IsUpTo t s)
apart s t = cases_lt (s.num * t.den) (t.num * s.den)

-- the lesser of two
pub lesser : (s t : RayParameter) → (m : RayParameter) × IsUpTo m s × IsUpTo m t × ((m ≡ s) ⊎ (m ≡ t))
lesser s t = elim (apart s t) [ inl less ↦ (s, omega arith, omega (arith, less), inl refl) | inr more ↦ (t, more, omega arith, inr refl) ]

-- a parameter between two
abbrev pub mediant : RayParameter → RayParameter → RayParameter
mediant s t = record { num = s.num + t.num; den = s.den + t.den }

pub above_mediant : (s t : RayParameter) → IsBelow s t → IsBelow s (mediant s t)
above_mediant s t h = omega (arith, h)

pub below_mediant : (s t : RayParameter) → IsBelow s t → IsBelow (mediant s t) t
below_mediant s t h = omega (arith, h)

factor_positive : (a b c : ℕ) → a < b * c → 0 < b
factor_positive a zero c h = omega arith
factor_positive a (suc b) c h = omega arith

pub above_positive : (s t : RayParameter) → IsBelow s t → 0 < t.num
above_positive s t h = factor_positive (s.num * t.den) t.num s.den h

pub positive_mediant : (s t : RayParameter) → 0 < s.den → IsBelow s t → IsPositive (mediant s t)
positive_mediant s t d h = (omega (arith, above_positive s t h), omega arith)
