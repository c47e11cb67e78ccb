-- Two products compare as the quotients do, and where those are equal as the products of the remainders.
use Rattle.std.proofs.Common.{◌≡◌, ℕ, ◌+◌, ◌*◌, ◌/◌, ◌%◌, ◌<◌, ◌≤◌, ◌≢◌, sym, arith}
use Rattle.std.proofs.lemmas.Bool.Decides.{nat_tests}
use Rattle.std.proofs.lemmas.Nat.{div-add-mod', mod_below}
use Rattle.std.proofs.Math.Nat.{mul-le-mul_left, mul-lt-mul_of_pos_left}
use Rattle.std.specs.Ordering.{nat_cmp}

nat_cmp-add : (k x y : ℕ) → nat_cmp (k + x) (k + y) ≡ nat_cmp x y
nat_cmp-add k x y = grind (arith, nat_tests)

same_order : (x y m n : ℕ) → x < y → m < n → nat_cmp x y ≡ nat_cmp m n
same_order x y m n h k = grind (arith, nat_tests)

same_reverse_order : (x y m n : ℕ) → y < x → n < m → nat_cmp x y ≡ nat_cmp m n
same_reverse_order x y m n h k = grind (arith, nat_tests)

-- a smaller quotient has the smaller product
apart : (b c q r s t : ℕ) → 0 < b → r < c → q < s → (q * c + r) * b < c * (s * b + t)
apart b c q r s t hb h k =
    let one : b * (q * c + r) < b * (q * c + c) = mul-lt-mul_of_pos_left (omega arith) hb in
    let two : (c * b) * (q + 1) ≤ (c * b) * s = mul-le-mul_left (c * b) (omega arith) in
    omega (arith, one, two)

ordered : (a b c d : ℕ) → 0 < b → 0 < c → a / c < d / b → a * b < c * d
ordered a b c d hb hc h =
    let p = apart b c (a / c) (a % c) (d / b) (d % b) hb (mod_below a c hc) h in
    rw (div-add-mod' a c, div-add-mod' d b) at p

by_order : (x y m n : ℕ) → x ≢ y → (x < y → m < n) → (y < x → n < m) → nat_cmp x y ≡ nat_cmp m n
by_order x y m n ne up down = grind (arith, nat_tests, same_order x y m n, same_reverse_order x y m n)

pub by_quotients : (a b c d : ℕ) → 0 < b → 0 < c → a / c ≢ d / b → nat_cmp (a / c) (d / b) ≡ nat_cmp (a * b) (c * d)
by_quotients a b c d hb hc ne =
    by_order (a / c) (d / b) (a * b) (c * d) ne (ordered a b c d hb hc)
    (λ h. let p : d * c < b * a = ordered d c b a hc hb h in omega (arith, p))

common : (b c q r t : ℕ) → nat_cmp (b * r) (t * c) ≡ nat_cmp ((q * c + r) * b) (c * (q * b + t))
common b c q r t =
    let left : (q * c + r) * b ≡ q * c * b + b * r = omega arith in
    let right : c * (q * b + t) ≡ q * c * b + t * c = omega arith in
    rw (left, right) (sym (nat_cmp-add (q * c * b) (b * r) (t * c)))

pub by_remainders : (a b c d : ℕ) → a / c ≡ d / b → nat_cmp (b * (a % c)) ((d % b) * c) ≡ nat_cmp (a * b) (c * d)
by_remainders a b c d e =
    let p = common b c (a / c) (a % c) (d % b) in
    rw (div-add-mod' a c, e, div-add-mod' d b) at p
