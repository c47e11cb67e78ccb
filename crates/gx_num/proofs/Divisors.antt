-- The greatest number that divides a list of numbers: every number that divides them all divides it.
use Rattle.std.proofs.Common.{◌≡◌, ◌⊎◌, inl, inr, ℕ, zero, suc, ◌≤◌, ◌<◌, ◌%◌, Bool, true, false, cond, ◌&&◌, ◌==◌, List, [], ◌∷◌, map, ◌*◌, ◌/◌, ℤ, pos, negsuc, neg_ℤ, unsigned_abs, int_div, refl, sym, ap, ◌∙◌, subst, arith, eqb-true, true≢false}
use Rattle.std.specs.Int.{IsGcd, ◌∣◌}
use Rattle.std.specs.List.{list_all, AllByRecursion}
use Rattle.std.proofs.Math.Nat.{one-dvd, eq-zero_of_zero-dvd, mul-dvd-mul_left, dvd_of_mul-dvd-mul_left, div-add-mod}
use Rattle.std.proofs.lemmas.Nat.{mod_below}
use Rattle.std.proofs.lemmas.Nat.Gcd.{le_of_dvd, dvd_trans, dvd-zero, dvd_of_mod-eq-zero, mod-eq-zero_of_dvd, IsGcd-from_zero, IsGcd-from_mod}
use Rattle.gx_num.specs.Number.{greatest_up_to, first_nonzero, common_divisor}

-- ---- the greatest number that passes a test
passes_step : (test : ℕ → Bool) (n g : ℕ) (b : Bool) → test (suc n) ≡ b → (0 < g → test g ≡ true) → 0 < cond b (suc n) g → test (cond b (suc n) g) ≡ true
passes_step test n g true e rest h = e
passes_step test n g false e rest h = rest h

greatest_up_to-passes : (test : ℕ → Bool) (n : ℕ) → 0 < greatest_up_to n test → test (greatest_up_to n test) ≡ true
greatest_up_to-passes test zero h = absurd (omega arith)
greatest_up_to-passes test (suc n) h =
    passes_step test n (greatest_up_to n test) (test (suc n)) refl (greatest_up_to-passes test n) h

le-suc_cases : (d n : ℕ) → d ≤ suc n → (d ≤ n) ⊎ (d ≡ suc n)
le-suc_cases d n h = grind arith

most_step : (b : Bool) (n d g : ℕ) → (d ≤ n) ⊎ (d ≡ suc n) → (d ≡ suc n → b ≡ true) → (d ≤ n → d ≤ g) → d ≤ cond b (suc n) g
most_step true n d g (inl h) found rest = omega arith
most_step true n d g (inr e) found rest = omega arith
most_step false n d g (inl h) found rest = rest h
most_step false n d g (inr e) found rest = absurd (true≢false (sym (found e)))

greatest_up_to-most : (test : ℕ → Bool) (n d : ℕ) → d ≤ n → test d ≡ true → d ≤ greatest_up_to n test
greatest_up_to-most test zero d le passed = le
greatest_up_to-most test (suc n) d le passed =
    most_step (test (suc n)) n d (greatest_up_to n test) (le-suc_cases d n le) (λ e. ap test (sym e) ∙ passed) (λ h. greatest_up_to-most test n d h passed)

-- ---- numbers that divide a list
abbrev pub DividesAll : ℕ → List ℕ → Type 0
DividesAll d ns = AllByRecursion (λ n. d ∣ n) ns

abbrev divides_all : List ℕ → ℕ → Bool
divides_all ns d = list_all (λ n. n % d == 0) ns

and-true : (a b : Bool) → (a && b) ≡ true → (a ≡ true) × (b ≡ true)
and-true true b e = (refl, e)
and-true false b e = absurd (true≢false (sym e))

DividesAll-from_test : (d : ℕ) (ns : List ℕ) → divides_all ns d ≡ true → DividesAll d ns
DividesAll-from_test d [] e = tt
DividesAll-from_test d (n ∷ ns) e =
    let parts = and-true (n % d == 0) (divides_all ns d) e in
    (dvd_of_mod-eq-zero d (eqb-true (n % d) 0 parts.0), DividesAll-from_test d ns parts.1)

test_from_DividesAll : (d : ℕ) (ns : List ℕ) → DividesAll d ns → divides_all ns d ≡ true
test_from_DividesAll d [] h = refl
test_from_DividesAll d (n ∷ ns) h = rw (mod-eq-zero_of_dvd d h.0) (test_from_DividesAll d ns h.1)

DividesAll-through : (d g : ℕ) (ns : List ℕ) → d ∣ g → DividesAll g ns → DividesAll d ns
DividesAll-through d g [] h all = tt
DividesAll-through d g (n ∷ ns) h all = (dvd_trans d h all.0, DividesAll-through d g ns h all.1)

one_divides : (ns : List ℕ) → DividesAll 1 ns
one_divides [] = tt
one_divides (n ∷ ns) = (one-dvd n, one_divides ns)

all_divide_zeros : (d : ℕ) (ns : List ℕ) → first_nonzero ns ≡ 0 → DividesAll d ns
all_divide_zeros d [] e = tt
all_divide_zeros d (zero ∷ ns) e = (dvd-zero d, all_divide_zeros d ns e)
all_divide_zeros d (suc n ∷ ns) e = absurd (omega arith)

zero_divides_zeros : (ns : List ℕ) → DividesAll 0 ns → first_nonzero ns ≡ 0
zero_divides_zeros [] h = refl
zero_divides_zeros (zero ∷ ns) h = zero_divides_zeros ns h.1
zero_divides_zeros (suc n ∷ ns) h = absurd (omega (arith, eq-zero_of_zero-dvd h.0))

-- a divisor is at most the first that isn't 0
DividesAll-le : (d : ℕ) (ns : List ℕ) → DividesAll d ns → 0 < first_nonzero ns → d ≤ first_nonzero ns
DividesAll-le d [] h lt = absurd (omega arith)
DividesAll-le d (zero ∷ ns) h lt = DividesAll-le d ns h.1 lt
DividesAll-le d (suc n ∷ ns) h lt = le_of_dvd lt h.0

pub zero_or_pos : (n : ℕ) → (n ≡ 0) ⊎ (0 < n)
zero_or_pos zero = inl refl
zero_or_pos (suc n) = inr (omega arith)

-- ---- the greatest one
pub record IsDivisor (ns : List ℕ) (g : ℕ) : Type 0 where
  pub divides : DividesAll g ns
  pub every : (d : ℕ) → DividesAll d ns → d ∣ g

-- of a number and a list
pub IsDivisor-cons : (n : ℕ) (ns : List ℕ) (h g : ℕ) → IsGcd n h g → IsDivisor ns h → IsDivisor (n ∷ ns) g
IsDivisor-cons n ns h g is rest = record {
  divides = (is.0, DividesAll-through g h ns is.1 rest.divides);
  every = λ d all. is.2 d all.0 (rest.every d all.1);
}

pub IsDivisor-one : (n : ℕ) → IsDivisor (n ∷ []) n
IsDivisor-one n = IsDivisor-cons n [] 0 n (IsGcd-from_zero n 0 refl) (record { divides = tt; every = λ d _. dvd-zero d })

pub IsDivisor-two : (a b g : ℕ) → IsGcd a b g → IsDivisor (a ∷ b ∷ []) g
IsDivisor-two a b g is = IsDivisor-cons a (b ∷ []) b g is (IsDivisor-one b)

-- there is no other
pub common_divisor-same : (ns : List ℕ) (g : ℕ) → IsDivisor ns g → common_divisor ns ≡ g
unfolding common_divisor
common_divisor-same ns g is = go (zero_or_pos (first_nonzero ns))
  where
    none : (n : ℕ) → suc n ∣ n → n ≡ 0
    none zero h = refl
    none (suc n) h = absurd (omega (arith, le_of_dvd {m = suc (suc n)} {n = suc n} (omega arith) h))

    positive : 0 < first_nonzero ns → (g ≡ 0) ⊎ (0 < g) → 0 < g
    positive lt (inl e) = absurd (omega (arith, lt, zero_divides_zeros ns (subst (λ (d : ℕ). DividesAll d ns) e is.divides)))
    positive lt (inr k) = k

    go : (first_nonzero ns ≡ 0) ⊎ (0 < first_nonzero ns) → greatest_up_to (first_nonzero ns) (divides_all ns) ≡ g
    go (inl e) = ap (λ (n : ℕ). greatest_up_to n (divides_all ns)) e ∙ sym (none g (is.every (suc g) (all_divide_zeros (suc g) ns e)))
    go (inr lt) =
        let some = positive lt (zero_or_pos g) in
        let most = greatest_up_to-most (divides_all ns) (first_nonzero ns) g (DividesAll-le g ns is.divides lt) (test_from_DividesAll g ns is.divides) in
        let found = DividesAll-from_test _ ns (greatest_up_to-passes (divides_all ns) (first_nonzero ns) (omega (arith, most, some))) in
        omega (arith, most, le_of_dvd some (is.every _ found))

-- and there is one
gcd_exists : (fuel a b : ℕ) → b ≤ fuel → (g : ℕ) × IsGcd a b g
gcd_exists fuel a zero le = (a, IsGcd-from_zero a 0 refl)
gcd_exists zero a (suc b) le = absurd (omega arith)
gcd_exists (suc fuel) a (suc b) le =
    let below = mod_below a (suc b) (omega arith) in
    let rest = gcd_exists fuel (suc b) (a % suc b) (omega (arith, below)) in
    (rest.0, IsGcd-from_mod a (suc b) rest.0 rest.1)

exists : (ns : List ℕ) → (g : ℕ) × IsDivisor ns g
exists [] = (0, record { divides = tt; every = λ d _. dvd-zero d })
exists (n ∷ ns) =
    let rest = exists ns in
    let all = gcd_exists rest.0 n rest.0 (omega arith) in
    (all.0, IsDivisor-cons n ns rest.0 all.0 all.1 rest.1)

pub IsDivisor-common_divisor : (ns : List ℕ) → IsDivisor ns (common_divisor ns)
IsDivisor-common_divisor ns =
    let some = exists ns in
    subst (IsDivisor ns) (sym (common_divisor-same ns some.0 some.1)) some.1

pub unsigned_abs-int_div : (a : ℤ) (d : ℕ) → unsigned_abs (int_div a (pos d)) ≡ unsigned_abs a / d
unsigned_abs-int_div (pos a) d = refl
unsigned_abs-int_div (negsuc a) d = unsigned_abs-neg (suc a / d)
  where
    unsigned_abs-neg : (n : ℕ) → unsigned_abs (neg_ℤ (pos n)) ≡ n
    unsigned_abs-neg zero = refl
    unsigned_abs-neg (suc n) = refl

-- ---- divided by it, the numbers have only 1 in common
pub common_divisor-divided : (ns : List ℕ) → 0 < common_divisor ns → common_divisor (map (λ n. n / common_divisor ns) ns) ≡ 1
common_divisor-divided ns lt = common_divisor-same (map (λ n. n / g) ns) 1 (record { divides = one_divides (map (λ n. n / g) ns); every = every })
  where
    g : ℕ
    g = common_divisor ns

    product : (d n : ℕ) → g ∣ n → d ∣ n / g → g * d ∣ n
    product d n h k =
        let whole : g * (n / g) ≡ n = omega (arith, div-add-mod n g, mod-eq-zero_of_dvd g h) in
        subst (λ (m : ℕ). g * d ∣ m) whole (mul-dvd-mul_left d g k)

    products : (d : ℕ) (ms : List ℕ) → DividesAll g ms → DividesAll d (map (λ n. n / g) ms) → DividesAll (g * d) ms
    products d [] h k = tt
    products d (m ∷ ms) h k = (product d m h.0 k.0, products d ms h.1 k.1)

    every : (d : ℕ) → DividesAll d (map (λ n. n / g) ns) → d ∣ 1
    every d h =
        let is = IsDivisor-common_divisor ns in
        let one : g ≡ g * 1 = omega arith in
        dvd_of_mul-dvd-mul_left d lt (subst (λ (m : ℕ). g * d ∣ m) one (is.every (g * d) (products d ns is.divides h)))
