-- Identities of the ring of whole numbers, decided by computing: two terms whose difference has the empty normal form have one value.
use Prim.Native.Nat.{compare, Ordering, max}
use Rattle.std.proofs.Common.{◌≡◌, ℕ, zero, suc, ◌+◌, ◌*◌, ◌/◌, ◌%◌, ◌^◌, ◌<◌, ◌≤◌, Bool, true, false, ◌&&◌, List, [], ◌∷◌, ℤ, pos, negsuc, ◌+ℤ◌, ◌*ℤ◌, neg_ℤ, T, ltb, ltb→lt, eqb→eq, pow-suc, suc-add, zero-add, refl, sym, ap, ap₂, subst, ◌∙◌, arith}
use lib.Dec.{compare_is_eq}
use borrow.Author.Differences.{ints}
use Rattle.gx_algebra.proofs.Laws
use Rattle.gx_algebra.proofs.Laws.{mul-add, add-mul, mul_assoc, mul_comm, mul-one, one-mul, zero-mul, mul-zero, neg-mul}

-- a term over numbered variables
pub data Term : Type 0 where
  var : ℕ → Term
  num : ℤ → Term
  add : Term → Term → Term
  mul : Term → Term → Term
  opp : Term → Term

-- the value of a variable, 1 past the end
abbrev pub at : List ℤ → ℕ → ℤ
at [] i = pos 1
at (x ∷ xs) zero = x
at (x ∷ xs) (suc i) = at xs i

abbrev pub val : List ℤ → Term → ℤ
val xs (var i) = at xs i
val xs (num k) = k
val xs (add a b) = val xs a +ℤ val xs b
val xs (mul a b) = val xs a *ℤ val xs b
val xs (opp a) = neg_ℤ (val xs a)

-- a sum of coefficients times monomials; a monomial has the power of variable i as its digit i to base 16
pub data Poly : Type 0 where
  nil : Poly
  mono : ℤ → ℕ → Poly → Poly

abbrev pub is_nil : Poly → Bool
is_nil nil = true
is_nil (mono c m p) = false

-- the monomial in front, left out where its coefficient is 0
abbrev pub front : ℤ → ℕ → Poly → Poly
front (pos zero) m p = p
front (pos (suc n)) m p = mono (pos (suc n)) m p
front (negsuc n) m p = mono (negsuc n) m p

-- c times m and what `rest` adds, added to a sum
abbrev pub join : ℤ → ℕ → (Poly → Poly) → Poly → Poly
join c m rest nil = mono c m (rest nil)
join c m rest (mono d n q) = elim (compare m n) [
  | Ordering.lt ↦ mono d n (join c m rest q)
  | Ordering.eq ↦ front (c +ℤ d) m (rest q)
  | Ordering.gt ↦ mono c m (rest (mono d n q))
]

abbrev pub plus : Poly → Poly → Poly
plus nil q = q
plus (mono c m p) q = join c m (plus p) q

abbrev pub times_mono : ℤ → ℕ → Poly → Poly
times_mono c m nil = nil
times_mono c m (mono d n q) = mono (c *ℤ d) (m + n) (times_mono c m q)

abbrev pub times : Poly → Poly → Poly
times nil q = nil
times (mono c m p) q = plus (times_mono c m q) (times p q)

abbrev pub normal : Term → Poly
normal (var i) = mono (pos 1) (16 ^ i) nil
normal (num k) = front k 0 nil
normal (add a b) = plus (normal a) (normal b)
normal (mul a b) = times (normal a) (normal b)
normal (opp a) = times_mono (negsuc 0) 0 (normal a)

-- no variable has a greater power
abbrev pub degree : Term → ℕ
degree (var i) = 1
degree (num k) = 0
degree (add a b) = max (degree a) (degree b)
degree (mul a b) = degree a + degree b
degree (opp a) = degree a

abbrev pub same : Term → Term → Bool
same a b = ltb (degree (add a (opp b))) 16 && is_nil (normal (add a (opp b)))

-- ---- what a normal form stands for
abbrev pub power : ℤ → ℕ → ℤ
power x zero = pos 1
power x (suc n) = x *ℤ power x n

abbrev pub mono_val : List ℤ → ℕ → ℤ
mono_val [] m = pos 1
mono_val (x ∷ xs) m = power x (m % 16) *ℤ mono_val xs (m / 16)

abbrev pub poly_val : List ℤ → Poly → ℤ
poly_val xs nil = pos 0
poly_val xs (mono c m p) = (c *ℤ mono_val xs m) +ℤ poly_val xs p

-- each power is at most d
abbrev pub IsSmall : ℕ → List ℤ → ℕ → Type 0
IsSmall d [] m = Unit {0}
IsSmall d (x ∷ xs) m = (m % 16 ≤ d) × IsSmall d xs (m / 16)

abbrev pub AllSmall : ℕ → List ℤ → Poly → Type 0
AllSmall d xs nil = Unit {0}
AllSmall d xs (mono c m p) = IsSmall d xs m × AllSmall d xs p

IsSmall-more : (d e : ℕ) (xs : List ℤ) (m : ℕ) → d ≤ e → IsSmall d xs m → IsSmall e xs m
IsSmall-more d e [] m le h = tt
IsSmall-more d e (x ∷ xs) m le h = (omega (arith, h.0), IsSmall-more d e xs (m / 16) le h.1)

AllSmall-more : (d e : ℕ) (xs : List ℤ) (p : Poly) → d ≤ e → AllSmall d xs p → AllSmall e xs p
AllSmall-more d e xs nil le h = tt
AllSmall-more d e xs (mono c m p) le h = (IsSmall-more d e xs m le h.0, AllSmall-more d e xs p le h.1)

-- ---- monomials
power-add : (x : ℤ) (m n : ℕ) → power x (m + n) ≡ power x m *ℤ power x n
power-add x zero n = rw (zero-add n) (sym (one-mul (power x n)))
power-add x (suc m) n = rw (suc-add m n, power-add x m n) (sym (mul_assoc x (power x m) (power x n)))

digit : (m n : ℕ) → m % 16 + n % 16 < 16 → ((m + n) % 16 ≡ m % 16 + n % 16) × ((m + n) / 16 ≡ m / 16 + n / 16)
digit m n h = (omega arith, omega arith)

IsSmall-add : (d e : ℕ) (xs : List ℤ) (m n : ℕ) → d + e < 16 → IsSmall d xs m → IsSmall e xs n → IsSmall (d + e) xs (m + n)
IsSmall-add d e [] m n lt h k = tt
IsSmall-add d e (x ∷ xs) m n lt h k =
    let both = digit m n (omega (arith, h.0, k.0)) in
    (omega (arith, h.0, k.0, both.0), rw both.1 (IsSmall-add d e xs (m / 16) (n / 16) lt h.1 k.1))

regroup : (a b c d : ℤ) → (a *ℤ b) *ℤ (c *ℤ d) ≡ (a *ℤ c) *ℤ (b *ℤ d)
regroup a b c d =
    mul_assoc a b (c *ℤ d) ∙ ap (λ (t : ℤ). a *ℤ t) (sym (mul_assoc b c d) ∙ ap (λ (t : ℤ). t *ℤ d) (mul_comm b c) ∙ mul_assoc c b d) ∙ sym (mul_assoc a c (b *ℤ d))

mono_val-add : (d e : ℕ) (xs : List ℤ) (m n : ℕ) → d + e < 16 → IsSmall d xs m → IsSmall e xs n → mono_val xs (m + n) ≡ mono_val xs m *ℤ mono_val xs n
mono_val-add d e [] m n lt h k = refl
mono_val-add d e (x ∷ xs) m n lt h k =
    let both = digit m n (omega (arith, h.0, k.0)) in
    rw (both.0, both.1, power-add x (m % 16) (n % 16), mono_val-add d e xs (m / 16) (n / 16) lt h.1 k.1)
    (regroup (power x (m % 16)) (power x (n % 16)) (mono_val xs (m / 16)) (mono_val xs (n / 16)))

mono_val-zero : (xs : List ℤ) → mono_val xs 0 ≡ pos 1
mono_val-zero [] = refl
mono_val-zero (x ∷ xs) = one-mul (mono_val xs 0) ∙ mono_val-zero xs

IsSmall-zero : (d : ℕ) (xs : List ℤ) → IsSmall d xs 0
IsSmall-zero d [] = tt
IsSmall-zero d (x ∷ xs) = (omega arith, IsSmall-zero d xs)

place : (i : ℕ) → (16 ^ suc i % 16 ≡ 0) × (16 ^ suc i / 16 ≡ 16 ^ i)
place i = let e : 16 ^ suc i ≡ 16 * 16 ^ i = rw (pow-suc 16 i) (omega arith) in (omega arith, omega arith)

mono_val-var : (xs : List ℤ) (i : ℕ) → mono_val xs (16 ^ i) ≡ at xs i
mono_val-var [] i = refl
mono_val-var (x ∷ xs) zero = ap (λ (t : ℤ). (x *ℤ pos 1) *ℤ t) (mono_val-zero xs) ∙ mul-one (x *ℤ pos 1) ∙ mul-one x
mono_val-var (x ∷ xs) (suc i) = rw ((place i).0, (place i).1) (one-mul (mono_val xs (16 ^ i)) ∙ mono_val-var xs i)

IsSmall-var : (xs : List ℤ) (i : ℕ) → IsSmall 1 xs (16 ^ i)
IsSmall-var [] i = tt
IsSmall-var (x ∷ xs) zero = (omega arith, IsSmall-zero 1 xs)
IsSmall-var (x ∷ xs) (suc i) = (omega (arith, (place i).0), rw (place i).1 (IsSmall-var xs i))

-- ---- sums
front-val : (xs : List ℤ) (c : ℤ) (m : ℕ) (p : Poly) → poly_val xs (front c m p) ≡ (c *ℤ mono_val xs m) +ℤ poly_val xs p
front-val xs (pos zero) m p = sym (ap (λ (t : ℤ). t +ℤ poly_val xs p) (zero-mul (mono_val xs m)) ∙ Laws.zero-add (poly_val xs p))
front-val xs (pos (suc n)) m p = refl
front-val xs (negsuc n) m p = refl

AllSmall-front : (d : ℕ) (xs : List ℤ) (c : ℤ) (m : ℕ) (p : Poly) → IsSmall d xs m → AllSmall d xs p → AllSmall d xs (front c m p)
AllSmall-front d xs (pos zero) m p h k = k
AllSmall-front d xs (pos (suc n)) m p h k = (h, k)
AllSmall-front d xs (negsuc n) m p h k = (h, k)

join-val : (xs : List ℤ) (c : ℤ) (m : ℕ) (rest : Poly → Poly) (v : ℤ) → ((q : Poly) → poly_val xs (rest q) ≡ v +ℤ poly_val xs q) → (q : Poly) → poly_val xs (join c m rest q) ≡ ((c *ℤ mono_val xs m) +ℤ v) +ℤ poly_val xs q
join-val xs c m rest v h nil = omega (arith, ints, h nil)
join-val xs c m rest v h (mono d n q) =
    let ih = join-val xs c m rest v h q in
    (elim (compare m n) as (λ (o : Ordering). compare m n ≡ o → poly_val xs (elim o [
      | Ordering.lt ↦ mono d n (join c m rest q)
      | Ordering.eq ↦ front (c +ℤ d) m (rest q)
      | Ordering.gt ↦ mono c m (rest (mono d n q))
    ]) ≡ ((c *ℤ mono_val xs m) +ℤ v) +ℤ ((d *ℤ mono_val xs n) +ℤ poly_val xs q)) [
      | Ordering.lt ↦ λ e. omega (arith, ints, ih)
      | Ordering.eq ↦ λ e.
          let same : m ≡ n = eqb→eq m n (subst (λ (o : Ordering). T (compare_is_eq o)) (sym e) tt) in
          rw (← same) (omega (arith, ints, front-val xs (c +ℤ d) m (rest q), add-mul c d (mono_val xs m), h q))
      | Ordering.gt ↦ λ e. omega (arith, ints, h (mono d n q))
    ]) refl

AllSmall-join : (b : ℕ) (xs : List ℤ) (c : ℤ) (m : ℕ) (rest : Poly → Poly) → IsSmall b xs m → ((q : Poly) → AllSmall b xs q → AllSmall b xs (rest q)) → (q : Poly) → AllSmall b xs q → AllSmall b xs (join c m rest q)
AllSmall-join b xs c m rest small h nil k = (small, h nil k)
AllSmall-join b xs c m rest small h (mono d n q) k =
    let ih = AllSmall-join b xs c m rest small h q k.1 in
    elim (compare m n) as (λ (o : Ordering). AllSmall b xs (elim o [
      | Ordering.lt ↦ mono d n (join c m rest q)
      | Ordering.eq ↦ front (c +ℤ d) m (rest q)
      | Ordering.gt ↦ mono c m (rest (mono d n q))
    ])) [
      | Ordering.lt ↦ (k.0, ih)
      | Ordering.eq ↦ AllSmall-front b xs (c +ℤ d) m (rest q) small (h q k.1)
      | Ordering.gt ↦ (small, h (mono d n q) k)
    ]

plus-val : (xs : List ℤ) (p q : Poly) → poly_val xs (plus p q) ≡ poly_val xs p +ℤ poly_val xs q
plus-val xs nil q = sym (Laws.zero-add (poly_val xs q))
plus-val xs (mono c m p) q = join-val xs c m (plus p) (poly_val xs p) (plus-val xs p) q

AllSmall-plus : (b : ℕ) (xs : List ℤ) (p q : Poly) → AllSmall b xs p → AllSmall b xs q → AllSmall b xs (plus p q)
AllSmall-plus b xs nil q h k = k
AllSmall-plus b xs (mono c m p) q h k =
    AllSmall-join b xs c m (plus p) h.0 (λ r. AllSmall-plus b xs p r h.1) q k

-- ---- products
times_mono-val : (a b : ℕ) (xs : List ℤ) (c : ℤ) (m : ℕ) (q : Poly) → a + b < 16 → IsSmall a xs m → AllSmall b xs q → poly_val xs (times_mono c m q) ≡ (c *ℤ mono_val xs m) *ℤ poly_val xs q
times_mono-val a b xs c m nil lt h k = sym (mul-zero (c *ℤ mono_val xs m))
times_mono-val a b xs c m (mono d n q) lt h k =
    rw (mono_val-add a b xs m n lt h k.0, times_mono-val a b xs c m q lt h k.1)
    (ap (λ (t : ℤ). t +ℤ ((c *ℤ mono_val xs m) *ℤ poly_val xs q)) (regroup c d (mono_val xs m) (mono_val xs n)) ∙ sym (mul-add (c *ℤ mono_val xs m) (d *ℤ mono_val xs n) (poly_val xs q)))

AllSmall-times_mono : (a b : ℕ) (xs : List ℤ) (c : ℤ) (m : ℕ) (q : Poly) → a + b < 16 → IsSmall a xs m → AllSmall b xs q → AllSmall (a + b) xs (times_mono c m q)
AllSmall-times_mono a b xs c m nil lt h k = tt
AllSmall-times_mono a b xs c m (mono d n q) lt h k =
    (IsSmall-add a b xs m n lt h k.0, AllSmall-times_mono a b xs c m q lt h k.1)

times-val : (a b : ℕ) (xs : List ℤ) (p q : Poly) → a + b < 16 → AllSmall a xs p → AllSmall b xs q → poly_val xs (times p q) ≡ poly_val xs p *ℤ poly_val xs q
times-val a b xs nil q lt h k = sym (zero-mul (poly_val xs q))
times-val a b xs (mono c m p) q lt h k =
    rw (plus-val xs (times_mono c m q) (times p q), times_mono-val a b xs c m q lt h.0 k, times-val a b xs p q lt h.1 k)
    (sym (add-mul (c *ℤ mono_val xs m) (poly_val xs p) (poly_val xs q)))

AllSmall-times : (a b : ℕ) (xs : List ℤ) (p q : Poly) → a + b < 16 → AllSmall a xs p → AllSmall b xs q → AllSmall (a + b) xs (times p q)
AllSmall-times a b xs nil q lt h k = tt
AllSmall-times a b xs (mono c m p) q lt h k =
    AllSmall-plus (a + b) xs (times_mono c m q) (times p q) (AllSmall-times_mono a b xs c m q lt h.0 k) (AllSmall-times a b xs p q lt h.1 k)

-- ---- a term's normal form has the term's value
AllSmall-normal : (xs : List ℤ) (t : Term) → degree t < 16 → AllSmall (degree t) xs (normal t)
AllSmall-normal xs (var i) lt = (IsSmall-var xs i, tt)
AllSmall-normal xs (num k) lt = AllSmall-front 0 xs k 0 nil (IsSmall-zero 0 xs) tt
AllSmall-normal xs (add a b) lt =
    AllSmall-plus (max (degree a) (degree b)) xs (normal a) (normal b)
    (AllSmall-more (degree a) (max (degree a) (degree b)) xs (normal a) (omega arith) (AllSmall-normal xs a (omega arith)))
    (AllSmall-more (degree b) (max (degree a) (degree b)) xs (normal b) (omega arith) (AllSmall-normal xs b (omega arith)))
AllSmall-normal xs (mul a b) lt =
    AllSmall-times (degree a) (degree b) xs (normal a) (normal b) lt (AllSmall-normal xs a (omega arith)) (AllSmall-normal xs b (omega arith))
AllSmall-normal xs (opp a) lt =
    AllSmall-more (0 + degree a) (degree a) xs (times_mono (negsuc 0) 0 (normal a)) (omega arith)
    (AllSmall-times_mono 0 (degree a) xs (negsuc 0) 0 (normal a) (omega arith) (IsSmall-zero 0 xs) (AllSmall-normal xs a lt))

normal-val : (xs : List ℤ) (t : Term) → degree t < 16 → poly_val xs (normal t) ≡ val xs t
normal-val xs (var i) lt =
    ap (λ (t : ℤ). (pos 1 *ℤ t) +ℤ pos 0) (mono_val-var xs i) ∙ omega (arith, ints)
normal-val xs (num k) lt =
    front-val xs k 0 nil ∙ ap (λ (t : ℤ). (k *ℤ t) +ℤ pos 0) (mono_val-zero xs) ∙ omega (arith, ints)
normal-val xs (add a b) lt =
    plus-val xs (normal a) (normal b) ∙ ap₂ (λ (s t : ℤ). s +ℤ t) (normal-val xs a (omega arith)) (normal-val xs b (omega arith))
normal-val xs (mul a b) lt =
    times-val (degree a) (degree b) xs (normal a) (normal b) lt (AllSmall-normal xs a (omega arith)) (AllSmall-normal xs b (omega arith)) ∙ ap₂ (λ (s t : ℤ). s *ℤ t) (normal-val xs a (omega arith)) (normal-val xs b (omega arith))
normal-val xs (opp a) lt =
    times_mono-val 0 (degree a) xs (negsuc 0) 0 (normal a) (omega arith) (IsSmall-zero 0 xs) (AllSmall-normal xs a lt) ∙ ap₂ (λ (s t : ℤ). (negsuc 0 *ℤ s) *ℤ t) (mono_val-zero xs) (normal-val xs a lt) ∙ omega (arith, ints)

pub T_and : (a b : Bool) → T (a && b) → T a × T b
T_and true b t = (tt, t)
T_and false b t = absurd t

nil-val : (xs : List ℤ) (p : Poly) → T (is_nil p) → poly_val xs p ≡ pos 0
nil-val xs nil t = refl
nil-val xs (mono c m p) t = absurd t

-- two terms with one normal form have one value
pub ring : (xs : List ℤ) (a b : Term) → T (same a b) → val xs a ≡ val xs b
ring xs a b t =
    let both = T_and (ltb (degree (add a (opp b))) 16) (is_nil (normal (add a (opp b)))) t in
    let e = normal-val xs (add a (opp b)) (ltb→lt (degree (add a (opp b))) 16 both.0) in
    omega (arith, ints, nil-val xs (normal (add a (opp b))) both.1, e)
