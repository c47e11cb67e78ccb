-- Identities over named variables, each a number, a natural or a vector:
--     dot4_comm : (a b : Vec4) → dot4 a b ≡ dot4 b a
--     dot4_comm = identity (vector4 ∷ vector4 ∷ []) (λ a b. term.dot4 a b ≣ term.dot4 b a) tt
use Rattle.std.proofs.Common.{◌≡◌, ℕ, ◌+◌, Bool, ◌&&◌, List, [], ◌∷◌, ◌++◌, ℤ, pos, T}
use Rattle.gx_num.specs.declared.vector.V3.{V3}
use Rattle.gx_num.specs.declared.ray.Ray.{Ray}
use Rattle.gx_num.specs.Space.{HalfSpace}
use Rattle.gx_num.specs.Vector4.{Vec4}
use Rattle.gx_algebra.proofs.Ring.{Term, var, val, same, ring, T_and}
use Rattle.gx_algebra.proofs.Terms.{Equation, Term3, Term4, TermHalfSpace, TermRay, Equation3, Equation4}

-- a kind of variable: its values and the numbers in one, and its terms, from the first of their variables
pub record Kind : Type 1 where
  pub Value : Type 0
  pub Terms : Type 0
  pub numbers : Value → List ℤ
  pub terms : ℕ → Terms
  pub width : ℕ

abbrev pub number : Kind
number = record { Value = ℤ; Terms = Term; numbers = λ k. k ∷ []; terms = λ i. var i; width = 1 }

abbrev pub natural : Kind
natural = record { Value = ℕ; Terms = Term; numbers = λ k. pos k ∷ []; terms = λ i. var i; width = 1 }

abbrev pub vector3 : Kind
vector3 = record {
  Value = V3;
  Terms = Term3;
  numbers = λ v. v.x ∷ v.y ∷ v.z ∷ [];
  terms = λ i. record { x = var i; y = var (i + 1); z = var (i + 2) };
  width = 3;
}

abbrev pub vector4 : Kind
vector4 = record {
  Value = Vec4;
  Terms = Term4;
  numbers = λ v. v.x ∷ v.y ∷ v.z ∷ v.w ∷ [];
  terms = λ i. record { x = var i; y = var (i + 1); z = var (i + 2); w = var (i + 3) };
  width = 4;
}

abbrev pub half_space : Kind
half_space = record {
  Value = HalfSpace;
  Terms = TermHalfSpace;
  numbers = λ h. h.n.x ∷ h.n.y ∷ h.n.z ∷ h.e ∷ [];
  terms = λ i. record { n = record { x = var i; y = var (i + 1); z = var (i + 2) }; e = var (i + 3) };
  width = 4;
}

abbrev pub ray : Kind
ray = record {
  Value = Ray;
  Terms = TermRay;
  numbers = λ r. r.o.x ∷ r.o.y ∷ r.o.z ∷ r.d.x ∷ r.d.y ∷ r.d.z ∷ [];
  terms = λ i. record {
    o = record { x = var i; y = var (i + 1); z = var (i + 2) };
    d = record { x = var (i + 3); y = var (i + 4); z = var (i + 5) };
  };
  width = 6;
}

-- what is stated of terms: a test that computes, and what holds of their values where it passes
pub record Result : Type 1 where
  pub Equation : Type 0
  pub is_same : Equation → Bool
  pub Holds : List ℤ → Equation → Type 0
  pub holds : (xs : List ℤ) (e : Equation) → T (is_same e) → Holds xs e

abbrev pub of_numbers : Result
of_numbers = record {
  Equation = Equation;
  is_same = λ e. same e.left e.right;
  Holds = λ xs e. val xs e.left ≡ val xs e.right;
  holds = λ xs e t. ring xs e.left e.right t;
}

abbrev pub value3 : List ℤ → Term3 → V3
value3 xs t = record { x = val xs t.x; y = val xs t.y; z = val xs t.z }

abbrev pub value4 : List ℤ → Term4 → Vec4
value4 xs t = record { x = val xs t.x; y = val xs t.y; z = val xs t.z; w = val xs t.w }

abbrev pub is_same3 : Equation3 → Bool
is_same3 e = same e.left.x e.right.x && (same e.left.y e.right.y && same e.left.z e.right.z)

abbrev pub is_same4 : Equation4 → Bool
is_same4 e =
    same e.left.x e.right.x && (same e.left.y e.right.y && (same e.left.z e.right.z && same e.left.w e.right.w))

pub holds3 : (xs : List ℤ) (e : Equation3) → T (is_same3 e) → value3 xs e.left ≡ value3 xs e.right
holds3 xs e t =
    let a = T_and (same e.left.x e.right.x) (same e.left.y e.right.y && same e.left.z e.right.z) t in
    let b = T_and (same e.left.y e.right.y) (same e.left.z e.right.z) a.1 in
    let x = ring xs e.left.x e.right.x a.0 in
    let y = ring xs e.left.y e.right.y b.0 in
    let z = ring xs e.left.z e.right.z b.1 in
    λ i. record { x = x i; y = y i; z = z i }

pub holds4 : (xs : List ℤ) (e : Equation4) → T (is_same4 e) → value4 xs e.left ≡ value4 xs e.right
holds4 xs e t =
    let a = T_and (same e.left.x e.right.x) (same e.left.y e.right.y && (same e.left.z e.right.z && same e.left.w e.right.w)) t in
    let b = T_and (same e.left.y e.right.y) (same e.left.z e.right.z && same e.left.w e.right.w) a.1 in
    let c = T_and (same e.left.z e.right.z) (same e.left.w e.right.w) b.1 in
    let x = ring xs e.left.x e.right.x a.0 in
    let y = ring xs e.left.y e.right.y b.0 in
    let z = ring xs e.left.z e.right.z c.0 in
    let w = ring xs e.left.w e.right.w c.1 in
    λ i. record { x = x i; y = y i; z = z i; w = w i }

abbrev pub of_vectors3 : Result
of_vectors3 = record {
  Equation = Equation3;
  is_same = is_same3;
  Holds = λ xs e. value3 xs e.left ≡ value3 xs e.right;
  holds = holds3;
}

abbrev pub of_vectors4 : Result
of_vectors4 = record {
  Equation = Equation4;
  is_same = is_same4;
  Holds = λ xs e. value4 xs e.left ≡ value4 xs e.right;
  holds = holds4;
}

-- an equation between terms over variables of these kinds
abbrev pub Statement : Result → List Kind → Type 0
Statement r [] = r.Equation
Statement r (k ∷ ks) = k.Terms → Statement r ks

-- both sides have one normal form, where the next variable is the given one
abbrev pub is_identity : (r : Result) (ks : List Kind) → ℕ → Statement r ks → Bool
is_identity r [] i s = r.is_same s
is_identity r (k ∷ ks) i s = is_identity r ks (i + k.width) (s (k.terms i))

-- both sides have one value at all values of the variables, behind the given numbers
abbrev pub Holds : (r : Result) (ks : List Kind) → ℕ → List ℤ → Statement r ks → Type 0
Holds r [] i xs s = r.Holds xs s
Holds r (k ∷ ks) i xs s = (v : k.Value) → Holds r ks (i + k.width) (xs ++ k.numbers v) (s (k.terms i))

holds : (r : Result) (ks : List Kind) (i : ℕ) (xs : List ℤ) (s : Statement r ks) → T (is_identity r ks i s) → Holds r ks i xs s
holds r [] i xs s t = r.holds xs s t
holds r (k ∷ ks) i xs s t = λ v. holds r ks (i + k.width) (xs ++ k.numbers v) (s (k.terms i)) t

-- the call: the kinds of the variables, the equation as a function of their terms, and `tt`
pub identity : (ks : List Kind) (s : Statement of_numbers ks) → T (is_identity of_numbers ks 0 s) → Holds of_numbers ks 0 [] s
identity ks s t = holds of_numbers ks 0 [] s t

pub identity3 : (ks : List Kind) (s : Statement of_vectors3 ks) → T (is_identity of_vectors3 ks 0 s) → Holds of_vectors3 ks 0 [] s
identity3 ks s t = holds of_vectors3 ks 0 [] s t

pub identity4 : (ks : List Kind) (s : Statement of_vectors4 ks) → T (is_identity of_vectors4 ks 0 s) → Holds of_vectors4 ks 0 [] s
identity4 ks s t = holds of_vectors4 ks 0 [] s t
