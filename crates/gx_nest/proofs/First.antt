-- The first daughter that passes.
use Rattle.std.proofs.Common.{◌≡◌, ℕ, zero, suc, ◌+◌, ◌<◌, ◌⊎◌, inl, inr, refl, ◌∙◌, ap, subst, arith, Bool, true, false, List, [], ◌∷◌, slice_get, Option, None, Some}
use Rattle.std.specs.Prelude.{if◌then◌else◌}
use Rattle.gx_num.specs.Vector4.{Vec4}
use Rattle.gx_tree.specs.declared.instance.Instance.{Instance}
use Rattle.gx_tree.specs.Hierarchy.{Hierarchy}
use Rattle.gx_tree.specs.Deepest.{Daughter, local_of, first_from, first_daughter, descend}

true_or_false : (b : Bool) → (b ≡ true) ⊎ (b ≡ false)
true_or_false true = inl refl
true_or_false false = inr refl

pub none_or_some : {X : Type 0} (o : Option X) → (o ≡ None) ⊎ ((x : X) × (o ≡ Some x))
none_or_some None = inl refl
none_or_some (Some x) = inr (x, refl)

pub none_nor_some : {X : Type 0} (o : Option X) (x : X) → o ≡ None → o ≡ Some x → ⊥
none_nor_some o x e f = cc

pub first-at : (test : Instance → Bool) (b k : ℕ) (list : List Instance) (i : Instance) → slice_get list k ≡ Some i → test i ≡ true
    → ((j : ℕ) (a : Instance) → j < k → slice_get list j ≡ Some a → test a ≡ true → ⊥)
    → first_from test b list ≡ Some (record { ordinal = b + k; instance = i })
first-at test b k [] i at passes none = absurd (cc)
first-at test b zero (a ∷ list) i at passes none =
    let same : a ≡ i = cc in
    let here : test a ≡ true = ap test same ∙ passes in
    let number : b ≡ b + 0 = omega arith in
    rw here (λ x. Some (record { ordinal = number x; instance = same x }))
first-at test b (suc k) (a ∷ list) i at passes none = elim (true_or_false (test a)) [
  | inl here ↦ absurd (none 0 a (omega arith) refl here)
  | inr fails ↦
      let number : (b + 1) + k ≡ b + suc k = omega arith in
      rw fails (first-at test (b + 1) k list i at passes (λ j c below e. none (suc j) c (omega arith) e) ∙ ap (λ (n : ℕ). Some (record { ordinal = n; instance = i })) number)
]

pub first-none : (test : Instance → Bool) (b : ℕ) (list : List Instance) → ((k : ℕ) (i : Instance) → slice_get list k ≡ Some i → test i ≡ true → ⊥) → first_from test b list ≡ None
first-none test b [] none = refl
first-none test b (a ∷ list) none = elim (true_or_false (test a)) [
  | inl here ↦ absurd (none 0 a refl here)
  | inr fails ↦ rw fails (first-none test (b + 1) list (λ k i e. none (suc k) i e))
]

-- the first daughter found stands at her ordinal, and passes
pub record IsFirst (test : Instance → Bool) (b : ℕ) (list : List Instance) (d : Daughter) : Type 0 where
  pub place : ℕ
  pub ordinal : d.ordinal ≡ b + place
  pub at : slice_get list place ≡ Some d.instance
  pub passes : test d.instance ≡ true

first-is_at : (test : Instance → Bool) (b : ℕ) (i : Instance) (list : List Instance) (d : Daughter) (c : Bool) → test i ≡ c → (first_from test (b + 1) list ≡ Some d → IsFirst test (b + 1) list d)
    → (if c then Some (record { ordinal = b; instance = i }) else first_from test (b + 1) list) ≡ Some d → IsFirst test b (i ∷ list) d
first-is_at test b i list d true t later e =
    let made : Daughter = record { ordinal = b; instance = i } in
    let same : made ≡ d = cc in
    subst (IsFirst test b (i ∷ list)) same (record { place = 0; ordinal = omega arith; at = refl; passes = t })
first-is_at test b i list d false t later e =
    let f = later e in
    record { place = suc f.place; ordinal = omega (arith, f.ordinal); at = f.at; passes = f.passes }

pub first-is : (test : Instance → Bool) (b : ℕ) (list : List Instance) (d : Daughter) → first_from test b list ≡ Some d → IsFirst test b list d
first-is test b [] d e = absurd (cc)
first-is test b (i ∷ list) d e = first-is_at test b i list d (test i) refl (λ f. first-is test (b + 1) list d f) e

pub descend-some : (h : Hierarchy) (n v : ℕ) (p : Vec4) (d : Daughter) → first_daughter h v p ≡ Some d → descend h (suc n) v p ≡ d.ordinal ∷ descend h n d.instance.volume (local_of d.instance p)
descend-some h n v p d e = ap (λ (o : Option Daughter). elim o [ None ↦ [] | Some d ↦ d.ordinal ∷ descend h n d.instance.volume (local_of d.instance p) ]) e

pub descend-none : (h : Hierarchy) (n v : ℕ) (p : Vec4) → first_daughter h v p ≡ None → descend h (suc n) v p ≡ []
descend-none h n v p e = ap (λ (o : Option Daughter). elim o [ None ↦ [] | Some d ↦ d.ordinal ∷ descend h n d.instance.volume (local_of d.instance p) ]) e
