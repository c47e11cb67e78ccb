-- Chains of placements, joined and taken apart.
use Rattle.std.proofs.Common.{◌≡◌, ◌↔◌, ℕ, zero, suc, ◌+◌, refl, subst, arith, Bool, true, List, eqb-true, eq-eqb}
use Rattle.std.specs.List.{list_any}
use Rattle.std.proofs.lemmas.List.Folds.{Any-from_list_any, list_any-from_Any}
use Rattle.gx_tree.specs.Volume.{Volume, daughter_of}
use Rattle.gx_tree.specs.Hierarchy.{volume_at, leads}
use Rattle.gx_tree.specs.Marks.{is_marked, IsLed}

list_any-weaker : {X : Type 0} (p q : X → Bool) (xs : List X) → ((x : X) → p x ≡ true → q x ≡ true) → list_any p xs ≡ true → list_any q xs ≡ true
list_any-weaker p q xs h e = let (k, x, less, at, passes) = Any-from_list_any p xs e in list_any-from_Any q xs (k, x, less, at, h x passes)

pub leads-itself : (volumes : List Volume) (v : ℕ) → leads volumes 0 v v ≡ true
unfolding leads
leads-itself volumes v = eq-eqb v v refl

-- one chain after another
pub leads-append : (volumes : List Volume) (m n v u w : ℕ) → leads volumes m v u ≡ true → leads volumes n u w ≡ true → leads volumes (m + n) v w ≡ true
unfolding leads
leads-append volumes zero n v u w first second =
    let same : v ≡ u = eqb-true v u first in
    let sum : 0 + n ≡ n = omega arith in
    rw (sum, same) second
leads-append volumes (suc m) n v u w first second =
    let sum : suc m + n ≡ suc (m + n) = omega arith in
    rw sum (list_any-weaker (λ p. leads volumes m (daughter_of p) u) (λ p. leads volumes (m + n) (daughter_of p) w) (volume_at volumes v).placements (λ p e. leads-append volumes m n (daughter_of p) u w e second) first)

-- where a chain is after some of its placements
pub record IsSplit (volumes : List Volume) (m n v w : ℕ) : Type 0 where
  pub at : ℕ
  pub first : leads volumes m v at ≡ true
  pub second : leads volumes n at w ≡ true

pub leads-split : (volumes : List Volume) (m n v w : ℕ) → leads volumes (m + n) v w ≡ true → IsSplit volumes m n v w
unfolding leads
leads-split volumes zero n v w e =
    let sum : n ≡ 0 + n = omega arith in
    record { at = v; first = leads-itself volumes v; second = rw sum e }
leads-split volumes (suc m) n v w e =
    let sum : suc m + n ≡ suc (m + n) = omega arith in
    let ps = (volume_at volumes v).placements in
    let there : list_any (λ p. leads volumes (m + n) (daughter_of p) w) ps ≡ true = rw sum at e in
    let (k, p, less, at, passes) = Any-from_list_any (λ p. leads volumes (m + n) (daughter_of p) w) ps there in
    let rest = leads-split volumes m n (daughter_of p) w passes in
    record { at = rest.at; first = list_any-from_Any (λ p. leads volumes m (daughter_of p) rest.at) ps (k, p, less, at, rest.first); second = rest.second }

-- from the daughters of the marked volumes a chain has one placement less
pub led_on : (volumes : List Volume) (marks now : List Bool) (n w : ℕ) → ((u : ℕ) → is_marked now u ≡ true ↔ IsLed volumes marks 1 u) → IsLed volumes now n w ↔ IsLed volumes marks (1 + n) w
led_on volumes marks now n w daughters = (
  λ led. let before = (daughters led.from).0 led.marked in
      record { from = before.from; marked = before.marked; leads = leads-append volumes 1 n before.from led.from w before.leads led.leads },
  λ led. let split = leads-split volumes 1 n led.from w led.leads in
      record { from = split.at; marked = (daughters split.at).1 (record { from = led.from; marked = led.marked; leads = split.first }); leads = split.second },
)

-- a chain of no placements stays
pub led-nowhere : (volumes : List Volume) (marks : List Bool) (w : ℕ) → IsLed volumes marks 0 w ↔ (is_marked marks w ≡ true)
unfolding leads
led-nowhere volumes marks w = (
  λ led. subst (λ v. is_marked marks v ≡ true) (eqb-true led.from w led.leads) led.marked,
  λ marked. record { from = w; marked = marked; leads = leads-itself volumes w },
)
