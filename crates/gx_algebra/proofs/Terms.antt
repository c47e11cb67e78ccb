-- The operations and vectors of `Ring` over terms: each name has the body of its namesake over values.
use Rattle.std.proofs.Common.{pos}
use Rattle.gx_algebra.proofs.Ring.{Term, num, add, mul, opp}

infixl 60 ◌⊕◌ ◌⊖◌
infixl 70 ◌⊗◌
infix 40 ◌≣◌ ◌≣³◌ ◌≣⁴◌
abbrev pub ◌⊕◌ : Term → Term → Term
a ⊕ b = add a b

abbrev pub ◌⊖◌ : Term → Term → Term
a ⊖ b = add a (opp b)

abbrev pub ◌⊗◌ : Term → Term → Term
a ⊗ b = mul a b

abbrev pub none : Term
none = num (pos 0)

pub record Equation : Type 0 where
  pub left : Term
  pub right : Term

abbrev pub ◌≣◌ : Term → Term → Equation
a ≣ b = record { left = a; right = b }

pub record Term3 : Type 0 where
  pub x : Term
  pub y : Term
  pub z : Term

pub record Term4 : Type 0 where
  pub x : Term
  pub y : Term
  pub z : Term
  pub w : Term

pub record TermHalfSpace : Type 0 where
  pub n : Term3
  pub e : Term

pub record TermRay : Type 0 where
  pub o : Term3
  pub d : Term3

pub record Equation3 : Type 0 where
  pub left : Term3
  pub right : Term3

abbrev pub ◌≣³◌ : Term3 → Term3 → Equation3
a ≣³ b = record { left = a; right = b }

pub record Equation4 : Type 0 where
  pub left : Term4
  pub right : Term4

abbrev pub ◌≣⁴◌ : Term4 → Term4 → Equation4
a ≣⁴ b = record { left = a; right = b }

abbrev pub dot_of : Term3 → Term3 → Term
dot_of a b = (a.x ⊗ b.x ⊕ a.y ⊗ b.y) ⊕ a.z ⊗ b.z

abbrev pub difference_of : Term3 → Term3 → Term3
difference_of a b = record { x = a.x ⊖ b.x; y = a.y ⊖ b.y; z = a.z ⊖ b.z }

abbrev pub cross_of : Term3 → Term3 → Term3
cross_of a b = record {
  x = (a.y ⊗ b.z) ⊖ (a.z ⊗ b.y);
  y = (a.z ⊗ b.x) ⊖ (a.x ⊗ b.z);
  z = (a.x ⊗ b.y) ⊖ (a.y ⊗ b.x);
}

abbrev pub times3 : Term → Term3 → Term3
times3 k v = record { x = k ⊗ v.x; y = k ⊗ v.y; z = k ⊗ v.z }

abbrev pub dot4 : Term4 → Term4 → Term
dot4 a b = ((a.x ⊗ b.x ⊕ a.y ⊗ b.y) ⊕ a.z ⊗ b.z) ⊕ a.w ⊗ b.w

abbrev pub plus4 : Term4 → Term4 → Term4
plus4 a b = record { x = a.x ⊕ b.x; y = a.y ⊕ b.y; z = a.z ⊕ b.z; w = a.w ⊕ b.w }

abbrev pub times4 : Term → Term4 → Term4
times4 k v = record { x = k ⊗ v.x; y = k ⊗ v.y; z = k ⊗ v.z; w = k ⊗ v.w }

abbrev pub opposite4 : Term4 → Term4
opposite4 v = record { x = none ⊖ v.x; y = none ⊖ v.y; z = none ⊖ v.z; w = none ⊖ v.w }

abbrev pub minor : Term → Term → Term → Term → Term → Term → Term → Term → Term → Term
minor a b c d e f g h i = (a ⊗ ((e ⊗ i) ⊖ (f ⊗ h)) ⊖ b ⊗ ((d ⊗ i) ⊖ (f ⊗ g))) ⊕ c ⊗ ((d ⊗ h) ⊖ (e ⊗ g))

abbrev pub minors : Term4 → Term4 → Term4 → Term4
minors a b c = record {
  x = minor a.y a.z a.w b.y b.z b.w c.y c.z c.w;
  y = none ⊖ minor a.x a.z a.w b.x b.z b.w c.x c.z c.w;
  z = minor a.x a.y a.w b.x b.y b.w c.x c.y c.w;
  w = none ⊖ minor a.x a.y a.z b.x b.y b.z c.x c.y c.z;
}

abbrev pub det4 : Term4 → Term4 → Term4 → Term4 → Term
det4 a b c d = dot4 a (minors b c d)

abbrev pub origin : Term4
origin = record { x = none; y = none; z = none; w = none }

-- of gx_num's half-spaces and rays
abbrev pub normal_dot : TermHalfSpace → Term4 → Term
normal_dot h p = (h.n.x ⊗ p.x ⊕ h.n.y ⊗ p.y) ⊕ h.n.z ⊗ p.z

abbrev pub point_of_ray : TermRay → Term → Term → Term4
point_of_ray ray p q = record {
  x = q ⊗ ray.o.x ⊕ p ⊗ ray.d.x;
  y = q ⊗ ray.o.y ⊕ p ⊗ ray.d.y;
  z = q ⊗ ray.o.z ⊕ p ⊗ ray.d.z;
  w = q;
}
