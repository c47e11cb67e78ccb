-- Intervals of parameters, by the parameters in them.
use Rattle.std.proofs.Common.{◌<◌, ◌⊎◌, inl, inr, arith}
use Rattle.gx_num.specs.Ray.{RayParameter, IsPositive, IsBelow, IsUpTo}
use Rattle.gx_num.proofs.Order.{le_lt, lt_lt, apart, mediant, above_mediant, below_mediant, positive_mediant}
use Rattle.gx_partition.proofs.Ends.{some_between}

-- a parameter below one and above two others
some_between_above : (a b c : RayParameter) → 0 < a.den → 0 < b.den → 0 < c.den → IsBelow b a → IsBelow c a → (t : RayParameter) × IsPositive t × IsBelow b t × IsBelow c t × IsBelow t a
some_between_above a b c d e f ba ca = elim (apart b c) [
  | inl less ↦ let t = mediant c a in (t, positive_mediant c a f ca, lt_lt b c t e less (above_mediant c a ca), above_mediant c a ca, below_mediant c a ca)
  | inr more ↦ let t = mediant b a in (t, positive_mediant b a e ba, above_mediant b a ba, le_lt c b t f more (above_mediant b a ba), below_mediant b a ba)
]

-- what lies within at each parameter begins and ends within
pub starts_within : (a b c : RayParameter) → 0 < a.den → 0 < b.den → 0 < c.den → IsBelow a b → ((t : RayParameter) → IsPositive t → IsBelow a t → IsBelow t b → IsUpTo c t) → IsUpTo c a
starts_within a b c d e f some inside = elim (apart a c) [
  | inr up ↦ up
  | inl less ↦ let m = some_between a b c d e f some less in absurd (omega (arith, m.4, inside m.0 m.1 m.2 m.3))
]

pub ends_within : (a b c : RayParameter) → 0 < a.den → 0 < b.den → 0 < c.den → IsBelow a b → ((t : RayParameter) → IsPositive t → IsBelow a t → IsBelow t b → IsUpTo t c) → IsUpTo b c
ends_within a b c d e f some inside = elim (apart c b) [
  | inr up ↦ up
  | inl less ↦ let m = some_between_above b a c e d f some less in absurd (omega (arith, m.3, inside m.0 m.1 m.2 m.4))
]

-- intervals without a common parameter are apart
pub no_common : (a b c d : RayParameter) → 0 < a.den → 0 < b.den → 0 < c.den → 0 < d.den → IsBelow a b → IsBelow c d
    → ((t : RayParameter) → IsPositive t → IsBelow a t → IsBelow t b → IsBelow c t → IsBelow t d → ⊥) → IsUpTo b c ⊎ IsUpTo d a
no_common a b c d p q r s ab cd none = elim (apart c b) [
  | inr up ↦ inl up
  | inl cb ↦ elim (apart a d) [
    | inr up ↦ inr up
    | inl ad ↦ elim (apart a c) [
      | inl ac ↦ let m = some_between c b d r q s cb cd in absurd (none m.0 m.1 (lt_lt a c m.0 p ac m.2) m.3 m.2 m.4)
      | inr ca ↦ let m = some_between a b d p q s ab ad in absurd (none m.0 m.1 m.2 m.3 (le_lt c a m.0 r ca m.2) m.4)
    ]
  ]
]
