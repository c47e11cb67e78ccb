-- Beginnings and ends that are marked, and what lies between them.
use Rattle.std.proofs.Common.{◌≡◌, ◌<◌, ◌⊎◌, inl, inr, refl, sym, subst, arith, Bool, true, false, not}
use Rattle.gx_num.specs.Ray.{RayParameter, IsPositive, IsBelow, IsUpTo}
use Rattle.gx_num.proofs.Order.{le_lt, lt_le, lt_lt, apart, lesser, mediant, above_mediant, below_mediant, positive_mediant}
use Rattle.gx_partition.specs.Partition.{HasBegun, IsBeforeEnd, HasRoom}

pub not_not : (b : Bool) → not (not b) ≡ b
not_not true = refl
not_not false = refl

pub over_or_not : (s : RayParameter) (n : Bool) (x : RayParameter) → IsBeforeEnd s n x ⊎ HasBegun s (not n) x
over_or_not s true x = elim (apart s x) [ inl below ↦ inr below | inr up ↦ inl up ]
over_or_not s false x = apart x s

pub never_both : (s : RayParameter) (m : Bool) (x : RayParameter) → HasBegun s m x → IsBeforeEnd s (not m) x → ⊥
never_both s true x b l = omega (arith, b, l)
never_both s false x b l = omega (arith, b, l)

pub begun_upto : (s x : RayParameter) (m : Bool) → HasBegun s m x → IsUpTo s x
begun_upto s x true b = b
begun_upto s x false b = omega (arith, b)

pub end_upto : (s x : RayParameter) (m : Bool) → IsBeforeEnd s m x → IsUpTo x s
end_upto s x true b = b
end_upto s x false b = omega (arith, b)

pub room_upto : (s t : RayParameter) (m n : Bool) → HasRoom s m t n → IsUpTo s t
room_upto s t true true r = r
room_upto s t true false r = omega (arith, r)
room_upto s t false true r = omega (arith, r)
room_upto s t false false r = omega (arith, r)

-- what is over before a piece begins is over before it ends
pub room_ends : (s t x : RayParameter) (u n : Bool) → 0 < x.den → 0 < t.den → HasRoom s (not u) t n → IsBeforeEnd s u x → IsBeforeEnd t n x
room_ends s t x true true d e r l = omega (arith, le_lt x s t d l r)
room_ends s t x true false d e r l = le_lt x s t d l r
room_ends s t x false true d e r l = omega (arith, lt_le x s t e l r)
room_ends s t x false false d e r l = lt_lt x s t d l r

-- what begins after a piece begins after its beginning
pub room_begun : (s t x : RayParameter) (m n : Bool) → 0 < s.den → 0 < x.den → HasRoom s m t n → HasBegun t (not n) x → HasBegun s m x
room_begun s t x true true d e r b = omega (arith, le_lt s t x d r b)
room_begun s t x true false d e r b = omega (arith, lt_le s t x e r b)
room_begun s t x false true d e r b = lt_lt s t x d r b
room_begun s t x false false d e r b = lt_le s t x e r b

-- strictly between two ends is between them, however they are marked
pub strictly : (s t x : RayParameter) (m n : Bool) → IsBelow s x → IsBelow x t → HasBegun s m x × IsBeforeEnd t n x
strictly s t x true true h k = (omega (arith, h), omega (arith, k))
strictly s t x true false h k = (omega (arith, h), k)
strictly s t x false true h k = (h, omega (arith, k))
strictly s t x false false h k = (h, k)

-- a single parameter is marked at both ends
pub single_marks : (s t : RayParameter) (m n : Bool) → HasRoom s m t n → IsUpTo t s → (m ≡ true) × (n ≡ true)
single_marks s t true true r h = (refl, refl)
single_marks s t true false r h = absurd (omega (arith, r, h))
single_marks s t false true r h = absurd (omega (arith, r, h))
single_marks s t false false r h = absurd (omega (arith, r, h))

-- a parameter between a beginning and an end
pub inhabited : (s : RayParameter) (m : Bool) (t : RayParameter) (n : Bool) → 0 < s.den → (m ≡ true → 0 < s.num) → HasRoom s m t n
    → (x : RayParameter) × IsPositive x × HasBegun s m x × IsBeforeEnd t n x
inhabited s true t true d a r = (s, (a refl, d), omega arith, r)
inhabited s true t false d a r = (mediant s t, positive_mediant s t d r, omega (arith, above_mediant s t r), below_mediant s t r)
inhabited s false t true d a r = (mediant s t, positive_mediant s t d r, above_mediant s t r, omega (arith, below_mediant s t r))
inhabited s false t false d a r = (mediant s t, positive_mediant s t d r, above_mediant s t r, below_mediant s t r)

-- a parameter above one and below two others
pub some_between : (a b c : RayParameter) → 0 < a.den → 0 < b.den → 0 < c.den → IsBelow a b → IsBelow a c → (t : RayParameter) × IsPositive t × IsBelow a t × IsBelow t b × IsBelow t c
some_between a b c d e f ab ac =
    let m = lesser b c in
    let high : IsBelow a m.0 = elim m.3 as (λ k. IsBelow a m.0) [ inl is ↦ subst (IsBelow a) (sym is) ab | inr is ↦ subst (IsBelow a) (sym is) ac ] in
    let under = below_mediant a m.0 high in
    (mediant a m.0, positive_mediant a m.0 d high, above_mediant a m.0 high, lt_le (mediant a m.0) m.0 b e under m.1, lt_le (mediant a m.0) m.0 c f under m.2)
