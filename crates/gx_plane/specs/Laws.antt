-- Two theorems on lists of vectors of four whole numbers (any text on linear inequalities).
use Rattle.std.specs.Prelude.{◌≡◌, ◌⊎◌, ◌<◌, ℕ, pos, ◌≤ℤ◌, ◌<ℤ◌, List, [], ◌∷◌, length, All, Contains}
use Rattle.gx_num.specs.Vector4.{Vec4, origin, dot4, plus4, times4, opposite4, minors}

-- the vector's product with each member is at least 0
abbrev pub IsAbove : List Vec4 → Vec4 → Type 0
IsAbove members v = All (λ m. pos 0 ≤ℤ dot4 m v) members

-- only the zero vector has product 0 with every member
abbrev pub Spans : List Vec4 → Type 0
Spans members = (v : Vec4) → All (λ m. dot4 m v ≡ pos 0) members → v ≡ origin

-- a vector with a product of at least 0 with each member and above 0 with g
pub record IsBeyond (members : List Vec4) (g v : Vec4) : Type 0 where
  pub above : IsAbove members v
  pub beyond : pos 0 <ℤ dot4 g v

-- the vector of signed minors of three members, or its opposite
pub record IsFromThree (members : List Vec4) (v : Vec4) : Type 0 where
  pub first : Vec4
  pub second : Vec4
  pub third : Vec4
  pub first_in : Contains members first
  pub second_in : Contains members second
  pub third_in : Contains members third
  pub same : (v ≡ minors first second third) ⊎ (v ≡ opposite4 (minors first second third))

-- Let a list span, and let some vector have a product of at least 0 with each member and above 0 with g, which may be a member or not.
-- Then so has a vector that three of the members determine.
abbrev pub Tilting : Type 0
Tilting = (members : List Vec4) (g : Vec4) → Spans members → (v : Vec4) → IsBeyond members g v →
    (w : Vec4) × IsBeyond members g w × IsFromThree members w

-- each member as often as the list beside it says, added up
abbrev pub combination : List ℕ → List Vec4 → Vec4
combination (k ∷ ks) (m ∷ members) = plus4 (times4 (pos k) m) (combination ks members)
combination [] members = origin
combination ks [] = origin

-- a vector has a product of at least 0 with each member, and below 0 with c
pub record IsSeparated (members : List Vec4) (c : Vec4) : Type 0 where
  pub by : Vec4
  pub above : IsAbove members by
  pub below : dot4 c by <ℤ pos 0

-- a positive multiple of c is a sum of multiples of members, none of them negative
pub record IsInCone (members : List Vec4) (c : Vec4) : Type 0 where
  pub multiple : ℕ
  pub positive : 0 < multiple
  pub multiples : List ℕ
  pub one_each : length multiples ≡ length members
  pub sum : times4 (pos multiple) c ≡ combination multiples members

-- exactly one of the two holds
abbrev pub Farkas : Type 0
Farkas = (members : List Vec4) (c : Vec4) →
    (IsSeparated members c ⊎ IsInCone members c) × ¬ (IsSeparated members c × IsInCone members c)
