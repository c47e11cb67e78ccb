-- Private to this crate: a tree of boxes, as a list of parts.
use Rattle.std.specs.Prelude.{◌≡◌, ℕ, ◌+◌, ◌-◌, ◌*◌, ◌<◌, ◌≤◌, ◌≤ℤ◌, List, [], ◌∷◌, ◌++◌, length, map, take}
use Rattle.std.specs.Int.{int_min, int_max}
use Rattle.std.specs.List.{AllByRecursion}
use Rattle.std.specs.List.Sorted.{IsPermutation}
use Rattle.gx_num.specs.declared.vector.V3.{V3}
use Rattle.gx_num.specs.declared.extent.Extent.{Extent}
use Rattle.gx_num.specs.declared.ray.Ray.{Ray}
use Rattle.gx_num.specs.Vector.{IsWithin}
use Rattle.gx_offers.specs.Offers.{IsOneOf, Offered, IsOffered}
use Rattle.gx_boxes.specs.Boxes.{reach, IsMet}
use Rattle.gx_boxes.specs.declared.boxed.Boxed.{Boxed}
use Rattle.gx_boxes.specs.declared.part.Part.{Part}
use Rattle.gx_boxes.specs.declared.part.Part.TheVariants.{One, Many}

-- numbers that fit
pub record IsInReach (e : Extent) : Type 0 where
  pub low : IsWithin reach e.low
  pub high : IsWithin reach e.high

-- no coordinate is less, or greater
pub record IsBelow (a b : V3) : Type 0 where
  pub x : a.x ≤ℤ b.x
  pub y : a.y ≤ℤ b.y
  pub z : a.z ≤ℤ b.z

-- the one extent has all of the other
pub record IsEnclosed (outer inner : Extent) : Type 0 where
  pub low : IsBelow outer.low inner.low
  pub high : IsBelow inner.high outer.high

-- the boxes among the parts
abbrev pub boxes_of : List Part → List Boxed
boxes_of [] = []
boxes_of (One b ∷ parts) = b ∷ boxes_of parts
boxes_of (Many bounds n ∷ parts) = boxes_of parts

-- Bounds of n boxes have the boxes of the next n - 1 pairs of parts, which are a tree's of n boxes without its own bounds.
pub record AreBounds (bounds : Extent) (n : ℕ) (parts : List Part) : Type 0 where
  pub some : 0 < n
  pub few : 2 * (n - 1) ≤ length parts
  pub each : AllByRecursion (λ b. IsEnclosed bounds b.extent) (boxes_of (take (2 * (n - 1)) parts))

-- each box and all bounds are within reach, and the bounds have what they bound
abbrev pub AreTree : List Part → Type 0
AreTree [] = Unit {0}
AreTree (One b ∷ parts) = IsInReach b.extent × AreTree parts
AreTree (Many bounds n ∷ parts) = IsInReach bounds × AreBounds bounds n parts × AreTree parts

-- all numbers of boxes are below a bound
abbrev pub AreBelow : ℕ → List Part → Type 0
AreBelow room parts = AllByRecursion (λ b. b.number < room) (boxes_of parts)

-- after what was there a tree of the boxes is there
pub record IsMore (boxes : List Boxed) (old new : List Part) : Type 0 where
  pub more : List Part
  pub is : new ≡ old ++ more
  pub same : IsPermutation boxes (boxes_of more)
  pub tree : AreTree more
  pub count : length more + 1 ≡ 2 * length boxes

-- The numbers of some boxes were offered, and each that the ray meets is there.
pub record AreOffered (ray : Ray) (boxes : List Boxed) (old new : Offered) : Type 0 where
  pub offered : IsOffered (λ k. ⊥) (map (λ b. b.number) boxes) old new
  pub whole : AllByRecursion (λ b. IsMet b.extent ray → IsOneOf b.number new.numbers) boxes

-- Of the parts the rest is left, and what the ray meets among those before it was offered.
pub record HasPassed (ray : Ray) (parts rest : List Part) (old new : Offered) : Type 0 where
  pub passed : List Part
  pub is : parts ≡ passed ++ rest
  pub offered : AreOffered ray (boxes_of passed) old new
  pub tree : AreTree rest

-- the lesser and the greater coordinates of two
pub record AreLeast (a b least : V3) : Type 0 where
  pub x : least.x ≡ int_min a.x b.x
  pub y : least.y ≡ int_min a.y b.y
  pub z : least.z ≡ int_min a.z b.z

pub record AreGreatest (a b greatest : V3) : Type 0 where
  pub x : greatest.x ≡ int_max a.x b.x
  pub y : greatest.y ≡ int_max a.y b.y
  pub z : greatest.z ≡ int_max a.z b.z
