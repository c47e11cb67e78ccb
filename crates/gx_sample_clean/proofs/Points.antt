-- Points of boxes, as facts on their coordinates.
use Rattle.std.proofs.Common.{◌≡◌, IsTrue, ℤ, pos, neg_ℤ, ◌-ℤ◌, ◌*ℤ◌, ◌≤ℤ◌, ◌<ℤ◌, ap, arith}
use Rattle.std.proofs.lemmas.List.Elements.{All-from_recursion}
use Rattle.gx_num.specs.declared.vector.V3.{V3}
use Rattle.gx_num.specs.Space.{HalfSpace, is_in, is_inside}
use Rattle.gx_num.specs.Vector4.{Vec4}
use Rattle.gx_convex.specs.Hull.{IsAtMost}
use Rattle.gx_convex.proofs.Truth.{Decides-is_in, Decides-is_inside}
use Rattle.gx_shapes.specs.Space.{half_space}
use Rattle.gx_shapes.specs.Straight.{box, trapezoid}
use Rattle.gx_rotation.specs.Matrix.{identity}
use Rattle.gx_rotation.specs.Place.{local_point}
use Rattle.gx_rotation.proofs.Algebra.{image-identity}
use borrow.Author.Differences.{ints}

pub record IsInBox (a b c : ℤ) (p : Vec4) : Type 0 where
  pub right : p.x ≤ℤ (a *ℤ p.w)
  pub left : neg_ℤ p.x ≤ℤ (a *ℤ p.w)
  pub back : p.y ≤ℤ (b *ℤ p.w)
  pub front : neg_ℤ p.y ≤ℤ (b *ℤ p.w)
  pub high : p.z ≤ℤ (c *ℤ p.w)
  pub low : neg_ℤ p.z ≤ℤ (c *ℤ p.w)

abbrev none : HalfSpace
none = half_space (pos 0) (pos 0) (pos 0) (pos 0)

pub in_box : (a b c : ℤ) (p : Vec4) → IsTrue (is_in (box a b c) p) → IsInBox a b c p
in_box a b c p is =
    let all = (Decides-is_in (box a b c) p).0 is in
    record {
      right = omega (arith, ints, all 0 none (omega arith));
      left = omega (arith, ints, all 1 none (omega arith));
      back = omega (arith, ints, all 2 none (omega arith));
      front = omega (arith, ints, all 3 none (omega arith));
      high = omega (arith, ints, all 4 none (omega arith));
      low = omega (arith, ints, all 5 none (omega arith));
    }

pub of_box : (a b c : ℤ) (p : Vec4) → IsInBox a b c p → IsTrue (is_in (box a b c) p)
of_box a b c p is =
    (Decides-is_in (box a b c) p).1 (All-from_recursion (λ h. IsAtMost h p) (box a b c)
    (omega (arith, ints, is.right), (omega (arith, ints, is.left), (omega (arith, ints, is.back), (omega (arith, ints, is.front), (omega (arith, ints, is.high), (omega (arith, ints, is.low), tt)))))))

-- inside a box, along the first two axes
pub record IsInsideBox (a b : ℤ) (p : Vec4) : Type 0 where
  pub right : p.x <ℤ (a *ℤ p.w)
  pub left : neg_ℤ p.x <ℤ (a *ℤ p.w)
  pub back : p.y <ℤ (b *ℤ p.w)
  pub front : neg_ℤ p.y <ℤ (b *ℤ p.w)

pub inside_box : (a b c : ℤ) (p : Vec4) → IsTrue (is_inside (box a b c) p) → IsInsideBox a b p
inside_box a b c p is =
    let all = (Decides-is_inside (box a b c) p).0 is in
    record {
      right = omega (arith, ints, all 0 none (omega arith));
      left = omega (arith, ints, all 1 none (omega arith));
      back = omega (arith, ints, all 2 none (omega arith));
      front = omega (arith, ints, all 3 none (omega arith));
    }

-- the core is in a box of half lengths 10, 10 and 50
pub core_in : (p : Vec4) → pos 0 <ℤ p.w → IsTrue (is_in (trapezoid (pos 4) (pos 8) (pos 4) (pos 8) (pos 40)) p) → IsInBox (pos 10) (pos 10) (pos 50) p
core_in p weight is =
    let all = (Decides-is_in (trapezoid (pos 4) (pos 8) (pos 4) (pos 8) (pos 40)) p).0 is in
    let high : p.z ≤ℤ (pos 40 *ℤ p.w) = omega (arith, ints, all 4 none (omega arith)) in
    let low : neg_ℤ p.z ≤ℤ (pos 40 *ℤ p.w) = omega (arith, ints, all 5 none (omega arith)) in
    record {
      right = omega (arith, ints, weight, high, low, all 0 none (omega arith));
      left = omega (arith, ints, weight, high, low, all 1 none (omega arith));
      back = omega (arith, ints, weight, high, low, all 2 none (omega arith));
      front = omega (arith, ints, weight, high, low, all 3 none (omega arith));
      high = omega (arith, ints, weight, high);
      low = omega (arith, ints, weight, low);
    }

-- a point in the frame of a daughter that isn't turned
pub unturned : (t : V3) (p : Vec4) → local_point identity t p ≡ record { x = p.x -ℤ p.w *ℤ t.x; y = p.y -ℤ p.w *ℤ t.y; z = p.z -ℤ p.w *ℤ t.z; w = p.w }
unturned t p =
    ap (λ (v : V3). let q : Vec4 = record { x = v.x; y = v.y; z = v.z; w = p.w } in q) (image-identity (record { x = p.x -ℤ p.w *ℤ t.x; y = p.y -ℤ p.w *ℤ t.y; z = p.z -ℤ p.w *ℤ t.z }))
