use Rattle.std.proofs.Common.{◌<◌, ◌-◌, ℕ, ℤ, Bool, IsTrue, ◌↔◌, ◌≤◌, unsigned_abs, arith, subst, w64, to_z, of_z}
use Rattle.std.proofs.Math.Facts.{to_z-of_z}
use Rattle.gx_num.specs.declared.vector.TheConstants.{M}
use Rattle.gx_param.specs.Param.{Reaches, place}
use Rattle.gx_tree.specs.Limits.{IsRow}
use Rattle.gx_tree.specs.Ends.{IsGiven}
use Rattle.gx_tree.proofs.limits.is_row.Goals as goal

-- what a row that reaches is known by
record Tells (reached : Bool) (count : ℕ) (step offset : ℤ) : Type 0 where
  ends : IsTrue reached ↔ Reaches count step offset
  all : IsTrue reached → (i : ℕ) → i < count → unsigned_abs (place offset step i) ≤ unsigned_abs M

row_is : (reached : Bool) (axis count : ℕ) (step offset : ℤ) → IsGiven axis count step offset → Tells reached count step offset → IsTrue reached ↔ IsRow axis count step offset
row_is reached axis count step offset given tells = (
  λ yes. record { copies = given.copies; near_step = given.near_step; near_offset = given.near_offset; near = tells.all yes },
  λ row. tells.ends.1 (record { first = row.near 0 (omega (arith, given.copies.some)); last = row.near (count - 1) (omega (arith, given.copies.some)) }),
)

pub returns-then-is_given : goal.returns-then-is_given
returns-then-is_given c =
    let a = c.args in
    let step = to_z-of_z c.ranges.step in
    let offset = to_z-of_z c.ranges.offset in
    let given : IsGiven a.axis a.count (to_z w64 (of_z w64 a.step)) (to_z w64 (of_z w64 a.offset)) = c.is_given.ensures.0 c.if-is_given.true in
    let tells : Tells c.reaches.result a.count (to_z w64 (of_z w64 a.step)) (to_z w64 (of_z w64 a.offset)) = record { ends = c.reaches.ensures.ends; all = c.reaches.ensures.all } in
    subst (λ s. IsTrue c.reaches.result ↔ IsRow a.axis a.count s a.offset) step
    (subst (λ o. IsTrue c.reaches.result ↔ IsRow a.axis a.count (to_z w64 (of_z w64 a.step)) o) offset
    (row_is c.reaches.result a.axis a.count (to_z w64 (of_z w64 a.step)) (to_z w64 (of_z w64 a.offset)) given tells))
