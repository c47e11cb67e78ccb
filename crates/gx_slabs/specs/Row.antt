-- Private to this crate: copies side by side, in the order along a ray.
use Rattle.std.specs.Prelude.{◌≡◌, ◌⊎◌, ℕ, ◌+◌, ◌-◌, ◌<◌, ◌≤◌, ◌^◌, true, false, map, ℤ, pos, ◌+ℤ◌, ◌*ℤ◌, ◌<ℤ◌, unsigned_abs, int_lt, Bool, if◌then◌else◌}
use Rattle.std.specs.List.{range_with_len}
use Rattle.gx_num.specs.Ray.{RayParameter}
use Rattle.gx_offers.specs.Offers.{Offered, IsOffered}
use Rattle.gx_boxes.specs.Boxes.{reach}
use Rattle.gx_along.specs.declared.line.Stretch.{Stretch}
use Rattle.gx_along.specs.Line.{time, is_left, is_entered}
use Rattle.gx_slabs.specs.declared.row.Row.{Row}

-- their bounds are within reach, and the ray begins not too far off
pub record IsRow (r : Row) : Type 0 where
  pub origin : unsigned_abs r.line.o ≤ 2 ^ 31
  pub from : unsigned_abs r.low ≤ reach
  pub to : unsigned_abs (r.low +ℤ pos r.count *ℤ r.width) ≤ reach
  pub wide : pos 0 <ℤ r.width
  pub few : r.count ≤ 4096

-- where copy k begins
abbrev pub start_of : Row → ℕ → ℤ
start_of r k = r.low +ℤ pos k *ℤ r.width

-- the j-th copy along the ray
abbrev pub copy_at : Row → ℕ → ℕ
copy_at r j = if int_lt r.line.d (pos 0) then r.count - 1 - j else j

-- from the time on the ray is no more in the j-th copy along it, and before the time it has come to it
abbrev pub is_left_at : Row → RayParameter → ℕ → Bool
is_left_at r t j = is_left r.line.o r.line.d (start_of r (copy_at r j)) (start_of r (copy_at r j + 1)) t

abbrev pub is_entered_at : Row → RayParameter → ℕ → Bool
is_entered_at r t j = is_entered r.line.o r.line.d (start_of r (copy_at r j)) (start_of r (copy_at r j + 1)) t

-- offered from the first copy along the ray that isn't left when the stretch begins, up to one that isn't entered before it ends
pub record AreOfferedAlong (r : Row) (s : Stretch) (old new : Offered) : Type 0 where
  pub start : ℕ
  pub end : ℕ
  pub order : start ≤ end
  pub bound : end ≤ r.count
  pub before : (j : ℕ) → j < start → is_left_at r (time s.from) j ≡ true
  pub after : (j : ℕ) → start ≤ j → j < r.count → is_left_at r (time s.from) j ≡ false
  pub entered : (j : ℕ) → start ≤ j → j < end → is_entered_at r (time s.to) j ≡ true
  pub done : (end ≡ r.count) ⊎ (is_entered_at r (time s.to) end ≡ false)
  pub offered : IsOffered (λ _. Unit {0}) (map (copy_at r) (range_with_len start (end - start))) old new
