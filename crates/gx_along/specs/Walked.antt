-- The runs gone into along a ray, one after another, and where that ends.
use Rattle.std.specs.Prelude.{◌≡◌, ◌⊎◌, ◌≤◌, ◌<◌, ℕ, zero, suc, ℤ, true, false, List, [], ◌∷◌, ◌++◌, length}
use Rattle.gx_voxel.specs.declared.proxy.Header.{Header}
use Rattle.gx_voxel.specs.Proxy.{list_of}
use Rattle.gx_along.specs.declared.line.Stretch.{Stretch}
use Rattle.gx_along.specs.Line.{Seen, time}
use Rattle.gx_along.specs.Runs.{is_before}
use Rattle.gx_along.specs.Along.{index_of, left_of, is_entered_at, part_at}

-- the first n runs along the ray
abbrev pub walked : ℤ → ℤ → Header → Stretch → ℕ → ℕ → List Seen
walked o d h s start zero = []
walked o d h s start (suc n) = walked o d h s start n ++ record { index = index_of d start n; part = part_at o d h s (index_of d start n) } ∷ []

-- From the first run that isn't left when the stretch begins, on to the last that is entered before it ends.
pub record Walks (o d : ℤ) (h : Header) (s : Stretch) (seen : List Seen) : Type 0 where
  pub start : ℕ
  pub steps : ℕ
  pub bound : start ≤ length (list_of h)
  pub first : (i : ℕ) → i < start → is_before o d h (time s.from) i ≡ true
  pub rest : (i : ℕ) → start ≤ i → i < length (list_of h) → is_before o d h (time s.from) i ≡ false
  pub within : steps ≤ left_of d (length (list_of h)) start
  pub all : seen ≡ walked o d h s start steps
  pub entered : (m : ℕ) → m < steps → is_entered_at o d h (time s.to) (index_of d start m) ≡ true
  pub done : (steps ≡ left_of d (length (list_of h)) start) ⊎ (is_entered_at o d h (time s.to) (index_of d start steps) ≡ false)
