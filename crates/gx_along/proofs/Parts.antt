-- A run is met within a stretch exactly where it isn't left when the stretch begins and is entered before the stretch ends; then the part of the stretch in it is a stretch.
use Rattle.std.proofs.Common.{◌≡◌, ℕ, refl, sym, ◌∙◌, arith, ℤ, Bool, true, false}
use Rattle.std.specs.Prelude.{unsigned_abs, ◌==◌, if◌then◌else◌}
use Rattle.gx_along.specs.declared.line.Stretch.{Stretch}
use Rattle.gx_along.specs.Line.{near, far, above_zero, later, earlier, part_of}

pub not-zero : {X : Type 0} (n : ℕ) (x y : X) → (n ≡ 0 → ⊥) → (if n == 0 then x else y) ≡ y
not-zero n x y h = go (n == 0) refl
  where
    go : (b : Bool) → (n == 0) ≡ b → (if b then x else y) ≡ y
    go true e = let z : n ≡ 0 = grind (arith, e) in absurd (h z)
    go false e = refl

pub part-is : (o d low high : ℤ) (s : Stretch) (enter exit speed : ℕ) → (speed ≡ 0 → ⊥) → enter ≡ above_zero (near o d low high) → exit ≡ unsigned_abs (far o d low high) → speed ≡ unsigned_abs d
    → record { from = later s.from (record { num = enter; den = speed }); to = earlier s.to (record { num = exit; den = speed }) } ≡ part_of o d low high s
unfolding part_of
part-is o d low high s enter exit speed some e f g =
    (λ i. record { from = later s.from (record { num = e i; den = g i }); to = earlier s.to (record { num = f i; den = g i }) })
    ∙ sym (not-zero (unsigned_abs d) s (record { from = later s.from (record { num = above_zero (near o d low high); den = unsigned_abs d }); to = earlier s.to (record { num = unsigned_abs (far o d low high); den = unsigned_abs d }) }) (λ z. some (g ∙ z)))
