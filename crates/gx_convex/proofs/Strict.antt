-- What holds at every point in a solid holds strictly at the points inside.
use Rattle.std.proofs.Common.{◌≡◌, ℕ, suc, ◌+◌, ◌≤◌, true, false, ℤ, pos, ◌+ℤ◌, ◌-ℤ◌, ◌*ℤ◌, ◌≤ℤ◌, ◌<ℤ◌, unsigned_abs, List, [], ◌∷◌, All, sym, ap, ◌∙◌, ⊎_elim, arith, true≢false}
use Rattle.std.proofs.lemmas.Int.{by_lt_z}
use Rattle.std.proofs.lemmas.List.Elements.{All-nil, All-cons, All-head, All-tail}
use Rattle.gx_num.specs.declared.vector.V3.{V3}
use Rattle.gx_num.specs.Vector.{dot_of}
use Rattle.gx_num.specs.Space.{HalfSpace, is_in, is_inside, normal_dot}
use Rattle.gx_num.specs.Vector4.{Vec4}
use Rattle.gx_algebra.proofs.Terms as term
use Rattle.gx_algebra.proofs.Ring.{num}
use Rattle.gx_algebra.proofs.Terms.{◌≣◌, ◌⊕◌, ◌⊖◌, ◌⊗◌}
use Rattle.gx_algebra.proofs.Identity.{identity, number, natural, vector3, vector4, half_space}
use Rattle.gx_algebra.proofs.Identities.{same3}
use Rattle.gx_algebra.proofs.Order.{mul_nonneg, mul_pos, mul-le-left, square_nonneg, mul-eq-zero}
use Rattle.gx_plane.specs.Plane.{is_zero}
use Rattle.gx_convex.specs.Hull.{IsAtMost}
use Rattle.gx_convex.proofs.Truth.{Decides-is_in, Decides-is_inside}
use borrow.Author.Differences.{ints}

-- p + n/m
abbrev moved : ℕ → Vec4 → V3 → Vec4
moved m p n = record {
  x = pos m *ℤ p.x +ℤ n.x;
  y = pos m *ℤ p.y +ℤ n.y;
  z = pos m *ℤ p.z +ℤ n.z;
  w = pos m *ℤ p.w;
}

normal_dot-moved : (h : HalfSpace) (m : ℕ) (p : Vec4) (n : V3) → normal_dot h (moved m p n) ≡ pos m *ℤ normal_dot h p +ℤ dot_of h.n n
normal_dot-moved = identity (half_space ∷ natural ∷ vector4 ∷ vector3 ∷ []) (λ h m p n. term.normal_dot h (record { x = m ⊗ p.x ⊕ n.x; y = m ⊗ p.y ⊕ n.y; z = m ⊗ p.z ⊕ n.z; w = m ⊗ p.w }) ≣ m ⊗ term.normal_dot h p ⊕ term.dot_of h.n n) tt

mul_turn : (m : ℕ) (e w : ℤ) → e *ℤ (pos m *ℤ w) ≡ pos m *ℤ (e *ℤ w)
mul_turn = identity (natural ∷ number ∷ number ∷ []) (λ m e w. e ⊗ (m ⊗ w) ≣ m ⊗ (e ⊗ w)) tt

-- a short step keeps an inequality that is strict
short_step : (m : ℕ) (a b d : ℤ) → a <ℤ b → unsigned_abs d ≤ m → (pos m *ℤ a +ℤ d) ≤ℤ (pos m *ℤ b)
short_step m a b d lt le =
    omega (arith, ints, gap m a b, mul_nonneg (pos m) (b -ℤ (a +ℤ pos 1)) (omega (arith, ints)) (omega (arith, ints)))
  where
    gap : (m : ℕ) (a b : ℤ) → pos m *ℤ (b -ℤ (a +ℤ pos 1)) ≡ (pos m *ℤ b -ℤ pos m *ℤ a) -ℤ pos m
    gap = identity (natural ∷ number ∷ number ∷ []) (λ m a b. m ⊗ (b ⊖ (a ⊕ num (pos 1))) ≣ (m ⊗ b ⊖ m ⊗ a) ⊖ m) tt

-- a point inside stays in the solid over every step that is short enough
stays : (solid : List HalfSpace) (p : Vec4) (n : V3) → All (λ g. normal_dot g p <ℤ (g.e *ℤ p.w)) solid → (k : ℕ) × ((m : ℕ) → k ≤ m → All (λ g. IsAtMost g (moved m p n)) solid)
stays [] p n h = (0, λ m le. All-nil (λ g. IsAtMost g (moved m p n)))
stays (g ∷ gs) p n h =
    let lt = All-head (λ g. normal_dot g p <ℤ (g.e *ℤ p.w)) g gs h in
    let rest = stays gs p n (All-tail (λ g. normal_dot g p <ℤ (g.e *ℤ p.w)) g gs h) in
    (unsigned_abs (dot_of g.n n) + rest.0, λ m le. All-cons (λ g. IsAtMost g (moved m p n)) g gs (omega (arith, ints, normal_dot-moved g m p n, mul_turn m g.e p.w, short_step m (normal_dot g p) (g.e *ℤ p.w) (dot_of g.n n) lt (omega arith))) (rest.1 m (omega arith)))

dot_of-self : (n : V3) → is_zero n ≡ false → pos 0 <ℤ dot_of n n
dot_of-self n e =
    by_lt_z (pos 0) (dot_of n n) (λ lt. lt)
    (λ le.
    let x = square_nonneg n.x in
    let y = square_nonneg n.y in
    let z = square_nonneg n.z in
    absurd (true≢false (sym (ap is_zero (same3 n (record { x = pos 0; y = pos 0; z = pos 0 })
    (root n.x (omega (arith, ints, x, y, z, le))) (root n.y (omega (arith, ints, x, y, z, le))) (root n.z (omega (arith, ints, x, y, z, le))))) ∙ e)))
  where
    root : (a : ℤ) → a *ℤ a ≡ pos 0 → a ≡ pos 0
    root a e = ⊎_elim (λ z. z) (λ z. z) (mul-eq-zero a a e)

pub strict : (solid : List HalfSpace) (h : HalfSpace) → is_zero h.n ≡ false → ((q : Vec4) → pos 0 <ℤ q.w → is_in solid q ≡ true → IsAtMost h q) → (p : Vec4) → pos 0 <ℤ p.w → is_inside solid p ≡ true → normal_dot h p <ℤ (h.e *ℤ p.w)
strict solid h plane holds p w inside = by_lt_z (normal_dot h p) (h.e *ℤ p.w) (λ lt. lt) (λ le. absurd (beyond le))
  where
    step : (k : ℕ) × ((m : ℕ) → k ≤ m → All (λ g. IsAtMost g (moved m p h.n)) solid)
    step = stays solid p h.n ((Decides-is_inside solid p).0 inside)

    beyond : (h.e *ℤ p.w) ≤ℤ normal_dot h p → ⊥
    beyond le =
        let m = suc step.0 in
        let at_most : normal_dot h (moved m p h.n) ≤ℤ (h.e *ℤ (pos m *ℤ p.w)) = holds (moved m p h.n) (mul_pos (pos m) p.w (omega (arith, ints)) w) ((Decides-is_in solid (moved m p h.n)).1 (step.1 m (omega arith))) in
        omega (
          arith,
          ints,
          at_most,
          normal_dot-moved h m p h.n,
          mul_turn m h.e p.w,
          mul-le-left (pos m) (h.e *ℤ p.w) (normal_dot h p) (omega (arith, ints)) le,
          dot_of-self h.n plane,
        )
