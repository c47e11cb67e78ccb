-- Spans with the same ends are the same.
use Rattle.std.proofs.Common.{◌≡◌, ℕ, ℤ, pos, refl, ap, subst, arith, Option, None, Some}
use Rattle.std.specs.Prelude.{◌≤ℤ◌, unsigned_abs}
use Rattle.std.proofs.lemmas.Int.{ints}
use Rattle.std.proofs.Props.{props}
use Rattle.gx_num.specs.declared.ray.Ray.{Ray}
use Rattle.gx_num.specs.Ray.{RayParameter, IsBelow}
use Rattle.gx_fraction.specs.Fraction.{Fraction, parameter_of}
use Rattle.gx_clip.specs.declared.span.Span.{Span}
use Rattle.gx_tree.specs.declared.instance.Instance.{Instance}
use Rattle.gx_partition.specs.Walk.{Hit}
use Rattle.gx_nest.specs.Met.{Frame, hit_of}

same_number : (p q : ℤ) → pos 0 ≤ℤ p → pos 0 ≤ℤ q → unsigned_abs p ≡ unsigned_abs q → p ≡ q
same_number p q h k e = omega (arith, ints, h, k, e)

same_fraction : (f g : Fraction) → pos 0 ≤ℤ f.num → pos 0 ≤ℤ g.num → parameter_of f ≡ parameter_of g → f ≡ g
same_fraction f g h k e =
    let num = same_number f.num g.num h k (ap (λ (t : RayParameter). t.num) e) in
    let den = ap (λ (t : RayParameter). t.den) e in
    λ x. record { num = num x; den = den x }

-- a span with these ends
abbrev Has : Span → Fraction → Fraction → Type 0
Has a f g = (start : pos 0 ≤ℤ f.num) (end : pos 0 ≤ℤ g.num) (ordered : IsBelow (parameter_of f) (parameter_of g)) → a ≡ record { from = f; to = g; start = start; end = end; ordered = ordered }

same_span : (a b : Span) → parameter_of a.from ≡ parameter_of b.from → parameter_of a.to ≡ parameter_of b.to → a ≡ b
same_span a b e f =
    let begin : IsProp (pos 0 ≤ℤ a.from.num) = hlevel props in
    let finish : IsProp (pos 0 ≤ℤ a.to.num) = hlevel props in
    let below : IsProp (IsBelow (parameter_of a.from) (parameter_of a.to)) = hlevel props in
    let own : Has a a.from a.to = λ s t o. λ x. record { from = a.from; to = a.to; start = begin a.start s x; end = finish a.end t x; ordered = below a.ordered o x } in
    subst (λ g. Has a g b.to) (same_fraction a.from b.from a.start b.start e) (subst (Has a a.from) (same_fraction a.to b.to a.end b.end f) own) b.start b.end b.ordered

hit_is : (g h : Hit Frame) → Some g ≡ Some h → g ≡ h
hit_is g h e = cc

-- what is met in the same way is so in one span
pub same_hit : (k : ℕ) (i : Instance) (ray : Ray) (a b : Option Span) → hit_of k i ray a ≡ hit_of k i ray b → a ≡ b
same_hit k i ray None None e = refl
same_hit k i ray None (Some b) e = absurd (cc)
same_hit k i ray (Some a) None e = absurd (cc)
same_hit k i ray (Some a) (Some b) e =
    let same = hit_is _ _ e in
    ap Some (same_span a b (ap (λ (h : Hit Frame). h.from) same) (ap (λ (h : Hit Frame). h.to) same))
