-- Counts of placements and of instances.
use Rattle.std.proofs.Common.{◌≡◌, ℕ, ◌+◌, ◌<◌, ◌≤◌, sym, ◌∙◌, ap, arith, List, [], ◌∷◌, ◌++◌, length, take, map, slice_index_or, All}
use Rattle.std.specs.Prelude.{sum_by}
use Rattle.std.specs.List.{range_with_len}
use Rattle.std.proofs.Math.Nat.{mul-le-mul}
use Rattle.std.proofs.lemmas.List.{take_more, map-append}
use Rattle.std.proofs.lemmas.List.Elements.{All-head, All-tail, All-weaker}
use Rattle.std.proofs.lemmas.List.FromFn.{map-range_with_len_more}
use Rattle.std.proofs.lemmas.List.Sums.{sum_by-cons, sum_by_more}
use Rattle.gx_tree.specs.declared.placement.Placement.{Placement}
use Rattle.gx_tree.specs.declared.placement.Placement.TheVariants.{Single, Replica, Linear, Square}
use Rattle.gx_tree.specs.Volume.{Volume, copies_of}
use Rattle.gx_tree.specs.Ends.{start_of}
use Rattle.gx_tree.specs.Limits.{IsInRange, IsPlaceable, IsWithinLimits}

-- each placement stands for an instance
pub some_copies : (p : Placement) → IsInRange p → 1 ≤ copies_of p
some_copies (Single volume copy rotation offset) range = omega arith
some_copies (Replica volume axis count width) range = range.copies.some
some_copies (Linear volume axis rotation count step offset) range = range.copies.some
some_copies (Square volume plane rotation first_count second_count first_step second_step first_offset second_offset) range = omega (arith, mul-le-mul range.0.copies.some range.1.copies.some)

pub placements-few : (ps : List Placement) → All IsInRange ps → length ps ≤ sum_by copies_of ps
placements-few [] all = omega arith
placements-few (p ∷ ps) all = omega (arith, sum_by-cons copies_of p ps, some_copies p (All-head IsInRange p ps all), placements-few ps (All-tail IsInRange p ps all))

-- ---- running counts, one placement more
pub start_more : (ps : List Placement) (i : ℕ) (p : Placement) (end count : ℕ) → i < length ps → p ≡ slice_index_or ps i p → end ≡ start_of ps i → count ≡ copies_of p → end + count ≡ start_of ps (i + 1)
start_more ps i p end count less at so_far is = omega (arith, sum_by_more copies_of ps i p less, so_far, is, ap copies_of at)

pub ends_more : (ps : List Placement) (i : ℕ) (ends : List ℕ) (end : ℕ) → ends ≡ map (λ k. start_of ps (k + 1)) (range_with_len 0 i) → end ≡ start_of ps (i + 1)
    → ends ++ end ∷ [] ≡ map (λ k. start_of ps (k + 1)) (range_with_len 0 (i + 1))
ends_more ps i ends end so_far is = rw (so_far, is) (sym (map-range_with_len_more (λ k. start_of ps (k + 1)) 0 i i (omega arith)))

pub map_more : {X Y Z : Type 0} (f : X → Z) (g : Y → Z) (xs : List X) (ys : List Y) (i : ℕ) (x : X) (y : Y) → i < length ys → y ≡ slice_index_or ys i y
    → map f xs ≡ map g (take i ys) → f x ≡ g y → map f (xs ++ x ∷ []) ≡ map g (take (i + 1) ys)
map_more f g xs ys i x y less at so_far is =
    map-append f xs (x ∷ [])
    ∙ (λ k. so_far k ++ is k ∷ [])
    ∙ sym (ap (map g) (take_more ys i y less) ∙ map-append g (take i ys) (slice_index_or ys i y ∷ []) ∙ ap (λ z. map g (take i ys) ++ g z ∷ []) (sym at))

-- ---- within the limits
pub in_range : (n : ℕ) (ps : List Placement) → All (IsPlaceable n) ps → All IsInRange ps
in_range n ps all = All-weaker (IsPlaceable n) IsInRange (λ p placeable. placeable.range) ps all

pub few_placements : (volumes : List Volume) → IsWithinLimits volumes → (v : ℕ) (d : Volume) → v < length volumes → length (slice_index_or volumes v d).placements ≤ 4096
few_placements volumes limits v d below =
    let ps = (slice_index_or volumes v d).placements in
    omega (arith, placements-few ps (in_range (length volumes) ps (limits.placeable v d below)), limits.each v d below)
