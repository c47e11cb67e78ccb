-- Lists of placements, one for each mother.
use Rattle.std.proofs.Common.{◌≡◌, ℕ, zero, suc, ◌+◌, ◌<◌, ◌≤◌, Vec, Global, sym, ◌∙◌, ap, subst, refl, arith, List, [], ◌∷◌, ◌++◌, length, map, set, get_or}
use Rattle.std.specs.List.{range_with_len, zip}
use Rattle.std.proofs.lemmas.List.{length-map}
use Rattle.std.proofs.lemmas.List.FromFn.{length-range_with_len, get_or-map-range_with_len}
use Rattle.gx_tree.specs.declared.placement.Placement.{Placement}
use Rattle.gx_link.specs.declared.link.LinkedVolume.{LinkedVolume}
use Rattle.gx_link.specs.declared.link.LinkedPlacement.{LinkedPlacement}
use Rattle.gx_link.specs.Crowd.{placements_in}
use Rattle.gx_link.specs.Build.{lists_of, with_list}
use Rattle.gx_link.specs.Text.{volumes_from}
use Rattle.gx_link.proofs.Daughters.{placements_in-here, placements_in-other}

-- ---- lists by numbers
numbered_same : {X : Type 0} (f g : ℕ → X) (a n : ℕ) → ((k : ℕ) → a ≤ k → f k ≡ g k) → map f (range_with_len a n) ≡ map g (range_with_len a n)
numbered_same f g a zero same = refl
numbered_same f g a (suc n) same = λ i. same a (omega arith) i ∷ numbered_same f g (a + 1) n (λ k less. same k (omega arith)) i

-- where one of them is another
set-numbered : {X : Type 0} (f g : ℕ → X) (a n m : ℕ) → m < n → ((k : ℕ) → (k ≡ a + m → ⊥) → f k ≡ g k) → set (map f (range_with_len a n)) m (g (a + m)) ≡ map g (range_with_len a n)
set-numbered f g a zero m less same = absurd (omega arith)
set-numbered f g a (suc n) zero less same =
    let at : a + 0 ≡ a = omega arith in
    λ i. g (at i) ∷ numbered_same f g (a + 1) n (λ k above. same k (λ e. omega arith)) i
set-numbered f g a (suc n) (suc m) less same =
    let at : (a + 1) + m ≡ a + suc m = omega arith in
    let rest : set (map f (range_with_len (a + 1) n)) m (g (a + suc m)) ≡ map g (range_with_len (a + 1) n) = subst (λ (k : ℕ). set (map f (range_with_len (a + 1) n)) m (g k) ≡ map g (range_with_len (a + 1) n)) at (set-numbered f g (a + 1) n m (omega arith) (λ k other. same k (λ e. other (omega arith)))) in
    λ i. same a (λ e. omega arith) i ∷ rest i

-- one placement more
pub lists_of-push : (ps : List LinkedPlacement) (p : LinkedPlacement) (n : ℕ) → p.mother < n
    → set (lists_of ps n) p.mother (get_or (lists_of ps n) p.mother [] ++ p.placement ∷ []) ≡ lists_of (ps ++ p ∷ []) n
lists_of-push ps p n less =
    let before : ℕ → List Placement = λ m. placements_in m ps in
    let after : ℕ → List Placement = λ m. placements_in m (ps ++ p ∷ []) in
    let at : 0 + p.mother ≡ p.mother = omega arith in
    let new : get_or (lists_of ps n) p.mother [] ++ p.placement ∷ [] ≡ after (0 + p.mother) =
    ap (λ (ls : List Placement). ls ++ p.placement ∷ []) (get_or-map-range_with_len before 0 n p.mother p.mother [] less at) ∙ sym (placements_in-here ps p) ∙ ap after (sym at) in
    ap (set (lists_of ps n) p.mother) new ∙ set-numbered before after 0 n p.mother less (λ k other. sym (placements_in-other k ps p (λ e. other (omega arith))))

-- ---- the vectors that hold them
abbrev pub items_of : Vec Placement Global → List Placement
items_of list = list.items

pub length-lists : (lists : List (Vec Placement Global)) (ps : List LinkedPlacement) (n : ℕ) → map items_of lists ≡ lists_of ps n → length lists ≡ n
length-lists lists ps n same = omega (arith, length-map lists items_of, ap length same, length-map (range_with_len 0 n) (λ m. placements_in m ps), length-range_with_len 0 n)

-- ---- volumes with their lists
pub volumes-zip : (ps : List LinkedPlacement) (v : ℕ) (volumes : List LinkedVolume) (lists : List (Vec Placement Global))
    → map items_of lists ≡ map (λ m. placements_in m ps) (range_with_len v (length volumes))
    → map with_list (zip volumes lists) ≡ volumes_from ps v volumes
volumes-zip ps v [] lists same = refl
volumes-zip ps v (volume ∷ volumes) [] same = cc
volumes-zip ps v (volume ∷ volumes) (list ∷ lists) same =
    let first : list.items ≡ placements_in v ps = cc in
    let rest : map items_of lists ≡ map (λ m. placements_in m ps) (range_with_len (v + 1) (length volumes)) = cc in
    λ i. record { name = volume.name; solid = volume.solid; material = volume.material; placements = first i } ∷ volumes-zip ps (v + 1) volumes lists rest i
