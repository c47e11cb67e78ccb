-- The canonical text by the lines of its parts.
use Rattle.std.proofs.Common.{◌≡◌, ℕ, Bool, true, false, if◌then◌else◌, List, [], ◌∷◌, ◌++◌, map, flat_map, filter, refl, sym, ap, ◌∙◌, append_assoc}
use Rattle.std.specs.List.{concat, range_with_len}
use Rattle.gx_num.specs.declared.ray.Ray.{Ray}
use Rattle.gx_rotation.specs.Rotation.{matrix_of}
use Rattle.gx_tree.specs.Volume.{Volume}
use Rattle.gx_tree.specs.Hierarchy.{Hierarchy}
use Rattle.gx_decl.specs.declared.declaration.Declaration.{Declaration}
use Rattle.gx_decl.specs.declared.declaration.Declaration.TheVariants.{Turn, Trace}
use Rattle.gx_canon.specs.Text.{joined, text_of}
use Rattle.gx_canon.specs.Words.{words_of}
use Rattle.gx_canon.specs.Canonical.{rotation_name, is_used, turns, volume_declared, placed, placements, canonical}
use Rattle.gx_list.specs.Pieces.{line, line_of, lines_in, turn_lines}

-- the lines of declarations
abbrev text : List Declaration → List ℕ
text ds = text_of (map words_of ds)

text-cons : (d : Declaration) (ds : List Declaration) → text (d ∷ ds) ≡ line d ++ text ds
unfolding line_of
text-cons d ds = sym (append_assoc (joined (words_of d)) (10 ∷ []) (text ds))

text-append : (a b : List Declaration) → text (a ++ b) ≡ text a ++ text b
text-append [] b = refl
text-append (d ∷ a) b =
    text-cons d (a ++ b) ∙ ap (λ l. line d ++ l) (text-append a b) ∙ sym (append_assoc (line d) (text a) (text b))
    ∙ ap (λ l. l ++ text b) (sym (text-cons d a))

text-map : {X : Type 0} (f : X → Declaration) (xs : List X) → text (map f xs) ≡ concat (map (λ x. line (f x)) xs)
text-map f [] = refl
text-map f (x ∷ xs) = text-cons (f x) (map f xs) ∙ ap (λ l. line (f x) ++ l) (text-map f xs)

-- only those that pass are printed
text-filter : (f : ℕ → Declaration) (p : ℕ → Bool) (ks : List ℕ) → text (map f (filter p ks)) ≡ concat (map (λ k. if p k then line (f k) else []) ks)
text-filter f p [] = refl
text-filter f p (k ∷ ks) =
    elim (p k) as (λ b. text (map f (if b then k ∷ filter p ks else filter p ks)) ≡ (if b then line (f k) else []) ++ concat (map (λ k. if p k then line (f k) else []) ks)) [
      | true ↦ text-cons (f k) (map f (filter p ks)) ∙ ap (λ l. line (f k) ++ l) (text-filter f p ks)
      | false ↦ text-filter f p ks
    ]

text-turns : (volumes : List Volume) → text (turns volumes) ≡ concat (turn_lines volumes)
unfolding turn_lines
text-turns volumes = text-filter (λ k. Turn (rotation_name k) (matrix_of k)) (is_used volumes) (range_with_len 0 24)

text-placements : (all volumes : List Volume)
    → text (flat_map (λ mother. map (placed all mother) mother.placements) volumes) ≡ concat (map (λ mother. concat (lines_in all mother)) volumes)
text-placements all [] = refl
text-placements all (mother ∷ volumes) =
    text-append (map (placed all mother) mother.placements) (flat_map (λ mother. map (placed all mother) mother.placements) volumes)
    ∙ (λ i. text-map (placed all mother) mother.placements i ++ text-placements all volumes i)

pub canonical_is : (h : Hierarchy) (rays : List Ray) → canonical h rays
    ≡ ((concat (turn_lines h.volumes) ++ concat (map (λ volume. line (volume_declared volume)) h.volumes)) ++ concat (map (λ mother. concat (lines_in h.volumes mother)) h.volumes))
    ++ concat (map (λ ray. line (Trace ray)) rays)
canonical_is h rays = rw (text-append, text-append, text-append, text-turns, text-map volume_declared, text-placements h.volumes h.volumes, text-map Trace)
