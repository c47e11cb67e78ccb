-- The text is its first two lines and the others.
use Rattle.std.proofs.Common.{◌≡◌, ℕ, [], ◌∷◌, ◌++◌, append_assoc}
use Rattle.std.specs.Prelude.{codes, decimal, flat_map}
use Rattle.gx_sample.specs.Text.{fixed_lines, sample_text}

pub joined : (n : ℕ) → (codes "// sample " ++ decimal n ++ 10 ∷ []) ++ (codes ":P n " ++ decimal n ++ 10 ∷ []) ++ flat_map (λ line. line ++ 10 ∷ []) fixed_lines ≡ sample_text n
unfolding sample_text
joined n = append_assoc (codes "// sample " ++ decimal n ++ 10 ∷ []) (codes ":P n " ++ decimal n ++ 10 ∷ []) (flat_map (λ line. line ++ 10 ∷ []) fixed_lines)
