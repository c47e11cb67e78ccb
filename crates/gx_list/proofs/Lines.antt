-- Lines by the parts that are written.
use Rattle.std.proofs.Common.{◌≡◌, ℕ, unsigned_abs, nat_eq, false, List, [], ◌∷◌, ◌++◌, map, flat_map, refl, sym, ap, ◌∙◌, append_assoc, append-nil}
use Rattle.std.specs.List.{concat}
use Rattle.std.proofs.lemmas.List.Concat.{flat_map-append}
use Rattle.std.specs.Fmt.{decimal, signed_decimal}
use Rattle.gx_shapes.specs.declared.section.Scale.{Scale}
use Rattle.gx_canon.specs.Text.{joined}
use Rattle.gx_canon.specs.Words.{scale_word}
use Rattle.gx_list.specs.Pieces.{spaced, line_of}

spaced-append : (a b : List (List ℕ)) → spaced (a ++ b) ≡ spaced a ++ spaced b
unfolding spaced
spaced-append a b = flat_map-append (λ word. 32 ∷ word) a b

pub spaced_each : {X : Type 0} (f : X → List (List ℕ)) (xs : List X) → spaced (flat_map f xs) ≡ concat (map (λ x. spaced (f x)) xs)
unfolding spaced
spaced_each f [] = refl
spaced_each f (x ∷ xs) = spaced-append (f x) (flat_map f xs) ∙ ap (λ l. spaced (f x) ++ l) (spaced_each f xs)

pub spaced_first : (word : List ℕ) (words : List (List ℕ)) → spaced (word ∷ words) ≡ spaced (word ∷ []) ++ spaced words
spaced_first word words = spaced-append (word ∷ []) words

pub spaced_three : (a b c : List ℕ) → spaced (a ∷ b ∷ c ∷ []) ≡ (spaced (a ∷ []) ++ spaced (b ∷ [])) ++ spaced (c ∷ [])
spaced_three a b c = spaced-append (a ∷ b ∷ []) (c ∷ []) ∙ ap (λ l. l ++ spaced (c ∷ [])) (spaced-append (a ∷ []) (b ∷ []))

pub spaced_parts : (word : List ℕ) (a b : List (List ℕ)) → spaced (word ∷ (a ++ b)) ≡ (spaced (word ∷ []) ++ spaced a) ++ spaced b
spaced_parts word a b = spaced-append (word ∷ a) b ∙ ap (λ l. l ++ spaced b) (spaced_first word a)

spaced-two : (a b : List ℕ) (words : List (List ℕ)) → spaced (a ∷ b ∷ words) ≡ spaced (a ∷ b ∷ []) ++ spaced words
spaced-two a b words = spaced-append (a ∷ b ∷ []) words

joined-first : (word : List ℕ) (words : List (List ℕ)) → joined (word ∷ words) ≡ word ++ spaced words
unfolding spaced
joined-first word [] = sym (append-nil word)
joined-first word (next ∷ words) = ap (λ l. word ++ 32 ∷ l) (joined-first next words)

pub line_is : (tag : List ℕ) (words : List (List ℕ)) → line_of (tag ∷ words) ≡ tag ++ (spaced words ++ 10 ∷ [])
unfolding line_of
line_is tag words = ap (λ l. l ++ 10 ∷ []) (joined-first tag words) ∙ append_assoc tag (spaced words) (10 ∷ [])

pub volume_line : (tag name kind : List ℕ) (values : List (List ℕ)) (material : List ℕ)
    → line_of (tag ∷ name ∷ kind ∷ (values ++ material ∷ [])) ≡ ((tag ++ spaced (name ∷ kind ∷ [])) ++ spaced values) ++ (spaced (material ∷ []) ++ 10 ∷ [])
volume_line tag name kind values material = rw (line_is, spaced-two, spaced-append) (simp append_assoc)

-- a scale whose denominator is printed
pub ratio_is : (head : List ℕ) (s : Scale) → nat_eq (unsigned_abs s.den) 1 ≡ false → head ++ scale_word s ≡ (head ++ signed_decimal s.num) ++ 47 ∷ decimal (unsigned_abs s.den)
ratio_is head s e = rw e (sym (append_assoc head (signed_decimal s.num) (47 ∷ decimal (unsigned_abs s.den))))
