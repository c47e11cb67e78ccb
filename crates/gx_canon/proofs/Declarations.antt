-- Each declaration of a canonical text is read back.
use Rattle.std.proofs.Common.{◌≡◌, ℕ, ◌+◌, ◌*◌, ◌<◌, ◌≤◌, false, List, [], ◌∷◌, ◌++◌, map, flat_map, length, ◌==◌, get_or, All, Option, Some, None, Ok, ap, arith, codes, length-append}
use Rattle.std.specs.Prelude.{filter}
use Rattle.std.specs.Fmt.{decimal}
use Rattle.std.specs.List.{range_with_len}
use Rattle.std.proofs.lemmas.Bool.{ne_eqb}
use Rattle.std.proofs.lemmas.List.Elements.{All-nil, All-head, All-tail, All-append, All-map, All-filter, All-weaker}
use Rattle.std.proofs.lemmas.List.FromFn.{length-range_with_len, get_or-range_with_len}
use Rattle.gx_num.specs.declared.vector.V3.{V3}
use Rattle.gx_algebra.proofs.Lists.{All-append_parts}
use Rattle.gx_rotation.specs.Matrix.{Matrix}
use Rattle.gx_rotation.specs.Rotation.{number_of, matrix_of}
use Rattle.gx_shapes.specs.declared.figure.Figure.{Figure}
use Rattle.gx_shapes.specs.declared.figure.Figure.TheVariants as figure
use Rattle.gx_shapes.specs.Solid.{kind_of}
use Rattle.gx_shapes.specs.Accepted.{IsSolid}
use Rattle.gx_shapes.proofs.Given.{given}
use Rattle.gx_tree.specs.declared.placement.Placement.{Placement}
use Rattle.gx_tree.specs.declared.placement.Placement.TheVariants as placement
use Rattle.gx_tree.specs.Volume.{Volume, daughter_of}
use Rattle.gx_tree.specs.Hierarchy.{volume_at}
use Rattle.gx_tree.specs.Limits.{IsPlaceable}
use Rattle.gx_decl.specs.declared.declaration.Declaration.{Declaration}
use Rattle.gx_decl.specs.declared.declaration.Declaration.TheVariants as declaration
use Rattle.gx_decl.specs.Decl.{line, answer_of, declared_of}
use Rattle.gx_decl.specs.Range.{IsTraceable}
use Rattle.gx_canon.specs.Text.{IsWord, IsLine}
use Rattle.gx_canon.specs.Words.{corner_words, section_words, points_words, facet_words, kind_word, value_words, words_of}
use Rattle.gx_canon.specs.Canonical.{millimetre, rotation_name, is_used, turns, volume_declared, placed, placements, declarations_of}
use Rattle.gx_canon.specs.Printable.{IsNameWord, HasLowestScales, IsPrintablePlacement, IsPrintableVolume}
use Rattle.gx_canon.specs.Laws.{IsReadBack, DeclarationsBack, TextBack}
use Rattle.gx_canon.proofs.Back.{Last}
use Rattle.gx_canon.proofs.Figures.{figure_back, facets_back}
use Rattle.gx_canon.proofs.FewFacets.{few_facets}
use Rattle.gx_canon.proofs.Lines.{lines_back}
use Rattle.gx_canon.proofs.PrintedWords.{IsShortWord, size, joined_size, size-append, size-short}
use Rattle.gx_canon.proofs.Rotations.{number_of-below}
use Rattle.gx_canon.proofs.Tags.{ray_line, volume_line, replica_line, single_line, linear_line, square_line, turn_line, rotation_named}

-- ---- a line that is read back

has_words : (words : List (List ℕ)) (d : Declaration) → declared_of [] millimetre words ≡ Ok d → (length words == 0) ≡ false
has_words [] d e = absurd cc
has_words (w ∷ ws) d e = ne_eqb (length (w ∷ ws)) 0 (λ none. absurd (omega (arith, none)))

read_back : (d : Declaration) → Last 255 line (words_of d) d → size (words_of d) ≤ 65536 → IsReadBack d
read_back d h few = record {
  line = record { some = has_words (words_of d) d (ap answer_of (h.reads [] 0).1); visible = All-weaker (IsShortWord 255) IsWord (λ w is. is.word) (words_of d) h.short; short = omega (arith, few, joined_size (words_of d)) };
  declared = λ params. ap answer_of (h.reads params 0).1;
}

-- at most 255 words of 255 bytes
few_words : (d : Declaration) → Last 255 line (words_of d) d → length (words_of d) ≤ 255 → IsReadBack d
few_words d h few = read_back d h (omega (arith, few, size-short 255 (words_of d) h.short))

-- ---- rotations

below-range : (n : ℕ) → All (λ k. k < n) (range_with_len 0 n)
below-range n k d less = let below : k < n = omega (arith, length-range_with_len 0 n) in omega (arith, get_or-range_with_len 0 n k d below)

turns_back : (volumes : List Volume) → All IsReadBack (turns volumes)
turns_back volumes =
    All-map IsReadBack (λ k. declaration.Turn (rotation_name k) (matrix_of k)) (filter (is_used volumes) (range_with_len 0 24))
    (All-weaker (λ k. k < 24) (λ k. IsReadBack (declaration.Turn (rotation_name k) (matrix_of k))) (λ k h. few_words _ (turn_line k h) (omega arith)) (filter (is_used volumes) (range_with_len 0 24)) (All-filter (is_used volumes) (λ k. k < 24) (range_with_len 0 24) (below-range 24)))

-- ---- volumes

length-flat_map-le : {X : Type 0} (f : X → List (List ℕ)) (k : ℕ) → ((x : X) → length (f x) ≤ k) → (xs : List X) → length (flat_map f xs) ≤ k * length xs
length-flat_map-le f k each [] = omega arith
length-flat_map-le f k each (x ∷ xs) =
    let more : k * length (x ∷ xs) ≡ k + k * length xs = omega arith in
    omega (arith, each x, length-flat_map-le f k each xs, length-append (f x) (flat_map f xs), more)

points_few : (a b c : V3) (d : Option V3) → length (points_words a b c d) ≤ 13
points_few a b c None = omega arith
points_few a b c (Some d) = omega arith

values_short : (f : Figure) → IsSolid f → HasLowestScales f → size (value_words f) ≤ 256 * length (value_words f)
values_short f is low = size-short 255 (value_words f) (figure_back f is low).short

values_size : (f : Figure) → IsSolid f → HasLowestScales f → size (value_words f) ≤ 60000
values_size (figure.Cuboid hx hy hz) is low = omega (arith, values_short (figure.Cuboid hx hy hz) is low)
values_size (figure.Trd x1 x2 y1 y2 z) is low = omega (arith, values_short (figure.Trd x1 x2 y1 y2 z) is low)
values_size (figure.Tet a b c d) is low = omega (arith, values_short (figure.Tet a b c d) is low)
values_size (figure.Extruded corners s t) is low =
    let few = (given (figure.Extruded corners s t) is.values).few in
    let words = length-append (flat_map corner_words corners) (decimal 2 ∷ section_words s ++ section_words t) in
    omega (arith, few, words, length-flat_map-le corner_words 2 (λ c. omega arith) corners, values_short (figure.Extruded corners s t) is low)
values_size (figure.Tessellated facets) is low =
    omega (arith, few_facets facets is, length-flat_map-le facet_words 13 (λ f. points_few f.a f.b f.c f.d) facets, size-short 11 (value_words (figure.Tessellated facets)) (facets_back facets is).short)

volume_back : (v : Volume) → IsSolid v.solid → IsPrintableVolume v → IsReadBack (volume_declared v)
volume_back v solid is =
    let whole = volume_line v.name v.material v.solid is.named is.made_of solid is.scales in
    let values = value_words v.solid in
    let front = codes ":VOLU" ∷ v.name ∷ kind_word (kind_of v.solid) ∷ [] in
    let parts = All-append_parts (IsShortWord 255) front (values ++ v.material ∷ []) whole.short in
    let last = All-append_parts (IsShortWord 255) values (v.material ∷ []) parts.1 in
    read_back (volume_declared v) whole
    (omega (arith, size-short 255 front parts.0, size-short 255 (v.material ∷ []) last.1, values_size v.solid solid is.scales, size-append values (v.material ∷ [])))

volumes_back : (volumes : List Volume) → All (λ v. IsSolid v.solid) volumes → All IsPrintableVolume volumes → All IsReadBack (map volume_declared volumes)
volumes_back volumes solids are =
    All-map IsReadBack volume_declared volumes (λ k d less. volume_back (get_or volumes k d) (solids k d less) (are k d less))

-- ---- placements

named : (m : Matrix) → IsNameWord (rotation_name (number_of m))
named m = rotation_named (number_of m) (number_of-below m)

placed_back : (volumes : List Volume) (mother : Volume) (p : Placement) → IsNameWord (volume_at volumes (daughter_of p)).name → IsNameWord mother.name → IsPrintablePlacement p → IsReadBack (placed volumes mother p)
placed_back volumes mother (placement.Single volume copy rotation offset) hv hm is =
    few_words _ (single_line (volume_at volumes volume).name mother.name hv hm (rotation_name (number_of rotation)) (named rotation) copy offset is.copy is.formed) (omega arith)
placed_back volumes mother (placement.Replica volume axis count width) hv hm is =
    few_words _ (replica_line (volume_at volumes volume).name mother.name hv hm axis count width is.formed) (omega arith)
placed_back volumes mother (placement.Linear volume axis rotation count step offset) hv hm is =
    few_words _ (linear_line (volume_at volumes volume).name mother.name hv hm (rotation_name (number_of rotation)) (named rotation) axis count step offset is.formed) (omega arith)
placed_back volumes mother (placement.Square volume plane rotation n1 n2 s1 s2 o1 o2) hv hm is =
    few_words _ (square_line (volume_at volumes volume).name mother.name hv hm (rotation_name (number_of rotation)) (named rotation) plane n1 n2 s1 s2 o1 o2 is.formed) (omega arith)

All-flat_map : {X Y : Type 0} (P : Y → Type 0) (f : X → List Y) (xs : List X) → All (λ x. All P (f x)) xs → All P (flat_map f xs)
All-flat_map P f [] h = All-nil P
All-flat_map P f (x ∷ xs) h = All-append P (f x) (flat_map f xs) (All-head (λ x. All P (f x)) x xs h) (All-flat_map P f xs (All-tail (λ x. All P (f x)) x xs h))

placements_back : (volumes : List Volume) → All (λ v. All (IsPlaceable (length volumes)) v.placements) volumes → All IsPrintableVolume volumes → All IsReadBack (placements volumes)
placements_back volumes placeable are =
    All-flat_map IsReadBack (λ mother. map (placed volumes mother) mother.placements) volumes (λ k d less.
    let mother = get_or volumes k d in
    All-map IsReadBack (placed volumes mother) mother.placements (λ j e fewer.
    let p = get_or mother.placements j e in
    let volume = (placeable k d less j e fewer).volume in
    placed_back volumes mother p (are (daughter_of p) _ volume).named (are k d less).named ((are k d less).placed j e fewer)))

-- ---- all of them

pub declarations_back : DeclarationsBack
declarations_back h rays tree are traceable =
    let volumes = h.volumes in
    let first = turns volumes in
    let second = map volume_declared volumes in
    let third = placements volumes in
    All-append IsReadBack (first ++ second ++ third) (map declaration.Trace rays)
    (All-append IsReadBack (first ++ second) third
    (All-append IsReadBack first second (turns_back volumes) (volumes_back volumes tree.solids are)) (placements_back volumes tree.limits.placeable are))
    (All-map IsReadBack declaration.Trace rays (All-weaker IsTraceable (λ r. IsReadBack (declaration.Trace r)) (λ r is. few_words _ (ray_line r is) (omega arith)) rays traceable))

pub text_back : TextBack
text_back number h rays tree are traceable =
    let declared = declarations_of h rays in
    lines_back number (map words_of declared) (All-map IsLine words_of declared (All-weaker IsReadBack (λ d. IsLine (words_of d)) (λ d is. is.line) declared (declarations_back h rays tree are traceable)))
