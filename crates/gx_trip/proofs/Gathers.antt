-- The lines of a canonical text, gathered: its rotations by their names, the lines of volumes and placements, and the rays.
use Rattle.std.proofs.Common.{◌≡◌, ℕ, zero, suc, ◌+◌, ◌<◌, ◌≤◌, inl, inr, refl, sym, ◌∙◌, ap, subst, arith, Bool, false, List, [], ◌∷◌, ◌++◌, length, length-append, append_assoc, append-nil, map, flat_map, All, Option, None, Result, Ok, Err}
use Rattle.std.specs.Prelude.{filter, sum_by}
use Rattle.std.specs.List.{range_with_len}
use Rattle.std.specs.Option.{option_map}
use Rattle.std.specs.Str.{bytes_eq}
use Rattle.std.proofs.lemmas.Bool.{cases_Bool, false_from_ne_true, lt-leb}
use Rattle.std.proofs.lemmas.List.{map-append, get_or_at}
use Rattle.std.proofs.lemmas.List.Elements.{All-nil, All-head, All-tail, All-push, All-map, All-weaker, filter-append, filter_map-append}
use Rattle.std.proofs.lemmas.List.Sums.{sum_by-cons}
use Rattle.std.proofs.lemmas.Slice.Eq.{bytes_eq-Decides}
use Rattle.gx_num.specs.declared.ray.Ray.{Ray}
use Rattle.gx_fraction.specs.Fraction.{Fraction}
use Rattle.gx_form.specs.First.{◌>>=◌}
use Rattle.gx_text.specs.TextLine.{TextLine}
use Rattle.gx_text.specs.declared.lines.LineFault.{LineFault}
use Rattle.gx_text.specs.Lines.{ended}
use Rattle.gx_names.specs.Names.{number_of}
use Rattle.gx_rotation.specs.Matrix.{Matrix}
use Rattle.gx_rotation.specs.Rotation.{matrix_of}
use Rattle.gx_tree.specs.declared.placement.Placement.{Placement}
use Rattle.gx_tree.specs.Volume.{Volume, daughter_of}
use Rattle.gx_tree.specs.Hierarchy.{volume_at}
use Rattle.gx_decl.specs.declared.declaration.Declaration.{Declaration}
use Rattle.gx_decl.specs.declared.declaration.Declaration.TheVariants as line
use Rattle.gx_gather.specs.declared.fault.TextFault.{TextFault}
use Rattle.gx_gather.specs.declared.item.Item.{Item}
use Rattle.gx_gather.specs.declared.item.Item.TheVariants as item
use Rattle.gx_gather.specs.declared.item.Shape.TheVariants.{Own}
use Rattle.gx_gather.specs.declared.gathered.TheConstants.{MAX_TURNS, MAX_VOLUMES, MAX_PLACEMENTS}
use Rattle.gx_gather.specs.declared.rays.TheConstants.{MAX_RAYS}
use Rattle.gx_gather.specs.Faults.{on_line}
use Rattle.gx_gather.specs.Items.{name_of, is_placement, volume_names, placement_count}
use Rattle.gx_gather.specs.Table.{Table, empty, name_fault}
use Rattle.gx_gather.specs.Declarations.{Declarations, with_declaration}
use Rattle.gx_link.specs.declared.link.LinkedPlacement.{LinkedPlacement}
use Rattle.gx_canon.specs.Text.{read_from, lines_from}
use Rattle.gx_canon.specs.Words.{words_of}
use Rattle.gx_canon.specs.Canonical.{rotation_name, rotation_number, form_of, is_used, volume_declared, placed, millimetre}
use Rattle.gx_canon.specs.Laws.{IsReadBack, RotationsBack}
use Rattle.gx_reader.specs.Reading.{with_line, read_lines}
use Rattle.gx_trip.proofs.Names.{AreNew, absent}
use Rattle.gx_trip.proofs.ReadInput.{volume_names_of}

-- ---- lines as declarations

same_then : {A B E : Type 0} (r : Result A E) (f g : A → Result B E) → ((a : A) → f a ≡ g a) → (r >>= f) ≡ (r >>= g)
same_then (Ok a) f g same = same a
same_then (Err fault) f g same = refl

-- what lines declare, as they are read
abbrev all_lines : Fraction → Declarations → List (Result (Option TextLine) LineFault) → Result Declarations TextFault
all_lines grid d [] = Ok d
all_lines grid d (r ∷ rs) = with_line grid d r >>= (λ next. all_lines grid next rs)

lines-read : (grid : Fraction) (d : Declarations) (number : ℕ) (lines : List (List ℕ)) → read_lines grid d number lines ≡ all_lines grid d (read_from number lines)
lines-read grid d number [] = refl
lines-read grid d number (line ∷ lines) = same_then (with_line grid d (ended number line)) _ _ (λ next. lines-read grid next (number + 1) lines)

-- what declarations declare, each on a line
abbrev pub gathered : Declarations → ℕ → List Declaration → Result Declarations TextFault
gathered d number [] = Ok d
gathered d number (x ∷ xs) = on_line number (with_declaration d number x) >>= (λ next. gathered next (number + 1) xs)

lines-gathered : (d : Declarations) (number : ℕ) (xs : List Declaration) → All IsReadBack xs → all_lines millimetre d (lines_from number (map words_of xs)) ≡ gathered d number xs
lines-gathered d number [] back = refl
lines-gathered d number (x ∷ xs) back =
    rw ((All-head IsReadBack x xs back).declared d.params) (same_then (on_line number (with_declaration d number x)) _ _ (λ next. lines-gathered next (number + 1) xs (All-tail IsReadBack x xs back)))

pub text_gathered : (d : Declarations) (number : ℕ) (xs : List Declaration) (lines : List (List ℕ)) → All IsReadBack xs → read_from number lines ≡ lines_from number (map words_of xs)
    → read_lines millimetre d number lines ≡ gathered d number xs
text_gathered d number xs lines back same = lines-read millimetre d number lines ∙ ap (all_lines millimetre d) same ∙ lines-gathered d number xs back

-- ---- names

new_name : (most : ℕ) (names : List (List ℕ)) (name : List ℕ) → number_of names name ≡ None → length names < most → name_fault most names name ≡ None
new_name most names name none few = rw (none, lt-leb most (length names) few) refl

module _ (back : RotationsBack) where
  apart : (j a : ℕ) → j < a → a < 24 → bytes_eq (rotation_name a) (rotation_name j) ≡ false
  apart j a less below = false_from_ne_true (bytes_eq (rotation_name a) (rotation_name j)) (λ e.
      let same = back.apart a j below (omega arith) ((bytes_eq-Decides (rotation_name a) (rotation_name j)).0 e) in
      omega arith)

  new_from : (test : ℕ → Bool) (before : List ℕ) (a n : ℕ) → a + n ≤ 24 → All (λ j. j < a) before → AreNew (map rotation_name before) (map rotation_name (filter test (range_with_len a n)))
  new_from test before a zero few all = tt
  new_from test before a (suc n) few all =
      let more : All (λ j. j < a + 1) before = All-weaker (λ j. j < a) (λ j. j < a + 1) (λ j h. omega arith) before all in
      elim (cases_Bool (test a)) [
        | inl passes ↦ rw passes (
          absent (map rotation_name before) (rotation_name a) (All-map (λ n. bytes_eq (rotation_name a) n ≡ false) rotation_name before (All-weaker (λ j. j < a) (λ j. bytes_eq (rotation_name a) (rotation_name j) ≡ false) (λ j h. apart j a h (omega arith)) before all)),
          subst (λ (ns : List (List ℕ)). AreNew ns (map rotation_name (filter test (range_with_len (a + 1) n)))) (map-append rotation_name before (a ∷ []))
              (new_from test (before ++ a ∷ []) (a + 1) n (omega arith) (All-push (λ j. j < a + 1) before a more (omega arith))),
        )
        | inr fails ↦ rw fails (new_from test before (a + 1) n (omega arith) more)
      ]

  pub turns_new : (volumes : List Volume) → AreNew [] (map rotation_name (filter (is_used volumes) (range_with_len 0 24)))
  turns_new volumes = new_from (is_used volumes) [] 0 24 (omega arith) (All-nil (λ j. j < 0))

-- ---- what is declared without parameters and solids

abbrev pub state : Table Matrix → List Item → List Ray → Declarations
state turns items rays = record { params = []; param_lines = 0; solids = empty; turns = turns; items = items; rays = rays }

abbrev pub turns_of : List (List ℕ) → List Matrix → Table Matrix
turns_of names values = record { names = names; values = values }

turn_step : (names : List (List ℕ)) (values : List Matrix) (items : List Item) (rays : List Ray) (number : ℕ) (name : List ℕ) (m : Matrix) (xs : List Declaration) → number_of names name ≡ None → length names < MAX_TURNS
    → gathered (state (turns_of names values) items rays) number (line.Turn name m ∷ xs) ≡ gathered (state (turns_of (names ++ name ∷ []) (values ++ m ∷ [])) items rays) (number + 1) xs
turn_step names values items rays number name m xs none few = rw (new_name MAX_TURNS names name none few) refl

pub turns_gathered : (items : List Item) (rays : List Ray) (rest : List Declaration) (ks : List ℕ) (names : List (List ℕ)) (values : List Matrix) (number : ℕ)
    → AreNew names (map rotation_name ks) → length names + length ks ≤ MAX_TURNS
    → gathered (state (turns_of names values) items rays) number (map (λ k. line.Turn (rotation_name k) (matrix_of k)) ks ++ rest)
    ≡ gathered (state (turns_of (names ++ map rotation_name ks) (values ++ map matrix_of ks)) items rays) (number + length ks) rest
turns_gathered items rays rest [] names values number new few =
    λ i. gathered (state (turns_of (sym (append-nil names) i) (sym (append-nil values) i)) items rays) ((let none : number ≡ number + 0 = omega arith in none) i) rest
turns_gathered items rays rest (k ∷ ks) names values number new few =
    let name = rotation_name k in
    let m = matrix_of k in
    let at : (number + 1) + length ks ≡ number + length (k ∷ ks) = omega arith in
    turn_step names values items rays number name m (map (λ k. line.Turn (rotation_name k) (matrix_of k)) ks ++ rest) new.0 (omega arith)
    ∙ turns_gathered items rays rest ks (names ++ name ∷ []) (values ++ m ∷ []) (number + 1) new.1 (omega (arith, length-append names (name ∷ [])))
    ∙ (λ i. gathered (state (turns_of (append_assoc names (name ∷ []) (map rotation_name ks) i) (append_assoc values (m ∷ []) (map matrix_of ks) i)) items rays) (at i) rest)

-- ---- volumes

abbrev pub volume_items : ℕ → List Volume → List Item
volume_items number [] = []
volume_items number (v ∷ vs) = item.Volume number v.name (Own v.solid) v.material ∷ volume_items (number + 1) vs

volume_step : (turns : Table Matrix) (items : List Item) (rays : List Ray) (number : ℕ) (v : Volume) (xs : List Declaration) → number_of (volume_names items) v.name ≡ None → length (volume_names items) < MAX_VOLUMES
    → gathered (state turns items rays) number (volume_declared v ∷ xs) ≡ gathered (state turns (items ++ item.Volume number v.name (Own v.solid) v.material ∷ []) rays) (number + 1) xs
volume_step turns items rays number v xs none few = rw (new_name MAX_VOLUMES (volume_names items) v.name none few) refl

pub volumes_gathered : (turns : Table Matrix) (rays : List Ray) (rest : List Declaration) (vs : List Volume) (items : List Item) (number : ℕ)
    → AreNew (volume_names items) (volume_names_of vs) → length (volume_names items) + length vs ≤ MAX_VOLUMES
    → gathered (state turns items rays) number (map volume_declared vs ++ rest) ≡ gathered (state turns (items ++ volume_items number vs) rays) (number + length vs) rest
volumes_gathered turns rays rest [] items number new few =
    λ i. gathered (state turns (sym (append-nil items) i) rays) ((let none : number ≡ number + 0 = omega arith in none) i) rest
volumes_gathered turns rays rest (v ∷ vs) items number new few =
    let one = item.Volume number v.name (Own v.solid) v.material in
    let names : volume_names (items ++ one ∷ []) ≡ volume_names items ++ v.name ∷ [] = filter_map-append name_of items (one ∷ []) in
    let at : (number + 1) + length vs ≡ number + length (v ∷ vs) = omega arith in
    volume_step turns items rays number v (map volume_declared vs ++ rest) new.0 (omega arith)
    ∙ volumes_gathered turns rays rest vs (items ++ one ∷ []) (number + 1) (subst (λ (ns : List (List ℕ)). AreNew ns (volume_names_of vs)) (sym names) new.1) (omega (arith, ap length names, length-append (volume_names items) (v.name ∷ [])))
    ∙ (λ i. gathered (state turns (append_assoc items (one ∷ []) (volume_items (number + 1) vs) i) rays) (at i) rest)

-- ---- placements

-- placements in one mother, with their lines
abbrev pub lines_in : ℕ → ℕ → List Placement → List LinkedPlacement
lines_in number mother [] = []
lines_in number mother (p ∷ ps) = record { line = number; mother = mother; placement = p } ∷ lines_in (number + 1) mother ps

-- in mothers that are numbered on
abbrev pub lines_of : ℕ → ℕ → List Volume → List LinkedPlacement
lines_of number mother [] = []
lines_of number mother (v ∷ vs) = lines_in number mother v.placements ++ lines_of (number + length v.placements) (mother + 1) vs

-- a placement's line, with names
abbrev pub item_of : List Volume → LinkedPlacement → Item
item_of volumes p = item.Place p.line (volume_at volumes (daughter_of p.placement)).name (volume_at volumes p.mother).name (option_map rotation_name (rotation_number p.placement)) (form_of p.placement)

length-lines_in : (number mother : ℕ) (ps : List Placement) → length (lines_in number mother ps) ≡ length ps
length-lines_in number mother [] = refl
length-lines_in number mother (p ∷ ps) = ap (λ n. suc n) (length-lines_in (number + 1) mother ps)

placement_count-append : (items more : List Item) → placement_count (items ++ more) ≡ placement_count items + placement_count more
placement_count-append items more = ap length (filter-append is_placement items more) ∙ length-append (filter is_placement items) (filter is_placement more)

placement_count-items : (volumes : List Volume) (ps : List LinkedPlacement) → placement_count (map (item_of volumes) ps) ≡ length ps
placement_count-items volumes [] = refl
placement_count-items volumes (p ∷ ps) = ap (λ n. suc n) (placement_count-items volumes ps)

module _ (turns : Table Matrix) (rays : List Ray) (volumes : List Volume) where
  place_step : (items : List Item) (number m : ℕ) (p : Placement) (xs : List Declaration) → placement_count items < MAX_PLACEMENTS
      → gathered (state turns items rays) number (placed volumes (volume_at volumes m) p ∷ xs) ≡ gathered (state turns (items ++ item_of volumes (record { line = number; mother = m; placement = p }) ∷ []) rays) (number + 1) xs
  place_step items number m p xs few = rw (lt-leb MAX_PLACEMENTS (placement_count items) few) refl

  mother_gathered : (m : ℕ) (rest : List Declaration) (ps : List Placement) (items : List Item) (number : ℕ) → placement_count items + length ps ≤ MAX_PLACEMENTS
      → gathered (state turns items rays) number (map (placed volumes (volume_at volumes m)) ps ++ rest)
      ≡ gathered (state turns (items ++ map (item_of volumes) (lines_in number m ps)) rays) (number + length ps) rest
  mother_gathered m rest [] items number few =
      λ i. gathered (state turns (sym (append-nil items) i) rays) ((let none : number ≡ number + 0 = omega arith in none) i) rest
  mother_gathered m rest (p ∷ ps) items number few =
      let one : LinkedPlacement = record { line = number; mother = m; placement = p } in
      let at : (number + 1) + length ps ≡ number + length (p ∷ ps) = omega arith in
      place_step items number m p (map (placed volumes (volume_at volumes m)) ps ++ rest) (omega arith)
      ∙ mother_gathered m rest ps (items ++ item_of volumes one ∷ []) (number + 1) (omega (arith, placement_count-append items (item_of volumes one ∷ [])))
      ∙ (λ i. gathered (state turns (append_assoc items (item_of volumes one ∷ []) (map (item_of volumes) (lines_in (number + 1) m ps)) i) rays) (at i) rest)

  -- the number after the lines of these mothers
  abbrev pub after : ℕ → List Volume → ℕ
  after number [] = number
  after number (v ∷ vs) = after (number + length v.placements) vs

  pub placements_gathered : (rest : List Declaration) (vs front : List Volume) (items : List Item) (number m : ℕ) → volumes ≡ front ++ vs → length front ≡ m
      → placement_count items + sum_by (λ (v : Volume). length v.placements) vs ≤ MAX_PLACEMENTS
      → gathered (state turns items rays) number (flat_map (λ mother. map (placed volumes mother) mother.placements) vs ++ rest)
      ≡ gathered (state turns (items ++ map (item_of volumes) (lines_of number m vs)) rays) (after number vs) rest
  placements_gathered rest [] front items number m same long few = λ i. gathered (state turns (sym (append-nil items) i) rays) number rest
  placements_gathered rest (v ∷ vs) front items number m same long few =
      let f : LinkedPlacement → Item = item_of volumes in
      let of_mother : Volume → List Declaration = λ mother. map (placed volumes mother) mother.placements in
      let ps = v.placements in
      let here = lines_in number m ps in
      let later = lines_of (number + length ps) (m + 1) vs in
      let at : v ≡ volume_at volumes m = sym (ap (λ (all : List Volume). volume_at all m) same ∙ get_or_at front v vs _ m long) in
      let counts = sum_by-cons (λ (u : Volume). length u.placements) v vs in
      ap (gathered (state turns items rays) number) (append_assoc (of_mother v) (flat_map of_mother vs) rest)
      ∙ (λ i. gathered (state turns items rays) number (map (placed volumes (at i)) ps ++ (flat_map of_mother vs ++ rest)))
      ∙ mother_gathered m (flat_map of_mother vs ++ rest) ps items number (omega (arith, counts))
      ∙ placements_gathered rest vs (front ++ v ∷ []) (items ++ map f here) (number + length ps) (m + 1) (same ∙ sym (append_assoc front (v ∷ []) vs)) (omega (arith, length-append front (v ∷ [])))
      (omega (arith, counts, placement_count-append items (map f here), placement_count-items volumes here, length-lines_in number m ps))
      ∙ (λ i. gathered (state turns ((append_assoc items (map f here) (map f later) ∙ ap (λ (more : List Item). items ++ more) (sym (map-append f here later))) i) rays) (after (number + length ps) vs) rest)

-- ---- rays

ray_step : (turns : Table Matrix) (items : List Item) (rays : List Ray) (number : ℕ) (r : Ray) (xs : List Declaration) → length rays < MAX_RAYS
    → gathered (state turns items rays) number (line.Trace r ∷ xs) ≡ gathered (state turns items (rays ++ r ∷ [])) (number + 1) xs
ray_step turns items rays number r xs few = rw (lt-leb MAX_RAYS (length rays) few) refl

pub rays_gathered : (turns : Table Matrix) (items : List Item) (more rays : List Ray) (number : ℕ) → length rays + length more ≤ MAX_RAYS
    → gathered (state turns items rays) number (map line.Trace more) ≡ Ok (state turns items (rays ++ more))
rays_gathered turns items [] rays number few = λ i. Ok (state turns items (sym (append-nil rays) i))
rays_gathered turns items (r ∷ more) rays number few =
    ray_step turns items rays number r (map line.Trace more) (omega arith)
    ∙ rays_gathered turns items more (rays ++ r ∷ []) (number + 1) (omega (arith, length-append rays (r ∷ [])))
    ∙ (λ i. Ok (state turns items (append_assoc rays (r ∷ []) more i)))
