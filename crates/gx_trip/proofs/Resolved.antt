-- The names in the lines of a canonical text, resolved: volumes and placements are those that were printed.
use Rattle.std.proofs.Common.{◌≡◌, ℕ, zero, suc, ◌+◌, ◌<◌, ◌≤◌, inl, inr, refl, sym, ◌∙◌, ap, arith, List, [], ◌∷◌, ◌++◌, length, append_assoc, append-nil, map, get_or, All, Contains, Option, Some, Result, Ok, eq-eqb}
use Rattle.std.specs.Prelude.{sum_by, filter}
use Rattle.std.specs.List.{range_with_len}
use Rattle.std.specs.Option.{option_map}
use Rattle.std.proofs.Math.Nat.{mul-le-mul}
use Rattle.std.proofs.lemmas.Bool.{cases_lt, ne_eqb}
use Rattle.std.proofs.lemmas.List.{length-map, get_or-map, get_or_past}
use Rattle.std.proofs.lemmas.List.Elements.{All-nil, All-cons, All-head, All-tail, All-append}
use Rattle.std.proofs.lemmas.List.Sums.{sum_by-cons}
use Rattle.gx_form.specs.First.{◌>>=◌}
use Rattle.gx_table.specs.declared.fault.FaultName.TheVariants.{NoRotation}
use Rattle.gx_names.specs.Names.{number_of}
use Rattle.gx_rotation.specs.Matrix.{Matrix}
use Rattle.gx_rotation.specs.Rotation.{matrix_of}
use Rattle.gx_rotation.specs.Rotation as rotation
use Rattle.gx_tree.specs.declared.placement.Placement.{Placement}
use Rattle.gx_tree.specs.declared.placement.Placement.TheVariants as placement
use Rattle.gx_tree.specs.Volume.{Volume, daughter_of, copies_of, rotation_of}
use Rattle.gx_tree.specs.Hierarchy.{volume_at}
use Rattle.gx_tree.specs.Limits.{IsInRange, IsPlaceable, IsWithinLimits, instance_count}
use Rattle.gx_decl.specs.declared.declaration.Declaration.{Declaration}
use Rattle.gx_decl.specs.declared.declaration.Declaration.TheVariants.{Turn}
use Rattle.gx_gather.specs.declared.fault.TextFault.{TextFault}
use Rattle.gx_gather.specs.declared.item.Item.{Item}
use Rattle.gx_gather.specs.Table.{Table, value_of}
use Rattle.gx_gather.specs.Items.{volume_names}
use Rattle.gx_link.specs.declared.known.Known.{Known}
use Rattle.gx_link.specs.declared.link.LinkedVolume.{LinkedVolume}
use Rattle.gx_link.specs.declared.link.LinkedPlacement.{LinkedPlacement}
use Rattle.gx_link.specs.Crowd.{placements_in}
use Rattle.gx_link.specs.Links.{Links, found, matrix_at_word, turn_word, placement_of, linked_with, linked_from}
use Rattle.gx_link.specs.Text.{volumes_from}
use Rattle.gx_canon.specs.Canonical.{rotation_name, rotation_number, form_of, is_used, turns}
use Rattle.gx_canon.specs.Laws.{IsNamed}
use Rattle.gx_trip.proofs.Names.{AreNew, number_at, value_at}
use Rattle.gx_trip.proofs.ReadInput.{volume_names_of}
use Rattle.gx_link.proofs.Daughters.{daughters_in, daughters, IsUncrowded}
use Rattle.gx_trip.proofs.Crowd.{daughters-append, placements_in-append}
use Rattle.gx_trip.proofs.Gathers.{turns_of, volume_items, lines_in, lines_of, item_of}

-- ---- volumes

abbrev pub volume_lines : ℕ → List Volume → List LinkedVolume
volume_lines number [] = []
volume_lines number (v ∷ vs) = record { line = number; name = v.name; solid = v.solid; material = v.material } ∷ volume_lines (number + 1) vs

abbrev pub links : List LinkedVolume → List LinkedPlacement → Links
links volumes placements = record { volumes = volumes; placements = placements }

pub volumes_linked : (known : Known) (rest : List Item) (ps : List LinkedPlacement) (vs : List Volume) (us : List LinkedVolume) (number : ℕ)
    → linked_from known (links us ps) (volume_items number vs ++ rest) ≡ linked_from known (links (us ++ volume_lines number vs) ps) rest
volumes_linked known rest ps [] us number = λ i. linked_from known (links (sym (append-nil us) i) ps) rest
volumes_linked known rest ps (v ∷ vs) us number =
    let one : LinkedVolume = record { line = number; name = v.name; solid = v.solid; material = v.material } in
    volumes_linked known rest ps vs (us ++ one ∷ []) (number + 1) ∙ (λ i. linked_from known (links (append_assoc us (one ∷ []) (volume_lines (number + 1) vs) i) ps) rest)

-- ---- names

pub names-volume_items : (number : ℕ) (vs : List Volume) → volume_names (volume_items number vs) ≡ volume_names_of vs
names-volume_items number [] = refl
names-volume_items number (v ∷ vs) = ap (λ (ns : List (List ℕ)). v.name ∷ ns) (names-volume_items (number + 1) vs)

pub names-items : (volumes : List Volume) (ps : List LinkedPlacement) → volume_names (map (item_of volumes) ps) ≡ []
names-items volumes [] = refl
names-items volumes (p ∷ ps) = names-items volumes ps

-- the rotations of a canonical text by their names
abbrev pub turn_numbers : List Volume → List ℕ
turn_numbers volumes = filter (is_used volumes) (range_with_len 0 24)

abbrev pub turns_named : List Volume → Table Matrix
turns_named volumes = turns_of (map rotation_name (turn_numbers volumes)) (map matrix_of (turn_numbers volumes))

declared_turn : (volumes : List Volume) → AreNew [] (map rotation_name (turn_numbers volumes)) → (name : List ℕ) (m : Matrix) → Contains (turns volumes) (Turn name m) → value_of (turns_named volumes) name ≡ Some m
declared_turn volumes new name m (i, less, at) =
    let ks = turn_numbers volumes in
    let turn : ℕ → Declaration = λ k. Turn (rotation_name k) (matrix_of k) in
    let k = get_or ks i 0 in
    let below : i < length ks = omega (arith, less, length-map ks turn) in
    let same : Turn (rotation_name k) (matrix_of k) ≡ Turn name m = sym (get_or-map turn ks i 0 (Turn name m) below) ∙ at in
    let named : rotation_name k ≡ name = cc in
    let is : matrix_of k ≡ m = cc in
    ap (value_of (turns_named volumes)) (sym (get_or-map rotation_name ks i 0 [] below ∙ named))
    ∙ value_at (turns_named volumes) new (length-map ks rotation_name ∙ sym (length-map ks matrix_of)) i [] m (omega (arith, below, length-map ks rotation_name))
    ∙ ap (λ (x : Matrix). Some x) (get_or-map matrix_of ks i 0 m below ∙ is)

-- ---- placements

placement_is : (p : Placement) → placement_of (daughter_of p) (rotation_of p) (form_of p) ≡ p
placement_is (placement.Single volume copy rotation offset) = refl
placement_is (placement.Replica volume axis count width) = refl
placement_is (placement.Linear volume axis rotation count step offset) = refl
placement_is (placement.Square volume plane rotation n1 n2 s1 s2 o1 o2) = refl

-- a placement of these volumes, whose rotation is declared
pub record IsPlacedIn (volumes : List Volume) (p : LinkedPlacement) : Type 0 where
  pub mother : p.mother < length volumes
  pub daughter : daughter_of p.placement < length volumes
  pub named : IsNamed volumes p.placement

module _ (volumes : List Volume) (known : Known) (turned : known.turns ≡ turns_named volumes) (named : known.volumes ≡ volume_names_of volumes)
    (turns_new : AreNew [] (map rotation_name (turn_numbers volumes))) (volumes_new : AreNew [] (volume_names_of volumes)) where
  rotation_known : (line word : ℕ) (m : Matrix) → Contains (turns volumes) (Turn (rotation_name (rotation.number_of m)) m) → matrix_at_word known line word (Some (rotation_name (rotation.number_of m))) ≡ Ok m
  rotation_known line word m is =
      ap (λ (t : Table Matrix). found (value_of t (rotation_name (rotation.number_of m))) line word NoRotation) turned
      ∙ ap (λ (o : Option Matrix). found o line word NoRotation) (declared_turn volumes turns_new (rotation_name (rotation.number_of m)) m is)

  matrix_known : (line : ℕ) (p : Placement) → IsNamed volumes p → matrix_at_word known line (turn_word (form_of p)) (option_map rotation_name (rotation_number p)) ≡ Ok (rotation_of p)
  matrix_known line (placement.Single volume copy rotation offset) is = rotation_known line 5 rotation is
  matrix_known line (placement.Replica volume axis count width) is = refl
  matrix_known line (placement.Linear volume axis rotation count step offset) is = rotation_known line 6 rotation is
  matrix_known line (placement.Square volume plane rotation n1 n2 s1 s2 o1 o2) is = rotation_known line 6 rotation is

  volume_known : (v : ℕ) → v < length volumes → number_of known.volumes (volume_at volumes v).name ≡ Some v
  volume_known v below =
      ap (λ (names : List (List ℕ)). number_of names (volume_at volumes v).name) named
      ∙ ap (number_of (volume_names_of volumes)) (sym (get_or-map (λ (u : Volume). u.name) volumes v _ [] below))
      ∙ number_at [] (volume_names_of volumes) volumes_new v [] (omega (arith, below, length-map volumes (λ (u : Volume). u.name)))
      ∙ ap (λ (n : ℕ). Some n) (omega arith)

  place_linked : (us : List LinkedVolume) (ps : List LinkedPlacement) (p : LinkedPlacement) → IsPlacedIn volumes p → linked_with known (links us ps) (item_of volumes p) ≡ Ok (links us (ps ++ p ∷ []))
  place_linked us ps p is =
      rw (volume_known (daughter_of p.placement) is.daughter, volume_known p.mother is.mother, matrix_known p.line p.placement is.named, placement_is p.placement) refl

  pub placements_linked : (us : List LinkedVolume) (qs ps : List LinkedPlacement) → All (IsPlacedIn volumes) qs → linked_from known (links us ps) (map (item_of volumes) qs) ≡ Ok (links us (ps ++ qs))
  placements_linked us [] ps all = λ i. Ok (links us (sym (append-nil ps) i))
  placements_linked us (q ∷ qs) ps all =
      ap (λ (r : Result Links TextFault). r >>= (λ next. linked_from known next (map (item_of volumes) qs))) (place_linked us ps q (All-head (IsPlacedIn volumes) q qs all))
      ∙ placements_linked us qs (ps ++ q ∷ []) (All-tail (IsPlacedIn volumes) q qs all)
      ∙ (λ i. Ok (links us (append_assoc ps (q ∷ []) qs i)))

-- ---- which are placements of the volumes

in_mother : (volumes : List Volume) (m : ℕ) → m < length volumes → (number : ℕ) (ps : List Placement) → All (IsPlaceable (length volumes)) ps → All (IsNamed volumes) ps → All (IsPlacedIn volumes) (lines_in number m ps)
in_mother volumes m below number [] placeable named = All-nil (IsPlacedIn volumes)
in_mother volumes m below number (p ∷ ps) placeable named =
    All-cons (IsPlacedIn volumes) _ (lines_in (number + 1) m ps)
    (record { mother = below; daughter = (All-head (IsPlaceable (length volumes)) p ps placeable).volume; named = All-head (IsNamed volumes) p ps named })
    (in_mother volumes m below (number + 1) ps (All-tail (IsPlaceable (length volumes)) p ps placeable) (All-tail (IsNamed volumes) p ps named))

pub in_mothers : (volumes : List Volume) (number m : ℕ) (vs : List Volume) → m + length vs ≤ length volumes → All (λ v. All (IsPlaceable (length volumes)) v.placements) vs → All (λ v. All (IsNamed volumes) v.placements) vs
    → All (IsPlacedIn volumes) (lines_of number m vs)
in_mothers volumes number m [] few placeable named = All-nil (IsPlacedIn volumes)
in_mothers volumes number m (v ∷ vs) few placeable named =
    All-append (IsPlacedIn volumes) (lines_in number m v.placements) (lines_of (number + length v.placements) (m + 1) vs)
    (in_mother volumes m (omega arith) number v.placements (All-head (λ (u : Volume). All (IsPlaceable (length volumes)) u.placements) v vs placeable) (All-head (λ (u : Volume). All (IsNamed volumes) u.placements) v vs named))
    (in_mothers volumes (number + length v.placements) (m + 1) vs (omega arith) (All-tail (λ (u : Volume). All (IsPlaceable (length volumes)) u.placements) v vs placeable) (All-tail (λ (u : Volume). All (IsNamed volumes) u.placements) v vs named))

-- ---- each mother's own

own : (m number : ℕ) (ps : List Placement) → placements_in m (lines_in number m ps) ≡ ps
own m number [] = refl
own m number (p ∷ ps) = rw (eq-eqb m m refl) (ap (λ (qs : List Placement). p ∷ qs) (own m (number + 1) ps))

others : (m k number : ℕ) (ps : List Placement) → (k ≡ m → ⊥) → placements_in m (lines_in number k ps) ≡ []
others m k number [] other = refl
others m k number (p ∷ ps) other = rw (ne_eqb k m other) (others m k (number + 1) ps other)

later : (m k number : ℕ) (vs : List Volume) → m < k → placements_in m (lines_of number k vs) ≡ []
later m k number [] less = refl
later m k number (v ∷ vs) less =
    placements_in-append m (lines_in number k v.placements) (lines_of (number + length v.placements) (k + 1) vs)
    ∙ (λ i. others m k number v.placements (λ e. omega arith) i ++ later m (k + 1) (number + length v.placements) vs (omega arith) i)

pub placements_at : (vs : List Volume) (k number m : ℕ) → placements_in (k + m) (lines_of number k vs) ≡ (volume_at vs m).placements
placements_at [] k number m = refl
placements_at (v ∷ vs) k number zero =
    let at : k + 0 ≡ k = omega arith in
    rw at (
    placements_in-append k (lines_in number k v.placements) (lines_of (number + length v.placements) (k + 1) vs)
    ∙ (λ i. own k number v.placements i ++ later k (k + 1) (number + length v.placements) vs (omega arith) i)
    ∙ append-nil v.placements
    )
placements_at (v ∷ vs) k number (suc m) =
    let at : k + suc m ≡ (k + 1) + m = omega arith in
    rw at (
    placements_in-append ((k + 1) + m) (lines_in number k v.placements) (lines_of (number + length v.placements) (k + 1) vs)
    ∙ (λ i. others ((k + 1) + m) k number v.placements (λ e. omega arith) i ++ placements_at vs (k + 1) (number + length v.placements) m i)
    )

pub volumes_back : (ps : List LinkedPlacement) (vs : List Volume) (v number : ℕ) → ((m : ℕ) → placements_in (v + m) ps ≡ (volume_at vs m).placements) → volumes_from ps v (volume_lines number vs) ≡ vs
volumes_back ps [] v number own = refl
volumes_back ps (u ∷ us) v number own =
    let at : v ≡ v + 0 = omega arith in
    let first : placements_in v ps ≡ u.placements = ap (λ (k : ℕ). placements_in k ps) at ∙ own 0 in
    let next : (m : ℕ) → placements_in ((v + 1) + m) ps ≡ (volume_at us m).placements = λ m. ap (λ (k : ℕ). placements_in k ps) (omega arith) ∙ own (suc m) in
    λ i. record { name = u.name; solid = u.solid; material = u.material; placements = first i } ∷ volumes_back ps us (v + 1) (number + 1) next i

-- ---- counts

daughters_in_mother : (number m : ℕ) (ps : List Placement) → daughters (lines_in number m ps) ≡ sum_by copies_of ps
daughters_in_mother number m [] = refl
daughters_in_mother number m (p ∷ ps) =
    sum_by-cons (λ (q : LinkedPlacement). copies_of q.placement) (record { line = number; mother = m; placement = p }) (lines_in (number + 1) m ps)
    ∙ ap (λ (n : ℕ). copies_of p + n) (daughters_in_mother (number + 1) m ps)
    ∙ sym (sum_by-cons copies_of p ps)

daughters_of_all : (number m : ℕ) (vs : List Volume) → daughters (lines_of number m vs) ≡ sum_by instance_count vs
daughters_of_all number m [] = refl
daughters_of_all number m (v ∷ vs) =
    daughters-append (lines_in number m v.placements) (lines_of (number + length v.placements) (m + 1) vs)
    ∙ (λ i. daughters_in_mother number m v.placements i + daughters_of_all (number + length v.placements) (m + 1) vs i)
    ∙ sym (sum_by-cons instance_count v vs)

pub lines_uncrowded : (volumes : List Volume) (number : ℕ) → IsWithinLimits volumes → IsUncrowded (lines_of number 0 volumes)
lines_uncrowded volumes number limits = record {
  each = λ m.
      let at : m ≡ 0 + m = omega arith in
      let own : daughters_in m (lines_of number 0 volumes) ≡ instance_count (volume_at volumes m) = ap (λ (k : ℕ). daughters_in k (lines_of number 0 volumes)) at ∙ ap (sum_by copies_of) (placements_at volumes 0 number m) in
      elim (cases_lt m (length volumes)) [
        | inl below ↦ let few : instance_count (volume_at volumes m) ≤ 4096 = limits.each m _ below in omega arith
        | inr beyond ↦ let none : instance_count (volume_at volumes m) ≡ 0 = ap instance_count (get_or_past volumes m _ beyond) in omega arith
      ];
  all = omega (arith, daughters_of_all number 0 volumes, limits.all);
}

some_copies : (p : Placement) → IsInRange p → 1 ≤ copies_of p
some_copies (placement.Single volume copy rotation offset) range = omega arith
some_copies (placement.Replica volume axis count width) range = range.copies.some
some_copies (placement.Linear volume axis rotation count step offset) range = range.copies.some
some_copies (placement.Square volume plane rotation n1 n2 s1 s2 o1 o2) range = omega (arith, mul-le-mul range.0.copies.some range.1.copies.some)

few_in : (count : ℕ) (ps : List Placement) → All (IsPlaceable count) ps → length ps ≤ sum_by copies_of ps
few_in count [] all = omega arith
few_in count (p ∷ ps) all =
    omega (arith, sum_by-cons copies_of p ps, some_copies p (All-head (IsPlaceable count) p ps all).range, few_in count ps (All-tail (IsPlaceable count) p ps all))

-- there are no more placements than daughters
pub few_lines : (count : ℕ) (vs : List Volume) → All (λ v. All (IsPlaceable count) v.placements) vs → sum_by (λ (v : Volume). length v.placements) vs ≤ sum_by instance_count vs
few_lines count [] all = omega arith
few_lines count (v ∷ vs) all = omega (
  arith,
  sum_by-cons (λ (u : Volume). length u.placements) v vs,
  sum_by-cons instance_count v vs,
  few_in count v.placements (All-head (λ (u : Volume). All (IsPlaceable count) u.placements) v vs all),
  few_lines count vs (All-tail (λ (u : Volume). All (IsPlaceable count) u.placements) v vs all),
)
