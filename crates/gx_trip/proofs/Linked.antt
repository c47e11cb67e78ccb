-- What is kept of lines whose names are resolved.
use Rattle.std.proofs.Common.{◌≡◌, ℕ, ◌<◌, refl, sym, ◌∙◌, ap, subst, arith, ℤ, List, [], ◌∷◌, ◌++◌, length, map, All, Option, None, Some, Result, Ok, append_assoc, append-nil, bytes_eq}
use Rattle.std.specs.Prelude.{slice_get}
use Rattle.std.specs.Option.{option_and_then}
use Rattle.std.proofs.lemmas.List.{map-append}
use Rattle.std.proofs.lemmas.List.Elements.{All-push, All-head, All-tail, filter_map-append}
use Rattle.std.proofs.lemmas.List.Quantifiers.{position-Some}
use Rattle.std.proofs.lemmas.Option.{slice_get_within, get_or_from_slice_get}
use Rattle.gx_form.specs.First.{◌>>=◌}
use Rattle.gx_table.specs.declared.fault.FaultName.{FaultName}
use Rattle.gx_table.specs.declared.fault.FaultName.TheVariants.{NoSolid, NoVolume, NoRotation}
use Rattle.gx_shapes.specs.declared.figure.Figure.{Figure}
use Rattle.gx_rotation.specs.Matrix.{Matrix, identity}
use Rattle.gx_rotation.specs.Rotation.{matrix_of}
use Rattle.gx_names.specs.Names.{number_of}
use Rattle.gx_tree.specs.Hierarchy.{IsRotation}
use Rattle.gx_tree.specs.Limits.{IsInRange, IsPlaceable}
use Rattle.gx_tree.specs.Limits as limits
use Rattle.gx_tree.specs.Volume.{daughter_of, rotation_of}
use Rattle.gx_decl.specs.declared.declaration.Form.{Form}
use Rattle.gx_decl.specs.declared.declaration.Form.TheVariants as form
use Rattle.gx_decl.specs.Range.{IsForm, IsRow}
use Rattle.gx_gather.specs.declared.fault.TextFault.{TextFault}
use Rattle.gx_gather.specs.declared.item.Item.{Item}
use Rattle.gx_gather.specs.declared.item.Item.TheVariants.{Volume, Place}
use Rattle.gx_gather.specs.declared.item.Shape.{Shape}
use Rattle.gx_gather.specs.declared.item.Shape.TheVariants.{Own, Named}
use Rattle.gx_gather.specs.Items.{name_of, volume_names}
use Rattle.gx_gather.specs.Table.{Table, value_of}
use Rattle.gx_link.specs.declared.known.Known.{Known}
use Rattle.gx_link.specs.declared.link.LinkedVolume.{LinkedVolume}
use Rattle.gx_link.specs.declared.link.LinkedPlacement.{LinkedPlacement}
use Rattle.gx_link.specs.Links.{Links, found, figure_of, volume_at_word, matrix_at_word, mother_word, turn_word, placement_of, linked_with, linked_from}
use Rattle.gx_canon.specs.Canonical.{form_of}
use Rattle.gx_canon.specs.Printable.{HasCopy, IsNameWord, IsPrintablePlacement}
use Rattle.gx_trip.proofs.Declared.{IsFigureKept, IsShapeKept, IsItemKept}
use Rattle.gx_trip.proofs.Steps.{steps}

pub record IsVolumeKept (v : LinkedVolume) : Type 0 where
  pub named : IsNameWord v.name
  pub made_of : IsNameWord v.material
  pub figure : IsFigureKept v.solid

-- a placement among so many volumes
pub record IsPlacedKept (count : ℕ) (p : LinkedPlacement) : Type 0 where
  pub mother : p.mother < count
  pub placeable : IsPlaceable count p.placement
  pub printable : IsPrintablePlacement p.placement
  pub turned : IsRotation (rotation_of p.placement)

abbrev pub names_of : List LinkedVolume → List (List ℕ)
names_of volumes = map (λ (v : LinkedVolume). v.name) volumes

-- the lines of volumes of these names
pub record AreLinksKept (count : ℕ) (names : List (List ℕ)) (links : Links) : Type 0 where
  pub named : names_of links.volumes ≡ names
  pub volumes : All IsVolumeKept links.volumes
  pub placements : All (IsPlacedKept count) links.placements

-- ---- names

found-ok : {A : Type 0} (o : Option A) (line word : ℕ) (fault : FaultName) (a : A) → found o line word fault ≡ Ok a → o ≡ Some a
found-ok (Some b) line word fault a e = cc
found-ok None line word fault a e = absurd cc

at_number : {A : Type 0} (P : A → Type 0) (values : List A) (o : Option ℕ) (a : A) → option_and_then (slice_get values) o ≡ Some a → All P values → P a
at_number P values None a e all = absurd cc
at_number P values (Some n) a e all = subst P (get_or_from_slice_get values n a a e) (all n a (slice_get_within values n a e))

value_kept : {A : Type 0} (P : A → Type 0) (t : Table A) (name : List ℕ) (line word : ℕ) (fault : FaultName) (a : A) → All P t.values → found (value_of t name) line word fault ≡ Ok a → P a
value_kept P t name line word fault a all e = at_number P t.values (number_of t.names name) a (found-ok (value_of t name) line word fault a e) all

volume_below : (known : Known) (name : List ℕ) (line word v : ℕ) → volume_at_word known line word name ≡ Ok v → v < length known.volumes
volume_below known name line word v e = (position-Some (bytes_eq name) known.volumes v [] (found-ok (number_of known.volumes name) line word NoVolume v e)).0

-- ---- placements

is_identity : IsRotation identity
unfolding matrix_of
is_identity = record { index = 0; below = omega arith; same = refl }

row_in : (axis count : ℕ) (step offset : ℤ) → axis < 3 → IsRow count step offset → limits.IsRow axis count step offset
row_in axis count step offset along is = record {
  copies = record { direction = along; some = is.counted.some; few = is.counted.few };
  near_step = is.near_step;
  near_offset = is.near_offset;
  near = is.copies;
}

in_range : (v : ℕ) (r : Matrix) (f : Form) → IsForm f → IsInRange (placement_of v r f)
in_range v r (form.Single copy offset) is = is
in_range v r (form.Replica axis count width) is = record {
  copies = record { direction = is.along; some = is.counted.some; few = is.counted.few };
  near_width = omega (arith, is.near_width);
}
in_range v r (form.Linear axis count step offset) is = row_in axis count step offset is.along is.row
in_range v r (form.Square plane n1 n2 s1 s2 o1 o2) is = (row_in plane n1 s1 o1 is.along is.first, row_in plane n2 s2 o2 is.along is.second)

daughter_is : (v : ℕ) (r : Matrix) (f : Form) → daughter_of (placement_of v r f) ≡ v
daughter_is v r (form.Single copy offset) = refl
daughter_is v r (form.Replica axis count width) = refl
daughter_is v r (form.Linear axis count step offset) = refl
daughter_is v r (form.Square plane n1 n2 s1 s2 o1 o2) = refl

form_is : (v : ℕ) (r : Matrix) (f : Form) → form_of (placement_of v r f) ≡ f
form_is v r (form.Single copy offset) = refl
form_is v r (form.Replica axis count width) = refl
form_is v r (form.Linear axis count step offset) = refl
form_is v r (form.Square plane n1 n2 s1 s2 o1 o2) = refl

turned_by : (v : ℕ) (r : Matrix) (f : Form) → IsRotation r → IsRotation (rotation_of (placement_of v r f))
turned_by v r (form.Single copy offset) is = is
turned_by v r (form.Replica axis count width) is = is_identity
turned_by v r (form.Linear axis count step offset) is = is
turned_by v r (form.Square plane n1 n2 s1 s2 o1 o2) is = is

placed_kept : (count v m line : ℕ) (r : Matrix) (f : Form) → v < count → m < count → IsRotation r → IsForm f → HasCopy f → IsPlacedKept count (record { line = line; mother = m; placement = placement_of v r f })
placed_kept count v m line r f daughter mother rotation formed copy = record {
  mother = mother;
  placeable = record { volume = subst (λ k. k < count) (sym (daughter_is v r f)) daughter; range = in_range v r f formed };
  printable = record { formed = subst IsForm (sym (form_is v r f)) formed; copy = subst HasCopy (sym (form_is v r f)) copy };
  turned = turned_by v r f rotation;
}

-- ---- lines

one_placement : (count : ℕ) (names : List (List ℕ)) (links out : Links) (p : LinkedPlacement) → AreLinksKept count names links → IsPlacedKept count p → record links { placements = links.placements ++ p ∷ [] } ≡ out
    → AreLinksKept count (names ++ []) out
one_placement count names links out p are is same =
    subst (AreLinksKept count (names ++ [])) same (record { named = are.named ∙ sym (append-nil names); volumes = are.volumes; placements = All-push (IsPlacedKept count) links.placements p are.placements is })

module _ (known : Known) (solids : All IsFigureKept known.solids.values) (turns : All IsRotation known.turns.values) where
  abbrev count : ℕ
  count = length known.volumes

  figure_kept : (line : ℕ) (shape : Shape) (f : Figure) → IsShapeKept shape → figure_of known line shape ≡ Ok f → IsFigureKept f
  figure_kept line (Own g) f is e = let same : g ≡ f = cc in subst IsFigureKept same is
  figure_kept line (Named solid) f is e = value_kept IsFigureKept known.solids solid line 3 NoSolid f solids e

  matrix_kept : (line word : ℕ) (name : Option (List ℕ)) (m : Matrix) → matrix_at_word known line word name ≡ Ok m → IsRotation m
  matrix_kept line word None m e = let same : identity ≡ m = cc in subst IsRotation same is_identity
  matrix_kept line word (Some name) m e = value_kept IsRotation known.turns name line word NoRotation m turns e

  line_kept : (names : List (List ℕ)) (links out : Links) (item : Item) → IsItemKept item → AreLinksKept count names links → linked_with known links item ≡ Ok out → AreLinksKept count (names ++ volume_names (item ∷ [])) out
  line_kept names links out (Volume line name shape material) is are e =
      let volume : Figure → LinkedVolume = λ solid. record { line = line; name = name; solid = solid; material = material } in
      let s = steps (figure_of known line shape) (λ solid. Ok (record links { volumes = links.volumes ++ volume solid ∷ [] })) out e in
      let same : record links { volumes = links.volumes ++ volume s.first ∷ [] } ≡ out = (let made = s.rest in cc) in
      subst (AreLinksKept count (names ++ name ∷ [])) same (record {
        named = map-append (λ (v : LinkedVolume). v.name) links.volumes (volume s.first ∷ []) ∙ ap (λ (ns : List (List ℕ)). ns ++ name ∷ []) are.named;
        volumes = All-push IsVolumeKept links.volumes (volume s.first) are.volumes (record { named = is.0; made_of = is.2; figure = figure_kept line shape s.first is.1 s.is });
        placements = are.placements;
      })
  line_kept names links out (Place line volume mother rotation f) is are e =
      let placed : ℕ → ℕ → Matrix → LinkedPlacement = λ v m r. record { line = line; mother = m; placement = placement_of v r f } in
      let place : ℕ → ℕ → Matrix → Result Links TextFault = λ v m r. Ok (record links { placements = links.placements ++ placed v m r ∷ [] }) in
      let turned : ℕ → ℕ → Result Links TextFault = λ v m. matrix_at_word known line (turn_word f) rotation >>= place v m in
      let s = steps (volume_at_word known line 2 volume) (λ v. volume_at_word known line (mother_word f) mother >>= turned v) out e in
      let t = steps (volume_at_word known line (mother_word f) mother) (turned s.first) out s.rest in
      let u = steps (matrix_at_word known line (turn_word f) rotation) (place s.first t.first) out t.rest in
      let p = placed s.first t.first u.first in
      one_placement count names links out p are
      (placed_kept count s.first t.first line u.first f (volume_below known volume line 2 s.first s.is) (volume_below known mother line (mother_word f) t.first t.is) (matrix_kept line (turn_word f) rotation u.first u.is) is.0 is.1)
      (let made = u.rest in cc)

  pub lines_linked : (names : List (List ℕ)) (links out : Links) (items : List Item) → All IsItemKept items → AreLinksKept count names links → linked_from known links items ≡ Ok out → AreLinksKept count (names ++ volume_names items) out
  lines_linked names links out [] all are e = let same : links ≡ out = cc in subst (AreLinksKept count (names ++ [])) same (subst (λ (ns : List (List ℕ)). AreLinksKept count ns links) (sym (append-nil names)) are)
  lines_linked names links out (item ∷ items) all are e =
      let s = steps (linked_with known links item) (λ next. linked_from known next items) out e in
      let here = line_kept names links s.first item (All-head IsItemKept item items all) are s.is in
      let rest = lines_linked (names ++ volume_names (item ∷ [])) s.first out items (All-tail IsItemKept item items all) here s.rest in
      subst (λ (ns : List (List ℕ)). AreLinksKept count ns out) (append_assoc names (volume_names (item ∷ [])) (volume_names items) ∙ ap (λ (ns : List (List ℕ)). names ++ ns) (sym (filter_map-append name_of (item ∷ []) items))) rest
