-- What is known of resolved lines: how many volumes there are, and that placements are among them.
use Rattle.std.proofs.Common.{◌≡◌, ℕ, ◌+◌, ◌<◌, sym, ◌∙◌, ap, subst, refl, arith, List, [], ◌∷◌, ◌++◌, length, length-append, All, Option, Some, None, Result, Ok, Err, bytes_eq}
use Rattle.std.proofs.lemmas.List.{length_push}
use Rattle.std.proofs.lemmas.List.Elements.{All-nil, All-push, All-head, All-tail, filter_map-append}
use Rattle.std.proofs.lemmas.List.Quantifiers.{position-Some}
use Rattle.gx_form.specs.First.{◌>>=◌}
use Rattle.gx_table.specs.declared.fault.FaultName.TheVariants.{NoVolume}
use Rattle.gx_shapes.specs.declared.figure.Figure.{Figure}
use Rattle.gx_rotation.specs.Matrix.{Matrix}
use Rattle.gx_names.specs.Names.{number_of}
use Rattle.gx_decl.specs.declared.declaration.Form.{Form}
use Rattle.gx_decl.specs.declared.declaration.Form.TheVariants as form
use Rattle.gx_decl.specs.Range.{IsForm}
use Rattle.gx_tree.specs.Limits.{IsInRange}
use Rattle.gx_tree.specs.Volume.{daughter_of}
use Rattle.gx_gather.specs.declared.fault.TextFault.{TextFault}
use Rattle.gx_gather.specs.declared.item.Item.{Item}
use Rattle.gx_gather.specs.declared.item.Item.TheVariants.{Volume, Place}
use Rattle.gx_gather.specs.Items.{name_of, volume_names, IsItem}
use Rattle.gx_link.specs.declared.known.Known.{Known}
use Rattle.gx_link.specs.declared.link.LinkedVolume.{LinkedVolume}
use Rattle.gx_link.specs.declared.link.LinkedPlacement.{LinkedPlacement}
use Rattle.gx_link.specs.Links.{Links, no_links, found, figure_of, volume_at_word, matrix_at_word, mother_word, turn_word, placement_of, linked_with, linked_from}
use Rattle.gx_link.specs.Build.{IsLinked}

-- what comes of two steps came of the first
record IsThen {A B E : Type 0} (r : Result A E) (next : A → Result B E) (b : B) : Type 0 where
  first : A
  is : r ≡ Ok first
  then : next first ≡ Ok b

steps : {A B E : Type 0} (r : Result A E) (next : A → Result B E) (b : B) → (r >>= next) ≡ Ok b → IsThen r next b
steps (Ok a) next b e = record { first = a; is = refl; then = e }
steps (Err x) next b e = cc

-- ---- one line
volume_below : (names : List (List ℕ)) (name : List ℕ) (line word v : ℕ) → found (number_of names name) line word NoVolume ≡ Ok v → v < length names
volume_below names name line word v e =
    let step : (o : Option ℕ) → number_of names name ≡ o → found o line word NoVolume ≡ Ok v → number_of names name ≡ Some v = λ o. elim o as (λ o. number_of names name ≡ o → found o line word NoVolume ≡ Ok v → number_of names name ≡ Some v) [
      | Some w ↦ λ is at. cc
      | None ↦ λ is at. cc
    ] in
    (position-Some (bytes_eq name) names v [] (step (number_of names name) refl e)).0

in_range : (v : ℕ) (rotation : Matrix) (f : Form) → IsForm f → IsInRange (placement_of v rotation f)
in_range v rotation (form.Single copy offset) is = is
in_range v rotation (form.Replica axis count width) is = record {
  copies = record { direction = is.along; some = is.counted.some; few = is.counted.few };
  near_width = omega (arith, is.near_width);
}
in_range v rotation (form.Linear axis count step offset) is = record {
  copies = record { direction = is.along; some = is.row.counted.some; few = is.row.counted.few };
  near_step = is.row.near_step;
  near_offset = is.row.near_offset;
  near = is.row.copies;
}
in_range v rotation (form.Square plane n1 n2 s1 s2 o1 o2) is = (
  record {
    copies = record { direction = is.along; some = is.first.counted.some; few = is.first.counted.few };
    near_step = is.first.near_step;
    near_offset = is.first.near_offset;
    near = is.first.copies;
  },
  record {
    copies = record { direction = is.along; some = is.second.counted.some; few = is.second.counted.few };
    near_step = is.second.near_step;
    near_offset = is.second.near_offset;
    near = is.second.copies;
  },
)

daughter_is : (v : ℕ) (rotation : Matrix) (f : Form) → daughter_of (placement_of v rotation f) ≡ v
daughter_is v rotation (form.Single copy offset) = refl
daughter_is v rotation (form.Replica axis count width) = refl
daughter_is v rotation (form.Linear axis count step offset) = refl
daughter_is v rotation (form.Square plane n1 n2 s1 s2 o1 o2) = refl

-- ---- all lines: so many volumes more, and placements among so many
record IsLinks (count : ℕ) (known : Known) (links out : Links) : Type 0 where
  more : length out.volumes ≡ count + length links.volumes
  linked : All (IsLinked (length known.volumes)) links.placements → All (IsLinked (length known.volumes)) out.placements

one_volume : (known : Known) (links out : Links) (volume : LinkedVolume) → record links { volumes = links.volumes ++ volume ∷ [] } ≡ out → IsLinks 1 known links out
one_volume known links out volume e = record {
  more = ap (λ (o : Links). length o.volumes) (sym e) ∙ omega (arith, length_push links.volumes volume);
  linked = subst (λ (o : Links). All (IsLinked (length known.volumes)) links.placements → All (IsLinked (length known.volumes)) o.placements) e (λ linked. linked);
}

one_placement : (known : Known) (links out : Links) (placed : LinkedPlacement) → IsLinked (length known.volumes) placed → record links { placements = links.placements ++ placed ∷ [] } ≡ out
    → IsLinks 0 known links out
one_placement known links out placed is e = record {
  more = ap (λ (o : Links). length o.volumes) (sym e) ∙ omega arith;
  linked = subst (λ (o : Links). All (IsLinked (length known.volumes)) links.placements → All (IsLinked (length known.volumes)) o.placements) e (λ linked. All-push (IsLinked (length known.volumes)) links.placements placed linked is);
}

one_more : (known : Known) (links out : Links) (item : Item) → IsItem item → linked_with known links item ≡ Ok out → IsLinks (length (volume_names (item ∷ []))) known links out
one_more known links out (Volume line name shape material) is e =
    let volume : Figure → LinkedVolume = λ solid. record { line = line; name = name; solid = solid; material = material } in
    let s = steps (figure_of known line shape) (λ solid. Ok (record links { volumes = links.volumes ++ volume solid ∷ [] })) out e in
    let same = s.then in
    one_volume known links out (volume s.first) cc
one_more known links out (Place line volume mother rotation f) is e =
    let placed : ℕ → ℕ → Matrix → LinkedPlacement = λ v m r. record { line = line; mother = m; placement = placement_of v r f } in
    let place : ℕ → ℕ → Matrix → Result Links TextFault = λ v m r. Ok (record links { placements = links.placements ++ placed v m r ∷ [] }) in
    let turned : ℕ → ℕ → Result Links TextFault = λ v m. matrix_at_word known line (turn_word f) rotation >>= place v m in
    let s = steps (volume_at_word known line 2 volume) (λ v. volume_at_word known line (mother_word f) mother >>= turned v) out e in
    let t = steps (volume_at_word known line (mother_word f) mother) (turned s.first) out s.then in
    let u = steps (matrix_at_word known line (turn_word f) rotation) (place s.first t.first) out t.then in
    let daughter : daughter_of (placement_of s.first u.first f) < length known.volumes = rw (daughter_is s.first u.first f) (volume_below known.volumes volume line 2 s.first s.is) in
    let same = u.then in
    one_placement known links out (placed s.first t.first u.first) (record {
      mother = volume_below known.volumes mother line (mother_word f) t.first t.is;
      placeable = record { volume = daughter; range = in_range s.first u.first f is.formed };
    }) cc

links_facts : (known : Known) (links out : Links) (items : List Item) → All IsItem items → linked_from known links items ≡ Ok out → IsLinks (length (volume_names items)) known links out
links_facts known links out [] all e =
    let same : links ≡ out = cc in
    subst (λ (o : Links). IsLinks 0 known links o) same (record { more = omega arith; linked = λ linked. linked })
links_facts known links out (item ∷ items) all e =
    let s = steps (linked_with known links item) (λ next. linked_from known next items) out e in
    let one = one_more known links s.first item (All-head IsItem item items all) s.is in
    let rest = links_facts known s.first out items (All-tail IsItem item items all) s.then in
    record {
      more = omega (arith, one.more, rest.more, ap length (filter_map-append name_of (item ∷ []) items), length-append (volume_names (item ∷ [])) (volume_names items));
      linked = λ linked. rest.linked (one.linked linked);
    }

-- the volumes are as many as their names, and placements are among them
pub record AreLinked (names : List (List ℕ)) (links : Links) : Type 0 where
  pub count : length links.volumes ≡ length names
  pub among : All (IsLinked (length links.volumes)) links.placements

pub are_linked : (known : Known) (items : List Item) (links : Links) → All IsItem items → known.volumes ≡ volume_names items → linked_from known no_links items ≡ Ok links → AreLinked known.volumes links
are_linked known items links all names e =
    let facts = links_facts known no_links links items all e in
    let count : length links.volumes ≡ length known.volumes = omega (arith, facts.more, ap length names) in
    record {
      count = count;
      among = subst (λ n. All (IsLinked n) links.placements) (sym count) (facts.linked (All-nil (IsLinked (length known.volumes))));
    }
