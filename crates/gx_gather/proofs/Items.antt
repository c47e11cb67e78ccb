-- One line of a volume or a placement more.
use Rattle.std.proofs.Common.{◌≡◌, ℕ, ◌+◌, ◌<◌, List, [], ◌∷◌, ◌++◌, length, Option, Err, sym, ap, arith, ◌∙◌, length-append, append-nil, All}
use Rattle.std.specs.Prelude.{filter}
use Rattle.std.proofs.lemmas.List.Elements.{filter-append, filter_map-append, All-append, All-cons}
use Rattle.gx_decl.specs.declared.declaration.Form.{Form}
use Rattle.gx_gather.specs.declared.item.Item.{Item}
use Rattle.gx_gather.specs.declared.item.Item.TheVariants.{Volume, Place}
use Rattle.gx_gather.specs.declared.item.Shape.{Shape}
use Rattle.gx_gather.specs.Items.{name_of, is_placement, volume_names, placement_count, IsItem}
use Rattle.gx_form.specs.declared.refusal.Refusal.{Refusal}
use Rattle.gx_form.specs.declared.refusal.Refusal.TheVariants.{At, NoMemory}
use Rattle.gx_gather.specs.Faults.{IsCauseAt}
use Rattle.gx_gather.specs.Declarations.{Declarations, with_volume}
use Rattle.gx_gather.specs.Table.{name_fault, unless, Defines}
use Rattle.gx_gather.specs.Gathering.{IsGathered}
use Rattle.gx_gather.specs.declared.gathered.TheConstants.{MAX_VOLUMES, MAX_PLACEMENTS}

module _ (items : List Item) (line : ℕ) where
  pub names-volume : (name material : List ℕ) (shape : Shape) → volume_names (items ++ Volume line name shape material ∷ []) ≡ volume_names items ++ name ∷ []
  names-volume name material shape = filter_map-append name_of items (Volume line name shape material ∷ [])

  pub count-volume : (name material : List ℕ) (shape : Shape) → placement_count (items ++ Volume line name shape material ∷ []) ≡ placement_count items
  count-volume name material shape = omega (arith, ap length (filter-append is_placement items (Volume line name shape material ∷ [])), length-append (filter is_placement items) [])

  pub names-place : (volume mother : List ℕ) (rotation : Option (List ℕ)) (form : Form) → volume_names (items ++ Place line volume mother rotation form ∷ []) ≡ volume_names items
  names-place volume mother rotation form = filter_map-append name_of items (Place line volume mother rotation form ∷ []) ∙ append-nil (volume_names items)

  pub count-place : (volume mother : List ℕ) (rotation : Option (List ℕ)) (form : Form) → placement_count (items ++ Place line volume mother rotation form ∷ []) ≡ placement_count items + 1
  count-place volume mother rotation form =
      let place = Place line volume mother rotation form in
      ap length (filter-append is_placement items (place ∷ [])) ∙ length-append (filter is_placement items) (place ∷ [])

one : (item : Item) → IsItem item → All IsItem (item ∷ [])
one item h = All-cons IsItem item [] h (λ k d i. absurd (omega arith))

-- what is kept, with one line more
pub one_volume_more : (params : ℕ) (names : List (List ℕ)) (placements : ℕ) (items : List Item) → IsGathered params names placements items → (line : ℕ) (name material : List ℕ) (shape : Shape)
    → IsItem (Volume line name shape material) → length names < MAX_VOLUMES → IsGathered params (names ++ name ∷ []) placements (items ++ Volume line name shape material ∷ [])
one_volume_more params names placements items g line name material shape item free = record {
  few_params = g.few_params;
  few_volumes = omega (arith, free, length-append names (name ∷ []));
  few_placements = g.few_placements;
  names = ap (λ ns. ns ++ name ∷ []) g.names ∙ sym (names-volume items line name material shape);
  count = g.count ∙ sym (count-volume items line name material shape);
  kept = All-append IsItem items (Volume line name shape material ∷ []) g.kept (one (Volume line name shape material) item);
}

pub one_placement_more : (params : ℕ) (names : List (List ℕ)) (placements : ℕ) (items : List Item) → IsGathered params names placements items → (line : ℕ) (volume mother : List ℕ) (rotation : Option (List ℕ)) (form : Form)
    → IsItem (Place line volume mother rotation form) → placements < MAX_PLACEMENTS → IsGathered params names (placements + 1) (items ++ Place line volume mother rotation form ∷ [])
one_placement_more params names placements items g line volume mother rotation form item free =
    let place = Place line volume mother rotation form in
    record {
      few_params = g.few_params;
      few_volumes = g.few_volumes;
      few_placements = omega (arith, free);
      names = g.names ∙ sym (names-place items line volume mother rotation form);
      count = ap (λ n. n + 1) g.count ∙ sym (count-place items line volume mother rotation form);
      kept = All-append IsItem items (place ∷ []) g.kept (one place item);
    }

-- the refusal of a volume's name is that of its line
pub refused_volume : (d : Declarations) (old new : List (List ℕ)) (number : ℕ) (name material : List ℕ) (shape : Shape) (e : Refusal) → old ≡ volume_names d.items → Defines MAX_VOLUMES old name new (Err e) → IsCauseAt (with_volume d number name shape material) e
refused_volume d old new number name material shape (At fault) same defines =
    ap (λ f. unless f (record d { items = d.items ++ Volume number name shape material ∷ [] })) (ap (λ names. name_fault MAX_VOLUMES names name) (sym same) ∙ defines.0)
refused_volume d old new number name material shape NoMemory same defines = tt
