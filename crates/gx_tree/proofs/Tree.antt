-- What a hierarchy keeps follows from how it was formed.
use Rattle.std.proofs.Common.{◌≡◌, ℕ, ◌-◌, ◌<◌, List, [], length, take, map, slice_index, slice_index_or, slice_get, Some, All, Ok, sym, ◌∙◌, ap, subst, arith}
use Rattle.std.specs.Prelude.{sum_by}
use Rattle.std.proofs.lemmas.List.{length-map, get_or-map, take_all}
use Rattle.std.proofs.lemmas.Option.{get_or_from_slice_get}
use Rattle.std.proofs.lemmas.List.Elements.{All-weaker}
use Rattle.gx_shapes.specs.Accepted.{IsSolid}
use Rattle.gx_tree.specs.declared.placement.Placement.{Placement}
use Rattle.gx_tree.specs.declared.instance.Instance.{Instance}
use Rattle.gx_tree.specs.Volume.{Volume, daughter_of, copies_of, rotation_of, instances_in}
use Rattle.gx_tree.specs.Hierarchy.{Hierarchy, volume_at, instances, IsRotation, IsInstance}
use Rattle.gx_tree.specs.Ends.{ends_of, IsEven}
use Rattle.gx_tree.specs.Limits.{IsPlaceable, IsWithinLimits}
use Rattle.gx_tree.specs.Marks.{AreInRange}
use Rattle.gx_tree.specs.Fault.{hierarchy_of, IsTree}
use Rattle.gx_tree.proofs.Formed.{formed, world-below, shallow_is}
use Rattle.gx_tree.proofs.Ordinals.{length-instances_in, length-ends_of, start_is}
use Rattle.gx_tree.proofs.Placed.{IsFullIn, all_full, even_in, all_placed}

in_range : (volumes : List Volume) → IsWithinLimits volumes → AreInRange volumes
in_range volumes limits =
    All-weaker (λ (v : Volume). All (IsPlaceable (length volumes)) v.placements) (λ (v : Volume). All (λ p. daughter_of p < length volumes) v.placements)
    (λ v all. All-weaker (IsPlaceable (length volumes)) (λ p. daughter_of p < length volumes) (λ p h. h.volume) v.placements all) volumes limits.placeable

pub is_tree : (volumes : List Volume) (w : ℕ) → IsWithinLimits volumes → hierarchy_of volumes ≡ Ok (record { volumes = volumes; world = w }) → All (λ v. IsSolid v.solid) volumes
    → All (λ v. All (λ p. IsRotation (rotation_of p)) v.placements) volumes → IsTree (record { volumes = volumes; world = w })
is_tree volumes w limits e solids turned =
    let h : Hierarchy = record { volumes = volumes; world = w } in
    let is = formed volumes h e in
    record {
      limits = limits;
      formed = e;
      world = world-below volumes w is.world;
      solids = solids;
      shallow = λ v. shallow_is volumes (in_range volumes limits) w v is.shallow;
      placed = all_placed h limits is.filled solids turned;
    }

-- ---- at a volume's number
-- its running counts, where those of all are kept
pub ends_at : {E : Type 0} (items : E → List ℕ) (ends : List E) (volumes : List Volume) (v : ℕ) (e : E) → map items ends ≡ map (λ u. ends_of u.placements) volumes → v < length volumes → e ≡ slice_index_or ends v e
    → items e ≡ ends_of (volume_at volumes v).placements
ends_at items ends volumes v e all below at =
    let count : length ends ≡ length volumes = sym (length-map ends items) ∙ ap length all ∙ length-map volumes (λ (u : Volume). ends_of u.placements) in
    ap items at
    ∙ sym (get_or-map items ends v e [] (omega (arith, count, below)))
    ∙ ap (λ (l : List (List ℕ)). slice_index_or l v []) all
    ∙ get_or-map (λ (u : Volume). ends_of u.placements) volumes v _ [] below

-- the last of them is the number of instances
pub count_is : (ps : List Placement) → slice_index (ends_of ps) (length (ends_of ps) - 1) ≡ length (instances_in ps)
count_is ps =
    let whole : take (length ps) (ends_of ps) ≡ ends_of ps = take_all (length ps) (ends_of ps) (omega (arith, length-ends_of ps)) in
    ap (λ (l : List ℕ). slice_index l (length l - 1)) (sym whole) ∙ start_is ps (length ps) (omega arith) ∙ ap (sum_by copies_of) (take_all (length ps) ps (omega arith)) ∙ sym (length-instances_in ps)

pub even_at : (h : Hierarchy) → IsTree h → (v : ℕ) → v < length h.volumes → All IsEven (volume_at h.volumes v).placements
even_at h tree v below =
    let mother = volume_at h.volumes v in
    All-weaker (IsFullIn mother) IsEven (even_in mother) mother.placements (all_full h.volumes (formed h.volumes h tree.formed).filled v _ below)

pub instance_at : (h : Hierarchy) → IsTree h → (v k : ℕ) (i : Instance) → k < length (instances h v) → slice_get (instances h v) k ≡ Some i → IsInstance h i
instance_at h tree v k i below at = subst (IsInstance h) (get_or_from_slice_get (instances h v) k i i at) (tree.placed v k i below)
