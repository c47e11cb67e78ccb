use Rattle.std.proofs.Common.{◌≡◌, ◌∙◌, ◌≤◌, ◌^◌, ℤ, ◌∷◌, [], List, length, slice_get, unsigned_abs, Some, All, map, to_z, of_z, sym, ap, subst, arith}
use Rattle.std.specs.Int.{w64}
use Rattle.std.specs.List.{range_with_len}
use Rattle.std.specs.Option.{ForSome}
use Rattle.std.proofs.lemmas.Int.{to_z-of_z, fits_signed_from_abs}
use Rattle.std.proofs.lemmas.Option.{slice_get-get_or}
use Rattle.gx_num.specs.declared.extent.Extent.{Extent}
use Rattle.gx_tree.specs.declared.placement.Placement.{Placement}
use Rattle.gx_tree.specs.declared.placement.Placement.TheVariants.{Replica}
use Rattle.gx_tree.specs.Hierarchy.{volume_at}
use Rattle.gx_voxel.specs.Cut.{coordinate}
use Rattle.gx_boxes.specs.Boxes.{IsProper}
use Rattle.gx_voxel.specs.Members.{extent_at}
use Rattle.gx_voxel.specs.Proxy.{StandsFor}
use Rattle.gx_sealed.specs.declared.placed.Daughter.{Daughter}
use Rattle.gx_sealed.specs.Cells.{AreReplicas, extents_in}
use Rattle.gx_sealed.proofs.Copies.{none_replica, replicas, some_daughter, near_width, lowest_is}
use Rattle.gx_sealed.proofs.Extents.{extents_of_daughters, length-extents_in, all_proper, proper_in}
use Rattle.gx_sealed.proofs.Tables.{length-daughters_of}
use Rattle.gx_sealed.proofs.cells.cells_of.Goals as goal
use Rattle.gx_sealed.proofs.cells.cells_of.Goals.{In-Some, After-deref}

-- ---- a replica
at : (c : In-Some) → let r = c.in-Some.field-0 in slice_get (volume_at c.args.tree.now.volumes c.args.v).placements 0 ≡ Some (Replica r.volume r.axis r.count r.width)
at c = ap (λ (ps : List Placement). slice_get ps 0) (sym c.placements.ensures.value) ∙ c.in-Some.ensures

pub lowest-requires : goal.lowest-requires
lowest-requires c =
    let r = c.in-Some.field-0 in
    let h = c.args.tree.now in
    omega (arith, ap length c.requires.daughters, length-daughters_of h c.args.v, some_daughter h c.placements.ensures.tree c.args.v c.requires.volume r.volume r.axis r.count r.width (at (goal.at.lowest-requires c).In-Some))

bits : (z : ℤ) → unsigned_abs z ≤ 2 ^ 62 → z ≡ to_z w64 (of_z w64 z)
bits z near = sym (to_z-of_z w64 z (fits_signed_from_abs w64 z (omega (arith, near))))

pub returns-in-Some : goal.returns-in-Some
returns-in-Some c =
    let r = c.in-Some.field-0 in
    let h = c.args.tree.now in
    let v = c.args.v in
    let tree = c.placements.ensures.tree in
    let first = at (goal.at.returns-in-Some c).In-Some in
    let low = lowest_is h tree v c.requires.volume r.volume r.axis r.count r.width first c.lowest.result (subst (λ (l : List Daughter). ForSome (slice_get l 0) (λ d. c.lowest.result ≡ coordinate r.axis d.extent.low)) c.requires.daughters c.lowest.ensures) in
    let is = subst (λ z. AreReplicas h v r.axis z r.width r.count) (sym low) (replicas h tree v c.requires.volume r.volume r.axis r.count r.width first) in
    let near = near_width h tree v c.requires.volume r.volume r.axis r.count r.width first in
    subst (λ z. AreReplicas h v r.axis z (to_z w64 (of_z w64 r.width)) r.count) (bits c.lowest.result (omega (arith, is.from))) (subst (λ z. AreReplicas h v r.axis c.lowest.result z r.count) (bits r.width (omega (arith, near))) is)

-- ---- a tree
extents_are : (c : After-deref) → c.deref.result.now ≡ extents_in c.args.tree.now c.args.v
extents_are c = c.deref.ensures.value ∙ c.in_ok-extents-in-None.ensures ∙ ap (map (λ (d : Daughter). d.extent)) c.requires.daughters ∙ extents_of_daughters c.args.tree.now c.args.v

pub build-requires-clause-few : goal.build-requires-clause-few
build-requires-clause-few c =
    omega (arith, ap length (extents_are (goal.at.build-requires-clause-few c).After-deref), length-extents_in c.args.tree.now c.args.v, c.instances.ensures.value, c.instances.ensures.few)

pub build-requires-clause-proper : goal.build-requires-clause-proper
build-requires-clause-proper c = subst (All IsProper) (sym (extents_are (goal.at.build-requires-clause-proper c).After-deref)) (all_proper c.args.tree.now c.placements.ensures.tree c.args.v)

pub returns-in_ok-build-in-None : goal.returns-in_ok-build-in-None
returns-in_ok-build-in-None c =
    let h = c.args.tree.now in
    let v = c.args.v in
    let p = c.in_ok-build-in-None.field-0 in
    let ps = (volume_at h.volumes v).placements in
    record {
      single = none_replica h c.placements.ensures.tree v c.requires.volume (λ d some. c.in-None.ensures _ (ap (λ (qs : List Placement). slice_get qs 0) c.placements.ensures.value ∙ slice_get-get_or ps 0 d some));
      stands =
          subst (λ n. StandsFor (extent_at (extents_in h v)) p (range_with_len 0 n) (0 ∷ 1 ∷ 2 ∷ [])) (length-extents_in h v)
          (subst (λ (l : List Extent). StandsFor (extent_at l) p (range_with_len 0 (length l)) (0 ∷ 1 ∷ 2 ∷ [])) (extents_are (goal.at.returns-in_ok-build-in-None c).After-deref) c.in_ok-build-in-None.ensures);
      proper = proper_in h c.placements.ensures.tree v;
    }
