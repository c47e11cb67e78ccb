-- What is known of the input that a text declares.
use Rattle.std.proofs.Common.{◌≡◌, ℕ, ◌+◌, ◌≤◌, refl, sym, ◌∙◌, ap, subst, arith, List, [], ◌∷◌, length, map, All, Option, None, Some, Result, Ok, Err}
use Rattle.std.specs.Prelude.{nat_lt}
use Rattle.std.proofs.lemmas.List.{length-map}
use Rattle.std.proofs.lemmas.List.Elements.{All-nil, All-weaker}
use Rattle.gx_fraction.specs.Fraction.{Fraction}
use Rattle.gx_form.specs.First.{◌>>=◌}
use Rattle.gx_text.specs.Lines.{cut}
use Rattle.gx_shapes.specs.Accepted.{IsSolid}
use Rattle.gx_tree.specs.declared.fault.TreeFault.{TreeFault}
use Rattle.gx_tree.specs.declared.placement.Placement.{Placement}
use Rattle.gx_tree.specs.Volume.{Volume, rotation_of}
use Rattle.gx_tree.specs.Hierarchy.{Hierarchy, IsRotation}
use Rattle.gx_tree.specs.Limits.{IsPlaceable, IsWithinLimits}
use Rattle.gx_tree.specs.Fault.{hierarchy_of, IsTree}
use Rattle.gx_tree.proofs.Formed.{formed}
use Rattle.gx_tree.proofs.Tree.{is_tree}
use Rattle.gx_decl.specs.Range.{IsTraceable}
use Rattle.gx_gather.specs.declared.fault.TextFault.{TextFault}
use Rattle.gx_gather.specs.declared.rays.TheConstants.{MAX_RAYS}
use Rattle.gx_gather.specs.Items.{volume_names}
use Rattle.gx_gather.specs.Declarations.{Declarations, nothing_declared}
use Rattle.gx_link.specs.declared.input.Input.{Input}
use Rattle.gx_link.specs.declared.link.LinkedVolume.{LinkedVolume}
use Rattle.gx_link.specs.declared.link.LinkedPlacement.{LinkedPlacement}
use Rattle.gx_link.specs.Crowd.{placements_in, first_crowded}
use Rattle.gx_link.specs.Links.{Links, no_links, links_of, known_of}
use Rattle.gx_link.specs.Text.{volumes_from, unless_crowded, on_tree, tree_of, input_of}
use Rattle.gx_link.proofs.Limits.{each_volume, each_in, within_limits}
use Rattle.gx_canon.specs.Printable.{IsPrintablePlacement, IsPrintableVolume}
use Rattle.gx_canon.specs.Laws.{WordsAreWords, Kept}
use Rattle.gx_reader.specs.declared.reader.TheConstants.{MAX_TEXT}
use Rattle.gx_reader.specs.Reading.{text_lines, input_from, reading}
use Rattle.gx_trip.proofs.Names.{AreNew}
use Rattle.gx_trip.proofs.Steps.{steps, otherwise}
use Rattle.gx_trip.proofs.Declared.{IsFigureKept, IsItemKept, AreKept, lines_kept}
use Rattle.gx_trip.proofs.Linked.{IsVolumeKept, IsPlacedKept, AreLinksKept, names_of, lines_linked}

abbrev pub volume_names_of : List Volume → List (List ℕ)
volume_names_of volumes = map (λ (v : Volume). v.name) volumes

pub record IsReadInput (input : Input) : Type 0 where
  pub tree : IsTree input.tree
  pub printable : All IsPrintableVolume input.tree.volumes
  pub named : AreNew [] (volume_names_of input.tree.volumes)
  pub traceable : All IsTraceable input.rays
  pub few_rays : length input.rays ≤ MAX_RAYS

-- ---- volumes with what is placed in them

names-volumes_from : (ps : List LinkedPlacement) (v : ℕ) (us : List LinkedVolume) → volume_names_of (volumes_from ps v us) ≡ names_of us
names-volumes_from ps v [] = refl
names-volumes_from ps v (u ∷ us) = ap (λ (ns : List (List ℕ)). u.name ∷ ns) (names-volumes_from ps (v + 1) us)

-- ---- the hierarchy

no_crowd : (o : Option ℕ) (done : Unit {0}) → unless_crowded o ≡ Ok done → o ≡ None
no_crowd None done e = refl
no_crowd (Some line) done e = absurd cc

on_tree-ok : (links : Links) (r : Result Hierarchy TreeFault) (h : Hierarchy) → on_tree links r ≡ Ok h → r ≡ Ok h
on_tree-ok links (Ok g) h e = let same : g ≡ h = cc in ap (λ (k : Hierarchy). Ok k) same
on_tree-ok links (Err fault) h e = absurd cc

record IsReadTree (names : List (List ℕ)) (h : Hierarchy) : Type 0 where
  tree : IsTree h
  printable : All IsPrintableVolume h.volumes
  named : volume_names_of h.volumes ≡ names

module _ (links : Links) (names : List (List ℕ)) (few : length names ≤ 4096) (are : AreLinksKept (length names) names links) where
  abbrev volumes : List Volume
  volumes = volumes_from links.placements 0 links.volumes

  long : length names ≡ length links.volumes
  long = sym (ap length are.named) ∙ length-map links.volumes (λ (v : LinkedVolume). v.name)

  limits : first_crowded [] links.placements ≡ None → IsWithinLimits volumes
  limits none =
      within_limits links.placements links.volumes (omega (arith, long))
      (subst (λ n. All (λ (p : LinkedPlacement). IsPlaceable n p.placement) links.placements) long
      (All-weaker (IsPlacedKept (length names)) (λ (p : LinkedPlacement). IsPlaceable (length names) p.placement) (λ p h. h.placeable) links.placements are.placements))
      none

  placed : (P : Placement → Type 0) → ((p : LinkedPlacement) → IsPlacedKept (length names) p → P p.placement) → (m : ℕ) → All P (placements_in m links.placements)
  placed P says m = each_in P links.placements (All-weaker (IsPlacedKept (length names)) (λ (p : LinkedPlacement). P p.placement) says links.placements are.placements) m

  solids : All (λ (v : Volume). IsSolid v.solid) volumes
  solids = each_volume IsVolumeKept (λ (v : Volume). IsSolid v.solid) links.placements (λ u m h. h.figure.solid) 0 links.volumes are.volumes

  turned : All (λ (v : Volume). All (λ p. IsRotation (rotation_of p)) v.placements) volumes
  turned = each_volume IsVolumeKept (λ (v : Volume). All (λ p. IsRotation (rotation_of p)) v.placements) links.placements (λ u m h. placed (λ p. IsRotation (rotation_of p)) (λ p k. k.turned) m) 0 links.volumes are.volumes

  printable : All IsPrintableVolume volumes
  printable =
      each_volume IsVolumeKept IsPrintableVolume links.placements (λ u m h. record { named = h.named; made_of = h.made_of; scales = h.figure.scales; placed = placed IsPrintablePlacement (λ p k. k.printable) m }) 0 links.volumes are.volumes

  read_tree : (h : Hierarchy) → tree_of links ≡ Ok h → IsReadTree names h
  read_tree h e =
      let s = steps (unless_crowded (first_crowded [] links.placements)) (λ _. on_tree links (hierarchy_of volumes)) h e in
      let is = on_tree-ok links (hierarchy_of volumes) h s.rest in
      let same = (formed volumes h is).same in
      record {
        tree = is_tree h.volumes h.world (subst IsWithinLimits same (limits (no_crowd _ s.first s.is))) (subst (λ (vs : List Volume). hierarchy_of vs ≡ Ok h) same is)
            (subst (All (λ (v : Volume). IsSolid v.solid)) same solids) (subst (All (λ (v : Volume). All (λ p. IsRotation (rotation_of p)) v.placements)) same turned);
        printable = subst (All IsPrintableVolume) same printable;
        named = ap volume_names_of (sym same) ∙ names-volumes_from links.placements 0 links.volumes ∙ are.named;
      }

-- ---- the input

nothing_kept : AreKept nothing_declared
nothing_kept = record {
  params = All-nil _;
  solids = All-nil IsFigureKept;
  turns = All-nil IsRotation;
  items = record { each = All-nil IsItemKept; names = tt; few = omega arith };
  rays = record { each = All-nil IsTraceable; few = omega arith };
}

of_declarations : (d : Declarations) (input : Input) → AreKept d → input_of d ≡ Ok input → IsReadInput input
of_declarations d input are e =
    let made : Hierarchy → Result Input TextFault = λ tree. Ok (record { tree = tree; rays = d.rays }) in
    let s = steps (links_of d) (λ (links : Links). tree_of links >>= made) input e in
    let t = steps (tree_of s.first) made input s.rest in
    let names = volume_names d.items in
    let linked = lines_linked (known_of d) are.solids are.turns [] no_links s.first d.items are.items.each (record { named = refl; volumes = All-nil IsVolumeKept; placements = All-nil (IsPlacedKept (length names)) }) s.is in
    let read = read_tree s.first names (omega (arith, are.items.few)) linked t.first t.is in
    let same : record { tree = t.first; rays = d.rays } ≡ input = (let is = t.rest in cc) in
    subst IsReadInput same (record {
      tree = read.tree;
      printable = read.printable;
      named = subst (AreNew []) (sym read.named) are.items.names;
      traceable = are.rays.each;
      few_rays = are.rays.few;
    })

pub read_input : Kept → WordsAreWords → (grid : Fraction) (text : List ℕ) (input : Input) → reading grid text ≡ Ok input → IsReadInput input
read_input kept words grid text input e =
    let read = (otherwise (nat_lt MAX_TEXT (length text)) _ (input_from (text_lines grid text)) input e).1 in
    let s = steps (text_lines grid text) input_of input read in
    of_declarations s.first input (lines_kept kept words grid nothing_declared s.first 1 (cut text) nothing_kept s.is) s.rest
