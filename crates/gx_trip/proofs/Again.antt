-- The canonical text of an input that was read, read again.
use Rattle.std.proofs.Common.{◌≡◌, ℕ, ◌+◌, ◌≤◌, refl, ◌∙◌, ap, arith, List, [], ◌∷◌, ◌++◌, length, append_assoc, append-nil, map, Result, Ok}
use Rattle.std.specs.Prelude.{nat_lt}
use Rattle.std.specs.List.{range_with_len}
use Rattle.std.proofs.lemmas.Bool.{le-ltb, cond-false}
use Rattle.std.proofs.lemmas.List.Elements.{filter_map-append}
use Rattle.std.proofs.lemmas.List.FromFn.{length-range_with_len}
use Rattle.std.proofs.lemmas.List.Sums.{length-filter, count_by-le-length}
use Rattle.gx_num.specs.declared.ray.Ray.{Ray}
use Rattle.gx_form.specs.First.{◌>>=◌}
use Rattle.gx_text.specs.Lines.{cut}
use Rattle.gx_tree.specs.Volume.{Volume}
use Rattle.gx_tree.specs.Hierarchy.{Hierarchy}
use Rattle.gx_tree.specs.Fault.{IsTree}
use Rattle.gx_decl.specs.declared.declaration.Declaration.TheVariants as line
use Rattle.gx_gather.specs.declared.fault.TextFault.{TextFault}
use Rattle.gx_gather.specs.declared.item.Item.{Item}
use Rattle.gx_gather.specs.declared.rays.TheConstants.{MAX_RAYS}
use Rattle.gx_gather.specs.Items.{name_of, volume_names, placement_count}
use Rattle.gx_gather.specs.Declarations.{Declarations, nothing_declared}
use Rattle.gx_link.specs.declared.input.Input.{Input}
use Rattle.gx_link.specs.declared.link.LinkedPlacement.{LinkedPlacement}
use Rattle.gx_link.specs.Links.{Links, links_of, known_of}
use Rattle.gx_link.specs.Text.{tree_of, input_of}
use Rattle.gx_canon.specs.Canonical.{is_used, turns, volume_declared, placements, declarations_of, canonical, millimetre}
use Rattle.gx_canon.specs.Laws.{DeclarationsBack, TextBack, RotationsBack}
use Rattle.gx_reader.specs.declared.reader.TheConstants.{MAX_TEXT}
use Rattle.gx_reader.specs.Reading.{input_from, text_lines, reading}
use Rattle.gx_trip.proofs.Names.{AreNew}
use Rattle.gx_trip.proofs.Crowd.{none_crowded}
use Rattle.gx_trip.proofs.ReadInput.{volume_names_of, IsReadInput}
use Rattle.gx_trip.proofs.Gathers.{gathered, text_gathered, turns_new, state, turns_gathered, volume_items, volumes_gathered, lines_of, item_of, after, placements_gathered, rays_gathered}
use Rattle.gx_trip.proofs.Resolved.{volume_lines, links, volumes_linked, names-volume_items, names-items, turn_numbers, turns_named, placements_linked, in_mothers, placements_at, volumes_back, lines_uncrowded, few_lines}

no_placements : (number : ℕ) (vs : List Volume) → placement_count (volume_items number vs) ≡ 0
no_placements number [] = refl
no_placements number (v ∷ vs) = no_placements (number + 1) vs

few_turns : (volumes : List Volume) → length (turn_numbers volumes) ≤ 24
few_turns volumes = omega (arith, length-filter (is_used volumes) (range_with_len 0 24), count_by-le-length (is_used volumes) (range_with_len 0 24), length-range_with_len 0 24)

module _ (rotations : RotationsBack) (h : Hierarchy) (rays : List Ray) (tree : IsTree h) (named : AreNew [] (volume_names_of h.volumes)) where
  abbrev volumes : List Volume
  volumes = h.volumes

  -- the number of the first volume's line, and that of the first placement's
  abbrev first : ℕ
  first = 1 + length (turn_numbers volumes)

  abbrev second : ℕ
  second = first + length volumes

  abbrev lines : List LinkedPlacement
  lines = lines_of second 0 volumes

  abbrev items : List Item
  items = volume_items first volumes ++ map (item_of volumes) lines

  abbrev declared : Declarations
  declared = state (turns_named volumes) items rays

  all_gathered : length rays ≤ MAX_RAYS → gathered nothing_declared 1 (declarations_of h rays) ≡ Ok declared
  all_gathered few =
      let traces = map line.Trace rays in
      let others = placements volumes ++ traces in
      let split = append_assoc (turns volumes ++ map volume_declared volumes) (placements volumes) traces ∙ append_assoc (turns volumes) (map volume_declared volumes) others in
      ap (gathered nothing_declared 1) split
      ∙ turns_gathered [] [] (map volume_declared volumes ++ others) (turn_numbers volumes) [] [] 1 (turns_new rotations volumes) (omega (arith, few_turns volumes))
      ∙ volumes_gathered (turns_named volumes) [] others volumes [] first named (omega (arith, tree.limits.few))
      ∙ placements_gathered (turns_named volumes) [] volumes traces volumes [] (volume_items first volumes) second 0 refl refl (omega (arith, no_placements first volumes, few_lines (length volumes) volumes tree.limits.placeable, tree.limits.all))
      ∙ rays_gathered (turns_named volumes) items rays [] (after (turns_named volumes) [] volumes second volumes) (omega (arith, few))

  names : volume_names items ≡ volume_names_of volumes
  names =
      filter_map-append name_of (volume_items first volumes) (map (item_of volumes) lines)
      ∙ (λ i. names-volume_items first volumes i ++ names-items volumes lines i)
      ∙ append-nil (volume_names_of volumes)

  all_linked : links_of declared ≡ Ok (links (volume_lines first volumes) lines)
  all_linked =
      volumes_linked (known_of declared) (map (item_of volumes) lines) [] volumes [] first
      ∙ placements_linked volumes (known_of declared) refl names (turns_new rotations volumes) named (volume_lines first volumes) lines []
      (in_mothers volumes second 0 volumes (omega arith) tree.limits.placeable (rotations.named h tree))

  tree_again : tree_of (links (volume_lines first volumes) lines) ≡ Ok h
  tree_again =
      let free = none_crowded [] lines (lines_uncrowded volumes second tree.limits) in
      let own = volumes_back lines volumes 0 first (placements_at volumes 0 second) in
      rw (free, own, tree.formed) refl

  input_again : input_of declared ≡ Ok (record { tree = h; rays = rays })
  input_again =
      let made : Hierarchy → Result Input TextFault = λ tree. Ok (record { tree = tree; rays = rays }) in
      ap (λ (r : Result Links TextFault). r >>= (λ links. tree_of links >>= made)) all_linked ∙ ap (λ (r : Result Hierarchy TextFault). r >>= made) tree_again

pub read_again : DeclarationsBack → TextBack → RotationsBack → (input : Input) → IsReadInput input → length (canonical input.tree input.rays) ≤ MAX_TEXT → reading millimetre (canonical input.tree input.rays) ≡ Ok input
read_again declarations text rotations input is short =
    let h = input.tree in
    let rays = input.rays in
    let printed = canonical h rays in
    let back = declarations h rays is.tree is.printable is.traceable in
    let same = text 1 h rays is.tree is.printable is.traceable in
    cond-false (nat_lt MAX_TEXT (length printed)) _ (input_from (text_lines millimetre printed)) (le-ltb MAX_TEXT (length printed) short)
    ∙ ap input_from (text_gathered nothing_declared 1 (declarations_of h rays) (cut printed) back same ∙ all_gathered rotations h rays is.tree is.named is.few_rays)
    ∙ input_again rotations h rays is.tree is.named
