use Rattle.std.proofs.Common.{◌≤◌, [], ◌∷◌, arith, sym, subst, length}
use Rattle.std.specs.List.{All, range_with_len}
use Rattle.gx_boxes.specs.Boxes.{IsProper}
use Rattle.gx_voxel.specs.Members.{extent_at}
use Rattle.gx_voxel.proofs.Standing.{header-runs}
use Rattle.gx_refine.proofs.Parts.{known-proper}
use Rattle.gx_refine.proofs.Trees.{all-known}
use Rattle.gx_refine.proofs.tests.built.Goals as goal

pub numbers_of-requires : goal.numbers_of-requires
numbers_of-requires g c = λ h is.
    let extents = c.deref.result.now in
    let proper : All IsProper extents = subst (All IsProper) (sym c.deref.ensures.value) c.in_ok-extents.ensures.proper in
    let few : length extents ≤ 4096 = omega (arith, c.deref.ensures.len, c.in_ok-extents.ensures.few) in
    let runs = header-runs (extent_at extents) 3 c.in_ok-proxy.proxy (range_with_len 0 (length extents)) (0 ∷ 1 ∷ 2 ∷ []) h
    (known-proper extents (range_with_len 0 (length extents)) (all-known extents few proper)) c.in_ok-proxy.ensures is in
    runs.few
