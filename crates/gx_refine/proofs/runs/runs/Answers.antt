use Rattle.std.proofs.Common.{◌≡◌, sym, ap, ◌∙◌, subst, ◌++◌, ◌∷◌, [], rules, arith, map}
use Rattle.std.specs.List.{range_with_len}
use Rattle.gx_voxel.specs.Cut.{members_in, runs_on, runs_of}
use Rattle.gx_refine.specs.Grown.{AreRunsSoFar}
use Rattle.gx_refine.specs.Known.{AreParts, along}
use Rattle.gx_refine.proofs.Growing.{first-run, next-run, last-run}
use Rattle.gx_refine.proofs.Parts.{known-parts}
use Rattle.gx_refine.proofs.runs.runs.Goals as goal

pub loop-i-init : goal.loop-i-init
loop-i-init c =
    let on = along c.args.extents.now c.args.axis in let ks = c.args.members.now in let grid = c.new-slices.result in (
      subst (AreRunsSoFar grid (members_in on ks grid) 1 c.new-runs.result.items c.part_of_slice-run.result) (ap (λ g. runs_of g (map (members_in on ks g) (range_with_len 0 g.count))) c.new-slices.ensures.value)
          (first-run grid (members_in on ks grid) c.new-slices.ensures.some c.new-runs.result.items c.part_of_slice-run.result c.in_ok-first.first.items c.new-runs.ensures.items c.part_of_slice-run.ensures c.in_ok-first.ensures.value),
      c.in_ok-first.ensures.near,
    )

pub loop-i-preserved : goal.loop-i-preserved
loop-i-preserved c =
    let on = along c.args.extents.now c.args.axis in let ks = c.args.members.now in let grid = c.new-slices.result in (
      next-run grid (members_in on ks grid) c.loop-i.i c.loop-i.runs.items c.loop-i.run (runs_on on ks) c.add_slice.new.ended.items c.add_slice.new.run c.in_ok-next.next.items
          (omega (arith, c.loop-i-test.true)) c.loop-i.invariant.0 c.in_ok-add_slice.ensures.ended c.in_ok-add_slice.ensures.run c.in_ok-next.ensures.value,
      c.in_ok-next.ensures.near,
    )

pub returns-clause-parts : goal.returns-clause-parts
returns-clause-parts c =
    let on = along c.args.extents.now c.args.axis in let ks = c.args.members.now in let grid = c.new-slices.result in
    let pushed : c.push.new.self.items ≡ c.loop-i.runs.items ++ c.loop-i.run ∷ [] = search rules in
    let all = last-run grid (members_in on ks grid) c.loop-i.i c.loop-i.runs.items c.loop-i.run (runs_on on ks) (omega (arith, c.loop-i-test.false)) c.loop-i.invariant.0 in
    subst (AreParts c.args.extents.now) (sym (pushed ∙ all)) (known-parts c.args.extents.now c.args.axis ks c.requires.known c.requires.some)
