use Rattle.std.proofs.Common.{◌∙◌, arith}
use Rattle.std.proofs.lemmas.List.Elements.{All-rest}
use Rattle.gx_num.specs.Vector.{IsWithin}
use Rattle.gx_plane.specs.Plane.{reach, flipped}
use Rattle.gx_plane.proofs.Determinants.{flipped-before, flipped-beyond, none_before, left_to_others, refuted_here}
use Rattle.gx_plane.proofs.raw_plane.RawPlane.senses.Goals as goal
use borrow.Author.Differences.{ints}

pub has_none_before-requires : goal.has_none_before-requires
has_none_before-requires c = All-rest (IsWithin reach) _ _ _ c.in-Some.ensures.cases.0 c.points.invariant.within

pub has_none_beyond-requires : goal.has_none_beyond-requires
has_none_beyond-requires c = All-rest (IsWithin reach) _ _ _ c.in-Some.ensures.cases.0 c.points.invariant.within

pub returns-then-side-gt0-clause-forward : goal.returns-then-side-gt0-clause-forward
returns-then-side-gt0-clause-forward c =
    refuted_here c.args.self _ _ _ _ c.in-Some.ensures.cases.0 c.points.invariant.forward (omega (arith, ints, c.if-side-gt0.true, c.side-side.ensures.value))

pub returns-then-side-gt0-clause-backward : goal.returns-then-side-gt0-clause-backward
returns-then-side-gt0-clause-backward c =
    c.has_none_before.ensures ∙ none_before c.args.self c.in-Some.others.now
    ∙ left_to_others (flipped c.args.self) _ _ _ _ c.in-Some.ensures.cases.0 c.points.invariant.backward
    (flipped-before c.args.self c.in-Some.field-0-0.now _ c.side-side.ensures.value (omega (arith, ints, c.if-side-gt0.true)))

pub returns-then-side-lt0-clause-forward : goal.returns-then-side-lt0-clause-forward
returns-then-side-lt0-clause-forward c =
    c.has_none_beyond.ensures
    ∙ left_to_others c.args.self _ _ _ _ c.in-Some.ensures.cases.0 c.points.invariant.forward (omega (arith, ints, c.if-side-lt0.true, c.side-side.ensures.value))

pub returns-then-side-lt0-clause-backward : goal.returns-then-side-lt0-clause-backward
returns-then-side-lt0-clause-backward c =
    refuted_here (flipped c.args.self) _ _ _ _ c.in-Some.ensures.cases.0 c.points.invariant.backward
    (flipped-beyond c.args.self c.in-Some.field-0-0.now _ c.side-side.ensures.value (omega (arith, ints, c.if-side-lt0.true)))

pub points-preserved : goal.points-preserved
points-preserved c = record {
  within = All-rest (IsWithin reach) _ _ _ c.in-Some.ensures.cases.0 c.points.invariant.within;
  forward = left_to_others c.args.self _ _ _ _ c.in-Some.ensures.cases.0 c.points.invariant.forward (omega (arith, ints, c.if-side-gt0.false, c.side-side.ensures.value));
  backward = left_to_others (flipped c.args.self) _ _ _ _ c.in-Some.ensures.cases.0 c.points.invariant.backward
      (flipped-before c.args.self c.in-Some.field-0-0.now _ c.side-side.ensures.value (omega (arith, ints, c.if-side-lt0.false)));
}
