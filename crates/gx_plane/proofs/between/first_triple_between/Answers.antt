use Rattle.std.proofs.Common.{ap, sym, ◌∙◌, ◌++◌, find}
use Rattle.std.proofs.lemmas.List.Elements.{All-append}
use Rattle.gx_num.specs.Vector.{IsWithin}
use Rattle.gx_plane.specs.Plane.{reach}
use Rattle.gx_plane.specs.Between.{is_between}
use Rattle.gx_plane.proofs.TripleFacts.{All-triples_of, All-first, planes_of, found_here, none_here}
use Rattle.gx_plane.proofs.between.first_triple_between.Goals as goal

pub loop-p-init : goal.loop-p-init
loop-p-init c =
    let a = c.args.a.now in
    let b = c.args.b.now in
    let all = c.into_iter-p-iterator.ensures.into_iter_gives ∙ c.new-p-items.ensures in
    record {
      first = ap (λ ts. find (is_between a b) (planes_of ts)) all;
      within = rw all (All-triples_of (IsWithin reach) (a ++ b) (All-append (IsWithin reach) a b c.requires.within c.requires.others_within));
    }

pub first_of_three-requires : goal.first_of_three-requires
first_of_three-requires c =
    let points = All-first (IsWithin reach) _ _ _ _ _ c.in-Some.ensures.steps c.loop-p.invariant.within in
    record {
      first = points.0;
      second = points.1;
      third = points.2;
      within = c.requires.within;
      others_within = c.requires.others_within;
    }

pub returns-in-Some-first_of_three : goal.returns-in-Some-first_of_three
returns-in-Some-first_of_three c =
    found_here (is_between c.args.a.now c.args.b.now) c.in-Some.p c.in-Some.q c.in-Some.r _ _ _ c.in-Some.ensures.steps
    (sym c.in-Some-first_of_three.is ∙ c.first_of_three.ensures)
    ∙ c.loop-p.invariant.first

pub loop-p-preserved : goal.loop-p-preserved
loop-p-preserved c = record {
  first = none_here (is_between c.args.a.now c.args.b.now) c.in-Some.p c.in-Some.q c.in-Some.r _ _ c.in-Some.ensures.steps
      (sym c.in_default.is ∙ c.first_of_three.ensures)
      ∙ c.loop-p.invariant.first;
  within = (All-first (IsWithin reach) _ _ _ _ _ c.in-Some.ensures.steps c.loop-p.invariant.within).3;
}
