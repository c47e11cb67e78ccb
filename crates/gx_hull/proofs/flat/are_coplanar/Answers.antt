use Rattle.std.proofs.Common.{◌≡◌, ap, sym, ◌∙◌}
use Rattle.std.specs.List.{list_all}
use Rattle.std.proofs.lemmas.List.{append-nil}
use Rattle.gx_num.specs.Vector.{IsWithin}
use Rattle.gx_plane.specs.Plane.{reach}
use Rattle.gx_plane.specs.Between.{triples_of}
use Rattle.gx_plane.proofs.TripleFacts.{All-triples_of, All-first}
use Rattle.gx_convex.specs.Points.{is_coplanar}
use Rattle.gx_hull.proofs.Loops.{list_all-hit, list_all-miss}
use Rattle.gx_hull.proofs.flat.are_coplanar.Goals as goal

pub loop-a-init : goal.loop-a-init
loop-a-init c =
    let points = c.args.points.now in
    let all : c.into_iter-a-iterator.result ≡ triples_of points = c.into_iter-a-iterator.ensures.into_iter_gives ∙ c.new-a-items.ensures ∙ ap triples_of (append-nil points) in
    record {
      rest = ap (list_all (λ t. list_all (is_coplanar t.0 t.1 t.2) points)) all;
      within = rw all (All-triples_of (IsWithin reach) points c.requires);
    }

pub are_with-requires-clause-first : goal.are_with-requires-clause-first
are_with-requires-clause-first c = (All-first (IsWithin reach) _ _ _ _ _ c.in-Some.ensures.steps c.loop-a.invariant.within).0

pub are_with-requires-clause-second : goal.are_with-requires-clause-second
are_with-requires-clause-second c = (All-first (IsWithin reach) _ _ _ _ _ c.in-Some.ensures.steps c.loop-a.invariant.within).1

pub are_with-requires-clause-third : goal.are_with-requires-clause-third
are_with-requires-clause-third c = (All-first (IsWithin reach) _ _ _ _ _ c.in-Some.ensures.steps c.loop-a.invariant.within).2

pub loop-a-preserved : goal.loop-a-preserved
loop-a-preserved c = record {
  rest = list_all-hit (λ t. list_all (is_coplanar t.0 t.1 t.2) c.args.points.now) _ _ _ c.in-Some.ensures.steps (sym c.are_with.ensures ∙ c.if-not-are_with.false)
      ∙ c.loop-a.invariant.rest;
  within = (All-first (IsWithin reach) _ _ _ _ _ c.in-Some.ensures.steps c.loop-a.invariant.within).3;
}

pub returns-then-not-are_with : goal.returns-then-not-are_with
returns-then-not-are_with c =
    list_all-miss (λ t. list_all (is_coplanar t.0 t.1 t.2) c.args.points.now) _ _ _ c.in-Some.ensures.steps (sym c.are_with.ensures ∙ c.if-not-are_with.true)
    ∙ c.loop-a.invariant.rest
