use Rattle.std.proofs.Common.{[], ◌∷◌, sym, ◌∙◌}
use Rattle.std.proofs.lemmas.Result.{err_from_is_err_and}
use Rattle.gx_check.specs.Verdicts.{pair_verdict, chosen}
use Rattle.gx_check.proofs.Giving.{given_none, given_nothing}
use Rattle.gx_check.proofs.Judged.{overlap_is, apart_is, parted_from, parted_given, parted_counted}
use Rattle.gx_check.proofs.check.check_pair.Goals as goal

pub returns-in_err-points-clause-gives : goal.returns-in_err-points-clause-gives
returns-in_err-points-clause-gives g c =
    let p = err_from_is_err_and c.from_residual.result c.from_residual.ensures.1 in
    rw (p.1, p.2) (given_nothing c.args.out.now (chosen c.args.selection (pair_verdict c.args.mother c.args.daughters.now c.args.first c.args.second ∷ [])))

-- ---- points were found
pub give-requires : goal.give-requires
give-requires g c =
    let is = overlap_is c.args.mother c.args.daughters.now c.args.first c.args.second c.hull-a.result.now c.hull-b.result.now c.hull-a.ensures c.hull-b.ensures c.in-Some.points (rw c.in-Some.is at c.in_ok-points.ensures.value) (rw c.in-Some.is at c.in_ok-points.ensures.apart) in
    rw (← is) c.requires.takes

pub returns-in-Some : goal.returns-in-Some
returns-in-Some g c =
    let is = overlap_is c.args.mother c.args.daughters.now c.args.first c.args.second c.hull-a.result.now c.hull-b.result.now c.hull-a.ensures c.hull-b.ensures c.in-Some.points (rw c.in-Some.is at c.in_ok-points.ensures.value) (rw c.in-Some.is at c.in_ok-points.ensures.apart) in
    record { gives = rw is c.give.ensures.gives; counts = rw is c.give.ensures.counts }

-- ---- none were found, and no plane is looked for
pub returns-then-is_refuting : goal.returns-then-is_refuting
returns-then-is_refuting g c =
    let x = pair_verdict c.args.mother c.args.daughters.now c.args.first c.args.second in
    let parted = parted_from c.args.mother c.args.daughters.now c.args.first c.args.second c.hull-a.result.now c.hull-b.result.now c.hull-a.ensures c.hull-b.ensures (sym (rw c.in_default.is at c.in_ok-points.ensures.apart)) in
    record {
      gives = given_none c.pair.result c.args.selection x c.args.out.now (rw (c.is_refuting.ensures c.if-is_refuting.true) (parted_given c.args.mother c.args.daughters.now c.args.first c.args.second parted));
      counts = c.pair.ensures ∙ sym (parted_counted c.args.mother c.args.daughters.now c.args.first c.args.second parted);
    }

-- ---- the plane
pub give-requires-2 : goal.give-requires-2
give-requires-2 g c =
    let is = apart_is c.args.mother c.args.daughters.now c.args.first c.args.second c.hull-a.result.now c.hull-b.result.now c.hull-a.ensures c.hull-b.ensures c.unwrap.result (sym c.plane_between.ensures ∙ c.unwrap.ensures) in
    rw (← is) c.requires.takes

pub returns : goal.returns
returns g c =
    let is = apart_is c.args.mother c.args.daughters.now c.args.first c.args.second c.hull-a.result.now c.hull-b.result.now c.hull-a.ensures c.hull-b.ensures c.unwrap.result (sym c.plane_between.ensures ∙ c.unwrap.ensures) in
    record { gives = rw is c.give-2.ensures.gives; counts = rw is c.give-2.ensures.counts }
