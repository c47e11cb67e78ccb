use Rattle.std.proofs.Common.{◌≡◌, ◌+◌, ◌++◌, ◌∷◌, [], arith, add-one, ap, sym, ◌∙◌, subst, take, get_or, vec_len, vec_capacity}
use Rattle.std.proofs.Math.Seq.{take-suc}
use Rattle.gx_walk.specs.Entry.{AreMet}
use Rattle.gx_walk.proofs.Sorted.{met_none, met_nowhere, met_some}
use Rattle.gx_walk.proofs.collect.meet_all.Goals as goal
use Rattle.gx_walk.proofs.collect.meet_all.Goals.{in-Some, in_default}

pub loop-k-init : goal.loop-k-init
loop-k-init g c = record {
  met = subst (AreMet (g.G.Geometry.met_of c.args.geometry.now c.args.mother.now) []) (sym c.clear.ensures.items) (met_nowhere (g.G.Geometry.met_of c.args.geometry.now c.args.mother.now));
  few = omega (arith, c.clear.ensures.len);
  room = c.clear.ensures.capacity;
  tests = omega arith;
}

pub loop-k-preserved : goal.loop-k-preserved
loop-k-preserved g c =
    let met = g.G.Geometry.met_of c.args.geometry.now c.args.mother.now in
    let i = c.loop-k.k-index in
    let ks = take i c.args.offered.now in
    let k = get_or c.args.offered.now i 0 in
    let hits = c.loop-k.hits in
    let inv = c.loop-k.invariant in
    let next : take (i + 1) c.args.offered.now ≡ ks ++ k ∷ [] = ap (λ j. take j c.args.offered.now) (add-one i) ∙ take-suc c.args.offered.now i 0 c.loop-k-test.true in
    elim c.match-meet.branch [
      | in-Some w ↦
          let m = w.in-Some.met in
          let is = sym c.meet.ensures.met ∙ w.in-Some.is in
          record {
            met = subst (λ l. AreMet met l c.match-meet.hits.items) (sym next)
                (subst (AreMet met (ks ++ k ∷ [])) (sym w.push_reserved.ensures.items ∙ sym (ap (λ v. v.items) w.hits-is)) (met_some met ks k hits.items m is (g.met.G.Geometry.meets c.args.geometry.now c.args.mother.now k m is).0 inv.met));
            few = omega (arith, w.push_reserved.ensures.len, ap vec_len w.hits-is, inv.few);
            room = ap vec_capacity w.hits-is ∙ w.push_reserved.ensures.capacity ∙ inv.room;
            tests = omega (arith, c.meet.ensures.tests, inv.tests);
          }
      | in_default w ↦ record {
        met = subst (λ l. AreMet met l c.match-meet.hits.items) (sym next)
            (subst (λ v. AreMet met (ks ++ k ∷ []) v.items) (sym w.hits-is) (met_none met ks k hits.items (sym c.meet.ensures.met ∙ w.in_default.is) inv.met));
        few = omega (arith, ap vec_len w.hits-is, inv.few);
        room = ap vec_capacity w.hits-is ∙ inv.room;
        tests = omega (arith, c.meet.ensures.tests, inv.tests);
      }
    ]
