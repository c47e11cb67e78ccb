use Rattle.std.proofs.Common.{ℕ, arith, rules, List, Vec, Global, vec_capacity, ◌≡◌, ◌+◌, ◌-◌, ◌≤◌, ◌++◌, ◌∷◌, [], length, length-append, take, map, refl, sym, ap, ◌∙◌, subst}
use Rattle.gx_fraction.specs.Fraction.{parameter_of}
use Rattle.gx_path.specs.Path.{max_length}
use Rattle.gx_partition.specs.Walk.{Hit}
use Rattle.gx_walk.specs.declared.met.Frame.{Frame}
use Rattle.gx_walk.specs.declared.met.Met.{Met}
use Rattle.gx_walk.specs.Hits.{Count, cost_of, hit_of, hits_of, least_each, one_each}
use Rattle.gx_walk.specs.Giving.{HaveRoom, between, items_below, rows_of}
use Rattle.gx_walk.proofs.Items.{same-below}
use Rattle.gx_walk.proofs.Pending.{as-many, cost-all, owes-all, owes-next, popped, stopped-before, stopped-within, sum-next, written-last}
use Rattle.gx_walk.proofs.Takes.{known-at, takes-own, takes-within}
use Rattle.gx_walk.proofs.emit.+emit.Goals as goal

pub loop-met-init : goal.loop-met-init
loop-met-init g t c =
    let hits = hits_of (g.G.Geometry.met_of c.args.geometry.now) (g.G.Geometry.count_of c.args.geometry.now) in
    let k = length c.args.levels.now in
    let n = length c.in-Some.deeper.now in
    let frame = c.args.frame.now in
    let mets = c.deref-met-items.result.now in
    let same = ap (map hit_of) c.deref-met-items.ensures.value ∙ c.collect.ensures.hits in
    let level = c.in-Some.ensures.cases.1 in
    let all = λ (count : Count). cost-all hits k n level frame mets same count (parameter_of c.args.span.from) (parameter_of c.args.span.to) in
    record {
      room = refl;
      path = refl;
      start = c.args.span.start;
      items = refl;
      takes = refl;
      faults = refl;
      offers = c.collect.ensures.offers;
      few_tests = λ most other b. omega (arith, c.collect.ensures.few_tests most other b, all most);
      few_reads = λ other most b. omega (arith, c.collect.ensures.few_reads other most b, all most);
      some_tests = omega (arith, c.collect.ensures.some_tests, ap length c.deref-met-items.ensures.value, as-many hits k n level frame mets same, all (one_each hits));
      some_reads = omega (arith, c.collect.ensures.some_reads, all (least_each (g.G.Geometry.least_reads c.args.geometry.now)));
      rows = owes-all hits k n level frame mets same (g.R.Rows.items c.args.rows.now) c.args.row.now.path (parameter_of c.args.span.from) (parameter_of c.args.span.to) (g.R.Rows.held c.args.rows.now);
    }

pub collect-requires-clause-known : goal.collect-requires-clause-known
collect-requires-clause-known g t c = (length c.args.levels.now, c.requires.known)

pub give-requires-clause-takes : goal.give-requires-clause-takes
give-requires-clause-takes g t c =
    let takes = g.R.Rows.takes c.args.rows.now in
    takes-own takes takes (g.G.Geometry.daughter_of c.args.geometry.now) c.args.row.now.path c.args.row.now.path c.args.frame.now.volume c.requires.takes refl refl

pub give-requires-in-loop-met-clause-takes : goal.give-requires-in-loop-met-clause-takes
give-requires-in-loop-met-clause-takes g t c =
    takes-own (g.R.Rows.takes c.args.rows.now) (g.R.Rows.takes c.loop-met.rows) (g.G.Geometry.daughter_of c.args.geometry.now) c.args.row.now.path c.loop-met.row.path c.args.frame.now.volume
    c.requires.takes c.loop-met.invariant.takes c.loop-met.invariant.path

pub give-requires-2-clause-takes : goal.give-requires-2-clause-takes
give-requires-2-clause-takes g t c =
    takes-own (g.R.Rows.takes c.args.rows.now) (g.R.Rows.takes c.loop-met.rows) (g.G.Geometry.daughter_of c.args.geometry.now) c.args.row.now.path c.loop-met.row.path c.args.frame.now.volume
    c.requires.takes c.loop-met.invariant.takes c.loop-met.invariant.path

pub returns-in_err-give-clause-rows : goal.returns-in_err-give-clause-rows
returns-in_err-give-clause-rows g t c =
    let items = g.R.Rows.items c.args.rows.now in
    let hits = hits_of (g.G.Geometry.met_of c.args.geometry.now) (g.G.Geometry.count_of c.args.geometry.now) in
    let n = length c.in-Some.deeper.now in
    let met = c.met-item.result in
    let inv = c.loop-met.invariant in
    let s = parameter_of c.loop-met.at in
    stopped-before items c.args.row.now.path (λ (h : Hit Frame). rows_of hits n h.from h.to h.daughter) (parameter_of c.args.span.to) (g.R.Rows.held c.args.rows.now) (g.R.Rows.held c.loop-met.rows) _ s
    c.deref-met-items.result.now c.loop-met.met-index inv.rows met c.met-item.is c.loop-met-test.true (g.R.Rows.held c.give-in-loop-met.new.rows) c.from_residual.result _ c.from_residual.ensures.0
    (same-below items (g.R.Rows.items c.loop-met.rows) c.args.row.now.path c.loop-met.row.path (between s (parameter_of met.span.from)) inv.items inv.path) c.in_err-give.ensures.rows.front

pub returns-in_err-emit-clause-rows : goal.returns-in_err-emit-clause-rows
returns-in_err-emit-clause-rows g t c =
    let items = g.R.Rows.items c.args.rows.now in
    let path = c.args.row.now.path in
    let hits = hits_of (g.G.Geometry.met_of c.args.geometry.now) (g.G.Geometry.count_of c.args.geometry.now) in
    let n = length c.in-Some.deeper.now in
    let met = c.met-item.result in
    let inv = c.loop-met.invariant in
    let s = parameter_of c.loop-met.at in
    let from = parameter_of met.span.from in
    let to = parameter_of met.span.to in
    let below = path ++ met.ordinal ∷ [] in
    stopped-within items path (λ (h : Hit Frame). rows_of hits n h.from h.to h.daughter) (parameter_of c.args.span.to) (g.R.Rows.held c.args.rows.now) (g.R.Rows.held c.loop-met.rows) _ s
    c.deref-met-items.result.now c.loop-met.met-index inv.rows met c.met-item.is c.loop-met-test.true
    (g.R.Rows.held c.give-in-loop-met.new.rows) _ (same-below items (g.R.Rows.items c.loop-met.rows) path c.loop-met.row.path (between s from) inv.items inv.path) c.in_ok-give.ensures.rows.all
    (g.R.Rows.held c.emit.new.rows) c.from_residual-in_err-emit.result _ c.from_residual-in_err-emit.ensures.0
    (
    same-below items (g.R.Rows.items c.give-in-loop-met.new.rows) below c.push.new.self (rows_of hits (length c.loop-met.deeper) from to met.frame) (c.in_ok-give.ensures.same_items ∙ inv.items) (c.push.ensures ∙ ap (λ p. p ++ met.ordinal ∷ []) (c.in_ok-give.ensures.path ∙ inv.path))
    ∙ ap (λ j. items_below items below (rows_of hits j from to met.frame)) c.loop-met.auto.deeper
    ) c.in_err-emit.ensures.rows.front

pub loop-met-preserved : goal.loop-met-preserved
loop-met-preserved g t c =
    let items = g.R.Rows.items c.args.rows.now in
    let path = c.args.row.now.path in
    let hits = hits_of (g.G.Geometry.met_of c.args.geometry.now) (g.G.Geometry.count_of c.args.geometry.now) in
    let n = length c.in-Some.deeper.now in
    let mets = c.deref-met-items.result.now in
    let i = c.loop-met.met-index in
    let met = c.met-item.result in
    let inv = c.loop-met.invariant in
    let s = parameter_of c.loop-met.at in
    let from = parameter_of met.span.from in
    let to = parameter_of met.span.to in
    let below = path ++ met.ordinal ∷ [] in
    let pushed = c.push.ensures ∙ ap (λ p. p ++ met.ordinal ∷ []) (c.in_ok-give.ensures.path ∙ inv.path) in
    let kept = c.in_ok-give.ensures.same_items ∙ inv.items in
    let deep = c.loop-met.auto.deeper in
    let next = λ (count : Count). sum-next (λ (h : Hit Frame). cost_of count hits n h.from h.to h.daughter) mets i met c.met-item.is c.loop-met-test.true in
    let at = λ (count : Count). ap (λ j. cost_of count hits j from to met.frame) deep in
    let least = least_each (g.G.Geometry.least_reads c.args.geometry.now) in
    record {
      room = c.in_ok-emit.ensures.room ∙ inv.room;
      path = c.pop.ensures.rest ∙ ap (λ p. take (length p - 1) p) (c.in_ok-emit.ensures.path ∙ pushed) ∙ popped path met.ordinal;
      start = met.span.end;
      items = c.in_ok-emit.ensures.same_items ∙ kept;
      takes = c.in_ok-emit.ensures.same_takes ∙ c.in_ok-give.ensures.same_takes ∙ inv.takes;
      faults = c.in_ok-emit.ensures.cause.kept ∙ c.in_ok-give.ensures.cause.kept ∙ inv.faults;
      offers = c.in_ok-emit.ensures.offers ∙ inv.offers;
      few_tests = λ most other b. omega (arith, c.in_ok-emit.ensures.few_tests most other b, at most, next most, inv.few_tests most other b);
      few_reads = λ other most b. omega (arith, c.in_ok-emit.ensures.few_reads other most b, at most, next most, inv.few_reads other most b);
      some_tests = omega (arith, c.in_ok-emit.ensures.some_tests, at (one_each hits), next (one_each hits), inv.some_tests);
      some_reads = omega (arith, c.in_ok-emit.ensures.some_reads, at least, next least, inv.some_reads);
      rows = owes-next items path (λ (h : Hit Frame). rows_of hits n h.from h.to h.daughter) (parameter_of c.args.span.to) (g.R.Rows.held c.args.rows.now) (g.R.Rows.held c.loop-met.rows) _ s
          mets i inv.rows met c.met-item.is c.loop-met-test.true
          (g.R.Rows.held c.give-in-loop-met.new.rows) _ (same-below items (g.R.Rows.items c.loop-met.rows) path c.loop-met.row.path (between s from) inv.items inv.path) c.in_ok-give.ensures.rows.all
          (g.R.Rows.held c.emit.new.rows) _
          (
          same-below items (g.R.Rows.items c.give-in-loop-met.new.rows) below c.push.new.self (rows_of hits (length c.loop-met.deeper) from to met.frame) kept pushed
          ∙ ap (λ j. items_below items below (rows_of hits j from to met.frame)) c.loop-met.auto.deeper
          ) c.in_ok-emit.ensures.rows.all;
    }

pub emit-requires : goal.emit-requires
emit-requires g t c κs lives =
    let daughter = g.G.Geometry.daughter_of c.args.geometry.now in
    let path = c.args.row.now.path in
    let frame = c.args.frame.now in
    let met = c.met-item.result in
    let met_of = g.G.Geometry.met_of c.args.geometry.now frame in
    let count = g.G.Geometry.count_of c.args.geometry.now in
    let inv = c.loop-met.invariant in
    let known = known-at met_of c.deref-met-items.result.now c.collect.new.hits.items c.loop-met.met-index met c.collect.ensures.known c.deref-met-items.ensures.value c.met-item.is c.loop-met-test.true in
    let below = subst (λ j. g.G.Geometry.knows c.args.geometry.now j frame c.args.span) (sym c.in-Some.ensures.cases.1) c.requires.known in
    let knows = subst (λ j. g.G.Geometry.knows c.args.geometry.now j met.frame met.span) (sym c.loop-met.auto.deeper) (g.met.G.Geometry.knows_met c.args.geometry.now frame (length c.in-Some.deeper.now) c.args.span met.ordinal met below known) in
    let into = (g.met.G.Geometry.meets c.args.geometry.now frame met.ordinal met known).1 in
    let takes = takes-within (g.R.Rows.takes c.args.rows.now) (g.R.Rows.takes c.give-in-loop-met.new.rows) daughter path c.give-in-loop-met.new.row.path frame.volume c.requires.takes
    (c.in_ok-give.ensures.same_takes ∙ inv.takes) (c.in_ok-give.ensures.path ∙ inv.path) met.ordinal met.frame.volume c.push.new.self into c.push.ensures in
    let offers = λ (v : ℕ). subst (λ r. count v ≤ r) (sym c.loop-met.invariant.offers) (c.requires.offers v) in
    let room = subst (HaveRoom count) (sym inv.room) (subst (λ (levels : List (Vec Met Global)). HaveRoom count (map vec_capacity levels)) c.in-Some.ensures.cases.0 c.requires.room).1 in
    let longer : length c.push.new.self ≡ length path + 1 = ap length (c.push.ensures ∙ ap (λ p. p ++ met.ordinal ∷ []) (c.in_ok-give.ensures.path ∙ inv.path)) ∙ length-append path (met.ordinal ∷ []) in
    let short : length c.push.new.self + length c.loop-met.deeper ≤ max_length = omega (arith, longer, c.loop-met.auto.deeper, c.in-Some.ensures.cases.1, c.requires.path) in
    (search rules, (lives.0, (lives.1.0, (lives.1.1.0, (lives.1.1.1.0, (lives.1.1.1.1, (knows, (offers, (room, (short, takes))))))))))

pub returns-clause-rows : goal.returns-clause-rows
returns-clause-rows g t c =
    let items = g.R.Rows.items c.args.rows.now in
    let hits = hits_of (g.G.Geometry.met_of c.args.geometry.now) (g.G.Geometry.count_of c.args.geometry.now) in
    let n = length c.in-Some.deeper.now in
    let to = parameter_of c.args.span.to in
    let s = parameter_of c.loop-met.at in
    let inv = c.loop-met.invariant in
    written-last items c.args.row.now.path (λ (h : Hit Frame). rows_of hits n h.from h.to h.daughter) to (g.R.Rows.held c.args.rows.now) (g.R.Rows.held c.loop-met.rows) _ s
    c.deref-met-items.result.now c.loop-met.met-index inv.rows c.loop-met-test.false (g.R.Rows.held c.give-2.new.rows) c.give-2.result _
    (same-below items (g.R.Rows.items c.loop-met.rows) c.args.row.now.path c.loop-met.row.path (between s to) inv.items inv.path) c.give-2.ensures.rows

pub returns-in_err-emit-clause-few_tests : goal.returns-in_err-emit-clause-few_tests
returns-in_err-emit-clause-few_tests g t c most other b =
    let hits = hits_of (g.G.Geometry.met_of c.args.geometry.now) (g.G.Geometry.count_of c.args.geometry.now) in
    let n = length c.in-Some.deeper.now in
    let met = c.met-item.result in
    let at = ap (λ j. cost_of most hits j (parameter_of met.span.from) (parameter_of met.span.to) met.frame) c.loop-met.auto.deeper in
    let next = sum-next (λ (h : Hit Frame). cost_of most hits n h.from h.to h.daughter) c.deref-met-items.result.now c.loop-met.met-index met c.met-item.is c.loop-met-test.true in
    omega (arith, c.in_err-emit.ensures.few_tests most other b, at, next, c.loop-met.invariant.few_tests most other b)

pub returns-in_err-emit-clause-few_reads : goal.returns-in_err-emit-clause-few_reads
returns-in_err-emit-clause-few_reads g t c other most b =
    let hits = hits_of (g.G.Geometry.met_of c.args.geometry.now) (g.G.Geometry.count_of c.args.geometry.now) in
    let n = length c.in-Some.deeper.now in
    let met = c.met-item.result in
    let at = ap (λ j. cost_of most hits j (parameter_of met.span.from) (parameter_of met.span.to) met.frame) c.loop-met.auto.deeper in
    let next = sum-next (λ (h : Hit Frame). cost_of most hits n h.from h.to h.daughter) c.deref-met-items.result.now c.loop-met.met-index met c.met-item.is c.loop-met-test.true in
    omega (arith, c.in_err-emit.ensures.few_reads other most b, at, next, c.loop-met.invariant.few_reads other most b)
