use Rattle.std.proofs.Common.{◌≡◌, inl, inr, length, sym, ◌∙◌, ap, arith, true≢false}
use Rattle.std.proofs.lemmas.Bool.{cases_lt}
use Rattle.gx_tree.specs.Marks.{is_marked}
use Rattle.gx_tree.proofs.Search.{first_more, visit_more, visit_done, reached_is}
use Rattle.gx_tree.proofs.chains.reached.Goals as goal
use Rattle.gx_tree.proofs.chains.reached.Goals.{then-marked+in_ok-find, else-marked}

pub loop-v-preserved : goal.loop-v-preserved
loop-v-preserved c =
    let volumes = c.args.volumes.now in
    let first = c.args.marks.now in
    let old = c.loop-v.invariant in
    elim c.if-marked.branch [
      | then-marked+in_ok-find w ↦
          let marks = ap (λ d. d.items) w.reached-is ∙ w.in_ok-find.ensures.marks in
          let found = ap (λ d. d.items) w.found-is ∙ w.in_ok-find.ensures.found in
          let (search, all) = first_more volumes first c.loop-v.reached.items c.loop-v.found.items c.loop-v.v c.requires.count c.loop-v-test.true old.search old.first w.if-marked.true in
          record { search = rw (marks, found) search; first = rw marks all }
      | else-marked w ↦
          let marks = ap (λ d. d.items) w.reached-is in
          let found = ap (λ d. d.items) w.found-is in
          record {
            search = rw (marks, found) old.search;
            first = λ u less e. rw marks (elim (cases_lt u c.loop-v.v) [
              | inl earlier ↦ old.first u earlier e
              | inr now ↦ let same : u ≡ c.loop-v.v = omega arith in absurd (true≢false (sym e ∙ ap (is_marked first) same ∙ w.if-marked.false))
            ]);
          }
    ]

pub loop-placement-preserved : goal.loop-placement-preserved
loop-placement-preserved c =
    let one = visit_more _ c.requires.range _ _ _ _ _ _ c.loop-placement.invariant c.placement-item.result c.loop-placement-test.true c.placement-item.is in
    rw (c.in_ok-find-2.ensures.marks, c.in_ok-find-2.ensures.found, c.volume.ensures) one

pub loop-next-preserved : goal.loop-next-preserved
loop-next-preserved c =
    let visit = c.loop-placement.invariant in
    record {
      search = visit.search;
      still = visit.still;
      closed = visit_done _ c.requires.range _ _ _ _ _ _ visit c.loop-placement-test.false;
      bounded = omega (arith, visit.here);
    }

pub returns-clause-reached : goal.returns-clause-reached
returns-clause-reached c =
    let done = c.loop-next.invariant in
    let all : c.loop-next.next ≡ length c.loop-next.found.items = omega (arith, done.bounded) in
    reached_is c.args.volumes.now c.args.marks.now c.loop-next.reached.items c.loop-next.found.items done.search done.still (rw (← all) done.closed)
