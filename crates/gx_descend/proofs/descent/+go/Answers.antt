use Rattle.std.proofs.Common.{◌≡◌, ◌<◌, ◌-◌, true, false, inl, inr, sym, subst, ap, ◌∙◌, arith}
use Rattle.gx_voxel.specs.Proxy.{content_of}
use Rattle.gx_voxel.specs.declared.proxy.Proxy as proxy
use Rattle.gx_voxel.specs.Cut.{coordinate}
use Rattle.gx_along.specs.Along.{is_entered_at, index_of, left_of}
use Rattle.gx_along.specs.Line.{time, IsStretch}
use Rattle.gx_descend.specs.Crossed.{StandsWithinSome}
use Rattle.gx_descend.proofs.Gone.{node-descends}
use Rattle.gx_descend.proofs.Going.{node-below, node-room, not-last, sound, small, entered-is, part-is, every-more, part-stretch, more-seen, crossed}
use Rattle.gx_descend.proofs.descent.+go.Goals as goal

pub offer-requires-clause-room : goal.offer-requires-clause-room
unfolding proxy.out-Proxy denote.Hole.Carrier.out
offer-requires-clause-room g t c = node-below c.args.n c.args.offers.now.room c.args.proxy.now c.in-Node.members c.requires.some (ap content_of c.in-Node.is)

pub returns-then-n-eq0-clause-descends : goal.returns-then-n-eq0-clause-descends
unfolding proxy.out-Proxy denote.Hole.Carrier.out
returns-then-n-eq0-clause-descends g t c = absurd (not-last c.args.n c.args.offers.now.room c.args.proxy.now c.in-Refined.boxed.value c.requires.some (ap content_of c.in-Refined.is) c.if-n-eq0.true)

pub run_count-count-requires : goal.run_count-count-requires
unfolding proxy.out-Proxy denote.Hole.Carrier.out
run_count-count-requires g t c = (sound c.args.n c.args.offers.now.room c.args.proxy.now c.deref-header.result.now c.requires.some (ap content_of c.in-Refined.is ∙ ap inr (sym c.deref-header.ensures))).rising.count

pub first_left-start-requires-clause-rising : goal.first_left-start-requires-clause-rising
unfolding proxy.out-Proxy denote.Hole.Carrier.out
first_left-start-requires-clause-rising g t c = (sound c.args.n c.args.offers.now.room c.args.proxy.now c.deref-header.result.now c.requires.some (ap content_of c.in-Refined.is ∙ ap inr (sym c.deref-header.ensures))).rising

pub part_in-requires-clause-low : goal.part_in-requires-clause-low
unfolding proxy.out-Proxy denote.Hole.Carrier.out
part_in-requires-clause-low g t c =
    let h = c.deref-header.result.now in
    let s = sound c.args.n c.args.offers.now.room c.args.proxy.now h c.requires.some (ap content_of c.in-Refined.is ∙ ap inr (sym c.deref-header.ensures)) in
    let less = subst (λ n. c.index_of.result < n) c.run_count-count.ensures c.index_of.ensures.bound in
    (small h c.index_of.result c.run_at-run.result.now less c.run_at-run.ensures.run s.rising).0

pub part_in-requires-clause-high : goal.part_in-requires-clause-high
unfolding proxy.out-Proxy denote.Hole.Carrier.out
part_in-requires-clause-high g t c =
    let h = c.deref-header.result.now in
    let s = sound c.args.n c.args.offers.now.room c.args.proxy.now h c.requires.some (ap content_of c.in-Refined.is ∙ ap inr (sym c.deref-header.ensures)) in
    let less = subst (λ n. c.index_of.result < n) c.run_count-count.ensures c.index_of.ensures.bound in
    (small h c.index_of.result c.run_at-run.result.now less c.run_at-run.ensures.run s.rising).1

pub returns-in_default-clause-descends : goal.returns-in_default-clause-descends
unfolding proxy.out-Proxy denote.Hole.Carrier.out
returns-in_default-clause-descends g t c =
    let h = c.deref-header.result.now in
    let line = c.line_on-line.result in
    let i = c.index_of.result in
    let s = c.args.stretch in
    let is = ap content_of c.in-Refined.is ∙ ap inr (sym c.deref-header.ensures) in
    let some = not-last c.args.n c.args.offers.now.room c.args.proxy.now h c.requires.some is in
    let left = c.left_of-left.ensures ∙ ap (λ n. left_of line.d n c.first_left-start.result) c.run_count-count.ensures in
    let less = subst (λ n. i < n) c.run_count-count.ensures c.index_of.ensures.bound in
    let out : is_entered_at line.o line.d h (time s.to) (index_of line.d c.first_left-start.result c.loop-j.j) ≡ false =
    ap (is_entered_at line.o line.d h (time s.to)) (sym c.index_of.ensures.value) ∙ entered-is h i c.run_at-run.result.now less c.run_at-run.ensures.run line.o line.d (time s.to) ∙ c.in_default.ensures in
    let v = c.loop-j.invariant in
    let b = c.first_left-start.ensures in
    crossed line.o line.d h s c.first_left-start.result b.bound b.before b.after c.args.n c.args.ray.now c.args.proxy.now c.loop-j.j _ _ _ v.goes.0 c.loop-j.reads _ c.requires.stretch is some
    (c.line_on-line.ensures.o ∙ ap (λ a. coordinate a c.args.ray.now.o) c.axis.ensures) (c.line_on-line.ensures.d ∙ ap (λ a. coordinate a c.args.ray.now.d) c.axis.ensures)
    v.goes.1 v.goes.2 v.goes.3 (omega (arith, c.run_at-run.ensures.reads)) (omega (arith, c.run_at-run.ensures.reads)) v.entered
    (omega (arith, left, c.loop-j-test.true)) (inr out)

pub go-requires : goal.go-requires
unfolding proxy.out-Proxy denote.Hole.Carrier.out
go-requires g t c κs within =
    let h = c.deref-header.result.now in
    let line = c.line_on-line.result in
    let i = c.index_of.result in
    let run = c.run_at-run.result.now in
    let s = c.args.stretch in
    let is = ap content_of c.in-Refined.is ∙ ap inr (sym c.deref-header.ensures) in
    let all = sound c.args.n c.args.offers.now.room c.args.proxy.now h c.requires.some is in
    let left = c.left_of-left.ensures ∙ ap (λ n. left_of line.d n c.first_left-start.result) c.run_count-count.ensures in
    let less = subst (λ n. i < n) c.run_count-count.ensures c.index_of.ensures.bound in
    let entered : is_entered_at line.o line.d h (time s.to) i ≡ true = entered-is h i run less c.run_at-run.ensures.run line.o line.d (time s.to) ∙ c.in-Some.ensures.0 in
    let b = c.first_left-start.ensures in
    let part = c.in-Some.ensures.1 ∙ part-is h i run less c.run_at-run.ensures.run line.o line.d s in
    let stretch : IsStretch c.in-Some.part = subst IsStretch (sym part)
    (part-stretch line.o line.d h s c.first_left-start.result b.bound b.before b.after c.requires.stretch all.has c.loop-j.j i (omega (arith, left, c.loop-j-test.true)) c.index_of.ensures.value entered) in
    let deeper : StandsWithinSome (c.args.n - 1) c.loop-j.offers.room c.proxy.result.now =
    subst (λ room. StandsWithinSome (c.args.n - 1) room c.proxy.result.now) (sym c.loop-j.invariant.room) (subst (StandsWithinSome (c.args.n - 1) c.args.offers.now.room) (sym c.proxy.ensures) (all.deeper i run less c.run_at-run.ensures.run)) in
    (omega (arith, c.decreases, c.if-n-eq0.false), (within, (c.requires.near, (stretch, deeper))))

pub loop-j-preserved : goal.loop-j-preserved
unfolding proxy.out-Proxy denote.Hole.Carrier.out
loop-j-preserved g t c =
    let h = c.deref-header.result.now in
    let line = c.line_on-line.result in
    let i = c.index_of.result in
    let run = c.run_at-run.result.now in
    let s = c.args.stretch in
    let less = subst (λ n. i < n) c.run_count-count.ensures c.index_of.ensures.bound in
    let entered : is_entered_at line.o line.d h (time s.to) i ≡ true = entered-is h i run less c.run_at-run.ensures.run line.o line.d (time s.to) ∙ c.in-Some.ensures.0 in
    let part = c.in-Some.ensures.1 ∙ part-is h i run less c.run_at-run.ensures.run line.o line.d s in
    let v = c.loop-j.invariant in
    let b = c.first_left-start.ensures in
    record {
      entered = every-more (λ k. is_entered_at line.o line.d h (time s.to) (index_of line.d c.first_left-start.result k) ≡ true) c.loop-j.j v.entered
          (subst (λ k. is_entered_at line.o line.d h (time s.to) k ≡ true) c.index_of.ensures.value entered);
      goes = (
        v.goes.0,
        v.goes.1,
        v.goes.2,
        more-seen line.o line.d h s c.first_left-start.result b.bound b.before b.after (c.args.n - 1) c.args.ray.now c.loop-j.j i _ _ _ v.goes.0 c.loop-j.reads _ _ run c.in-Some.part c.proxy.result.now
            v.goes.3 c.index_of.ensures.value less c.run_at-run.ensures.run part c.proxy.ensures c.run_at-run.ensures.reads c.go.ensures.descends,
      );
      room = c.go.ensures.room ∙ v.room;
    }

pub returns-in-Node-clause-descends : goal.returns-in-Node-clause-descends
unfolding proxy.out-Proxy denote.Hole.Carrier.out
returns-in-Node-clause-descends g t c = node-descends c.args.n c.args.ray.now c.args.stretch c.args.proxy.now c.in-Node.members _ _ c.args.reads.now c.requires.stretch (ap content_of c.in-Node.is) c.offer.ensures

pub returns-in-Node-clause-room : goal.returns-in-Node-clause-room
unfolding proxy.out-Proxy denote.Hole.Carrier.out
returns-in-Node-clause-room g t c = node-room c.args.n c.args.offers.now.room c.args.proxy.now c.in-Node.members c.args.ray.now _ _ c.requires.some (ap content_of c.in-Node.is) c.offer.ensures

pub returns-after-loop-j-clause-descends : goal.returns-after-loop-j-clause-descends
unfolding proxy.out-Proxy denote.Hole.Carrier.out
returns-after-loop-j-clause-descends g t c =
    let h = c.deref-header.result.now in
    let line = c.line_on-line.result in
    let is = ap content_of c.in-Refined.is ∙ ap inr (sym c.deref-header.ensures) in
    let some = not-last c.args.n c.args.offers.now.room c.args.proxy.now h c.requires.some is in
    let left = c.left_of-left.ensures ∙ ap (λ n. left_of line.d n c.first_left-start.result) c.run_count-count.ensures in
    let v = c.loop-j.invariant in
    let b = c.first_left-start.ensures in
    crossed line.o line.d h c.args.stretch c.first_left-start.result b.bound b.before b.after c.args.n c.args.ray.now c.args.proxy.now c.loop-j.j _ _ _ v.goes.0 c.loop-j.reads _ c.requires.stretch is some
    (c.line_on-line.ensures.o ∙ ap (λ a. coordinate a c.args.ray.now.o) c.axis.ensures) (c.line_on-line.ensures.d ∙ ap (λ a. coordinate a c.args.ray.now.d) c.axis.ensures)
    v.goes.1 v.goes.2 v.goes.3 (omega arith) (omega arith) v.entered
    (omega (arith, left, c.loop-j.auto.j-end)) (inl (omega (arith, left, c.loop-j.auto.j-end, c.loop-j-test.false)))
