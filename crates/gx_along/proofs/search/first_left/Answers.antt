use Rattle.std.proofs.Common.{◌+◌, ◌-◌, ◌/◌, ◌<◌, ◌≤◌, arith, sym, ◌∙◌}
use Rattle.gx_along.specs.Digits.{digits}
use Rattle.gx_along.specs.Line.{time}
use Rattle.gx_along.proofs.Before.{up, down}
use Rattle.gx_along.proofs.Halves.{half}
use Rattle.gx_along.proofs.search.first_left.Goals as goal

pub loop-low-preserved-then-is_before : goal.loop-low-preserved-then-is_before
loop-low-preserved-then-is_before g c =
    let v = c.loop-low.invariant in
    let l = c.loop-low.low in let h = c.loop-low.high in
    let m = l + (h - l) / 2 in
    let some : 0 < h - l = omega (arith, c.loop-low-test.true) in
    let less : m < h = omega (arith, some) in
    let rest : digits (h - (m + 1)) + 1 ≤ digits (h - l) = half (h - (m + 1)) (h - l) (omega (arith, some)) some in
    record {
      order = omega (arith, less);
      within = v.within;
      before = up c.args.line.o c.args.line.d c.args.header.now (time c.args.at) c.requires.rising m (omega (arith, less, v.within)) (sym c.is_before.ensures.value ∙ c.if-is_before.true);
      after = v.after;
      reads = omega (arith, rest, v.reads, c.is_before.ensures.reads);
      more = omega (arith, v.more, c.is_before.ensures.reads);
      some = λ _. omega (arith, v.more, c.is_before.ensures.reads);
    }

pub loop-low-preserved : goal.loop-low-preserved
loop-low-preserved g c =
    let v = c.loop-low.invariant in
    let l = c.loop-low.low in let h = c.loop-low.high in
    let m = l + (h - l) / 2 in
    let some : 0 < h - l = omega (arith, c.loop-low-test.true) in
    let less : m < h = omega (arith, some) in
    let rest : digits (m - l) + 1 ≤ digits (h - l) = half (m - l) (h - l) (omega arith) some in
    record {
      order = omega arith;
      within = omega (arith, less, v.within);
      before = v.before;
      after = down c.args.line.o c.args.line.d c.args.header.now (time c.args.at) c.requires.rising m (sym c.is_before.ensures.value ∙ c.if-is_before.false);
      reads = omega (arith, rest, v.reads, c.is_before.ensures.reads);
      more = omega (arith, v.more, c.is_before.ensures.reads);
      some = λ _. omega (arith, v.more, c.is_before.ensures.reads);
    }
