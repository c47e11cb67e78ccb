use Rattle.std.proofs.Common.{◌+◌, ◌-◌, ◌/◌, ◌<◌, arith, sym, ◌∙◌}
use Rattle.gx_along.specs.Line.{time}
use Rattle.gx_slabs.proofs.Rising.{up, down}
use Rattle.gx_slabs.proofs.row.Row.first_left.Goals as goal

pub loop-low-preserved-then-is_left : goal.loop-low-preserved-then-is_left
loop-low-preserved-then-is_left c =
    let v = c.loop-low.invariant in
    let l = c.loop-low.low in let h = c.loop-low.high in
    let m = l + (h - l) / 2 in
    let less : m < h = omega (arith, c.loop-low-test.true) in
    record {
      order = omega (arith, less);
      within = v.within;
      before = up c.args.self c.requires (time c.args.at) m (omega (arith, less, v.within)) (sym c.is_left.ensures ∙ c.if-is_left.true);
      after = v.after;
    }

pub loop-low-preserved : goal.loop-low-preserved
loop-low-preserved c =
    let v = c.loop-low.invariant in
    let l = c.loop-low.low in let h = c.loop-low.high in
    let m = l + (h - l) / 2 in
    let less : m < h = omega (arith, c.loop-low-test.true) in
    record {
      order = omega arith;
      within = omega (arith, less, v.within);
      before = v.before;
      after = down c.args.self c.requires (time c.args.at) m (sym c.is_left.ensures ∙ c.if-is_left.false);
    }
