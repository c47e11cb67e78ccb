use Rattle.std.proofs.Common.{arith, sym, rules}
use Rattle.std.proofs.lemmas.List.{take_rest}
use Rattle.std.proofs.lemmas.Grind.{common_steps}
use Rattle.gx_io.proofs.Joined.{with_after-nothing}
use Rattle.gx_io.proofs.Places.{with_after-take}
use Rattle.gx_io.proofs.writing.write_front.Goals as goal

pub loop-at-init : goal.loop-at-init
loop-at-init g c = (omega arith, sym (with_after-nothing _), search rules)

pub loop-at-preserved : goal.loop-at-preserved
loop-at-preserved g c =
    let slice = take_rest c.args.bytes.now c.loop-at.at in
    grind (arith, common_steps, with_after-take, slice)
