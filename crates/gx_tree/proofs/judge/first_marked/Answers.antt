use Rattle.std.proofs.Common.{length, sym, arith}
use Rattle.gx_tree.specs.Marks.{is_marked}
use Rattle.gx_tree.proofs.Numbers.{first_number, no_number}
use Rattle.gx_tree.proofs.judge.first_marked.Goals as goal

pub returns-then-marked : goal.returns-then-marked
returns-then-marked c = sym (first_number (is_marked c.args.marks.now) (length c.args.marks.now) c.loop-v.v c.loop-v-test.true c.if-marked.true c.loop-v.invariant)

pub returns : goal.returns
returns c = sym (no_number (is_marked c.args.marks.now) (length c.args.marks.now) (λ k below. c.loop-v.invariant k (omega (arith, c.loop-v-test.false))))
