use Rattle.std.proofs.Common.{◌+◌, ◌*◌, length}
use Rattle.gx_expr.specs.Descent.{IsRead, IsProductEnd, after, alone}
use Rattle.gx_expr.proofs.evaluate.+descent.Given as goal

abbrev pub decreases-expr : goal.decreases-expr
decreases-expr l = 4 * length l.text.now + 3

abbrev pub decreases-term : goal.decreases-term
decreases-term l = 4 * length l.text.now + 2

abbrev pub decreases-factor : goal.decreases-factor
decreases-factor l = 4 * length l.text.now + 1

abbrev pub decreases-primary : goal.decreases-primary
decreases-primary l = 4 * length l.text.now

abbrev pub invariant-expr-loop-sign : goal.invariant-expr-loop-sign
invariant-expr-loop-sign l = IsRead alone l.depth l.params l.fn.text l.value l.text × IsProductEnd l.text

abbrev pub decreases-expr-loop-sign : goal.decreases-expr-loop-sign
decreases-expr-loop-sign l = length l.text

abbrev pub invariant-term-loop-sign : goal.invariant-term-loop-sign
invariant-term-loop-sign l = IsRead after l.depth l.params l.fn.text l.value l.text

abbrev pub decreases-term-loop-sign : goal.decreases-term-loop-sign
decreases-term-loop-sign l = length l.text
