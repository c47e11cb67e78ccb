use Rattle.std.proofs.Common.{◌∙◌, arith}
use Rattle.gx_num.proofs.Products.{by_quotients, by_remainders}
use Rattle.gx_num.proofs.number.cmp_long_products.Goals as goal

pub returns-then-left-right : goal.returns-then-left-right
returns-then-left-right c =
    let l = c.loop-c in
    c.cmp.ensures ∙ by_quotients l.a l.b l.c l.d (omega arith) (omega arith) c.if-left-right.true ∙ l.invariant

pub loop-c-preserved : goal.loop-c-preserved
loop-c-preserved c =
    let l = c.loop-c in
    by_remainders l.a l.b l.c l.d c.if-left-right.false ∙ l.invariant
