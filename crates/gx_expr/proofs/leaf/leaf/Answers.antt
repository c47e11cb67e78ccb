use Rattle.std.proofs.Common.{◌∙◌, sym}
use Rattle.gx_expr.proofs.Leaves.{unit_read}
use Rattle.gx_expr.proofs.leaf.leaf.Goals as goal

pub returns : goal.returns
returns c = λ depth.
    let missed = rw c.if-take.false at c.take.ensures in
    let number_not = sym c.begins_number.ensures ∙ c.if-begins_number.false in
    let some = sym c.is_empty-2.ensures ∙ c.if-is_empty-2.false in
    let word = c.run-word.ensures in
    unit_read depth _ _ _ _ _ c.requires.end c.requires.opening missed.1 (rw missed.0 at number_not) (rw missed.0 at word.what) (rw missed.0 at word.rest) some c.unit_value.ensures
