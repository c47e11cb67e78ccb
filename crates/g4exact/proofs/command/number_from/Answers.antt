use Rattle.std.proofs.Common.{sym, refl, ap, ◌∙◌, arith}
use Rattle.std.specs.Str.{bytes_eq}
use Rattle.g4exact.proofs.Numbers.{found_number, other_number, no_number}
use Rattle.g4exact.proofs.command.number_from.Goals as goal

pub loop-number-init : goal.loop-number-init
loop-number-init c = refl

pub returns-then-eq : goal.returns-then-eq
returns-then-eq c = sym (found_number c.loop-number.number c.args.word.now (omega (arith, c.loop-number-test.true)) (ap (λ bytes. bytes_eq bytes c.args.word.now) (sym c.format.ensures.text ∙ sym c.as_bytes.ensures.value) ∙ sym c.eq.ensures ∙ c.if-eq.true)) ∙ c.loop-number.invariant

pub loop-number-preserved : goal.loop-number-preserved
loop-number-preserved c = sym (other_number c.loop-number.number c.args.word.now (omega (arith, c.loop-number-test.true)) (ap (λ bytes. bytes_eq bytes c.args.word.now) (sym c.format.ensures.text ∙ sym c.as_bytes.ensures.value) ∙ sym c.eq.ensures ∙ c.if-eq.false)) ∙ c.loop-number.invariant

pub returns : goal.returns
returns c = sym (no_number c.loop-number.number c.args.word.now (omega (arith, c.loop-number-test.false))) ∙ c.loop-number.invariant
