use Rattle.std.proofs.Common.{[], ◌∷◌, take, sym, ap, arith, length, length-take, length-append}
use Rattle.gx_text.proofs.StepLemmas.{first_lf, no_lf}
use Rattle.gx_text.proofs.lines.Lines.take.Goals as goal

pub take_line-requires-clause-rest : goal.take_line-requires-clause-rest
take_line-requires-clause-rest c = (first_lf c.args.bytes.now c.in-Some-first_lf.end (sym c.in-Some-first_lf.ensures)).before

pub returns-in-Ok-clause-count : goal.returns-in-Ok-clause-count
returns-in-Ok-clause-count c =
    let bytes = c.args.bytes.now in
    let end = c.in-Some-first_lf.end in
    let first = first_lf bytes end (sym c.in-Some-first_lf.ensures) in
    omega (arith, ap length first.through, length-append (take end bytes) (10 ∷ []), length-take end bytes, first.within)

pub returns-in-Ok-clause-answer : goal.returns-in-Ok-clause-answer
returns-in-Ok-clause-answer c = rw (first_lf c.args.bytes.now c.in-Some-first_lf.end (sym c.in-Some-first_lf.ensures)).through (rw c.in-Ok.is at c.take_line.ensures)

pub returns-in-Err-clause-answer : goal.returns-in-Err-clause-answer
returns-in-Err-clause-answer c = rw (first_lf c.args.bytes.now c.in-Some-first_lf.end (sym c.in-Some-first_lf.ensures)).through (rw c.in-Err.is at c.take_line.ensures)

pub take_part-requires-clause-part : goal.take_part-requires-clause-part
take_part-requires-clause-part c = (no_lf c.args.bytes.now (sym c.in-None.ensures)).all

pub returns-in-Ok-take_part-clause-count : goal.returns-in-Ok-take_part-clause-count
returns-in-Ok-take_part-clause-count c = sym (ap length (no_lf c.args.bytes.now (sym c.in-None.ensures)).through)

pub returns-in-Ok-take_part-clause-answer : goal.returns-in-Ok-take_part-clause-answer
returns-in-Ok-take_part-clause-answer c = rw (no_lf c.args.bytes.now (sym c.in-None.ensures)).through (rw c.in-Ok-take_part.is at c.take_part.ensures)

pub returns-in-Err-take_part-clause-answer : goal.returns-in-Err-take_part-clause-answer
returns-in-Err-take_part-clause-answer c = rw (no_lf c.args.bytes.now (sym c.in-None.ensures)).through (rw c.in-Err-take_part.is at c.take_part.ensures)
