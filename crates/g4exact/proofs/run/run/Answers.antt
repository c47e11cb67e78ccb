use Rattle.std.proofs.Common.{Some, None, refl}
use Rattle.g4exact.proofs.Runs.{told, answered, no_read_fault}
use Rattle.g4exact.proofs.run.run.Goals as goal

pub returns-in-Some-clause-output : goal.returns-in-Some-clause-output
returns-in-Some-clause-output g c =
    let out = c.execute.ensures.output in
    rw (← c.in-Some.ensures) (out.0, out.1, answered (Some c.in-Some.command) out.0 _ _ _ _ _ _ c.execute.result out.2 c.execute.ensures.blames, out.3)

pub returns-in-None-clause-output : goal.returns-in-None-clause-output
returns-in-None-clause-output g c =
    let text = told (g.S.Source.left c.args.source.now) in
    rw (← c.in-None.ensures) (text.0, text.1, answered None text.0 _ _ _ _ _ _ c.usage.result (c.usage.ensures.output text.0) (c.usage.ensures.blames _), refl)

pub returns-in-None-clause-blames : goal.returns-in-None-clause-blames
returns-in-None-clause-blames g c = c.usage.ensures.blames _

pub returns-in-None-clause-last : goal.returns-in-None-clause-last
returns-in-None-clause-last g c = λ fault. absurd (no_read_fault _ _ c.usage.result c.usage.ensures.blames fault)
