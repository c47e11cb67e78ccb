use Rattle.g4exact.proofs.Runs.{told, no_read_fault}
use Rattle.g4exact.proofs.run.execute.Goals as goal

pub returns-in-Sample-clause-output : goal.returns-in-Sample-clause-output
returns-in-Sample-clause-output g c =
    let text = told (g.S.Source.left c.args.source.now) in
    let out = c.sample.ensures.output text.0 in
    rw c.in-Sample.is (text.0, text.1, out.0, out.1)

pub returns-in-Sample-clause-blames : goal.returns-in-Sample-clause-blames
returns-in-Sample-clause-blames g c = c.sample.ensures.blames _

pub returns-in-Sample-clause-last : goal.returns-in-Sample-clause-last
returns-in-Sample-clause-last g c = λ fault. absurd (no_read_fault _ _ c.sample.result c.sample.ensures.blames fault)
