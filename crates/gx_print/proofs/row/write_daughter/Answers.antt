use Rattle.std.proofs.Common.{◌++◌, subst, ap, ◌∙◌}
use Rattle.std.specs.Prelude.{codes, decimal}
use Rattle.std.specs.Fmt.{signed_decimal}
use Rattle.gx_io.specs.Bytes.{Writes}
use Rattle.gx_print.specs.Texts.{after}
use Rattle.gx_print.proofs.Steps.{volume_is, daughter_is}
use Rattle.gx_print.proofs.row.write_daughter.Goals as goal

pub name-requires : goal.name-requires
name-requires g c = volume_is c.args.sealed.now c.args.volume c.args.ordinal c.step-step.result.volume c.requires.ordinal c.step-step.ensures.volume c.step-step.ensures.kept.tree

pub returns-clause-bytes : goal.returns-clause-bytes
returns-clause-bytes g c =
    let copy = c.step-step.result.copy in
    subst (λ text. Writes (g.K.Sink.written c.args.sink.now) (g.K.Sink.written c.write_copy.new.sink) text c.write_copy.result)
    (ap (λ name. name ++ after (codes "@") (decimal c.args.ordinal) ++ after (codes ":") (signed_decimal copy)) c.name.ensures.value
    ∙ daughter_is c.args.sealed.now c.args.volume c.args.ordinal c.step-step.result.volume c.requires.ordinal c.step-step.ensures.volume copy c.step-step.ensures.copy)
    c.write_copy.ensures.bytes
