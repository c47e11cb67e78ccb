use Rattle.std.proofs.Common.{◌∙◌}
use Rattle.gx_navigator.proofs.Found.{met_of-none, met_of-some}
use Rattle.gx_navigator.proofs.tracer.TracerGeometry.meet.Goals as goal

pub returns-in_err-span-clause-met : goal.returns-in_err-span-clause-met
returns-in_err-span-clause-met g c =
    c.from_residual.ensures ∙ met_of-none c.args.self.now.sealed.now c.clip.ensures.kept.tree c.args.mother.now c.requires.known.2.moves c.args.ordinal c.requires.ordinal c.in_err-span.ensures.met

pub returns-clause-met : goal.returns-clause-met
returns-clause-met g c =
    met_of-some c.args.self.now.sealed.now c.clip.ensures.kept.tree c.args.mother.now c.requires.known.2.moves c.args.ordinal c.requires.ordinal c.in_ok-span.span c.step.result.volume c.enter.result
    c.in_ok-span.ensures.met c.step.ensures.volume c.enter.ensures.value
