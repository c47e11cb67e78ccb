use Rattle.std.proofs.Common.{◌∙◌, sym}
use Rattle.gx_clip.proofs.Clips.{from_none, endless, from_span}
use Rattle.gx_clip.proofs.clipping.clip.Goals as goal

pub returns-in_err-interval : goal.returns-in_err-interval
returns-in_err-interval c =
    rw c.from_residual.ensures (from_none c.args.faces.now c.args.ray.now (sym c.interval_inside.ensures ∙ c.in_err-interval.was))

pub returns-in_err-to : goal.returns-in_err-to
returns-in_err-to c =
    absurd (endless c.args.faces.now c.args.ray.now c.requires.bounded c.requires.moves _ (sym c.interval_inside.ensures ∙ c.in_ok-interval.was) c.in_err-to.was)

pub returns : goal.returns
returns c =
    from_span c.args.faces.now c.args.ray.now _ _ _ (sym c.interval_inside.ensures ∙ c.in_ok-interval.was) c.in_ok-to.was c.span.ensures
