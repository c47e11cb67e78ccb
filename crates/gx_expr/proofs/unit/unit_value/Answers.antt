use Rattle.std.proofs.Common.{◌∙◌, ap, Err}
use Rattle.std.specs.Option.{unwrap_or}
use Rattle.gx_expr.specs.declared.fault.ExprFault.TheVariants.{UnknownUnit}
use Rattle.gx_expr.proofs.unit.unit_value.Goals as goal

pub returns : goal.returns
returns c = c.unwrap_or.ensures ∙ ap (λ o. unwrap_or o (Err UnknownUnit)) c.value_in.ensures
