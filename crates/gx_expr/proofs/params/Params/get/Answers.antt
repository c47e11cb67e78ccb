use Rattle.std.proofs.Common.{rules, ◌≡◌, Some, ◌∙◌, ap, sym}
use Rattle.std.specs.Prelude.{slice_get}
use Rattle.std.specs.Option.{option_and_then}
use Rattle.gx_names.specs.Names.{number_of}
use Rattle.gx_expr.specs.Param.{value_of_name}
use Rattle.gx_expr.proofs.Names.{value_at_number, got}
use Rattle.gx_expr.proofs.params.Params.get.Goals as goal

pub returns-in_err-place : goal.returns-in_err-place
returns-in_err-place c =
    let found : c.from_residual.result ≡ option_and_then (slice_get c.self.inside.values.items) (number_of c.self.inside.names c.args.name.now) = search rules in
    found ∙ sym (value_at_number c.self.inside.names c.self.inside.values.items c.args.name.now c.self.invariant) ∙ ap (λ ps. value_of_name ps c.args.name.now) c.self.view_is

pub returns : goal.returns
returns c =
    let number : number_of c.self.inside.names c.args.name.now ≡ Some c.in_ok-place.field-0 = sym c.in_ok-place.ensures.value in
    let value : c.copied.result ≡ slice_get c.self.inside.values.items c.in_ok-place.field-0 = c.copied.ensures ∙ got c.deref.result.now c.in_ok-place.field-0 c.get.result c.get.ensures.lookup ∙ ap (λ vs. slice_get vs c.in_ok-place.field-0) c.deref.ensures.value in
    value ∙ ap (option_and_then (slice_get c.self.inside.values.items)) (sym number) ∙ sym (value_at_number c.self.inside.names c.self.inside.values.items c.args.name.now c.self.invariant) ∙ ap (λ ps. value_of_name ps c.args.name.now) c.self.view_is
