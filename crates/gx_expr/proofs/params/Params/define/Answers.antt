use Rattle.std.proofs.Common.{◌≡◌, ◌++◌, ◌∷◌, [], None, Some, ◌∙◌, ap, sym}
use Rattle.gx_expr.specs.Param.{value_of_name, given, params_of}
use Rattle.gx_expr.proofs.Names.{no_number, params_of-push}
use Rattle.gx_expr.proofs.params.Params.define.Goals as goal

pub add-requires : goal.add-requires
add-requires c =
    no_number c.self.inside.names c.self.inside.values.items c.args.name.now c.self.invariant (ap (λ ps. value_of_name ps c.args.name.now) c.self.view_is ∙ sym c.get.ensures ∙ c.in_default.is)

pub returns : goal.returns
returns c =
    let none : value_of_name c.args.self.now c.args.name.now ≡ None = sym c.get.ensures ∙ c.in_default.is in
    let new : params_of c.add.new.self c.push.new.self.items ≡ c.args.self.now ++ record { name = c.args.name.now; value = c.args.value } ∷ [] =
    ap (λ names. params_of names c.push.new.self.items) c.in_ok-add.ensures.ok
    ∙ ap (params_of (c.self.inside.names ++ c.args.name.now ∷ [])) (c.in_ok-push.ensures.items ∙ ap (λ vs. vs ++ c.args.value ∷ []) c.in_ok-reserve.ensures.items)
    ∙ params_of-push c.self.inside.names c.self.inside.values.items c.args.name.now c.args.value c.self.invariant
    ∙ ap (λ ps. ps ++ record { name = c.args.name.now; value = c.args.value } ∷ []) c.self.view_is in
    ap (given c.args.self.now c.args.name.now c.args.value) none ∙ ap Some (sym new)
