use Rattle.std.proofs.Common.{◌∙◌, ap}
use Rattle.gx_names.specs.Names.{number_of}
use Rattle.gx_names.proofs.Places.{by_bytes}
use Rattle.gx_names.proofs.name_list.NameList.place.Goals as goal

pub returns-clause-value : goal.returns-clause-value
returns-clause-value c =
    c.copied.ensures
    ∙ c.get.ensures.value
    ∙ by_bytes (λ k. k.items) c.args.name.now c.self.inside.places.entries
    ∙ c.self.invariant.found c.args.name.now
    ∙ ap (λ names. number_of names c.args.name.now) c.self.view_is
