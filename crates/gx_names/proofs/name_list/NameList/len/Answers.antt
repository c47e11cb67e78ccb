use Rattle.std.proofs.Common.{length, ◌∙◌, sym, ap}
use Rattle.gx_names.proofs.Places.{length-names_of}
use Rattle.gx_names.proofs.name_list.NameList.len.Goals as goal

pub returns : goal.returns
returns c = c.len.ensures.len ∙ sym (length-names_of (λ k. k.items) c.self.inside.places.entries) ∙ ap length c.self.view_is
