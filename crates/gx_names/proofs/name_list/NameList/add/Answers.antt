use Rattle.std.proofs.Common.{◌≡◌, ◌++◌, ◌∷◌, [], length, ◌∙◌, ap, sym}
use Rattle.gx_names.specs.Names.{number_of}
use Rattle.gx_names.specs.Places.{names_of, IsNumbered}
use Rattle.gx_names.proofs.Places.{numbered, length-names_of}
use Rattle.gx_names.proofs.name_list.NameList.add.Goals as goal

pushed : (c : goal.In_ok-insert) → (names_of (λ k. k.items) c.insert.new.self.entries ≡ names_of (λ k. k.items) c.self.inside.places.entries ++ c.in_ok-name.name.items ∷ []) × IsNumbered (λ k. k.items) c.insert.new.self.entries
pushed c =
    numbered (λ k. k.items) c.self.inside.places.entries c.insert.new.self.entries c.in_ok-name.name c.len-place.result c.self.invariant
    (ap (λ names. number_of names c.in_ok-name.name.items) c.self.view_is ∙ ap (number_of c.args.self.now) c.in_ok-name.ensures.items ∙ c.requires)
    (c.len-place.ensures ∙ ap length (sym c.self.view_is) ∙ length-names_of (λ k. k.items) c.self.inside.places.entries)
    c.in_ok-insert.ensures.entries

pub invariant_of-self-2 : goal.invariant_of-self-2
invariant_of-self-2 c = (pushed c).1

pub returns-clause-ok : goal.returns-clause-ok
returns-clause-ok c = (pushed c).0 ∙ ap (λ names. names ++ c.in_ok-name.name.items ∷ []) c.self.view_is ∙ ap (λ name. c.args.self.now ++ name ∷ []) c.in_ok-name.ensures.items
