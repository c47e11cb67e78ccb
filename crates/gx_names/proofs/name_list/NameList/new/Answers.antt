use Rattle.std.proofs.Common.{sym, ap, subst}
use Rattle.gx_names.specs.Places.{names_of, IsNumbered}
use Rattle.gx_names.proofs.Places.{nothing}
use Rattle.gx_names.proofs.name_list.NameList.new.Goals as goal

pub invariant_of-result : goal.invariant_of-result
invariant_of-result c = subst (IsNumbered (λ k. k.items)) (sym c.new.ensures.empty) (nothing (λ k. k.items))

pub returns : goal.returns
unfolding names_of
returns c = ap (names_of (λ k. k.items)) c.new.ensures.empty
