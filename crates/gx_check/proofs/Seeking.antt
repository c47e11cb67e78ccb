-- The first verdict that refutes, sought part by part.
use Rattle.std.proofs.Common.{◌≡◌, ◌↔◌, true, false, true≢false, List, [], ◌++◌, find, Option, Some, None, refl, sym, ap, ◌∙◌}
use Rattle.std.specs.Option.{option_or, is_some, IsNone}
use Rattle.std.proofs.lemmas.List.Folds.{find-append}
use Rattle.gx_tree.specs.Hierarchy.{Hierarchy}
use Rattle.gx_tree.specs.Fault.{IsTree}
use Rattle.gx_check.specs.declared.verdict.Verdict.{Verdict}
use Rattle.gx_check.specs.Clean.{IsClean}
use Rattle.gx_check.specs.Verdicts.{verdicts, refutes}
use Rattle.gx_check.proofs.Clean.{clean_where_unrefuted}

-- what the whole has is what is left
pub record Seeking (whole left : List Verdict) : Type 0 where
  pub same : find refutes whole ≡ find refutes left

pub start : (whole left : List Verdict) → left ≡ whole → Seeking whole left
start whole left e = record { same = ap (find refutes) (sym e) }

module _ {whole left : List Verdict} (seeking : Seeking whole left) where
  module _ (a rest : List Verdict) (split : left ≡ a ++ rest) where
    next : find refutes whole ≡ option_or (find refutes a) (find refutes rest)
    next = seeking.same ∙ ap (find refutes) split ∙ find-append refutes a rest

    pub found_here : (found : Option Verdict) → found ≡ find refutes a → is_some found ≡ true → found ≡ find refutes whole
    found_here (Some x) e is = sym (next ∙ ap (λ (o : Option Verdict). option_or o (find refutes rest)) (sym e))
    found_here None e is = absurd (true≢false (sym is))

    pub none_here : (found : Option Verdict) → found ≡ find refutes a → is_some found ≡ false → Seeking whole rest
    none_here None e is = record { same = next ∙ ap (λ (o : Option Verdict). option_or o (find refutes rest)) (sym e) }
    none_here (Some x) e is = absurd (true≢false is)

  pub none_left : left ≡ [] → None ≡ find refutes whole
  none_left e = sym (seeking.same ∙ ap (find refutes) e)

-- none exactly where the hierarchy is clean
pub none_clean : (h : Hierarchy) → IsTree h → (found : Option Verdict) → found ≡ find refutes (verdicts h) → IsNone found ↔ IsClean h
none_clean h tree found e = (λ none. law.1 (sym e ∙ is found none), λ clean. ap (λ (o : Option Verdict). is_some o) (e ∙ law.0 clean))
  where
    law : IsClean h ↔ (find refutes (verdicts h) ≡ None)
    law = clean_where_unrefuted h tree

    is : (o : Option Verdict) → IsNone o → o ≡ None
    is None none = refl
    is (Some x) none = absurd (true≢false none)
