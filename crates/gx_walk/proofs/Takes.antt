-- The rows below a path are taken.
use Rattle.std.proofs.Common.{◌≡◌, ℕ, ◌<◌, Bool, IsTrue, List, length, get_or, [], ◌∷◌, ◌++◌, Option, Some, append_assoc, append-nil, refl, sym, ap, ◌∙◌, subst}
use Rattle.std.specs.List.{All}
use Rattle.gx_path.specs.declared.row.Row.{Row as Given}
use Rattle.gx_walk.specs.declared.met.Met.{Met}
use Rattle.gx_walk.specs.Giving.{TakesBelow}

module _ (takes takes' : Given → Bool) (daughter : ℕ → ℕ → Option ℕ) (path path' : List ℕ) (v : ℕ) (h : TakesBelow takes daughter path v) (e : takes' ≡ takes) (f : path' ≡ path) where
  -- the volume's own row
  pub takes-own : (row : Given) → row.path ≡ path' → IsTrue (takes' row)
  takes-own row is = subst (λ (t : Given → Bool). IsTrue (t row)) (sym e) (h.each row [] v refl (is ∙ f ∙ sym (append-nil path)))

  -- a daughter's rows
  pub takes-within : (k u : ℕ) (pushed : List ℕ) → daughter v k ≡ Some u → pushed ≡ path' ++ k ∷ [] → TakesBelow takes' daughter pushed u
  takes-within k u pushed into grown = record {
    each = λ row further w leads is.
        let at : row.path ≡ path ++ k ∷ further = is ∙ ap (λ p. p ++ further) (grown ∙ ap (λ p. p ++ k ∷ []) f) ∙ append_assoc path (k ∷ []) further in
        subst (λ (t : Given → Bool). IsTrue (t row)) (sym e) (h.each row (k ∷ further) w (u, into, leads) at);
  }

-- one of the daughters that are known
pub known-at : (met : ℕ → Option Met) (mets list : List Met) (i : ℕ) (m : Met) → All (λ m. met m.ordinal ≡ Some m) list → mets ≡ list → m ≡ get_or mets i m → i < length mets → met m.ordinal ≡ Some m
known-at met mets list i m known same is h =
    let all = subst (All (λ m. met m.ordinal ≡ Some m)) (sym same) known in
    subst (λ x. met x.ordinal ≡ Some x) (sym is) (all i m h)
