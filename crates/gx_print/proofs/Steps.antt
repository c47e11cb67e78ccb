-- The step into a daughter.
use Rattle.std.proofs.Common.{◌≡◌, ℕ, ◌<◌, ◌≤◌, List, [], ◌++◌, length, All, Some, inl, inr, sym, ap, ◌∙◌, subst, arith}
use Rattle.std.proofs.lemmas.Option.{slice_get_cases, slice_get_within, get_or_from_slice_get}
use Rattle.std.specs.Prelude.{ℤ, slice_get, codes, decimal}
use Rattle.std.specs.Fmt.{signed_decimal}
use Rattle.std.specs.Option.{ForSome, option_map, unwrap_or}
use Rattle.gx_tree.specs.declared.instance.Instance.{Instance}
use Rattle.gx_tree.specs.Hierarchy.{Hierarchy, instances, IsInstance}
use Rattle.gx_tree.specs.Fault.{IsTree}
use Rattle.gx_print.specs.Texts.{after, volume_name, instance_text, daughter_text, volume_below}

less_irrefl : (a b : ℕ) → a < b → b ≤ a → ⊥
less_irrefl a b l g = omega (arith, l, g)

some_at : {X : Type 0} (xs : List X) (k : ℕ) → k < length xs → (x : X) × (slice_get xs k ≡ Some x)
some_at xs k below = elim (slice_get_cases xs k).1 [
  | inl within ↦ (within.0, within.2)
  | inr past ↦ absurd (less_irrefl k (length xs) below past.0)
]

all_at : {X : Type 0} (P : X → Type 0) (xs : List X) (k : ℕ) (x : X) → All P xs → slice_get xs k ≡ Some x → P x
all_at P xs k x all at = subst P (get_or_from_slice_get xs k x x at) (all k x (slice_get_within xs k x at))

module _ (h : Hierarchy) (v k w : ℕ) (below : k < length (instances h v)) (step : ForSome (slice_get (instances h v) k) (λ (i : Instance). w ≡ i.volume)) where
  pub volume_is : IsTree h → w < length h.volumes
  volume_is tree =
      let i = some_at (instances h v) k below in
      subst (λ x. x < length h.volumes) (sym (step i.0 i.1)) (all_at (IsInstance h) (instances h v) k i.0 (tree.placed v) i.1).volume

  pub below_is : volume_below h v k ≡ w
  below_is =
      let i = some_at (instances h v) k below in
      ap (λ o. unwrap_or (option_map (λ (i : Instance). i.volume) o) 0) i.1 ∙ sym (step i.0 i.1)

  pub daughter_is : (c : ℤ) → ForSome (slice_get (instances h v) k) (λ (i : Instance). c ≡ i.copy) → volume_name h w ++ after (codes "@") (decimal k) ++ after (codes ":") (signed_decimal c) ≡ daughter_text h v k
  unfolding daughter_text
  daughter_is c copy =
      let i = some_at (instances h v) k below in
      ap (λ x. volume_name h x ++ after (codes "@") (decimal k) ++ after (codes ":") (signed_decimal c)) (step i.0 i.1)
      ∙ ap (λ x. volume_name h i.0.volume ++ after (codes "@") (decimal k) ++ after (codes ":") (signed_decimal x)) (copy i.0 i.1)
      ∙ sym (ap (λ o. unwrap_or (option_map (instance_text h k) o) []) i.1)
