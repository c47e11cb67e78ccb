-- Ordinals of daughters that lead down from the world have a place in the output.
use Rattle.std.proofs.Common.{◌≡◌, ℕ, ◌<◌, Bool, true, false, IsTrue, List, [], ◌∷◌, length, Option, None, Some, refl, sym, ap, ◌∙◌, subst, arith}
use Rattle.std.specs.Prelude.{slice_get, ◌&&◌}
use Rattle.std.specs.Option.{option_map, unwrap_or}
use Rattle.std.proofs.lemmas.Bool.Decides.{nat_tests}
use Rattle.std.proofs.lemmas.Option.{slice_get_within}
use Rattle.gx_tree.specs.declared.instance.Instance.{Instance}
use Rattle.gx_tree.specs.Hierarchy.{Hierarchy, instances}
use Rattle.gx_tree.specs.Fault.{IsTree}
use Rattle.gx_walk.specs.Hits.{Leads}
use Rattle.gx_nest.proofs.Nested.{instance_at}
use Rattle.gx_navigator.specs.Paths.{daughter_of}
use Rattle.gx_print.specs.Range.{has_daughter, is_path}
use Rattle.gx_print.specs.Texts.{volume_below}

both : (a b : Bool) → IsTrue a → IsTrue b → IsTrue (a && b)
both true b is is' = is'
both false b is is' = absurd cc

-- the daughter with this ordinal is that volume
record IsBelow (h : Hierarchy) (v k u : ℕ) : Type 0 where
  has : IsTrue (has_daughter h v k)
  same : volume_below h v k ≡ u
  volume : u < length h.volumes

below_by : (h : Hierarchy) → IsTree h → (v k u : ℕ) → v < length h.volumes → (o : Option Instance) → slice_get (instances h v) k ≡ o → option_map (λ (i : Instance). i.volume) o ≡ Some u → IsBelow h v k u
below_by h tree v k u volume None at e = absurd cc
below_by h tree v k u volume (Some i) at e =
    let is : i.volume ≡ u = cc in
    let within : k < length (instances h v) = slice_get_within (instances h v) k i at in
    record {
      has = grind (arith, nat_tests, volume, within);
      same = ap (λ o. unwrap_or (option_map (λ (i : Instance). i.volume) o) 0) at ∙ is;
      volume = subst (λ w. w < length h.volumes) is (instance_at h tree v k i at).volume;
    }

pub leads_is_path : (h : Hierarchy) → IsTree h → (v : ℕ) (path : List ℕ) (w : ℕ) → v < length h.volumes → Leads (daughter_of h) v path w → IsTrue (is_path h v path)
leads_is_path h tree v [] w volume leads = cc
leads_is_path h tree v (k ∷ path) w volume (u, e, rest) =
    let below = below_by h tree v k u volume (slice_get (instances h v) k) refl e in
    both (has_daughter h v k) (is_path h (volume_below h v k) path) below.has
    (subst (λ x. IsTrue (is_path h x path)) (sym below.same) (leads_is_path h tree u path w below.volume rest))
