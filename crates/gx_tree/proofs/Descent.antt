-- The descent ends where there is no daughter left, and a point has one deepest volume.
use Rattle.std.proofs.Common.{◌≡◌, ℕ, zero, suc, ◌+◌, refl, sym, ◌∙◌, ap, subst, Bool, true, false, List, [], ◌∷◌, Option, None, Some, All, eq-eqb, true≢false, nat_eq}
use Rattle.std.specs.Prelude.{if◌then◌else◌}
use Rattle.std.specs.List.{list_any, range_with_len}
use Rattle.std.proofs.lemmas.Bool.{or_parts}
use Rattle.std.proofs.lemmas.List.Elements.{All-nil, All-cons, All-head, All-tail, All-append, All-map, All-weaker}
use Rattle.gx_num.specs.Vector4.{Vec4}
use Rattle.gx_tree.specs.declared.placement.Placement.{Placement}
use Rattle.gx_tree.specs.declared.instance.Instance.{Instance}
use Rattle.gx_tree.specs.Volume.{daughter_of, copies_of, instance_of, instances_of, instances_in}
use Rattle.gx_tree.specs.Hierarchy.{Hierarchy, volume_at, instances, leads, max_depth}
use Rattle.gx_tree.specs.Deepest.{Daughter, first_from, first_daughter, local_of, is_inside_daughter, descend, IsDeepest}
use Rattle.gx_tree.specs.Laws.{DescentEnds, OneDeepest}

-- what holds of each placement's volume holds of each instance's
All-instances_in : (P : ℕ → Type 0) (ps : List Placement) → All (λ p. P (daughter_of p)) ps → All (λ i. P i.volume) (instances_in ps)
unfolding instances_of
All-instances_in P [] all = All-nil (λ (i : Instance). P i.volume)
All-instances_in P (p ∷ ps) all =
    All-append (λ i. P i.volume) (instances_of p) (instances_in ps)
    (All-map (λ i. P i.volume) (instance_of p) (range_with_len 0 (copies_of p)) (λ k d less. All-head (λ p. P (daughter_of p)) p ps all))
    (All-instances_in P ps (All-tail (λ p. P (daughter_of p)) p ps all))

-- where no placement passes, for any number
none_passes : (test : Placement → ℕ → Bool) (ps : List Placement) → ((w : ℕ) → list_any (λ p. test p w) ps ≡ false) → All (λ p. (w : ℕ) → test p w ≡ false) ps
none_passes test [] none = All-nil (λ p. (w : ℕ) → test p w ≡ false)
none_passes test (p ∷ ps) none =
    All-cons (λ p. (w : ℕ) → test p w ≡ false) p ps (λ w. (or_parts (test p w) (list_any (λ p. test p w) ps) (none w)).0)
    (none_passes test ps (λ w. (or_parts (test p w) (list_any (λ p. test p w) ps) (none w)).1))

-- no chain of one more placement than so many leads down
abbrev EndsWithin : Hierarchy → ℕ → ℕ → Type 0
EndsWithin h n v = (w : ℕ) → leads h.volumes (suc n) v w ≡ false

first-none : (test : Instance → Bool) (k : ℕ) (list : List Instance) → All (λ i. ⊥) list → first_from test k list ≡ None
first-none test k [] all = refl
first-none test k (i ∷ list) all = absurd (All-head (λ (i : Instance). ⊥) i list all)

first-one : (P : Instance → Type 0) (k : ℕ) (i : Instance) (d : Daughter) (later : Option Daughter) (passes : Bool) → P i → (later ≡ Some d → P d.instance)
    → (if passes then Some (record { ordinal = k; instance = i }) else later) ≡ Some d → P d.instance
first-one P k i d later true h rest e = let made : Daughter = record { ordinal = k; instance = i } in let same : made ≡ d = cc in subst (λ (x : Daughter). P x.instance) same h
first-one P k i d later false h rest e = rest e

first-all : (P : Instance → Type 0) (test : Instance → Bool) (k : ℕ) (list : List Instance) (d : Daughter) → All P list → first_from test k list ≡ Some d → P d.instance
first-all P test k [] d all e = absurd (cc)
first-all P test k (i ∷ list) d all e =
    first-one P k i d (first_from test (k + 1) list) (test i) (All-head P i list all) (λ f. first-all P test (k + 1) list d (All-tail P i list all) f) e

none_below : (h : Hierarchy) (v : ℕ) → EndsWithin h 0 v → All (λ i. ⊥) (instances h v)
unfolding leads
none_below h v none =
    let ps = (volume_at h.volumes v).placements in
    let fails = none_passes (λ p w. nat_eq (daughter_of p) w) ps none in
    All-instances_in (λ u. ⊥) ps (All-weaker (λ p. (w : ℕ) → nat_eq (daughter_of p) w ≡ false) (λ p. ⊥) (λ p f. true≢false (sym (eq-eqb (daughter_of p) (daughter_of p) refl) ∙ f (daughter_of p))) ps fails)

daughters_end : (h : Hierarchy) (n v : ℕ) → EndsWithin h (suc n) v → All (λ i. EndsWithin h n i.volume) (instances h v)
unfolding leads
daughters_end h n v ends =
    let ps = (volume_at h.volumes v).placements in
    All-instances_in (λ u. EndsWithin h n u) ps (none_passes (λ p w. leads h.volumes (suc n) (daughter_of p) w) ps ends)

one_step : (h : Hierarchy) (n v : ℕ) (p : Vec4) (o : Option Daughter) → first_daughter h v p ≡ o
    → ((d : Daughter) → first_daughter h v p ≡ Some d → IsDeepest h d.instance.volume (local_of d.instance p) (descend h n d.instance.volume (local_of d.instance p)))
    → IsDeepest h v p (elim o [ None ↦ [] | Some d ↦ d.ordinal ∷ descend h n d.instance.volume (local_of d.instance p) ])
one_step h n v p None e deeper = e
one_step h n v p (Some d) e deeper = (d, e, refl, deeper d e)

-- where no chain is longer, the ordinals found lead to the deepest volume
descend-ends : (h : Hierarchy) (n v : ℕ) (p : Vec4) → EndsWithin h n v → IsDeepest h v p (descend h n v p)
descend-ends h zero v p ends = first-none (is_inside_daughter h p) 0 (instances h v) (none_below h v ends)
descend-ends h (suc n) v p ends =
    one_step h n v p (first_daughter h v p) refl
    (λ d e. descend-ends h n d.instance.volume (local_of d.instance p) (first-all (λ i. EndsWithin h n i.volume) (is_inside_daughter h p) 0 (instances h v) d (daughters_end h n v ends) e))

pub descent_ends : DescentEnds
descent_ends h tree p = descend-ends h max_depth h.world p tree.shallow

pub one_deepest : OneDeepest
one_deepest h v p [] [] x y = refl
one_deepest h v p [] (k ∷ b) x (d, e, f, y) = absurd (let both : None ≡ Some d = sym x ∙ e in cc)
one_deepest h v p (k ∷ a) [] (d, e, f, x) y = absurd (let both : None ≡ Some d = sym y ∙ e in cc)
one_deepest h v p (k ∷ a) (j ∷ b) (c, e, f, x) (d, e', f', y) =
    let both : Some c ≡ Some d = sym e ∙ e' in
    let same : c ≡ d = cc in
    let rest = one_deepest h c.instance.volume (local_of c.instance p) a b x (subst (λ (z : Daughter). IsDeepest h z.instance.volume (local_of z.instance p) b) (sym same) y) in
    let number : k ≡ j = sym f ∙ ap (λ (z : Daughter). z.ordinal) same ∙ f' in
    λ i. number i ∷ rest i
