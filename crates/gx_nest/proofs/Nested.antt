-- In a clean hierarchy what a ray meets is a nest, whose pieces are the partition.
use Rattle.std.proofs.Common.{◌≡◌, ℕ, zero, suc, ◌+◌, ◌<◌, inl, inr, pos, refl, sym, ◌∙◌, ap, subst, arith, Bool, true, false, true≢false, List, [], ◌∷◌, length, slice_get, get_or, All, Option, None, Some}
use Rattle.std.specs.Prelude.{if◌then◌else◌, ◌<ℤ◌, AllPairs}
use Rattle.std.specs.List.{AllByRecursion}
use Rattle.std.proofs.lemmas.Int.{ints}
use Rattle.std.proofs.lemmas.Option.{slice_get_within, get_or_from_slice_get, slice_get_cases}
use Rattle.gx_num.specs.declared.ray.Ray.{Ray}
use Rattle.gx_num.specs.Space.{HalfSpace, is_inside}
use Rattle.gx_num.specs.Vector4.{Vec4}
use Rattle.gx_num.specs.Ray.{RayParameter, HasDirection, IsPositive, IsBelow, point_of_ray}
use Rattle.gx_fraction.specs.Fraction.{parameter_of}
use Rattle.gx_clip.specs.declared.span.Span.{Span}
use Rattle.gx_clip.specs.Clip.{IsBounded, IsInsideBetween, IsClip}
use Rattle.gx_shapes.specs.Solid.{solid_of}
use Rattle.gx_shapes.specs.declared.figure.Figure.TheVariants.{Cuboid}
use Rattle.gx_tree.specs.declared.instance.Instance.{Instance}
use Rattle.gx_tree.specs.Hierarchy.{Hierarchy, volume_at, instances, max_depth, IsInstance}
use Rattle.gx_tree.specs.Fault.{IsTree}
use Rattle.gx_tree.specs.Deepest.{local_of, is_inside_daughter, first_daughter, descend, path_along}
use Rattle.gx_check.specs.Clean.{IsClean, IsContainedIn, AreDisjoint}
use Rattle.gx_frame.specs.Frames.{local_ray}
use Rattle.gx_frame.proofs.Frames.{points_stay, rays_move_on}
use Rattle.gx_partition.specs.Partition.{IsPartition}
use Rattle.gx_partition.specs.Walk.{Hit, IsInside, IsNest}
use Rattle.gx_partition.proofs.Partitions.{partition_of_nest}
use Rattle.gx_partition.proofs.Sorted.{Apart, IsPart, all-sorted, sorted-all, in_turn}
use Rattle.gx_nest.specs.Met.{Frame, hit_of, IsFound, met_in, pieces_along}
use Rattle.gx_nest.proofs.Bounded.{solid_bounded}
use Rattle.gx_nest.proofs.Convex.{closed, inside_in}
use Rattle.gx_nest.proofs.First.{first-at, first-none, descend-some, descend-none}
use Rattle.gx_nest.proofs.Intervals.{starts_within, ends_within, no_common}

-- ---- what holds of all of a list
all_at : {X : Type 0} (P : X → Type 0) (xs : List X) (k : ℕ) (x : X) → All P xs → slice_get xs k ≡ Some x → P x
all_at P xs k x all at = subst P (get_or_from_slice_get xs k x x at) (all k x (slice_get_within xs k x at))

pairs_at : {X : Type 0} (R : X → X → Type 0) (xs : List X) (j k : ℕ) (x y : X) → AllPairs R xs → j < k → slice_get xs j ≡ Some x → slice_get xs k ≡ Some y → R x y
pairs_at R xs j k x y all less at_x at_y =
    subst (R x) (get_or_from_slice_get xs k y x at_y) (subst (λ z. R z (get_or xs k x)) (get_or_from_slice_get xs j x x at_x) (all j k x less (slice_get_within xs k y at_y)))

-- ---- a clean hierarchy
abbrev pub solid_at : Hierarchy → ℕ → List HalfSpace
solid_at h v = solid_of (volume_at h.volumes v).solid

pub weight : (ray : Ray) (t : RayParameter) → IsPositive t → pos 0 <ℤ (point_of_ray ray t).w
weight ray t positive = omega (arith, ints, positive.1)

module _ (h : Hierarchy) (tree : IsTree h) where
  pub bounded_at : (v : ℕ) → v < length h.volumes → IsBounded (solid_at h v)
  bounded_at v less = solid_bounded (volume_at h.volumes v).solid (tree.solids v (record { name = []; solid = Cuboid (pos 0) (pos 0) (pos 0); material = []; placements = [] }) less)

  pub instance_at : (v k : ℕ) (i : Instance) → slice_get (instances h v) k ≡ Some i → IsInstance h i
  instance_at v k i at = all_at (IsInstance h) (instances h v) k i (tree.placed v) at

  pub moves_at : (v k : ℕ) (i : Instance) → slice_get (instances h v) k ≡ Some i → (ray : Ray) → HasDirection ray → HasDirection (local_ray i ray)
  moves_at v k i at ray moves = rays_move_on i ray (instance_at v k i at).rotation moves

  -- inside the daughter, by the ray in her frame
  pub inside_daughter-along : (i : Instance) (ray : Ray) (t : RayParameter) → is_inside_daughter h (point_of_ray ray t) i ≡ is_inside (solid_at h i.volume) (point_of_ray (local_ray i ray) t)
  inside_daughter-along i ray t = ap (is_inside (solid_at h i.volume)) (points_stay i ray t)

  module _ (clean : IsClean h) where
    -- where a daughter contains the point, she is the first
    pub first_inside : (v : ℕ) (p : Vec4) → v < length h.volumes → pos 0 <ℤ p.w → (k : ℕ) (i : Instance) → slice_get (instances h v) k ≡ Some i → is_inside_daughter h p i ≡ true
        → first_daughter h v p ≡ Some (record { ordinal = k; instance = i })
    first_inside v p less w k i at inside =
        let number : 0 + k ≡ k = omega arith in
        first-at (is_inside_daughter h p) 0 k (instances h v) i at inside
        (λ j a before e passes. pairs_at (AreDisjoint h) (instances h v) j k a i (clean.disjoint v less) before e at p w passes inside)
        ∙ ap (λ n. Some (record { ordinal = n; instance = i })) number

    -- one goes on in her
    pub goes_on : (n : ℕ) (v : ℕ) (ray : Ray) → v < length h.volumes → (k : ℕ) (i : Instance) → slice_get (instances h v) k ≡ Some i → (t : RayParameter) → IsPositive t → is_inside_daughter h (point_of_ray ray t) i ≡ true
        → descend h (suc n) v (point_of_ray ray t) ≡ k ∷ descend h n i.volume (point_of_ray (local_ray i ray) t)
    goes_on n v ray less k i at t positive inside =
        descend-some h n v (point_of_ray ray t) (record { ordinal = k; instance = i }) (first_inside v (point_of_ray ray t) less (weight ray t positive) k i at inside)
        ∙ ap (λ p. k ∷ descend h n i.volume p) (points_stay i ray t)

    -- a volume of the hierarchy, that a ray with a direction is inside strictly between two parameters
    pub record IsWithin (from to : RayParameter) (d : Frame) : Type 0 where
      pub volume : d.volume < length h.volumes
      pub moves : HasDirection d.ray
      pub span : IsInsideBetween (solid_at h d.volume) d.ray from to

    module _ (found : Frame → ℕ → Option (Hit Frame)) (is_found : IsFound h found) where
      -- a daughter that is met at an ordinal
      pub record IsHit (d : Frame) (k : ℕ) (hit : Hit Frame) : Type 0 where
        pub instance : Instance
        pub at : slice_get (instances h d.volume) k ≡ Some instance
        pub ordinal : hit.ordinal ≡ k
        pub daughter : hit.daughter ≡ record { volume = instance.volume; ray = local_ray instance d.ray }
        pub span : IsInsideBetween (solid_at h instance.volume) (local_ray instance d.ray) hit.from hit.to

      hit_with : (d : Frame) (k : ℕ) (i : Instance) (hit : Hit Frame) (o : Option Span) → slice_get (instances h d.volume) k ≡ Some i → IsClip (solid_at h i.volume) (local_ray i d.ray) o → hit_of k i d.ray o ≡ Some hit → IsHit d k hit
      hit_with d k i hit None at clip e = absurd (cc)
      hit_with d k i hit (Some span) at clip e =
          let made : Hit Frame = record { ordinal = k; from = parameter_of span.from; to = parameter_of span.to; daughter = record { volume = i.volume; ray = local_ray i d.ray } } in
          let same : made ≡ hit = cc in
          subst (IsHit d k) same (record { instance = i; at = at; ordinal = refl; daughter = refl; span = clip })

      pub hit_at : (d : Frame) → HasDirection d.ray → (k : ℕ) (hit : Hit Frame) → k < length (instances h d.volume) → found d k ≡ Some hit → IsHit d k hit
      hit_at d moves k hit below e = elim (slice_get_cases (instances h d.volume) k).1 [
        | inl (i, less, at, same) ↦ let f = is_found d moves k i at in hit_with d k i hit f.0 at f.1 (sym f.2 ∙ e)
        | inr (past, at) ↦ absurd (omega (arith, below, past))
      ]

      -- inside a hit is inside the daughter
      pub inside-daughter : (d : Frame) (k : ℕ) (hit : Hit Frame) (m : IsHit d k hit) (t : RayParameter) → IsPositive t → IsInside hit t → is_inside_daughter h (point_of_ray d.ray t) m.instance ≡ true
      inside-daughter d k hit m t positive inside = inside_daughter-along m.instance d.ray t ∙ (m.span.inside t positive).1 inside

      -- a daughter inside which the ray is at a parameter was met
      met_with : (d : Frame) (k : ℕ) (i : Instance) (o : Option Span) → IsClip (solid_at h i.volume) (local_ray i d.ray) o → found d k ≡ hit_of k i d.ray o
          → (t : RayParameter) → IsPositive t → is_inside (solid_at h i.volume) (point_of_ray (local_ray i d.ray) t) ≡ true → (hit : Hit Frame) × (found d k ≡ Some hit) × IsInside hit t
      met_with d k i None clip e t positive inside = absurd (true≢false (sym inside ∙ clip t positive))
      met_with d k i (Some span) clip e t positive inside =
          (record { ordinal = k; from = parameter_of span.from; to = parameter_of span.to; daughter = record { volume = i.volume; ray = local_ray i d.ray } }, e, (clip.inside t positive).0 inside)

      pub part : (from to : RayParameter) (d : Frame) → IsWithin from to d → (k : ℕ) (hit : Hit Frame) → k < length (instances h d.volume) → found d k ≡ Some hit → IsPart from to hit
      part from to d ok k hit below e =
          let m = hit_at d ok.moves k hit below e in
          let between = λ (t : RayParameter) (positive : IsPositive t) (over : IsBelow hit.from t) (under : IsBelow t hit.to).
          closed (solid_at h d.volume) d.ray from to ok.span t positive
          (all_at (IsContainedIn h d.volume) (instances h d.volume) k m.instance (clean.contained d.volume ok.volume) m.at (point_of_ray d.ray t) (weight d.ray t positive)
          (inside_in (solid_at h m.instance.volume) (local_of m.instance (point_of_ray d.ray t)) (inside-daughter d k hit m t positive (over, under)))) in
          record {
            starts = starts_within hit.from hit.to from m.span.from_lowest.positive m.span.to_lowest.positive ok.span.from_lowest.positive m.span.ordered (λ t p o u. (between t p o u).0);
            ends = ends_within hit.from hit.to to m.span.from_lowest.positive m.span.to_lowest.positive ok.span.to_lowest.positive m.span.ordered (λ t p o u. (between t p o u).1);
            ordered = m.span.ordered;
            from_lowest = m.span.from_lowest;
            to_lowest = m.span.to_lowest;
          }

      clear : (d : Frame) → d.volume < length h.volumes → HasDirection d.ray → (j k : ℕ) (g hit : Hit Frame) → j < k → k < length (instances h d.volume) → found d j ≡ Some g → found d k ≡ Some hit → Apart hit g
      clear d less moves j k g hit before below e f =
          let a = hit_at d moves j g (omega (arith, before, below)) e in
          let b = hit_at d moves k hit below f in
          no_common hit.from hit.to g.from g.to b.span.from_lowest.positive b.span.to_lowest.positive a.span.from_lowest.positive a.span.to_lowest.positive b.span.ordered a.span.ordered
          (λ t positive o u p q. pairs_at (AreDisjoint h) (instances h d.volume) j k a.instance b.instance (clean.disjoint d.volume less) before a.at b.at (point_of_ray d.ray t) (weight d.ray t positive)
          (inside-daughter d j g a t positive (p, q)) (inside-daughter d k hit b t positive (o, u)))

      abbrev place_in : ℕ → Frame → RayParameter → List ℕ
      place_in n d t = descend h n d.volume (point_of_ray d.ray t)

      abbrev GoesInto : ℕ → Frame → Hit Frame → Type 0
      GoesInto n d hit = (t : RayParameter) → IsPositive t → IsInside hit t → place_in (suc n) d t ≡ hit.ordinal ∷ place_in n hit.daughter t

      into : (n : ℕ) (from to : RayParameter) (d : Frame) → IsWithin from to d → (k : ℕ) (hit : Hit Frame) → k < length (instances h d.volume) → found d k ≡ Some hit → GoesInto n d hit
      into n from to d ok k hit below e t positive inside =
          let m = hit_at d ok.moves k hit below e in
          let there : descend h n m.instance.volume (point_of_ray (local_ray m.instance d.ray) t) ≡ place_in n hit.daughter t =
          ap (λ (f : Frame). descend h n f.volume (point_of_ray f.ray t)) (sym m.daughter) in
          goes_on n d.volume d.ray ok.volume k m.instance m.at t positive (inside-daughter d k hit m t positive inside) ∙ (λ x. sym m.ordinal x ∷ there x)

      stay : (n : ℕ) (from to : RayParameter) (d : Frame) → IsWithin from to d → (t : RayParameter) → IsPositive t → AllByRecursion (λ hit. IsInside hit t → ⊥) (met_in h found d) → place_in (suc n) d t ≡ []
      stay n from to d ok t positive out =
          let p = point_of_ray d.ray t in
          descend-none h n d.volume p (first-none (is_inside_daughter h p) 0 (instances h d.volume) (λ k i at passes.
          let f = is_found d ok.moves k i at in
          let m = met_with d k i f.0 f.1 f.2 t positive (sym (inside_daughter-along i d.ray t) ∙ passes) in
          sorted-all (found d) (λ hit. IsInside hit t → ⊥) (length (instances h d.volume)) out k m.0 (slice_get_within (instances h d.volume) k i at) m.1 m.2))

      -- so many levels deep, whatever their number
      pub nest : (n : ℕ) (from to : RayParameter) (d : Frame) → IsWithin from to d → IsNest (met_in h found) place_in n from to d
      nest zero from to d ok = record {
        from_lowest = ok.span.from_lowest;
        to_lowest = ok.span.to_lowest;
        ordered = ok.span.ordered;
        turn = omega (arith, ok.span.ordered);
        into = tt;
        stay = λ t positive over under out. refl;
      }
      nest (suc n) from to d ok = (
        record {
          from_lowest = ok.span.from_lowest;
          to_lowest = ok.span.to_lowest;
          ordered = ok.span.ordered;
          turn = in_turn (found d) from to (length (instances h d.volume)) (omega (arith, ok.span.ordered)) (part from to d ok) (clear d ok.volume ok.moves);
          into = all-sorted (found d) (GoesInto n d) (length (instances h d.volume)) (into n from to d ok);
          stay = λ t positive over under out. stay n from to d ok t positive out;
        },
        all-sorted (found d) (λ hit. IsNest (met_in h found) place_in n hit.from hit.to hit.daughter) (length (instances h d.volume)) (λ k hit below e.
            let m = hit_at d ok.moves k hit below e in
            subst (IsNest (met_in h found) place_in n hit.from hit.to) (sym m.daughter)
            (nest n hit.from hit.to (record { volume = m.instance.volume; ray = local_ray m.instance d.ray }) (record {
              volume = (instance_at d.volume k m.instance m.at).volume;
              moves = moves_at d.volume k m.instance m.at d.ray ok.moves;
              span = m.span;
            }))),
      )

-- ---- the world
inside_from : (b : Bool) (path other : List ℕ) → (if b then Some other else None) ≡ Some path → b ≡ true
inside_from true path other e = refl
inside_from false path other e = absurd (cc)

module _ (h : Hierarchy) (ray : Ray) where
  pub inside_world : (t : RayParameter) (path : List ℕ) → path_along h ray t ≡ Some path → is_inside (solid_at h h.world) (point_of_ray ray t) ≡ true
  inside_world t path e = inside_from (is_inside (solid_at h h.world) (point_of_ray ray t)) path (descend h max_depth h.world (point_of_ray ray t)) e

  pub along : (t : RayParameter) → is_inside (solid_at h h.world) (point_of_ray ray t) ≡ true → path_along h ray t ≡ Some (descend h max_depth h.world (point_of_ray ray t))
  along t e = ap (λ b. if b then Some (descend h max_depth h.world (point_of_ray ray t)) else None) e

pub partition : (h : Hierarchy) → IsTree h → IsClean h → (found : Frame → ℕ → Option (Hit Frame)) → IsFound h found → (ray : Ray) → HasDirection ray
    → (span : Option Span) → IsClip (solid_at h h.world) ray span → IsPartition (path_along h ray) (pieces_along h found ray span)
partition h tree clean found is_found ray moves None clip = record {
  proper = tt;
  above = tt;
  ordered = tt;
  constant = tt;
  maximal = tt;
  complete = λ t path positive e. true≢false (sym (inside_world h ray t path e) ∙ clip t positive);
}
partition h tree clean found is_found ray moves (Some span) clip =
    let d : Frame = record { volume = h.world; ray = ray } in
    let from = parameter_of span.from in
    let to = parameter_of span.to in
    partition_of_nest (met_in h found) (λ n d t. descend h n d.volume (point_of_ray d.ray t)) max_depth from to d (path_along h ray)
    (nest h tree clean found is_found max_depth from to d (record { volume = tree.world; moves = moves; span = clip }))
    (λ t positive over under. along h ray t ((clip.inside t positive).1 (over, under)))
    (λ t path positive e. (clip.inside t positive).0 (inside_world h ray t path e))
