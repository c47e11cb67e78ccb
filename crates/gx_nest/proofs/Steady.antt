-- In a clean hierarchy no single parameter matters, so the open rows are the report.
use Rattle.std.proofs.Common.{◌≡◌, ℕ, zero, suc, ◌<◌, inl, inr, sym, ◌∙◌, ap, arith, true, true≢false, List, ◌∷◌, length, slice_get, Option, None, Some}
use Rattle.gx_num.specs.declared.ray.Ray.{Ray}
use Rattle.gx_num.specs.Ray.{RayParameter, HasDirection, IsPositive, IsBelow, IsUpTo, point_of_ray}
use Rattle.gx_num.proofs.Order.{le_lt, lt_le, lt_lt, apart, mediant, above_mediant, below_mediant, positive_mediant}
use Rattle.gx_fraction.specs.Fraction.{parameter_of}
use Rattle.gx_clip.specs.declared.span.Span.{Span}
use Rattle.gx_clip.specs.Clip.{IsInsideBetween, IsClip}
use Rattle.gx_clip.proofs.Clips.{clip_exists}
use Rattle.gx_path.specs.Report.{IsReport}
use Rattle.gx_partition.specs.Partition.{IsSteady, open_rows}
use Rattle.gx_partition.specs.Walk.{Hit}
use Rattle.gx_partition.proofs.OpenRows.{report}
use Rattle.gx_tree.specs.declared.instance.Instance.{Instance}
use Rattle.gx_tree.specs.Hierarchy.{Hierarchy, instances, max_depth}
use Rattle.gx_tree.specs.Fault.{IsTree}
use Rattle.gx_tree.specs.Deepest.{Daughter, is_inside_daughter, first_daughter, descend, path_along}
use Rattle.gx_check.specs.Clean.{IsClean}
use Rattle.gx_frame.specs.Frames.{local_ray}
use Rattle.gx_nest.specs.Met.{Frame, IsFound, pieces_along}
use Rattle.gx_nest.proofs.First.{none_or_some, none_nor_some, first-is, descend-some, descend-none}
use Rattle.gx_nest.proofs.Nested.{solid_at, weight, bounded_at, instance_at, moves_at, inside_daughter-along, first_inside, goes_on, inside_world, along, partition}

-- the greater of two
greater : (s t u : RayParameter) → 0 < s.den → 0 < t.den → IsBelow s u → IsBelow t u → (m : RayParameter) × (0 < m.den) × IsUpTo s m × IsUpTo t m × IsBelow m u
greater s t u d e su tu = elim (apart s t) [ inl less ↦ (t, e, omega (arith, less), omega arith, tu) | inr more ↦ (s, d, omega arith, more, su) ]

lesser_above : (s t u : RayParameter) → 0 < s.den → 0 < t.den → IsBelow u s → IsBelow u t → (m : RayParameter) × (0 < m.den) × IsUpTo m s × IsUpTo m t × IsBelow u m
lesser_above s t u d e us ut = elim (apart s t) [ inl less ↦ (s, d, omega arith, omega (arith, less), us) | inr more ↦ (t, e, more, omega arith, ut) ]

tails : (k : ℕ) (a b path : List ℕ) → k ∷ a ≡ path → k ∷ b ≡ path → a ≡ b
tails k a b path e f = cc

module _ (h : Hierarchy) (tree : IsTree h) (clean : IsClean h) where
  -- a ray is inside a daughter strictly between two parameters, where it is so at all
  span_at : (v k : ℕ) (i : Instance) (ray : Ray) → slice_get (instances h v) k ≡ Some i → HasDirection ray → (t : RayParameter) → IsPositive t → is_inside_daughter h (point_of_ray ray t) i ≡ true
      → (from : RayParameter) × (to : RayParameter) × IsInsideBetween (solid_at h i.volume) (local_ray i ray) from to
  span_at v k i ray at moves t positive inside = let clip = clip_exists (solid_at h i.volume) (local_ray i ray) (bounded_at h tree i.volume (instance_at h tree v k i at).volume) (moves_at h tree v k i at ray moves) in go clip.0 clip.1
    where
      go : (o : Option Span) → IsClip (solid_at h i.volume) (local_ray i ray) o → (from : RayParameter) × (to : RayParameter) × IsInsideBetween (solid_at h i.volume) (local_ray i ray) from to
      go None clip = absurd (true≢false (sym inside ∙ inside_daughter-along h tree i ray t ∙ clip t positive))
      go (Some span) clip = (parameter_of span.from, parameter_of span.to, clip)

  -- one ordinal on both sides is one daughter, who contains what is between
  no_gap : (v : ℕ) (ray : Ray) → v < length h.volumes → HasDirection ray → (x t y : RayParameter) → IsPositive x → IsPositive t → IsPositive y → IsBelow x t → IsBelow t y → (a b : Daughter)
      → first_daughter h v (point_of_ray ray x) ≡ Some a → first_daughter h v (point_of_ray ray y) ≡ Some b → a.ordinal ≡ b.ordinal → first_daughter h v (point_of_ray ray t) ≡ None → ⊥
  no_gap v ray less moves x t y hx ht hy xt ty a b e f same none =
      let list = instances h v in
      let p = first-is (is_inside_daughter h (point_of_ray ray x)) 0 list a e in
      let q = first-is (is_inside_daughter h (point_of_ray ray y)) 0 list b f in
      let places : q.place ≡ p.place = omega (arith, p.ordinal, q.ordinal, same) in
      let both : Some b.instance ≡ Some a.instance = sym q.at ∙ ap (λ k. slice_get list k) places ∙ p.at in
      let one : b.instance ≡ a.instance = cc in
      let i = a.instance in
      let span = span_at v p.place i ray p.at moves x hx p.passes in
      let inside_y : is_inside_daughter h (point_of_ray ray y) i ≡ true = sym (ap (is_inside_daughter h (point_of_ray ray y)) one) ∙ q.passes in
      let low = ((span.2.inside x hx).0 (sym (inside_daughter-along h tree i ray x) ∙ p.passes)).0 in
      let high = ((span.2.inside y hy).0 (sym (inside_daughter-along h tree i ray y) ∙ inside_y)).1 in
      let here = inside_daughter-along h tree i ray t ∙ (span.2.inside t ht).1 (lt_lt span.0 x t span.2.from_lowest.positive low xt, lt_lt t y span.1 ht.1 ty high) in
      none_nor_some (first_daughter h v (point_of_ray ray t)) (record { ordinal = p.place; instance = i }) none (first_inside h tree clean v (point_of_ray ray t) less (weight ray t ht) p.place i p.at here)

  between : (n v : ℕ) (ray : Ray) → v < length h.volumes → HasDirection ray → (s t u : RayParameter) (path : List ℕ) → 0 < s.den → 0 < u.den → IsPositive t → IsBelow s t → IsBelow t u
      → ((x : RayParameter) → IsPositive x → IsBelow s x → IsBelow x t → descend h n v (point_of_ray ray x) ≡ path)
      → ((x : RayParameter) → IsPositive x → IsBelow t x → IsBelow x u → descend h n v (point_of_ray ray x) ≡ path)
      → descend h n v (point_of_ray ray t) ≡ path
  between zero v ray less moves s t u path ds du ht st tu left right = left (mediant s t) (positive_mediant s t ds st) (above_mediant s t st) (below_mediant s t st)
  between (suc n) v ray less moves s t u path ds du ht st tu left right = elim (none_or_some (first_daughter h v (point_of_ray ray t))) [
    | inl none ↦
        let x = mediant s t in
        let y = mediant t u in
        let hx = positive_mediant s t ds st in
        let hy = positive_mediant t u ht.1 tu in
        let at_x = left x hx (above_mediant s t st) (below_mediant s t st) in
        let at_y = right y hy (above_mediant t u tu) (below_mediant t u tu) in
        let stays = descend-none h n v (point_of_ray ray t) none in
        elim (none_or_some (first_daughter h v (point_of_ray ray x))) [
          | inl e ↦ stays ∙ sym (descend-none h n v (point_of_ray ray x) e) ∙ at_x
          | inr (a, e) ↦ elim (none_or_some (first_daughter h v (point_of_ray ray y))) [
            | inl f ↦ stays ∙ sym (descend-none h n v (point_of_ray ray y) f) ∙ at_y
            | inr (b, f) ↦
                let one = sym (descend-some h n v (point_of_ray ray x) a e) ∙ at_x in
                let two = sym (descend-some h n v (point_of_ray ray y) b f) ∙ at_y in
                let both = one ∙ sym two in
                let ordinals : a.ordinal ≡ b.ordinal = cc in
                absurd (no_gap v ray less moves x t y hx ht hy (below_mediant s t st) (above_mediant t u tu) a b e f ordinals none)
          ]
        ]
    | inr (a, e) ↦
        let f = first-is (is_inside_daughter h (point_of_ray ray t)) 0 (instances h v) a e in
        let i = a.instance in
        let span = span_at v f.place i ray f.at moves t ht f.passes in
        let mid = (span.2.inside t ht).0 (sym (inside_daughter-along h tree i ray t) ∙ f.passes) in
        let low = greater s span.0 t ds span.2.from_lowest.positive st mid.0 in
        let high = lesser_above u span.1 t du span.2.to_lowest.positive tu mid.1 in
        let there = λ (x : RayParameter). descend h n i.volume (point_of_ray (local_ray i ray) x) in
        let goes = λ (x : RayParameter) (hx : IsPositive x) (over : IsBelow span.0 x) (under : IsBelow x span.1).
        goes_on h tree clean n v ray less f.place i f.at x hx (inside_daughter-along h tree i ray x ∙ (span.2.inside x hx).1 (over, under)) in
        let before = λ (x : RayParameter) (hx : IsPositive x) (over : IsBelow low.0 x) (under : IsBelow x t).
        sym (goes x hx (le_lt span.0 low.0 x span.2.from_lowest.positive low.3 over) (lt_lt x t span.1 hx.1 under mid.1)) ∙ left x hx (le_lt s low.0 x ds low.2 over) under in
        let after = λ (x : RayParameter) (hx : IsPositive x) (over : IsBelow t x) (under : IsBelow x high.0).
        sym (goes x hx (lt_lt span.0 t x span.2.from_lowest.positive mid.0 over) (lt_le x high.0 span.1 span.2.to_lowest.positive under high.3)) ∙ right x hx over (lt_le x high.0 u du under high.2) in
        let first = mediant low.0 t in
        let is = before first (positive_mediant low.0 t low.1 low.4) (above_mediant low.0 t low.4) (below_mediant low.0 t low.4) in
        let inner = between n i.volume (local_ray i ray) (instance_at h tree v f.place i f.at).volume (moves_at h tree v f.place i f.at ray moves) low.0 t high.0 (there first) low.1 high.1 ht low.4 high.4
        (λ x hx over under. tails f.place (there x) (there first) path (before x hx over under) is)
        (λ x hx over under. tails f.place (there x) (there first) path (after x hx over under) is) in
        goes t ht mid.0 mid.1 ∙ ap (λ l. f.place ∷ l) inner ∙ is
  ]

  one_path : (o : Option (List ℕ)) (a path : List ℕ) → o ≡ Some a → o ≡ Some path → a ≡ path
  one_path o a path e f = cc

  steady : (ray : Ray) → HasDirection ray → (from to : RayParameter) → IsInsideBetween (solid_at h h.world) ray from to → IsSteady (path_along h ray)
  steady ray moves from to span =
      let within = λ (t : RayParameter) (path : List ℕ) (positive : IsPositive t) (e : path_along h ray t ≡ Some path). (span.inside t positive).0 (inside_world h ray t path e) in
      let there = λ (t : RayParameter). descend h max_depth h.world (point_of_ray ray t) in
      record {
        between = λ s t u path ds du ht st tu left right.
            let x = mediant s t in
            let y = mediant t u in
            let hx = positive_mediant s t ds st in
            let hy = positive_mediant t u ht.1 tu in
            let low = (within x path hx (left x hx (above_mediant s t st) (below_mediant s t st))).0 in
            let high = (within y path hy (right y hy (above_mediant t u tu) (below_mediant t u tu))).1 in
            let here = (span.inside t ht).1 (lt_lt from x t span.from_lowest.positive low (below_mediant s t st), lt_lt t y to ht.1 (above_mediant t u tu) high) in
            let one = λ (z : RayParameter) (e : path_along h ray z ≡ Some path). one_path (path_along h ray z) (there z) path (along h ray z (inside_world h ray z path e)) e in
            along h ray t here ∙ ap (λ l. Some l) (between max_depth h.world ray tree.world moves s t u path ds du ht st tu (λ z hz over under. one z (left z hz over under)) (λ z hz over under. one z (right z hz over under)));
        onward = λ t path positive e.
            let w = within t path positive e in
            (to, span.to_lowest.positive, w.1, λ x hx over under. (there x, along h ray x ((span.inside x hx).1 (lt_lt from t x span.from_lowest.positive w.0 over, under))));
      }

  pub open_report : (found : Frame → ℕ → Option (Hit Frame)) → IsFound h found → (ray : Ray) → HasDirection ray
      → (span : Option Span) → IsClip (solid_at h h.world) ray span → IsReport (path_along h ray) (open_rows (pieces_along h found ray span))
  open_report found is_found ray moves None clip = record {
    reduced = tt;
    ordered = tt;
    constant = tt;
    maximal = tt;
    complete = λ t path positive e. true≢false (sym (inside_world h ray t path e) ∙ clip t positive);
  }
  open_report found is_found ray moves (Some span) clip =
      report (path_along h ray) (pieces_along h found ray (Some span)) (partition h tree clean found is_found ray moves (Some span) clip)
      (steady ray moves (parameter_of span.from) (parameter_of span.to) clip)
