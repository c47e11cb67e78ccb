-- What is offered and read in a node, and along a header whose runs do as much.
use Rattle.std.proofs.Common.{◌≡◌, ◌⊎◌, ℕ, zero, suc, ◌+◌, ◌*◌, ◌<◌, ◌≤◌, inl, inr, refl, sym, ap, subst, ◌∙◌, arith, Bool, true, List, [], ◌∷◌, length, Option, None, Some}
use Rattle.std.specs.Prelude.{if◌then◌else◌, sum_by, flat_map}
use Rattle.std.specs.List.{All, AllByRecursion}
use Rattle.std.proofs.lemmas.List.Sums.{sum_by-cons}
use Rattle.gx_num.proofs.Order.{above_positive}
use Rattle.gx_num.specs.declared.extent.Extent.{Extent}
use Rattle.gx_num.specs.declared.ray.Ray.{Ray}
use Rattle.gx_offers.specs.Offers.{AnyByRecursion, IsOneOf, Offered, IsOffered}
use Rattle.gx_boxes.specs.Boxes.{IsProper, IsMet}
use Rattle.gx_voxel.specs.Cells.{Side, Cell, side_of, without, cells_within}
use Rattle.gx_voxel.specs.Cut.{Cut, SliceRun, coordinate, cut_of}
use Rattle.gx_voxel.specs.Members.{Held, AreKept}
use Rattle.gx_voxel.specs.Proxy.{content_of, axis_of, list_of, IsNode, StandsAs, StandsWithin}
use Rattle.gx_voxel.specs.declared.proxy.Proxy.{Proxy}
use Rattle.gx_voxel.specs.declared.proxy.Header.{Header}
use Rattle.gx_along.specs.Along.{IsExact}
use Rattle.gx_along.specs.Bounds.{tests_within, reads_within, IsBoxTest}
use Rattle.gx_along.specs.Digits.{digits}
use Rattle.gx_along.specs.Line.{Seen, IsStretch, IsPart}
use Rattle.gx_along.specs.Runs.{low_at, high_at}
use Rattle.gx_along.specs.declared.line.Stretch.{Stretch}
use Rattle.gx_along.proofs.Exact.{exact}
use Rattle.gx_descend.specs.Descent.{IsDue}
use Rattle.gx_descend.specs.Crossed.{IsAlong, IsDescendedWithin, Descends, GoesInto, Crosses}
use Rattle.gx_descend.proofs.Placed.{IsHeaderOf, header-of, run_at, count, low-is, high-is, run-stands, run-proper}
use Rattle.gx_descend.proofs.Reached.{some-point, in-side, RayIn, HasDue, due-seen}
use Rattle.gx_descend.proofs.Counted.{sum-flat, sum-seen}

if-true : (b : Bool) (x : ℕ) → b ≡ true → (if b then x else 0) ≡ x
if-true b x e = ap (λ c. if c then x else 0) e

-- a box that the ray is in all along passes
passes : (ray : Ray) (s : Stretch) (met : List Side → Bool) (box : List Side) → IsStretch s → IsBoxTest ray s met → IsAlong ray s box → met box ≡ true
passes ray s met box ok test along = let m = some-point s ok in test box m.0 m.1 m.2 (along m.0 m.1 m.2)

due-met : (at : ℕ → Extent) (ray : Ray) (s : Stretch) (k : ℕ) → IsDue at ray s k → IsMet (at k) ray
due-met at ray s k (a, b, t, crossing, den, above, below, within) = (t, (above_positive a t above, den), crossing.inside t den above below)

-- ---- in a node
module _ (at : ℕ → Extent) (p : Proxy) (held : Held) (is : content_of p ≡ inl held) where
  same-node : (ks : List ℕ) → IsNode at p ks → (held.numbers ≡ ks) × AreKept at held
  same-node ks node = let same : node.held ≡ held = cc (is, node.is) in subst (λ m. (m.numbers ≡ ks) × AreKept at m) same (node.numbers, node.kept)

  pub node-of : (n : ℕ) (ks axes : List ℕ) → StandsWithin at n p ks axes → ((held.numbers ≡ ks) × AreKept at held) × ((cut : Cut) → cut_of at ks axes ≡ Some cut → 0 < n → ⊥) × ((box : List Side) → cells_within at n box ks axes ≡ record { box = box; members = ks } ∷ [])
  unfolding StandsWithin cells_within
  node-of zero ks axes stands = (same-node ks stands, λ cut e some. omega (arith, some), λ box. refl)
  node-of (suc n) ks axes stands = go (cut_of at ks axes) refl stands
    where
      go : (o : Option Cut) → cut_of at ks axes ≡ o → StandsAs at (λ axis q members. StandsWithin at n q members (without axis axes)) p ks o
          → ((held.numbers ≡ ks) × AreKept at held) × ((cut : Cut) → cut_of at ks axes ≡ Some cut → 0 < suc n → ⊥) × ((box : List Side) → elim o as (λ _. List Cell) [
            | None ↦ record { box = box; members = ks } ∷ []
            | Some cut ↦ flat_map (λ run. cells_within at n (side_of cut.axis run ∷ box) run.members (without cut.axis axes)) cut.runs
          ] ≡ record { box = box; members = ks } ∷ [])
      go None e stood = (same-node ks stood, λ cut f some. absurd (cc (e, f)), λ box. refl)
      go (Some cut) e stood = absurd (cc (is, stood.1))

pub node-descends : (n : ℕ) (ray : Ray) (s : Stretch) (p : Proxy) (held : Held) (old new : Offered) (r : ℕ) → IsStretch s → content_of p ≡ inl held → ((at : ℕ → Extent) → AreKept at held → IsOffered (λ k. IsMet (at k) ray) held.numbers old new) → Descends n ray s p old new r r
node-descends n ray s p held old new r ok is offers at ks axes proper stands =
    let node = node-of at p held is n ks axes stands in
    let o : IsOffered (λ k. IsMet (at k) ray) ks old new = subst (λ l. IsOffered (λ k. IsMet (at k) ray) l old new) node.0.0 (offers at node.0.1) in
    record {
      room = o.room;
      kept = o.kept;
      only = o.only;
      whole = λ k one due. o.whole k one (due-met at ray s k due);
      tests = λ met box test along.
          let one : tests_within met (record { box = box; members = ks } ∷ []) ≡ 0 + (if met box then length ks else 0) = refl in
          omega (arith, o.few, ap (tests_within met) (node.2 box), one, if-true (met box) (length ks) (passes ray s met box ok test along));
      reads = λ met box test along. omega arith;
      some = λ cut e some. absurd (node.1 cut e some);
      more = omega arith;
    }

-- ---- along a header
module _ (at : ℕ → Extent) (n : ℕ) (h : Header) (ks axes : List ℕ) (proper : All (λ k. IsProper (at k)) ks) (cut : Cut) (w : IsHeaderOf at n h ks axes cut) (ray : Ray) (s : Stretch) (ok : IsStretch s) where
  abbrev left : List ℕ
  left = without cut.axis axes

  abbrev T : (List Side → Bool) → List Side → SliceRun → ℕ
  T met box run = tests_within met (cells_within at n (side_of cut.axis run ∷ box) run.members left)

  abbrev R : (List Side → Bool) → List Side → SliceRun → ℕ
  R met box run = (if met (side_of cut.axis run ∷ box) then 1 else 0) + reads_within met at n (side_of cut.axis run ∷ box) run.members left

  abbrev Part : Seen → Type 0
  Part one = (one.index < length (list_of h)) × IsPart (coordinate cut.axis ray.o) (coordinate cut.axis ray.d) (low_at h one.index) (high_at h one.index) s one.part

  -- along the part of a run the ray is in the run's side
  part-along : (one : Seen) → Part one → (box : List Side) → IsAlong ray s box → IsAlong ray one.part (side_of cut.axis (run_at cut one.index) ∷ box)
  part-along one part box along t den within =
      let v = part.1.inside t den within in
      let i = one.index in
      let r : RayIn ray cut.axis (run_at cut i).low (run_at cut i).high t =
      subst (λ z. RayIn ray cut.axis (run_at cut i).low z t) (high-is at n h ks axes cut w i part.0) (subst (λ z. RayIn ray cut.axis z (high_at h i) t) (low-is at n h ks axes cut w i part.0) v.1) in
      (in-side ray t cut.axis (run_at cut i) r, along t den v.0)

  part-test : (one : Seen) → Part one → (met : List Side → Bool) → IsBoxTest ray s met → IsBoxTest ray one.part met
  part-test one part met test = λ box t den within inside. test box t den (part.1.inside t den within).0 inside

  -- what is done in some runs one after another
  record IsGone (seen : List Seen) (old new : Offered) (before after : ℕ) : Type 0 where
    pub room : new.room ≡ old.room
    pub kept : (k : ℕ) → IsOneOf k old.numbers → IsOneOf k new.numbers
    pub only : (k : ℕ) → IsOneOf k new.numbers → IsOneOf k old.numbers ⊎ IsOneOf k ks
    pub whole : (k : ℕ) → AnyByRecursion (HasDue at ray cut k) seen → IsOneOf k new.numbers
    pub tests : (met : List Side → Bool) (box : List Side) → IsBoxTest ray s met → IsAlong ray s box → length new.numbers ≤ length old.numbers + sum_by (λ one. T met box (run_at cut one.index)) seen
    pub reads : (met : List Side → Bool) (box : List Side) → IsBoxTest ray s met → IsAlong ray s box → after ≤ before + sum_by (λ one. R met box (run_at cut one.index)) seen
    pub more : before ≤ after

  gone : (seen : List Seen) → AllByRecursion Part seen → (old new : Offered) (before after : ℕ) → GoesInto n ray h seen old new before after → IsGone seen old new before after
  gone [] all old new before after goes =
      let same = goes.0 in
      record {
        room = ap (λ o. o.room) same;
        kept = λ k one. subst (λ o. IsOneOf k o.numbers) (sym same) one;
        only = λ k one. inl (subst (λ o. IsOneOf k o.numbers) same one);
        whole = λ k any. absurd any;
        tests = λ met box test along. omega (arith, ap (λ o. length o.numbers) same);
        reads = λ met box test along. omega (arith, goes.1);
        more = omega (arith, goes.1);
      }
  gone (one ∷ seen) all old new before after (run, mid, r, less, is, deep, goes) =
      let i = one.index in
      let part = all.0 in
      let d = deep at (run_at cut i).members left (run-proper at n h ks axes cut w proper i less) (run-stands at n h ks axes cut w i run less is) in
      let rest = gone seen all.1 mid new r after goes in
      record {
        room = rest.room ∙ d.room;
        kept = λ k there. rest.kept k (d.kept k there);
        only = λ k there. elim (rest.only k there) [
          | inl middle ↦ elim (d.only k middle) [ inl early ↦ inl early | inr member ↦ inr (w.among i (omega (arith, less, count at n h ks axes cut w)) k member) ]
          | inr member ↦ inr member
        ];
        whole = λ k any. elim any [ inl due ↦ rest.kept k (d.whole k due.0 due.1) | inr any ↦ rest.whole k any ];
        tests = λ met box test along.
            let t = d.tests met (side_of cut.axis (run_at cut i) ∷ box) (part-test one part met test) (part-along one part box along) in
            omega (arith, t, rest.tests met box test along, sum_by-cons (λ (x : Seen). T met box (run_at cut x.index)) one seen);
        reads = λ met box test along.
            let inner = side_of cut.axis (run_at cut i) ∷ box in
            let test' = part-test one part met test in
            let along' = part-along one part box along in
            let t = d.reads met inner test' along' in
            omega (arith, t, if-true (met inner) 1 (passes ray one.part met inner part.1.stretch test' along'), rest.reads met box test along, sum_by-cons (λ (x : Seen). R met box (run_at cut x.index)) one seen);
        more = omega (arith, d.more, rest.more);
      }

  cells-are : (box : List Side) → cells_within at (suc n) box ks axes ≡ flat_map (λ run. cells_within at n (side_of cut.axis run ∷ box) run.members left) cut.runs
  unfolding cells_within
  cells-are box = ap (λ o. elim o as (λ _. List Cell) [
    | None ↦ record { box = box; members = ks } ∷ []
    | Some cut ↦ flat_map (λ run. cells_within at n (side_of cut.axis run ∷ box) run.members (without cut.axis axes)) cut.runs
  ]) w.cuts

  reads-are : (met : List Side → Bool) (box : List Side) → reads_within met at (suc n) box ks axes ≡ (if met box then (1 + 2 * digits (length cut.runs)) + sum_by (R met box) cut.runs else 0)
  unfolding reads_within
  reads-are met box = ap (λ o. elim o as (λ _. ℕ) [
    | None ↦ 0
    | Some cut ↦ if met box
        then (1 + 2 * digits (length cut.runs)) + sum_by (λ run. (if met (side_of cut.axis run ∷ box) then 1 else 0) + reads_within met at n (side_of cut.axis run ∷ box) run.members (without cut.axis axes)) cut.runs
        else 0
  ]) w.cuts

  along-header : (old new : Offered) (before after : ℕ) → Crosses n ray s h old new before after → IsDescendedWithin at (suc n) ks axes ray s old new before after
  along-header old new before after c =
      let exact-here = exact (coordinate (axis_of h) ray.o) (coordinate (axis_of h) ray.d) h s c.seen ok w.rising w.has c.walks in
      let all : IsExact (coordinate cut.axis ray.o) (coordinate cut.axis ray.d) h s c.seen = subst (λ a. IsExact (coordinate a ray.o) (coordinate a ray.d) h s c.seen) w.axis exact-here in
      let g = gone c.seen all.parts old new c.found c.last c.goes in
      let runs = count at n h ks axes cut w in
      let most : (G : SliceRun → ℕ) → sum_by (λ one. G (run_at cut one.index)) c.seen ≤ sum_by G cut.runs = λ G. sum-seen (coordinate (axis_of h) ray.o) (coordinate (axis_of h) ray.d) h s c.seen c.walks G cut.runs runs in
      record {
        room = g.room;
        kept = g.kept;
        only = g.only;
        whole = λ k one due. g.whole k (due-seen at n h ks axes cut w ray s c.seen all k one due);
        tests = λ met box test along.
            omega (arith, g.tests met box test along, most (T met box), ap (tests_within met) (cells-are box), sum-flat (λ c. if met c.box then length c.members else 0) (λ run. cells_within at n (side_of cut.axis run ∷ box) run.members left) cut.runs);
        reads = λ met box test along.
            let all' = reads-are met box ∙ if-true (met box) ((1 + 2 * digits (length cut.runs)) + sum_by (R met box) cut.runs) (passes ray s met box ok test along) in
            omega (arith, c.search, ap digits runs, g.reads met box test along, most (R met box), all', c.most);
        some = λ _ e _. omega (arith, c.some w.some, g.more, c.close);
        more = omega (arith, c.some w.some, g.more, c.close);
      }

pub header-descends : (n : ℕ) (ray : Ray) (s : Stretch) (p : Proxy) (h : Header) (old new : Offered) (before after : ℕ) → IsStretch s → content_of p ≡ inr h → Crosses n ray s h old new before after → Descends (suc n) ray s p old new before after
header-descends n ray s p h old new before after ok is c at ks axes proper stands =
    let w = header-of at n p h ks axes proper stands is in
    along-header at n h ks axes proper w.0 w.1 ray s ok old new before after c
