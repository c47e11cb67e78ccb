-- A header that stands for members: its runs are those of their cut, one by one, with some of the members each.
use Rattle.std.proofs.Common.{◌≡◌, ℕ, zero, suc, ◌<◌, inl, inr, refl, sym, subst, arith, ℤ, pos, Bool, true, false, cond, List, [], ◌∷◌, length, map, filter, get_or, Option, None, Some}
use Rattle.std.specs.List.{All}
use Rattle.gx_num.specs.declared.extent.Extent.{Extent}
use Rattle.gx_offers.specs.Offers.{AnyByRecursion, IsOneOf}
use Rattle.gx_boxes.specs.Boxes.{IsProper}
use Rattle.gx_voxel.specs.Cut.{SliceRun, Cut, cut_of}
use Rattle.gx_voxel.specs.Cells.{without}
use Rattle.gx_voxel.specs.Proxy.{content_of, axis_of, list_of, low_of, high_of, proxy_of, Alike, IsRun, StandsAs, StandsWithin}
use Rattle.gx_voxel.specs.declared.proxy.Proxy.{Proxy}
use Rattle.gx_voxel.specs.declared.proxy.Header.{Header}
use Rattle.gx_voxel.specs.declared.proxy.Run.{Run}
use Rattle.gx_voxel.proofs.Elements.{all-one}
use Rattle.gx_voxel.proofs.Grown.{turn-each}
use Rattle.gx_voxel.proofs.Standing.{is-cut, header-runs}
use Rattle.gx_along.specs.Runs.{IsRising, HasRuns, low_at, high_at}
use Rattle.gx_along.proofs.Rising.{headers-rise}

-- ---- lists
pub alike-length : {X Y : Type 0} (R : X → Y → Type 0) (xs : List X) (ys : List Y) → Alike R xs ys → length xs ≡ length ys
alike-length R [] [] all = refl
alike-length R [] (y ∷ ys) all = absurd all
alike-length R (x ∷ xs) [] all = absurd all
alike-length R (x ∷ xs) (y ∷ ys) all = omega (arith, alike-length R xs ys all.1)

alike-at : {X Y : Type 0} (R : X → Y → Type 0) (xs : List X) (ys : List Y) → Alike R xs ys → (i : ℕ) (x : X) (y : Y) → i < length xs → R (get_or xs i x) (get_or ys i y)
alike-at R [] [] all i x y less = absurd (omega arith)
alike-at R [] (b ∷ ys) all i x y less = absurd all
alike-at R (a ∷ xs) [] all i x y less = absurd all
alike-at R (a ∷ xs) (b ∷ ys) all zero x y less = all.0
alike-at R (a ∷ xs) (b ∷ ys) all (suc i) x y less = alike-at R xs ys all.1 i x y (omega (arith, less))

alike-map : {X Y : Type 0} (R : X → Y → Type 0) (f : X → ℤ) (g : Y → ℤ) → ((x : X) (y : Y) → R x y → f x ≡ g y) → (xs : List X) (ys : List Y) → Alike R xs ys → (i : ℕ) (y : Y) → i < length xs → get_or (map f xs) i (pos 0) ≡ g (get_or ys i y)
alike-map R f g each [] [] all i y less = absurd (omega arith)
alike-map R f g each [] (b ∷ ys) all i y less = absurd all
alike-map R f g each (a ∷ xs) [] all i y less = absurd all
alike-map R f g each (a ∷ xs) (b ∷ ys) all zero y less = each a b all.0
alike-map R f g each (a ∷ xs) (b ∷ ys) all (suc i) y less = alike-map R f g each xs ys all.1 i y (omega (arith, less))

-- the place of an element that has a property
pub place-of : {X : Type 0} (P : X → Type 0) (xs : List X) → AnyByRecursion P xs → (d : X) → (i : ℕ) × (i < length xs) × P (get_or xs i d)
place-of P [] any d = absurd any
place-of P (x ∷ xs) (inl h) d = (0, omega arith, h)
place-of P (x ∷ xs) (inr any) d = let r = place-of P xs any d in (suc r.0, omega (arith, r.1), r.2)

pub all-among : (P : ℕ → Type 0) (ks ms : List ℕ) → All P ks → ((k : ℕ) → IsOneOf k ms → IsOneOf k ks) → All P ms
all-among P ks [] all among i d less = absurd (omega arith)
all-among P ks (m ∷ ms) all among zero d less = all-one P ks m all (among m (inl refl))
all-among P ks (m ∷ ms) all among (suc i) d less = all-among P ks ms all (λ k one. among k (inr one)) i d (omega (arith, less))

kept-among : (test : ℕ → Bool) (ks : List ℕ) (k : ℕ) → IsOneOf k (filter test ks) → IsOneOf k ks
kept-among test [] k one = one
kept-among test (j ∷ ks) k one = go (test j) one (kept-among test ks k)
  where
    go : (b : Bool) → IsOneOf k (cond b (j ∷ filter test ks) (filter test ks)) → (IsOneOf k (filter test ks) → IsOneOf k ks) → IsOneOf k (j ∷ ks)
    go true (inl e) rest = inl e
    go true (inr one) rest = inr (rest one)
    go false one rest = inr (rest one)

pub no_run : SliceRun
no_run = record { first = 0; last = 0; low = pos 0; high = pos 0; members = [] }

abbrev pub run_at : Cut → ℕ → SliceRun
run_at cut i = get_or cut.runs i no_run

module _ (at : ℕ → Extent) where
  -- a header that stands for members, cut at most n times more
  pub record IsHeaderOf (n : ℕ) (h : Header) (ks axes : List ℕ) (cut : Cut) : Type 0 where
    pub cuts : cut_of at ks axes ≡ Some cut
    pub axis : axis_of h ≡ cut.axis
    pub alike : Alike (IsRun (λ q members. StandsWithin at n q members (without cut.axis axes))) (list_of h) cut.runs
    pub rising : IsRising h
    pub has : HasRuns h
    pub some : 0 < length (list_of h)
    pub among : (i : ℕ) → i < length cut.runs → (k : ℕ) → IsOneOf k (run_at cut i).members → IsOneOf k ks

  runs-among : (ks axes : List ℕ) → All (λ k. IsProper (at k)) ks → (cut : Cut) → cut_of at ks axes ≡ Some cut → (i : ℕ) → i < length cut.runs → (k : ℕ) → IsOneOf k (run_at cut i).members → IsOneOf k ks
  runs-among ks axes proper cut e i less =
      let Among : List ℕ → Type 0 = λ ms. (k : ℕ) → IsOneOf k ms → IsOneOf k ks in
      let c = is-cut at Among ks axes (λ test k one. kept-among test ks k one) proper cut e in
      turn-each c.grid Among (λ run. Among run.members) (λ i n run piece. piece.has) 0 c.grid.count cut.runs c.turn i no_run less

  pub header-of : (n : ℕ) (p : Proxy) (h : Header) (ks axes : List ℕ) → All (λ k. IsProper (at k)) ks → StandsWithin at (suc n) p ks axes → content_of p ≡ inr h → (cut : Cut) × IsHeaderOf n h ks axes cut
  unfolding StandsWithin
  header-of n p h ks axes proper stands is = go (cut_of at ks axes) refl stands
    where
      go : (o : Option Cut) → cut_of at ks axes ≡ o → StandsAs at (λ axis q members. StandsWithin at n q members (without axis axes)) p ks o → (cut : Cut) × IsHeaderOf n h ks axes cut
      go None e stood = absurd (cc)
      go (Some cut) e stood =
          let same : stood.0 ≡ h = cc in
          let rise = headers-rise at (suc n) p ks axes h proper stands is in (
            cut,
            record {
              cuts = e;
              axis = subst (λ x. axis_of x ≡ cut.axis) same stood.2;
              alike = subst (λ x. Alike (IsRun (λ q members. StandsWithin at n q members (without cut.axis axes))) (list_of x) cut.runs) same stood.3;
              rising = rise.0;
              has = rise.1;
              some = (header-runs at (suc n) p ks axes h proper stands is).some;
              among = runs-among ks axes proper cut e;
            },
          )

  module _ (n : ℕ) (h : Header) (ks axes : List ℕ) (cut : Cut) (w : IsHeaderOf n h ks axes cut) where
    abbrev Stands : Proxy → List ℕ → Type 0
    Stands q members = StandsWithin at n q members (without cut.axis axes)

    pub count : length (list_of h) ≡ length cut.runs
    count = alike-length (IsRun Stands) (list_of h) cut.runs w.alike

    pub low-is : (i : ℕ) → i < length (list_of h) → low_at h i ≡ (run_at cut i).low
    low-is i less = alike-map (IsRun Stands) low_of (λ run. run.low) (λ r run is. is.low) (list_of h) cut.runs w.alike i no_run less

    pub high-is : (i : ℕ) → i < length (list_of h) → high_at h i ≡ (run_at cut i).high
    high-is i less = alike-map (IsRun Stands) high_of (λ run. run.high) (λ r run is. is.high) (list_of h) cut.runs w.alike i no_run less

    -- what stands in a run
    pub run-stands : (i : ℕ) (run : Run) → i < length (list_of h) → run ≡ get_or (list_of h) i run → Stands (proxy_of run) (run_at cut i).members
    run-stands i run less is = (subst (λ r. IsRun Stands r (run_at cut i)) (sym is) (alike-at (IsRun Stands) (list_of h) cut.runs w.alike i run no_run less)).proxy

    pub run-proper : All (λ k. IsProper (at k)) ks → (i : ℕ) → i < length (list_of h) → All (λ k. IsProper (at k)) (run_at cut i).members
    run-proper proper i less = all-among (λ k. IsProper (at k)) ks (run_at cut i).members proper (w.among i (omega (arith, less, count)))
