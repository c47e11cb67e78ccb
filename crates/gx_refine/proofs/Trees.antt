-- From the runs of a cut to the tree that stands for them.
use Rattle.std.proofs.Common.{◌≡◌, inr, ℕ, zero, suc, ◌+◌, ◌<◌, ◌≤◌, List, [], ◌∷◌, ◌++◌, length, get_or, take, Option, None, Some, Result, Ok, Err, sym, subst, ◌∙◌, arith, take_all, slice_index}
use Rattle.std.specs.Prelude.{IfOk}
use Rattle.std.specs.List.{All, range_with_len}
use Rattle.std.proofs.lemmas.List.FromFn.{length-range_with_len, get_or-range_with_len}
use Rattle.gx_num.specs.declared.extent.Extent.{Extent}
use Rattle.gx_boxes.specs.Boxes.{IsProper}
use Rattle.gx_voxel.specs.Members.{extent_at}
use Rattle.gx_voxel.specs.Cut.{SliceRun, Cut, cut_of}
use Rattle.gx_voxel.specs.Cells.{without}
use Rattle.gx_voxel.specs.Proxy.{content_of, axis_of, list_of, Alike, IsNode, IsRun, StandsAs, StandsWithin}
use Rattle.gx_voxel.specs.declared.proxy.Proxy.{Proxy}
use Rattle.gx_voxel.specs.declared.proxy.Header.{Header}
use Rattle.gx_voxel.specs.declared.proxy.Run.{Run}
use Rattle.gx_voxel.proofs.Standing.{IsCut, is-cut}
use Rattle.gx_refine.specs.Known.{AreKnown, IsPart}
use Rattle.gx_refine.proofs.Parts.{known-filter, known-proper, turn-parts}

pub if_ok-map : {T E : Type 0} (P Q : T → Type 0) (r : Result T E) → ((x : T) → P x → Q x) → IfOk r P → IfOk r Q
if_ok-map P Q (Ok x) f h = f x h
if_ok-map P Q (Err e) f h = tt

pub known-cut : (extents : List Extent) (ks axes : List ℕ) → AreKnown extents ks → (cut : Cut) → cut_of (extent_at extents) ks axes ≡ Some cut → IsCut (AreKnown extents) axes cut
known-cut extents ks axes known cut e = is-cut (extent_at extents) (AreKnown extents) ks axes (λ test. known-filter extents test ks known) (known-proper extents ks known) cut e

-- ---- a run more
module _ {X Y : Type 0} (R : X → Y → Type 0) where
  pub alike-push : (xs : List X) (ys : List Y) (i : ℕ) (x : X) (d : Y) → i < length ys → Alike R xs (take i ys) → R x (get_or ys i d) → Alike R (xs ++ x ∷ []) (take (i + 1) ys)
  alike-push xs [] i x d h all one = absurd (omega (arith, h))
  alike-push [] (y ∷ ys) zero x d h all one = (one, tt)
  alike-push (z ∷ xs) (y ∷ ys) zero x d h all one = absurd all
  alike-push [] (y ∷ ys) (suc i) x d h all one = absurd all
  alike-push (z ∷ xs) (y ∷ ys) (suc i) x d h all one =
      let e : suc (i + 1) ≡ suc i + 1 = omega arith in
      subst (λ n. Alike R ((z ∷ xs) ++ x ∷ []) (take n (y ∷ ys))) e (all.0, alike-push xs ys i x d (omega (arith, h)) all.1 one)

-- ---- what a tree stands for
module _ (at : ℕ → Extent) (ks axes : List ℕ) (p : Proxy) where
  pub stands-last : IsNode at p ks → StandsWithin at zero p ks axes
  unfolding StandsWithin
  stands-last h = h

  abbrev Owes : ℕ → Option Cut → Type 0
  Owes n o = StandsAs at (λ axis q members. StandsWithin at n q members (without axis axes)) p ks o

  stands-next : (n : ℕ) → Owes n (cut_of at ks axes) → StandsWithin at (suc n) p ks axes
  unfolding StandsWithin
  stands-next n h = h

  pub stands-node : (n : ℕ) → cut_of at ks axes ≡ None → IsNode at p ks → StandsWithin at n p ks axes
  stands-node zero e h = stands-last h
  stands-node (suc n) e h = stands-next n (subst (Owes n) (sym e) h)

  pub stands-cut : (n m : ℕ) (cut : Cut) (h : Header) → suc m ≡ n → cut_of at ks axes ≡ Some cut → content_of p ≡ inr h → axis_of h ≡ cut.axis
      → Alike (IsRun (λ q members. StandsWithin at m q members (without cut.axis axes))) (list_of h) cut.runs → StandsWithin at n p ks axes
  stands-cut n m cut h f e is axis all = subst (λ k. StandsWithin at k p ks axes) f (stands-next m (subst (Owes m) (sym e) (h, is, axis, all)))

-- ---- the loop over the runs of a cut; Q is what the proxies stand for
module _ (Q : Proxy → List ℕ → Type 0) where
  pub part-none : (xs : List Run) (ys : List SliceRun) → xs ≡ [] → Alike (IsRun Q) xs (take 0 ys)
  part-none xs ys e = subst (λ l. Alike (IsRun Q) l []) (sym e) tt

  pub part-more : (xs now : List Run) (ys : List SliceRun) (i : ℕ) (r : Run) (run : SliceRun) (proxy : Proxy) (members : List ℕ) → i < length ys → Alike (IsRun Q) xs (take i ys) → now ≡ xs ++ r ∷ []
      → run ≡ get_or ys i run → IsRun (λ q _. q ≡ proxy) r run → Q proxy members → members ≡ run.members → Alike (IsRun Q) now (take (i + 1) ys)
  part-more xs now ys i r run proxy members h all e is one q same =
      let this : IsRun Q r run = record { first = one.first; last = one.last; low = one.low; high = one.high; proxy = subst (λ p. Q p run.members) (sym one.proxy) (subst (Q proxy) same q) } in
      subst (λ l. Alike (IsRun Q) l (take (i + 1) ys)) (sym e) (alike-push (IsRun Q) xs ys i r run h all (subst (IsRun Q r) is this))

  pub part-all : (xs : List Run) (ys : List SliceRun) (i : ℕ) (cut : Cut) → length ys ≤ i → ys ≡ cut.runs → Alike (IsRun Q) xs (take i ys) → Alike (IsRun Q) xs cut.runs
  part-all xs ys i cut h e all = subst (λ l. Alike (IsRun Q) xs l) (take_all i ys h ∙ e) all

-- ---- members to begin with
pub all-known : (extents : List Extent) → length extents ≤ 4096 → All IsProper extents → AreKnown extents (range_with_len 0 (length extents))
all-known extents few proper = record {
  members = record { increasing = λ k h. rising k h; few = omega (arith, length-range_with_len 0 (length extents)) };
  below = λ k d h. below k d h;
  proper = proper;
}
  where
    below : (k d : ℕ) → k < length (range_with_len 0 (length extents)) → get_or (range_with_len 0 (length extents)) k d < length extents
    below k d h = let l = length-range_with_len 0 (length extents) in let h' : k < length extents = omega arith in omega (arith, get_or-range_with_len 0 (length extents) k d h')

    rising : (k : ℕ) → k + 1 < length (range_with_len 0 (length extents)) → slice_index (range_with_len 0 (length extents)) k < slice_index (range_with_len 0 (length extents)) (k + 1)
    rising k h =
        let l = length-range_with_len 0 (length extents) in let h' : k + 1 < length extents = omega arith in let h'' : k < length extents = omega arith in
        omega (arith, get_or-range_with_len 0 (length extents) k 0 h'', get_or-range_with_len 0 (length extents) (k + 1) 0 h')

pub part-at : (extents : List Extent) (axes : List ℕ) (cut : Cut) → IsCut (AreKnown extents) axes cut → (items : List SliceRun) (i : ℕ) (run : SliceRun) → items ≡ cut.runs → i < length items → run ≡ get_or items i run → IsPart extents run
part-at extents axes cut known items i run e h is =
    let parts = turn-parts extents known.grid cut.runs known.some known.few known.wide known.turn in
    subst (IsPart extents) (sym is) (subst (λ l. i < length l → IsPart extents (get_or l i run)) (sym e) (parts.each i run) h)
