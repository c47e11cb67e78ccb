-- Parts of a tree and their bounds: what is passed at a part, and a tree made of two with bounds before them.
use Rattle.std.proofs.Common.{◌≡◌, inl, inr, ℕ, ◌-◌, ◌*◌, ◌<◌, ℤ, pos, ◌≤ℤ◌, List, [], ◌∷◌, ◌++◌, length, length-append, append-nil, append_assoc, map, take, take_all, drop, refl, sym, ap, subst, ◌∙◌, arith}
use Rattle.std.specs.List.{All, AllByRecursion}
use Rattle.std.specs.List.Sorted.{IsPermutation}
use Rattle.std.proofs.lemmas.Int.{ints, int_min_is, int_max_is}
use Rattle.std.proofs.lemmas.List.{take-append-drop, take-append-le}
use Rattle.std.proofs.lemmas.List.Elements.{recursion_from_All}
use Rattle.std.proofs.lemmas.List.Sorted.{IsPermutation-trans, IsPermutation-append, All-permutation, length_permutation}
use Rattle.gx_num.specs.declared.vector.V3.{V3}
use Rattle.gx_num.specs.declared.extent.Extent.{Extent}
use Rattle.gx_num.specs.declared.ray.Ray.{Ray}
use Rattle.gx_num.specs.Ray.{point_of_ray}
use Rattle.gx_algebra.proofs.Order.{mul-le-left}
use Rattle.gx_convex.specs.Laws.{IsBetween}
use Rattle.gx_offers.specs.Offers.{IsOneOf, Offered, with_number, IsOffered}
use Rattle.gx_offers.proofs.Offered.{one, both}
use Rattle.gx_boxes.specs.Boxes.{IsMet, IsMetAmong}
use Rattle.gx_boxes.specs.Tree.{IsInReach, IsEnclosed, AreLeast, AreGreatest, AreBounds, AreTree, AreBelow, IsMore, AreOffered, HasPassed, boxes_of}
use Rattle.gx_boxes.specs.declared.boxed.Boxed.{Boxed}
use Rattle.gx_boxes.specs.declared.part.Part.{Part}
use Rattle.gx_boxes.specs.declared.part.Part.TheVariants.{One, Many}

-- ---- lists
module _ {X : Type 0} (P : X → Type 0) where
  pub all-both : (xs ys : List X) → AllByRecursion P xs → AllByRecursion P ys → AllByRecursion P (xs ++ ys)
  all-both [] ys a b = b
  all-both (x ∷ xs) ys a b = (a.0, all-both xs ys a.1 b)

  pub all-back : (xs ys : List X) → AllByRecursion P (xs ++ ys) → AllByRecursion P ys
  all-back [] ys a = a
  all-back (x ∷ xs) ys a = all-back xs ys a.1

  pub all-map : (Q : X → Type 0) → ((x : X) → P x → Q x) → (xs : List X) → AllByRecursion P xs → AllByRecursion Q xs
  all-map Q f [] a = tt
  all-map Q f (x ∷ xs) a = (f x a.0, all-map Q f xs a.1)

pub map-both : {X Y : Type 0} (f : X → Y) (xs ys : List X) → map f (xs ++ ys) ≡ map f xs ++ map f ys
map-both f [] ys = refl
map-both f (x ∷ xs) ys = ap (λ l. f x ∷ l) (map-both f xs ys)

pub boxes-both : (xs ys : List Part) → boxes_of (xs ++ ys) ≡ boxes_of xs ++ boxes_of ys
boxes-both [] ys = refl
boxes-both (One b ∷ xs) ys = ap (λ l. b ∷ l) (boxes-both xs ys)
boxes-both (Many bounds n ∷ xs) ys = boxes-both xs ys

-- ---- a box that has another is met where the other is
wider : (a b c d at w : ℤ) → pos 0 ≤ℤ w → a ≤ℤ b → c ≤ℤ d → IsBetween b c at w → IsBetween a d at w
wider a b c d at w h low high is = record {
  above = omega (arith, ints, mul-le-left w a b h low, is.above);
  below = omega (arith, ints, mul-le-left w c d h high, is.below);
}

pub met-wider : (outer inner : Extent) (ray : Ray) → IsEnclosed outer inner → IsMet inner ray → IsMet outer ray
met-wider outer inner ray e met =
    let p = point_of_ray ray met.0 in let h : pos 0 ≤ℤ p.w = omega (arith, ints) in let is = met.2 in (
      met.0,
      met.1,
      record {
        x = wider outer.low.x inner.low.x inner.high.x outer.high.x p.x p.w h e.low.x e.high.x is.x;
        y = wider outer.low.y inner.low.y inner.high.y outer.high.y p.y p.w h e.low.y e.high.y is.y;
        z = wider outer.low.z inner.low.z inner.high.z outer.high.z p.z p.w h e.low.z e.high.z is.z;
      },
    )

pub enclosed-trans : (a b c : Extent) → IsEnclosed a b → IsEnclosed b c → IsEnclosed a c
enclosed-trans a b c e f = record {
  low = record { x = omega (arith, ints, e.low.x, f.low.x); y = omega (arith, ints, e.low.y, f.low.y); z = omega (arith, ints, e.low.z, f.low.z) };
  high = record { x = omega (arith, ints, e.high.x, f.high.x); y = omega (arith, ints, e.high.y, f.high.y); z = omega (arith, ints, e.high.z, f.high.z) };
}

module _ (a b : Extent) (low high : V3) (least : AreLeast a.low b.low low) (greatest : AreGreatest a.high b.high high) where
  pub joined-second : IsEnclosed (record { low = low; high = high }) b
  joined-second = record {
    low = record {
      x = omega (arith, ints, least.x, int_min_is a.low.x b.low.x);
      y = omega (arith, ints, least.y, int_min_is a.low.y b.low.y);
      z = omega (arith, ints, least.z, int_min_is a.low.z b.low.z);
    };
    high = record {
      x = omega (arith, ints, greatest.x, int_max_is a.high.x b.high.x);
      y = omega (arith, ints, greatest.y, int_max_is a.high.y b.high.y);
      z = omega (arith, ints, greatest.z, int_max_is a.high.z b.high.z);
    };
  }

  pub joined-reach : IsInReach a → IsInReach b → IsInReach (record { low = low; high = high })
  joined-reach h k = record {
    low = record {
      x = omega (arith, ints, least.x, int_min_is a.low.x b.low.x, h.low.x, k.low.x);
      y = omega (arith, ints, least.y, int_min_is a.low.y b.low.y, h.low.y, k.low.y);
      z = omega (arith, ints, least.z, int_min_is a.low.z b.low.z, h.low.z, k.low.z);
    };
    high = record {
      x = omega (arith, ints, greatest.x, int_max_is a.high.x b.high.x, h.high.x, k.high.x);
      y = omega (arith, ints, greatest.y, int_max_is a.high.y b.high.y, h.high.y, k.high.y);
      z = omega (arith, ints, greatest.z, int_max_is a.high.z b.high.z, h.high.z, k.high.z);
    };
  }

missed-all : (bounds : Extent) (ray : Ray) → (IsMet bounds ray → ⊥) → (boxes : List Boxed) → AllByRecursion (λ b. IsEnclosed bounds b.extent) boxes → AllByRecursion (λ b. IsMet b.extent ray → ⊥) boxes
missed-all bounds ray missed boxes all = all-map (λ b. IsEnclosed bounds b.extent) (λ b. IsMet b.extent ray → ⊥) (λ b e met. missed (met-wider bounds b.extent ray e met)) boxes all

-- ---- what was offered
numbers-both : (xs ys : List Boxed) → map (λ (b : Boxed). b.number) (xs ++ ys) ≡ map (λ (b : Boxed). b.number) xs ++ map (λ (b : Boxed). b.number) ys
numbers-both xs ys = map-both (λ (b : Boxed). b.number) xs ys

module _ (ray : Ray) where
  abbrev IsThere : Offered → Boxed → Type 0
  IsThere o b = IsMet b.extent ray → IsOneOf b.number o.numbers

  pub offered-none : (boxes : List Boxed) (o : Offered) → AllByRecursion (λ b. IsMet b.extent ray → ⊥) boxes → AreOffered ray boxes o o
  offered-none boxes o all = record {
    offered = record { room = refl; kept = λ k one. one; only = λ k one. inl one; whole = λ k one d. absurd d; few = omega arith };
    whole = all-map (λ b. IsMet b.extent ray → ⊥) (IsThere o) (λ b missed met. absurd (missed met)) boxes all;
  }

  pub offered-one : (b : Boxed) (o : Offered) → AreOffered ray (b ∷ []) o (with_number o b.number)
  offered-one b o = record {
    offered = one (λ k. ⊥) o b.number;
    whole = ((λ met. let there = one (λ k. Unit {0}) o b.number in there.whole b.number (inl refl) tt), tt);
  }

  pub offered-both : (xs ys : List Boxed) (a b c : Offered) → AreOffered ray xs a b → AreOffered ray ys b c → AreOffered ray (xs ++ ys) a c
  offered-both xs ys a b c f g = record {
    offered = subst (λ l. IsOffered (λ k. ⊥) l a c) (sym (numbers-both xs ys)) (both (λ k. ⊥) (map (λ (b : Boxed). b.number) xs) (map (λ (b : Boxed). b.number) ys) a b c f.offered g.offered);
    whole = all-both (IsThere c) xs ys (all-map (IsThere b) (IsThere c) (λ x there met. g.offered.kept x.number (there met)) xs f.whole) g.whole;
  }

  pub offered-among : (boxes : List Boxed) (a b : Offered) → AreOffered ray boxes a b → IsOffered (IsMetAmong boxes ray) (map (λ b. b.number) boxes) a b
  offered-among boxes a b f = record {
    room = f.offered.room;
    kept = f.offered.kept;
    only = f.offered.only;
    whole = λ k one met. go boxes f.whole k met;
    few = f.offered.few;
  }
    where
      go : (boxes : List Boxed) → AllByRecursion (IsThere b) boxes → (k : ℕ) → IsMetAmong boxes ray k → IsOneOf k b.numbers
      go [] all k met = absurd met
      go (x ∷ boxes) all k (inl is) = subst (λ j. IsOneOf j b.numbers) is.0 (all.0 is.1)
      go (x ∷ boxes) all k (inr met) = go boxes all.1 k met

-- ---- a tree's front and back
tree-back : (xs ys : List Part) → AreTree (xs ++ ys) → AreTree ys
tree-back [] ys t = t
tree-back (One b ∷ xs) ys t = tree-back xs ys t.1
tree-back (Many bounds n ∷ xs) ys t = tree-back xs ys t.2

bounds-more : (bounds : Extent) (n : ℕ) (xs ys : List Part) → AreBounds bounds n xs → AreBounds bounds n (xs ++ ys)
bounds-more bounds n xs ys b = record {
  some = b.some;
  few = omega (arith, b.few, length-append xs ys);
  each = subst (λ l. AllByRecursion (λ b. IsEnclosed bounds b.extent) (boxes_of l)) (sym (take-append-le (2 * (n - 1)) xs ys b.few)) b.each;
}

trees-both : (xs ys : List Part) → AreTree xs → AreTree ys → AreTree (xs ++ ys)
trees-both [] ys a b = b
trees-both (One x ∷ xs) ys a b = (a.0, trees-both xs ys a.1 b)
trees-both (Many bounds n ∷ xs) ys a b = (a.0, bounds-more bounds n xs ys a.1, trees-both xs ys a.2 b)

-- ---- past one part after another
module _ (ray : Ray) (o : Offered) where
  pub passed-none : (parts : List Part) → AreTree parts → HasPassed ray parts parts o o
  passed-none parts t = record { passed = []; is = refl; offered = offered-none ray [] o tt; tree = t }

  pub passed-missed : (b : Boxed) (below : List Part) → (IsMet b.extent ray → ⊥) → AreTree (One b ∷ below) → HasPassed ray (One b ∷ below) below o o
  passed-missed b below missed t = record { passed = One b ∷ []; is = refl; offered = offered-none ray (b ∷ []) o (missed, tt); tree = t.1 }

  pub passed-offered : (b : Boxed) (below : List Part) → AreTree (One b ∷ below) → HasPassed ray (One b ∷ below) below o (with_number o b.number)
  passed-offered b below t = record { passed = One b ∷ []; is = refl; offered = offered-one ray b o; tree = t.1 }

  pub passed-into : (bounds : Extent) (n : ℕ) (below : List Part) → AreTree (Many bounds n ∷ below) → HasPassed ray (Many bounds n ∷ below) below o o
  passed-into bounds n below t = record { passed = Many bounds n ∷ []; is = refl; offered = offered-none ray [] o tt; tree = t.2 }

  pub passed-over : (bounds : Extent) (n : ℕ) (below : List Part) → (IsMet bounds ray → ⊥) → AreTree (Many bounds n ∷ below) → HasPassed ray (Many bounds n ∷ below) (drop (2 * (n - 1)) below) o o
  passed-over bounds n below missed t =
      let k = 2 * (n - 1) in
      let whole = take-append-drop k below in record {
        passed = Many bounds n ∷ take k below;
        is = ap (λ l. Many bounds n ∷ l) (sym whole);
        offered = offered-none ray (boxes_of (take k below)) o (missed-all bounds ray missed (boxes_of (take k below)) t.1.each);
        tree = tree-back (take k below) (drop k below) (subst AreTree (sym whole) t.2);
      }

pub passed-more : (ray : Ray) (parts rest below left : List Part) (a b c : Offered) → HasPassed ray parts rest a b → rest ≡ below → HasPassed ray below left b c → HasPassed ray parts left a c
passed-more ray parts rest below left a b c f e g = record {
  passed = f.passed ++ g.passed;
  is = f.is ∙ ap (λ l. f.passed ++ l) (e ∙ g.is) ∙ sym (append_assoc f.passed g.passed left);
  offered = subst (λ l. AreOffered ray l a c) (sym (boxes-both f.passed g.passed)) (offered-both ray (boxes_of f.passed) (boxes_of g.passed) a b c f.offered g.offered);
  tree = g.tree;
}

pub passed-all : (ray : Ray) (parts rest : List Part) (a b : Offered) → rest ≡ [] → HasPassed ray parts rest a b → AreOffered ray (boxes_of parts) a b
passed-all ray parts rest a b none f = subst (λ l. AreOffered ray (boxes_of l) a b) (sym (f.is ∙ ap (λ l. f.passed ++ l) none ∙ append-nil f.passed)) f.offered

pub below-left : (ray : Ray) (parts rest : List Part) (a b : Offered) → HasPassed ray parts rest a b → AreBelow a.room parts → AreBelow b.room rest
below-left ray parts rest a b f h =
    let whole = subst (AllByRecursion (λ (x : Boxed). x.number < a.room)) (ap boxes_of f.is ∙ boxes-both f.passed rest) h in
    subst (λ r. AreBelow r rest) (sym f.offered.offered.room) (all-back (λ (x : Boxed). x.number < a.room) (boxes_of f.passed) (boxes_of rest) whole)

-- ---- a tree made of two trees, with bounds before them
pub more-of : (boxes front back : List Boxed) (bounds : Extent) (old once twice new : List Part) → IsPermutation boxes (front ++ back) → 0 < length front → 0 < length back
    → All (λ (b : Boxed). IsEnclosed bounds b.extent) boxes → IsInReach bounds
    → once ≡ old ++ Many bounds (length boxes) ∷ [] → IsMore front once twice → IsMore back twice new → IsMore boxes old new
more-of boxes front back bounds old once twice new same some others enclosed near p f b =
    let below = f.more ++ b.more in
    let there : IsPermutation boxes (boxes_of below) = subst (IsPermutation boxes) (sym (boxes-both f.more b.more))
    (IsPermutation-trans boxes (front ++ back) (boxes_of f.more ++ boxes_of b.more) same (IsPermutation-append front (boxes_of f.more) back (boxes_of b.more) f.same b.same)) in
    let count : length below ≡ 2 * (length boxes - 1) = omega (arith, length-append f.more b.more, f.count, b.count, length_permutation boxes (front ++ back) same, length-append front back, some, others) in
    let longer : 0 < length boxes = omega (arith, length_permutation boxes (front ++ back) same, length-append front back, some) in
    record {
      more = Many bounds (length boxes) ∷ below;
      is = b.is ∙ ap (λ l. l ++ b.more) (f.is ∙ ap (λ l. l ++ f.more) p) ∙ joined old f.more b.more;
      same = there;
      tree = (
        near,
        record {
          some = longer;
          few = omega (arith, count);
          each = subst (λ l. AllByRecursion (λ b. IsEnclosed bounds b.extent) (boxes_of l)) (sym (take_all (2 * (length boxes - 1)) below (omega (arith, count))))
              (recursion_from_All (λ b. IsEnclosed bounds b.extent) (boxes_of below) (All-permutation (λ b. IsEnclosed bounds b.extent) boxes (boxes_of below) there enclosed));
        },
        trees-both f.more b.more f.tree b.tree,
      );
      count = omega (arith, count, longer);
    }
  where
    joined : (old xs ys : List Part) → ((old ++ Many bounds (length boxes) ∷ []) ++ xs) ++ ys ≡ old ++ Many bounds (length boxes) ∷ (xs ++ ys)
    joined old xs ys = append_assoc (old ++ Many bounds (length boxes) ∷ []) xs ys ∙ append_assoc old (Many bounds (length boxes) ∷ []) (xs ++ ys)
