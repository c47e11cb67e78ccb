-- The items of rows below a path.
use Rattle.std.proofs.Common.{◌≡◌, ℕ, false, List, [], ◌∷◌, ◌++◌, Option, Result, Ok, Err, IsErr, map, append_assoc, arith, refl, sym, ap, ◌∙◌, subst}
use Rattle.std.specs.Prelude.{if◌then◌else◌, ℤ, pos, negsuc, unsigned_abs, nat_lt, ◌*◌, ◌≤ℤ◌, ◌*ℤ◌}
use Rattle.std.specs.Ordering.{int_cmp, is_lt}
use Rattle.std.proofs.lemmas.Int.{ints}
use Rattle.gx_fraction.specs.Fraction.{Fraction, compare, parameter_of}
use Rattle.std.proofs.lemmas.Grind.{flat_map-append}
use Rattle.gx_num.specs.Ray.{RayParameter}
use Rattle.gx_io.specs.Bytes.{with_after, AppendsFront, Writes}
use Rattle.gx_io.proofs.Joined.{with_after-nothing, front-of_first, writes-second}
use Rattle.gx_path.specs.declared.row.Row.{Row as Given}
use Rattle.gx_path.specs.Report.{Row}
use Rattle.gx_partition.specs.Partition.{is_below}
use Rattle.gx_walk.specs.Hits.{fraction_of}
use Rattle.gx_walk.specs.Giving.{between, within, items_below}

pub items-append : {X : Type 0} (items : Given → List X) (path : List ℕ) (xs ys : List Row) → items_below items path (xs ++ ys) ≡ items_below items path xs ++ items_below items path ys
items-append items path xs ys = flat_map-append (λ row. items (record { from = fraction_of row.from; to = fraction_of row.to; path = path ++ row.path })) xs ys

-- below a path and one ordinal more
pub items-within : {X : Type 0} (items : Given → List X) (path : List ℕ) (k : ℕ) (rows : List Row) → items_below items path (map (within k) rows) ≡ items_below items (path ++ k ∷ []) rows
items-within items path k [] = refl
items-within items path k (row ∷ rows) =
    let one = λ (l : List ℕ). items (record { from = fraction_of row.from; to = fraction_of row.to; path = l }) in
    ap (λ l. one l ++ items_below items path (map (within k) rows)) (sym (append_assoc path (k ∷ []) row.path))
    ∙ ap (λ l. one ((path ++ k ∷ []) ++ row.path) ++ l) (items-within items path k rows)

same_test : (p q : ℤ) (d e : ℕ) → pos 0 ≤ℤ p → pos 0 ≤ℤ q → is_lt (int_cmp (p *ℤ pos e) (q *ℤ pos d)) ≡ nat_lt (unsigned_abs p * e) (unsigned_abs q * d)
same_test (pos p) (pos q) d e h k = grind (arith, ints)
same_test (negsuc p) q d e h k = absurd (omega (arith, ints, h))
same_test (pos p) (negsuc q) d e h k = absurd (omega (arith, ints, k))

-- the order of fractions that aren't negative is that of parameters
pub is_lt-compare : (f g : Fraction) → pos 0 ≤ℤ f.num → pos 0 ≤ℤ g.num → is_lt (compare f g) ≡ is_below (parameter_of f) (parameter_of g)
is_lt-compare f g h k = same_test f.num g.num f.den g.den h k

-- nothing lies between
pub no_row : {X E : Type 0} (items : Given → List X) (path : List ℕ) (told : Option (List X)) (s t : RayParameter) → is_below s t ≡ false
    → Writes {A = X} {T = Unit {0}} {E = E} told told (items_below items path (between s t)) (Ok tt)
no_row {X} {E} items path told s t e =
    subst (λ b. Writes {A = X} {T = Unit {0}} {E = E} told told (items_below items path (if b then record { from = s; to = t; path = [] } ∷ [] else [])) (Ok tt)) (sym e)
    (record { all = sym (with_after-nothing told); front = tt })

-- items and a path that stayed
pub same-below : {X : Type 0} (items items' : Given → List X) (path path' : List ℕ) (rows : List Row) → items' ≡ items → path' ≡ path → items_below items' path' rows ≡ items_below items path rows
same-below items items' path path' rows e f = ap (λ i. items_below i path' rows) e ∙ ap (λ p. items_below items p rows) f

-- the first of two stopped
pub writes-front : {X T E : Type 0} (old new : Option (List X)) (a b : List X) (result : Result T E) → IsErr result → AppendsFront old new a → Writes old new (a ++ b) result
writes-front old new a b (Ok x) is front = absurd (cc)
writes-front old new a b (Err e) is front = record { all = tt; front = front-of_first old new a b front }

-- the first of two was written, and the second is the last
pub writes-on : {X T E : Type 0} (old mid new : Option (List X)) (a b : List X) (result : Result T E) → mid ≡ with_after old a → Writes mid new b result → Writes old new (a ++ b) result
writes-on old mid new a b result e h = writes-second old new a b result (subst (λ m. Writes m new b result) e h)
