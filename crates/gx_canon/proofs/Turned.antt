-- The values of a rotation give one of the 24.
use Rattle.std.proofs.Common.{◌≡◌, ℕ, zero, suc, ◌+◌, ◌<◌, ◌%◌, negsuc, unsigned_abs, Bool, true, false, List, [], ◌∷◌, Option, Some, None, Result, Ok, Err, refl, sym, ◌∙◌, subst, arith, if◌then◌else◌}
use Rattle.std.specs.Prelude.{nat_le, not, ◌&&◌, ◌||◌}
use Rattle.std.specs.Ordering.{int_eq}
use Rattle.std.proofs.lemmas.Bool.{and_parts, eqb-true}
use Rattle.std.proofs.lemmas.Int.{ints}
use Rattle.gx_num.specs.declared.vector.V3.{V3}
use Rattle.gx_num.specs.Vector.{is_same}
use Rattle.gx_form.specs.First as first
use Rattle.gx_convex.proofs.Distinct.{Decides-is_same}
use Rattle.gx_rotation.specs.declared.fault.RotationFault.{RotationFault}
use Rattle.gx_rotation.specs.declared.fault.RotationFault.TheVariants.{NotAxis, Mirror}
use Rattle.gx_rotation.specs.Matrix.{Matrix, transpose, product, determinant, is_same_matrix}
use Rattle.gx_rotation.specs.Rotation.{matrix_of, number_of, signed_rows, unit_vector, axis_of, is_negative, is_unit, takes_axes_to_axes}
use Rattle.gx_rotation.specs.Given.{checked, turn_x, turn_y, turn_z, direction_at, row_at, by_angles3, by_angles6, by_matrix9}
use Rattle.gx_rotation.proofs.Algebra.{vector_is}
use Rattle.gx_rotation.proofs.Tables.{product_at, product_at-below, matrix_of-product_at}
use Rattle.gx_shapes.proofs.Given.{Gives, pure_gives}
use Rattle.gx_tree.specs.Hierarchy.{IsRotation}
use Rattle.gx_decl.specs.Words as words
use Rattle.gx_decl.specs.Words.{Words, Reader}
use Rattle.gx_decl.specs.Turns as turns
use Rattle.gx_canon.proofs.Forms.{after, choice_gives}
use Rattle.gx_canon.proofs.Rotations.{number_of-below}

-- ---- a matrix that takes axes to axes and is no mirror

-- a mirror, or a matrix of the 24, where it takes axes to axes
abbrev fits : Matrix → Bool
fits m = int_eq (determinant m) (negsuc 0) || is_same_matrix m (matrix_of (number_of m))

abbrev all3 : (ℕ → Bool) → Bool
all3 f = f 0 && (f 1 && f 2)

at3 : (f : ℕ → Bool) (k : ℕ) → k < 3 → all3 f ≡ true → f k ≡ true
at3 f zero h e = (and_parts (f 0) (f 1 && f 2) e).0
at3 f (suc zero) h e = (and_parts (f 1) (f 2) (and_parts (f 0) (f 1 && f 2) e).1).0
at3 f (suc (suc zero)) h e = (and_parts (f 1) (f 2) (and_parts (f 0) (f 1 && f 2) e).1).1
at3 f (suc (suc (suc k))) h e = absurd (omega (arith, h))

-- the rows along any axes, with any signs
abbrev fits_at : Bool → Bool → Bool → ℕ → ℕ → ℕ → Bool
fits_at x y z a b c = not (takes_axes_to_axes (signed_rows x y z a b c)) || fits (signed_rows x y z a b c)

all_fit : (x y z : Bool) → all3 (λ a. all3 (λ b. all3 (λ c. fits_at x y z a b c))) ≡ true
unfolding matrix_of number_of
all_fit true true true = refl
all_fit true true false = refl
all_fit true false true = refl
all_fit true false false = refl
all_fit false true true = refl
all_fit false true false = refl
all_fit false false true = refl
all_fit false false false = refl

axis_of-below : (v : V3) → axis_of v < 3
axis_of-below v = grind arith

abbrev unit_of : V3 → V3
unit_of v = unit_vector (axis_of v) (is_negative v)

unit_is : (v : V3) → is_unit v ≡ true → unit_of v ≡ v
unit_is v h =
    let sum : unsigned_abs v.x + unsigned_abs v.y + unsigned_abs v.z ≡ 1 = eqb-true _ _ h in
    let x : (unit_of v).x ≡ v.x = grind (arith, ints) in
    let y : (unit_of v).y ≡ v.y = grind (arith, ints) in
    let z : (unit_of v).z ≡ v.z = grind (arith, ints) in
    vector_is _ _ _ v x y z

fit_by : (t : Bool) (b : Bool) → t ≡ true → (not t || b) ≡ true → b ≡ true
fit_by true b e h = h
fit_by false b e h = absurd cc

rows_fit : (m : Matrix) → takes_axes_to_axes m ≡ true → fits m ≡ true
rows_fit m h =
    let rows = and_parts (is_unit m.x && is_unit m.y && is_unit m.z) _ h in
    let two = and_parts (is_unit m.x && is_unit m.y) (is_unit m.z) rows.0 in
    let one = and_parts (is_unit m.x) (is_unit m.y) two.0 in
    let x = is_negative m.x in
    let y = is_negative m.y in
    let z = is_negative m.z in
    let same : signed_rows x y z (axis_of m.x) (axis_of m.y) (axis_of m.z) ≡ m = λ i. record { x = unit_is m.x one.0 i; y = unit_is m.y one.1 i; z = unit_is m.z two.1 i } in
    let at = at3 (λ c. fits_at x y z (axis_of m.x) (axis_of m.y) c) (axis_of m.z) (axis_of-below m.z)
    (at3 (λ b. all3 (λ c. fits_at x y z (axis_of m.x) b c)) (axis_of m.y) (axis_of-below m.y)
    (at3 (λ a. all3 (λ b. all3 (λ c. fits_at x y z a b c))) (axis_of m.x) (axis_of-below m.x) (all_fit x y z))) in
    fit_by (takes_axes_to_axes m) (fits m) h (subst (λ (n : Matrix). (not (takes_axes_to_axes n) || fits n) ≡ true) same at)

same_matrix : (a b : Matrix) → is_same_matrix a b ≡ true → a ≡ b
same_matrix a b h =
    let two = and_parts (is_same a.x b.x && is_same a.y b.y) (is_same a.z b.z) h in
    let one = and_parts (is_same a.x b.x) (is_same a.y b.y) two.0 in
    λ i. record { x = (Decides-is_same a.x b.x).0 one.0 i; y = (Decides-is_same a.y b.y).0 one.1 i; z = (Decides-is_same a.z b.z).0 two.1 i }

checked_by : (m n : Matrix) (axes mirror : Bool) → takes_axes_to_axes m ≡ axes → int_eq (determinant m) (negsuc 0) ≡ mirror → (if axes then (if mirror then Err Mirror else Ok m) else Err (NotAxis 0)) ≡ Ok n → IsRotation n
checked_by m n false mirror a d e = absurd cc
checked_by m n true true a d e = absurd cc
checked_by m n true false a d e =
    let same : m ≡ n = cc in
    let fit : is_same_matrix m (matrix_of (number_of m)) ≡ true = rw d at (rows_fit m a) in
    subst IsRotation same (record { index = number_of m; below = number_of-below m; same = same_matrix m (matrix_of (number_of m)) fit })

checked_rotation : (m n : Matrix) → checked m ≡ Ok n → IsRotation n
unfolding checked
checked_rotation m n e = checked_by m n (takes_axes_to_axes m) (int_eq (determinant m) (negsuc 0)) refl refl e

-- ---- quarter turns

product_rotation : (a b : Matrix) → IsRotation a → IsRotation b → IsRotation (product a b)
product_rotation a b ha hb =
    record {
      index = product_at ha.index hb.index;
      below = product_at-below ha.index hb.index ha.below hb.below;
      same = (λ i. product (ha.same i) (hb.same i)) ∙ sym (matrix_of-product_at ha.index hb.index ha.below hb.below);
    }

-- so many quarters, without the full turns
quarters : (turn : ℕ → Matrix) → ((q : ℕ) → turn q ≡ turn (q % 4)) → IsRotation (turn 0) → IsRotation (turn 1) → IsRotation (turn 2) → IsRotation (turn 3) → (q : ℕ) → IsRotation (turn q)
quarters turn whole h0 h1 h2 h3 q = subst IsRotation (sym (whole q)) (at4 (q % 4) (omega arith))
  where
    at4 : (r : ℕ) → r < 4 → IsRotation (turn r)
    at4 zero h = h0
    at4 (suc zero) h = h1
    at4 (suc (suc zero)) h = h2
    at4 (suc (suc (suc zero))) h = h3
    at4 (suc (suc (suc (suc r)))) h = absurd (omega (arith, h))

known : (m : Matrix) (k : ℕ) → k < 24 → m ≡ matrix_of k → IsRotation m
known m k h e = record { index = k; below = h; same = e }

mod_mod : (q : ℕ) → q % 4 % 4 ≡ q % 4
mod_mod q = omega arith

x_rotation : (q : ℕ) → IsRotation (turn_x q)
unfolding turn_x matrix_of
x_rotation = quarters turn_x (λ q. rw (mod_mod q) refl) (known _ 0 (omega arith) refl) (known _ 5 (omega arith) refl) (known _ 1 (omega arith) refl) (known _ 4 (omega arith) refl)

y_rotation : (q : ℕ) → IsRotation (turn_y q)
unfolding turn_y matrix_of
y_rotation = quarters turn_y (λ q. rw (mod_mod q) refl) (known _ 0 (omega arith) refl) (known _ 20 (omega arith) refl) (known _ 2 (omega arith) refl) (known _ 22 (omega arith) refl)

z_rotation : (q : ℕ) → IsRotation (turn_z q)
unfolding turn_z matrix_of
z_rotation = quarters turn_z (λ q. rw (mod_mod q) refl) (known _ 0 (omega arith) refl) (known _ 10 (omega arith) refl) (known _ 3 (omega arith) refl) (known _ 9 (omega arith) refl)

-- ---- what is given

-- what an answer that was made from another is
made : {A E : Type 0} (r : Result A E) (f : A → Result Matrix E) (m : Matrix) → ((a : A) → f a ≡ Ok m → IsRotation m) → first.◌>>=◌ r f ≡ Ok m → IsRotation m
made (Ok a) f m h e = h a e
made (Err fault) f m h e = absurd cc

angles3_rotation : (x y z : Option ℕ) (m : Matrix) → by_angles3 (x ∷ y ∷ z ∷ []) ≡ Ok m → IsRotation m
angles3_rotation None y z m e = absurd cc
angles3_rotation (Some x) None z m e = absurd cc
angles3_rotation (Some x) (Some y) None m e = absurd cc
angles3_rotation (Some x) (Some y) (Some z) m e =
    let same : product (product (turn_z z) (turn_y y)) (turn_x x) ≡ m = cc in
    subst IsRotation same (product_rotation _ _ (product_rotation _ _ (z_rotation z) (y_rotation y)) (x_rotation x))

angles6_rotation : (q : List (Option ℕ)) (m : Matrix) → by_angles6 q ≡ Ok m → IsRotation m
angles6_rotation q m e =
    made (direction_at q 0) _ m (λ x. made (direction_at q 2) _ m (λ y. made (direction_at q 4) _ m (λ z. checked_rotation (transpose (record { x = x; y = y; z = z })) m))) e

matrix9_rotation : (values : List (Option _)) (m : Matrix) → by_matrix9 values ≡ Ok m → IsRotation m
matrix9_rotation values m e =
    made (row_at values 0) _ m (λ x. made (row_at values 3) _ m (λ y. made (row_at values 6) _ m (λ z. checked_rotation (record { x = x; y = y; z = z }) m))) e

turned_gives : (r : Result Matrix RotationFault) → ((m : Matrix) → r ≡ Ok m → IsRotation m) → Gives (turns.turned r) IsRotation
turned_gives (Ok m) h = pure_gives m IsRotation (h m refl)
turned_gives (Err (NotAxis i)) h = record { given = λ s a t e. absurd cc }
turned_gives (Err Mirror) h = record { given = λ s a t e. absurd cc }

angles3_gives : Gives turns.angles3 IsRotation
angles3_gives =
    after words.quarters _ IsRotation (λ x.
    after words.quarters _ IsRotation (λ y.
    after words.quarters _ IsRotation (λ z. after words.end _ IsRotation (λ _. turned_gives (by_angles3 (x ∷ y ∷ z ∷ [])) (angles3_rotation x y z)))))

angles6_gives : Gives turns.angles6 IsRotation
angles6_gives =
    after words.quarters _ IsRotation (λ a.
    after words.quarters _ IsRotation (λ b.
    after words.quarters _ IsRotation (λ c.
    after words.quarters _ IsRotation (λ d.
    after words.quarters _ IsRotation (λ e.
    after words.quarters _ IsRotation (λ f. after words.end _ IsRotation (λ _. turned_gives _ (angles6_rotation (a ∷ b ∷ c ∷ d ∷ e ∷ f ∷ [])))))))))

matrix9_gives : Gives turns.matrix9 IsRotation
matrix9_gives =
    after turns.entry _ IsRotation (λ a.
    after turns.entry _ IsRotation (λ b.
    after turns.entry _ IsRotation (λ c.
    after turns.entry _ IsRotation (λ d.
    after turns.entry _ IsRotation (λ e.
    after turns.entry _ IsRotation (λ f.
    after turns.entry _ IsRotation (λ g.
    after turns.entry _ IsRotation (λ h.
    after turns.entry _ IsRotation (λ i. after words.end _ IsRotation (λ _. turned_gives _ (matrix9_rotation (a ∷ b ∷ c ∷ d ∷ e ∷ f ∷ g ∷ h ∷ i ∷ []))))))))))))

pub values_gives : Gives turns.values IsRotation
values_gives =
    after words.left _ IsRotation (λ n.
    choice_gives (nat_le n 3) turns.angles3 _ IsRotation angles3_gives (choice_gives (nat_le n 6) turns.angles6 turns.matrix9 IsRotation angles6_gives matrix9_gives))
