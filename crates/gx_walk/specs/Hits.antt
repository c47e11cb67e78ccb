-- The daughters that a ray meets, what the walk through them costs, and the rows that it gives (this project's own).
use Rattle.std.specs.Prelude.{◌≡◌, ℕ, zero, suc, pos, ◌+◌, sum_by, List, [], ◌∷◌, length, Option, Some}
use Rattle.std.specs.List.{flat_map}
use Rattle.std.specs.Option.{option_map}
use Rattle.gx_num.specs.Ray.{RayParameter}
use Rattle.gx_fraction.specs.Fraction.{Fraction, parameter_of}
use Rattle.gx_path.specs.declared.row.Row.{Row as Given}
use Rattle.gx_path.specs.Report.{Row}
use Rattle.gx_partition.specs.Walk.{Hit, sorted}
use Rattle.gx_walk.specs.declared.met.Frame.{Frame}
use Rattle.gx_walk.specs.declared.met.Met.{Met}

-- a daughter that is met, with her span as two parameters
abbrev pub hit_of : Met → Hit Frame
hit_of m = record { ordinal = m.ordinal; from = parameter_of m.span.from; to = parameter_of m.span.to; daughter = m.frame }

-- the daughters met in a frame, in the order of entry
abbrev pub hits_of : (Frame → ℕ → Option Met) → (ℕ → ℕ) → Frame → List (Hit Frame)
hits_of met count frame = sorted (λ k. option_map hit_of (met frame k)) (count frame.volume)

-- a number for a volume that a ray is inside between two parameters
abbrev pub CountOf : Type 0 → Type 0
CountOf D = D → RayParameter → RayParameter → ℕ

abbrev pub Count : Type 0
Count = CountOf Frame

-- the sum of these numbers over the volumes that a walk so many levels deep comes to, but for those at the deepest level
abbrev pub cost_of : {D : Type 0} → CountOf D → (D → List (Hit D)) → ℕ → RayParameter → RayParameter → D → ℕ
cost_of count hits zero from to d = 0
cost_of count hits (suc n) from to d = count d from to + sum_by (λ h. cost_of count hits n h.from h.to h.daughter) (hits d)

-- one for each daughter that is met
abbrev pub one_each : {D : Type 0} → (D → List (Hit D)) → CountOf D
one_each hits d from to = length (hits d)

-- a number for each volume, whatever the parameters
abbrev pub least_each : {D : Type 0} → (D → ℕ) → CountOf D
least_each least d from to = least d

-- a parameter as a fraction
abbrev pub fraction_of : RayParameter → Fraction
fraction_of t = record { num = pos t.num; den = t.den }

-- a row of a report, as it is given
abbrev pub given : Row → Given
given row = record { from = fraction_of row.from; to = fraction_of row.to; path = row.path }

-- the items of rows
abbrev pub items_of : {X : Type 0} → (Given → List X) → List Row → List X
items_of items rows = flat_map (λ row. items (given row)) rows

-- ordinals of daughters lead from one volume down to another
abbrev pub Leads : (ℕ → ℕ → Option ℕ) → ℕ → List ℕ → ℕ → Type 0
Leads daughter v [] w = v ≡ w
Leads daughter v (k ∷ path) w = (u : ℕ) × (daughter v k ≡ Some u) × Leads daughter u path w
