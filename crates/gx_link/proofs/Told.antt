-- The numbers that a hierarchy's fault tells are those of a volume, and of a placement in it.
use Rattle.std.proofs.Common.{◌≡◌, ℕ, zero, suc, ◌+◌, ◌<◌, ◌∙◌, ap, subst, refl, arith, Bool, true, false, not, nat_lt, List, [], ◌∷◌, length, get_or, All, Option, Some, None, Result, Ok, Err, if◌then◌else◌, ℤ}
use Rattle.std.specs.Prelude.{filter, find, option_map}
use Rattle.std.specs.List.{range_with_len}
use Rattle.std.specs.Option.{option_or}
use Rattle.std.proofs.lemmas.List.{length-map}
use Rattle.std.proofs.lemmas.List.FromFn.{length-range_with_len, get_or-range_with_len}
use Rattle.std.proofs.lemmas.List.Elements.{All-head, All-tail, All-filter}
use Rattle.gx_num.specs.declared.vector.V3.{V3}
use Rattle.gx_form.specs.First.{◌>>=◌}
use Rattle.gx_replica.specs.Replica.{fills}
use Rattle.gx_tree.specs.declared.placement.Placement.{Placement}
use Rattle.gx_tree.specs.declared.placement.Placement.TheVariants.{Single, Replica, Linear, Square}
use Rattle.gx_tree.specs.declared.fault.TreeFault.{TreeFault}
use Rattle.gx_tree.specs.declared.fault.TreeFault.TheVariants.{Cycle, NoWorld, TwoWorlds, TooDeep, ReplicaMixed, ReplicaSolid, ReplicaFill}
use Rattle.gx_tree.specs.Volume.{Volume}
use Rattle.gx_tree.specs.Hierarchy.{volume_at, numbers}
use Rattle.gx_tree.specs.Fault.{is_in_itself, is_placed, world_from, only_world, is_too_deep, halves, fill_fault, fault_of_placement, first_numbered, replica_fault_in, replica_fault, unless, hierarchy_of}
use Rattle.gx_link.specs.declared.link.LinkedVolume.{LinkedVolume}
use Rattle.gx_link.specs.declared.link.LinkedPlacement.{LinkedPlacement}
use Rattle.gx_link.specs.Crowd.{placed_in, placements_in}
use Rattle.gx_link.specs.Build.{IsTold}
use Rattle.gx_link.specs.Text.{volumes_from}
use Rattle.gx_link.proofs.Limits.{length-volumes_from}

-- ---- steps that end in a fault
-- what holds of the fault of the first step, and of that of the next, holds of the fault
fault_of_steps : {A B E : Type 0} (P : E → Type 0) (r : Result A E) (next : A → Result B E) (f : E) → (r ≡ Err f → P f) → ((a : A) → r ≡ Ok a → next a ≡ Err f → P f) → (r >>= next) ≡ Err f → P f
fault_of_steps P (Ok a) next f first second e = second a refl e
fault_of_steps P (Err x) next f first second e = let same : x ≡ f = cc in first (ap (λ y. Err y) same)

unless-told : (P : TreeFault → Type 0) (o : Option TreeFault) (f : TreeFault) → ((g : TreeFault) → o ≡ Some g → P g) → unless o ≡ Err f → P f
unless-told P None f told e = cc
unless-told P (Some g) f told e = let same : g ≡ f = cc in subst P same (told g refl)

-- ---- a volume's number
found_below : (P : TreeFault → Type 0) (fault : ℕ → TreeFault) (test : ℕ → Bool) (a n : ℕ) (f : TreeFault) → ((v : ℕ) → v < a + n → P (fault v)) → option_map fault (find test (range_with_len a n)) ≡ Some f → P f
found_below P fault test a zero f told e = cc
found_below P fault test a (suc n) f told e =
    let step : (b : Bool) → option_map fault (if b then Some a else find test (range_with_len (a + 1) n)) ≡ Some f → P f = λ b. elim b as (λ b. option_map fault (if b then Some a else find test (range_with_len (a + 1) n)) ≡ Some f → P f) [
      | true ↦ λ is. let same : fault a ≡ f = cc in subst P same (told a (omega arith))
      | false ↦ λ is. found_below P fault test (a + 1) n f (λ v below. told v (omega arith)) is
    ] in
    step (test a) e

numbers_below : (n : ℕ) → All (λ v. v < n) (range_with_len 0 n)
numbers_below n k d less = let below : k < n = omega (arith, length-range_with_len 0 n) in omega (arith, get_or-range_with_len 0 n k d below)

world-told : (P : TreeFault → Type 0) (n : ℕ) (ks : List ℕ) (f : TreeFault) → P NoWorld → ((v : ℕ) → v < n → P (TwoWorlds v)) → All (λ v. v < n) ks → world_from ks ≡ Err f → P f
world-told P n [] f none two below e = let same : NoWorld ≡ f = cc in subst P same none
world-told P n (v ∷ []) f none two below e = cc
world-told P n (v ∷ w ∷ ks) f none two below e =
    let same : TwoWorlds w ≡ f = cc in
    subst P same (two w (All-head (λ v. v < n) w ks (All-tail (λ v. v < n) v (w ∷ ks) below)))

-- ---- a placement's number
first_numbered-told : {X Y : Type 0} (P : Y → Type 0) (answer : ℕ → X → Option Y) (n : ℕ) (xs : List X) (y : Y) → ((i : ℕ) (d : X) (z : Y) → i < length xs → answer (n + i) (get_or xs i d) ≡ Some z → P z)
    → first_numbered answer n xs ≡ Some y → P y
first_numbered-told {Y = Y} P answer n [] y told e = cc
first_numbered-told {Y = Y} P answer n (x ∷ xs) y told e =
    let step : (o : Option Y) → answer n x ≡ o → option_or o (first_numbered answer (n + 1) xs) ≡ Some y → P y = λ o. elim o as (λ o. answer n x ≡ o → option_or o (first_numbered answer (n + 1) xs) ≡ Some y → P y) [
      | Some z ↦ λ is same. told 0 x y (omega arith) (ap (λ (k : ℕ). answer k x) (omega arith) ∙ is ∙ same)
      | None ↦ λ is rest. first_numbered-told P answer (n + 1) xs y (λ i d z less at. told (suc i) d z (omega arith) (ap (λ (k : ℕ). answer k (get_or xs i d)) (omega arith) ∙ at)) rest
    ] in
    step (answer n x) refl e

fill-told : (P : TreeFault → Type 0) (v k axis count : ℕ) (width : ℤ) (a b : Option V3) (f : TreeFault) → P (ReplicaSolid v k) → P (ReplicaFill v k) → fill_fault v k axis count width a b ≡ Some f → P f
fill-told P v k axis count width (Some a) (Some b) f solid fill e =
    let step : (c : Bool) → (if c then None else Some (ReplicaFill v k)) ≡ Some f → P f = λ c. elim c as (λ c. (if c then None else Some (ReplicaFill v k)) ≡ Some f → P f) [
      | true ↦ λ is. cc
      | false ↦ λ is. let same : ReplicaFill v k ≡ f = cc in subst P same fill
    ] in
    step (fills a b axis count width) e
fill-told P v k axis count width (Some a) None f solid fill e = let same : ReplicaSolid v k ≡ f = cc in subst P same solid
fill-told P v k axis count width None b f solid fill e = let same : ReplicaSolid v k ≡ f = cc in subst P same solid

placement-told : (P : TreeFault → Type 0) (volumes : List Volume) (v : ℕ) (mother : Volume) (k : ℕ) (p : Placement) (f : TreeFault) → P (ReplicaMixed v k) → P (ReplicaSolid v k) → P (ReplicaFill v k)
    → fault_of_placement volumes v mother k p ≡ Some f → P f
placement-told P volumes v mother k (Replica volume axis count width) f mixed solid fill e =
    let a = halves mother.solid in
    let b = halves (volume_at volumes volume).solid in
    let step : (c : Bool) → (if c then Some (ReplicaMixed v k) else fill_fault v k axis count width a b) ≡ Some f → P f = λ c. elim c as (λ c. (if c then Some (ReplicaMixed v k) else fill_fault v k axis count width a b) ≡ Some f → P f) [
      | true ↦ λ is. let same : ReplicaMixed v k ≡ f = cc in subst P same mixed
      | false ↦ λ is. fill-told P v k axis count width a b f solid fill is
    ] in
    step (nat_lt 1 (length mother.placements)) e
placement-told P volumes v mother k (Single volume copy rotation offset) f mixed solid fill e = cc
placement-told P volumes v mother k (Linear volume axis rotation count step offset) f mixed solid fill e = cc
placement-told P volumes v mother k (Square volume plane rotation n1 n2 s1 s2 o1 o2) f mixed solid fill e = cc

-- ---- the fault of the volumes that are made of lines
placements_at : (ps : List LinkedPlacement) (v : ℕ) (volumes : List LinkedVolume) (i : ℕ) (d : Volume) → i < length volumes → (get_or (volumes_from ps v volumes) i d).placements ≡ placements_in (v + i) ps
placements_at ps v [] i d less = absurd (omega arith)
placements_at ps v (volume ∷ volumes) zero d less = ap (λ (m : ℕ). placements_in m ps) (omega arith)
placements_at ps v (volume ∷ volumes) (suc i) d less = placements_at ps (v + 1) volumes i d (omega arith) ∙ ap (λ (m : ℕ). placements_in m ps) (omega arith)

pub fault-told : (ps : List LinkedPlacement) (volumes : List LinkedVolume) (f : TreeFault) → hierarchy_of (volumes_from ps 0 volumes) ≡ Err f → IsTold (length volumes) ps f
unfolding hierarchy_of replica_fault
fault-told ps volumes f e =
    let all = volumes_from ps 0 volumes in
    let n = length volumes in
    let P : TreeFault → Type 0 = IsTold n ps in
    let long : length all ≡ n = length-volumes_from ps 0 volumes in
    let below : (v : ℕ) → v < 0 + length all → v < n = λ v less. omega arith in
    let inside : (v : ℕ) → v < length all → v < n = λ v less. omega arith in
    let replicas : (v : ℕ) (d : Volume) (g : TreeFault) → v < length all → replica_fault_in all (0 + v) (get_or all v d) ≡ Some g → P g = λ v d g less is. let mother = get_or all v d in
    first_numbered-told P (fault_of_placement all (0 + v) mother) 0 mother.placements g (λ k q h within is. let counted : length mother.placements ≡ length (placed_in (0 + v) ps) = ap length (placements_at ps 0 volumes v d (inside v less)) ∙ length-map (placed_in (0 + v) ps) (λ (p : LinkedPlacement). p.placement) in
    let few : 0 + k < length (placed_in (0 + v) ps) = omega arith in
    placement-told P all (0 + v) mother (0 + k) (get_or mother.placements k q) h few few few is) is in
    fault_of_steps P (unless (option_map Cycle (find (is_in_itself all) (numbers all)))) _ f
    (unless-told P _ f (λ g is. found_below P Cycle (is_in_itself all) 0 (length all) g below is))
    (λ _ _. fault_of_steps P (only_world all) _ f
    (world-told P (length all) (filter (λ v. not (is_placed all v)) (numbers all)) f tt inside (All-filter (λ v. not (is_placed all v)) (λ v. v < length all) (numbers all) (numbers_below (length all))))
    (λ world _. fault_of_steps P (unless (option_map TooDeep (find (is_too_deep all world) (numbers all)))) _ f
    (unless-told P _ f (λ g is. found_below P TooDeep (is_too_deep all world) 0 (length all) g below is))
    (λ _ _. fault_of_steps P (unless (replica_fault all)) _ f
    (unless-told P _ f (λ g is. first_numbered-told P (replica_fault_in all) 0 all g replicas is))
    (λ _ _ wrong. cc))))
    e
