-- The verdicts of a daughter and of a pair, by what is found of them.
use Rattle.std.proofs.Common.{◌≡◌, ℕ, true, false, true≢false, List, [], ◌∷◌, find, get_or, Option, Some, None, refl, sym, ap, ◌∙◌}
use Rattle.std.specs.Prelude.{unwrap_or}
use Rattle.std.specs.Option.{is_some, is_none}
use Rattle.gx_num.specs.declared.vector.V3.{V3}
use Rattle.gx_num.specs.Space.{HalfSpace}
use Rattle.gx_num.specs.Vector4.{Vec4}
use Rattle.gx_contain.specs.Outside.{first_outside}
use Rattle.gx_separate.specs.Between.{first_between}
use Rattle.gx_common.specs.Common.{common_of}
use Rattle.gx_check.specs.declared.selection.Selection.TheVariants as selection
use Rattle.gx_check.specs.declared.verdict.Verdict.{Verdict}
use Rattle.gx_check.specs.declared.verdict.Verdict.TheVariants.{Apart, Overlap}
use Rattle.gx_check.specs.Kept.{AreParted}
use Rattle.gx_check.specs.Verdicts.{contained, parted, daughter_verdict, pair_verdict, chosen, counts_of, refutes}

no_plane : (o : Option HalfSpace) → is_some o ≡ false → o ≡ None
no_plane None e = refl
no_plane (Some plane) e = absurd (true≢false e)

some_plane : (o : Option HalfSpace) → is_some o ≡ true → (plane : HalfSpace) × (o ≡ Some plane)
some_plane (Some plane) e = (plane, refl)
some_plane None e = absurd (true≢false (sym e))

pub daughter_is : (v k : ℕ) (outer inner : List V3) (ds : List (List V3)) (o : Option V3) → inner ≡ get_or ds k [] → o ≡ first_outside outer inner → daughter_verdict v outer ds k ≡ contained v k o
unfolding daughter_verdict
daughter_is v k outer inner ds o at found = (λ t. contained v k (first_outside outer (sym at t))) ∙ ap (contained v k) (sym found)

module _ (v : ℕ) (ds : List (List V3)) (i j : ℕ) where
  module _ (a b : List V3) (first : a ≡ get_or ds i []) (second : b ≡ get_or ds j []) where
    by_planes : pair_verdict v ds i j ≡ parted v i j (first_between a b) (unwrap_or (common_of a b) [])
    unfolding pair_verdict
    by_planes = λ t. parted v i j (first_between (sym first t) (sym second t)) (unwrap_or (common_of (sym first t) (sym second t)) [])

    pub overlap_is : (points : List Vec4) → Some points ≡ common_of a b → is_none (Some points) ≡ is_some (first_between a b) → pair_verdict v ds i j ≡ Overlap v i j points
    overlap_is points found apart =
        let none = no_plane (first_between a b) (sym apart) in
        by_planes ∙ (λ t. parted v i j (none t) (unwrap_or (sym found t) []))

    pub apart_is : (plane : HalfSpace) → first_between a b ≡ Some plane → pair_verdict v ds i j ≡ Apart v i j plane
    apart_is plane e = by_planes ∙ ap (λ o. parted v i j o (unwrap_or (common_of a b) [])) e

    pub parted_from : is_some (first_between a b) ≡ true → AreParted ds i j
    unfolding AreParted
    parted_from e =
        let found = some_plane (first_between a b) e in
        (found.0, (λ t. first_between (sym first t) (sym second t)) ∙ found.1)

  -- ---- a plane is between the two
  parted_verdict : AreParted ds i j → (plane : HalfSpace) × (pair_verdict v ds i j ≡ Apart v i j plane)
  unfolding AreParted
  parted_verdict (plane, e) = (plane, apart_is (get_or ds i []) (get_or ds j []) refl refl plane e)

  pub parted_given : AreParted ds i j → chosen selection.Refuting (pair_verdict v ds i j ∷ []) ≡ []
  parted_given p = ap (λ (x : Verdict). chosen selection.Refuting (x ∷ [])) (parted_verdict p).1

  pub parted_counted : AreParted ds i j → counts_of (pair_verdict v ds i j ∷ []) ≡ record { daughters = 0; pairs = 1; refuted = 0 }
  parted_counted p = ap (λ (x : Verdict). counts_of (x ∷ [])) (parted_verdict p).1

  pub parted_found : AreParted ds i j → find refutes (pair_verdict v ds i j ∷ []) ≡ None
  parted_found p = ap (λ (x : Verdict). find refutes (x ∷ [])) (parted_verdict p).1
