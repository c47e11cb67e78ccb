-- Marks on volumes, and the chains that lead to them.
use Rattle.std.proofs.Common.{◌≡◌, ◌↔◌, ℕ, zero, suc, ◌+◌, ◌<◌, inl, inr, refl, sym, ◌∙◌, ap, subst, arith, Bool, true, false, ◌||◌, nat_eq, List, [], ◌∷◌, length, set, true≢false, eq-eqb}
use Rattle.std.specs.List.{list_any}
use Rattle.std.proofs.lemmas.Bool.{cases_lt, cases_eq, ne_eqb, or_cases, or_left, or_right}
use Rattle.std.proofs.lemmas.List.{get_or-set_same, get_or-set_other}
use Rattle.gx_tree.specs.Volume.{Volume, daughter_of}
use Rattle.gx_tree.specs.Hierarchy.{volume_at, leads}
use Rattle.gx_tree.specs.Marks.{is_marked, IsLedBelow}

-- only volumes of the list are marked
pub marked-below : (marks : List Bool) (v : ℕ) → is_marked marks v ≡ true → v < length marks
marked-below [] v e = absurd (true≢false (sym e))
marked-below (m ∷ marks) zero e = omega arith
marked-below (m ∷ marks) (suc v) e = omega (arith, marked-below marks v e)

or-true : (b : Bool) → (b || true) ≡ true
or-true true = refl
or-true false = refl

or-false : (b : Bool) → (b || false) ≡ b
or-false true = refl
or-false false = refl

-- one more mark
pub is_marked-set : (marks : List Bool) (v w : ℕ) → v < length marks → is_marked (set marks v true) w ≡ (is_marked marks w || nat_eq v w)
is_marked-set marks v w h = elim (cases_eq w v) [
  | inl same ↦
      ap (λ (k : ℕ). is_marked (set marks v true) k) same
      ∙ get_or-set_same marks v true false h
      ∙ sym (ap (λ b. is_marked marks w || b) (eq-eqb v w (sym same)) ∙ or-true (is_marked marks w))
  | inr other ↦ get_or-set_other marks v w true false other ∙ sym (ap (λ b. is_marked marks w || b) (ne_eqb v w (λ e. other (sym e))) ∙ or-false (is_marked marks w))
]

-- what is seen of one more volume, where it is marked
pub led_more : (volumes : List Volume) (marks old now : List Bool) (i w : ℕ) → is_marked marks i ≡ true
    → is_marked now w ≡ (is_marked old w || list_any (λ p. nat_eq (daughter_of p) w) (volume_at volumes i).placements)
    → (is_marked old w ≡ true) ↔ IsLedBelow volumes marks i w
    → (is_marked now w ≡ true) ↔ IsLedBelow volumes marks (i + 1) w
unfolding leads
led_more volumes marks old now i w marked e so_far = (there, back)
  where
    seen : Bool
    seen = list_any (λ p. nat_eq (daughter_of p) w) (volume_at volumes i).placements

    there : is_marked now w ≡ true → IsLedBelow volumes marks (i + 1) w
    there h = elim (or_cases (is_marked old w) seen (sym e ∙ h)) [
      | inl before ↦ let led = so_far.0 before in record { from = led.from; below = omega (arith, led.below); marked = led.marked; leads = led.leads }
      | inr now ↦ record { from = i; below = omega arith; marked = marked; leads = now }
    ]

    back : IsLedBelow volumes marks (i + 1) w → is_marked now w ≡ true
    back led = elim (cases_lt led.from i) [
      | inl below ↦ e ∙ or_left (is_marked old w) seen (so_far.1 (record { from = led.from; below = below; marked = led.marked; leads = led.leads }))
      | inr above ↦
          let same : led.from ≡ i = omega (arith, led.below) in
          let leads : list_any (λ p. nat_eq (daughter_of p) w) (volume_at volumes i).placements ≡ true = subst (λ v. leads volumes 1 v w ≡ true) same led.leads in
          e ∙ or_right (is_marked old w) seen leads
    ]

-- where it isn't
pub led_past : (volumes : List Volume) (marks : List Bool) (i w : ℕ) {P : Type 0} → is_marked marks i ≡ false → P ↔ IsLedBelow volumes marks i w → P ↔ IsLedBelow volumes marks (i + 1) w
led_past volumes marks i w unmarked so_far = (
  λ h. let led = so_far.0 h in record { from = led.from; below = omega (arith, led.below); marked = led.marked; leads = led.leads },
  λ led. elim (cases_lt led.from i) [
    | inl below ↦ so_far.1 (record { from = led.from; below = below; marked = led.marked; leads = led.leads })
    | inr above ↦
        let same : led.from ≡ i = omega (arith, led.below) in
        absurd (true≢false (sym led.marked ∙ ap (is_marked marks) same ∙ unmarked))
  ],
)
