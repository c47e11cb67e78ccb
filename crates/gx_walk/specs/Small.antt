-- What is met where daughters are looked up, for the tests' geometry. No public contract stands on this file.
use Rattle.std.proofs.Common.{◌≡◌, ℕ, zero, suc, ◌<◌, inl, inr, arith, [], ◌∷◌, Option, None, Some, refl, sym, ap, ◌∙◌}
use Rattle.std.specs.Option.{option_map}
use Rattle.gx_num.specs.declared.ray.Ray.{Ray}
use Rattle.gx_clip.specs.declared.span.Span.{Span}
use Rattle.gx_offers.specs.Offers.{Offered, IsOneOf, with_number}
use Rattle.gx_walk.specs.declared.met.Met.{Met}

pub meets : {X : Type 0} (found : Option X) (volume : X → ℕ) (span : X → Span) (ray : Ray) (k : ℕ) (met : Met)
    → option_map (λ x. record { ordinal = k; span = span x; frame = record { volume = volume x; ray = ray } }) found ≡ Some met
    → (met.ordinal ≡ k) × (option_map volume found ≡ Some met.frame.volume)
meets None volume span ray k met e = absurd (cc)
meets {X} (Some x) volume span ray k met e =
    let made : Met = record { ordinal = k; span = span x; frame = record { volume = volume x; ray = ray } } in
    let same : made ≡ met = cc in
    (sym (ap (λ (m : Met). m.ordinal) same), ap (λ (m : Met). Some m.frame.volume) same)

-- three numbers come, where there was none
pub three : (a b c d : Offered) → a.numbers ≡ [] → b ≡ with_number a 0 → c ≡ with_number b 1 → d ≡ with_number c 2 → (b.room ≡ a.room) × (c.room ≡ a.room) × (d ≡ record { numbers = 0 ∷ 1 ∷ 2 ∷ []; room = a.room })
unfolding with_number
three a b c d none e f g =
    let empty : a ≡ record { numbers = []; room = a.room } = λ i. record { numbers = none i; room = a.room } in
    let one : b ≡ record { numbers = 0 ∷ []; room = a.room } = e ∙ ap (λ o. with_number o 0) empty in
    let two : c ≡ record { numbers = 0 ∷ 1 ∷ []; room = a.room } = f ∙ ap (λ o. with_number o 1) one in
    (ap (λ (o : Offered). o.room) one, ap (λ (o : Offered). o.room) two, g ∙ ap (λ o. with_number o 2) two)

pub one_of_three : (k : ℕ) → k < 3 → IsOneOf k (0 ∷ 1 ∷ 2 ∷ [])
one_of_three zero h = inl refl
one_of_three (suc zero) h = inr (inl refl)
one_of_three (suc (suc zero)) h = inr (inr (inl refl))
one_of_three (suc (suc (suc k))) h = absurd (omega (arith, h))
