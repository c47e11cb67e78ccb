-- How a number is told from its digits. No public contract stands on this file.
use Rattle.std.specs.Prelude.{◌≡◌, ℕ, ◌+◌, ◌-◌, ◌*◌, ◌≤◌, ◌^◌, ◌==◌, ℤ, pos, neg_ℤ, min, Bool, not, ◌&&◌, true, false, nat_le, nat_lt, if◌then◌else◌, List, [], ◌∷◌, length, drop, Option, None, Some, Result, Err}
use Rattle.gx_expr.specs.declared.digits.Digits.{Digits}
use Rattle.gx_expr.specs.declared.exponent.Power.{Power}
use Rattle.gx_expr.specs.declared.exponent.TheConstants.{MAX_SIZE}
use Rattle.gx_expr.specs.declared.fault.ExprFault.{ExprFault}
use Rattle.gx_expr.specs.declared.fault.ExprFault.TheVariants.{TooWide}
use Rattle.gx_expr.specs.Eval.{zeros_after, front_of}
use Rattle.gx_expr.specs.Token.{value_of_digits, exponent_at, exponent_after, no_exponent, power_of, Part}
use Rattle.std.specs.Char.{is_ascii_digit}
use Rattle.gx_expr.specs.Quantity.{Quantity, ratio}
use Rattle.std.specs.List.{list_all}
use Rattle.std.specs.Option.{option_map}

-- what is kept of digits that begin with no zero
pub record IsDigitsOf (digits : List ℕ) (d : Digits) : Type 0 where
  pub zeros : d.zeros ≡ zeros_after digits
  pub count : d.count + d.zeros ≡ length digits
  pub none : d.count ≡ 0 → digits ≡ []
  pub value : d.count ≤ 18 → d.value ≡ value_of_digits (front_of digits)

-- n * 10^k and n / 10^k, for k up to 18
abbrev pub raised_to : ℕ → ℕ → Result Quantity ExprFault
raised_to n k = if nat_lt 18 k then Err TooWide else ratio (pos (n * 10 ^ k)) (pos 1) false false

abbrev pub lowered_to : ℕ → ℕ → Result Quantity ExprFault
lowered_to n k = if nat_lt 18 k then Err TooWide else ratio (pos n) (pos (10 ^ k)) false false

-- n * 10^(up - down)
abbrev pub placed : ℕ → ℕ → ℕ → Result Quantity ExprFault
placed n up down = if nat_le down up then raised_to n (up - down) else lowered_to n (down - up)

abbrev pub value_kept : Digits → ℕ → ℕ → Result Quantity ExprFault
value_kept d up down =
    if d.count == 0 then ratio (pos 0) (pos 1) false false
    else if nat_lt 18 d.count then Err TooWide
    else placed d.value (up + d.zeros) down

-- the mark of an exponent was passed, or there is no exponent
abbrev pub HasMark : List ℕ → List ℕ → Bool → Type 0
HasMark old new true = (new ≡ drop 1 old) × (exponent_at old ≡ exponent_after new)
HasMark old new false = exponent_at old ≡ no_exponent

-- an exponent, whose magnitude is held up to MAX_SIZE
pub record IsPower (part : Part ℤ) (power : Power) : Type 0 where
  pub magnitude : ℕ
  pub what : part.what ≡ power_of power.negative magnitude
  pub size : power.size ≡ min MAX_SIZE magnitude

-- the value of 1 to 9 digits
abbrev pub few_digits : List ℕ → Option ℕ
few_digits s = if not (length s == 0) && not (nat_lt 9 (length s)) && list_all is_ascii_digit s then Some (value_of_digits s) else None

-- the number that a word of 1 to 9 digits is, with or without `-` (45) before them
abbrev pub plain_number : List ℕ → Option ℤ
plain_number [] = None
plain_number (b ∷ s) = if b == 45 then option_map (λ n. neg_ℤ (pos n)) (few_digits s) else option_map pos (few_digits (b ∷ s))
