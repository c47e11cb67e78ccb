-- Binary digits.
use Rattle.std.specs.Prelude.{ℕ, zero, suc, ◌+◌, ◌/◌}

abbrev pub digits_up_to : ℕ → ℕ → ℕ
digits_up_to zero n = 0
digits_up_to (suc most) zero = 0
digits_up_to (suc most) (suc n) = 1 + digits_up_to most (suc n / 2)

-- how many binary digits a number has; 0 has none
unfoldable pub digits : ℕ → ℕ
digits n = digits_up_to n n
