-- Points and half-spaces by their numbers.
use Rattle.std.specs.Prelude.{ℤ}
use Rattle.gx_num.specs.declared.vector.V3.{V3}
use Rattle.gx_num.specs.Space.{HalfSpace}

abbrev pub point : ℤ → ℤ → ℤ → V3
point x y z = record { x = x; y = y; z = z }

-- the points with x, y and z times the numbers at most e in sum
abbrev pub half_space : ℤ → ℤ → ℤ → ℤ → HalfSpace
half_space x y z e = record { n = point x y z; e = e }
