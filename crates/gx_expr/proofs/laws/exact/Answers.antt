use Rattle.std.proofs.Common.{pos, ◌*ℤ◌, arith}
use Rattle.std.proofs.lemmas.Int.{ints}
use Rattle.gx_expr.proofs.Casts.{positive_times}
use Rattle.gx_expr.proofs.Quotient.{exact}
use Rattle.gx_expr.proofs.laws.exact.Goals as goal

pub returns : goal.returns
returns c = λ a b n h k. exact (a.num *ℤ pos b.den) (b.num *ℤ pos a.den) n (positive_times b.num (pos a.den) k (omega (arith, ints)))
